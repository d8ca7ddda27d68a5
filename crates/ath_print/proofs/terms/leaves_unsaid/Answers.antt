use Rattle.std.proofs.Common.{◌∙◌, sym, ap}
use Rattle.std.specs.List.{list_any}
use Rattle.std.specs.Option.{option_copied}
use Rattle.ath_print.specs.Prefix.{is_unsaid}
use Rattle.ath_print.proofs.PrefixLaws.{unsaid_at, unsaid_of}
use Rattle.ath_print.proofs.Searches.{any_hit, any_miss}
use Rattle.ath_print.proofs.terms.leaves_unsaid.Goals as goal

pub returns-then-is_unsaid : goal.returns-then-is_unsaid
returns-then-is_unsaid c =
    any_hit (is_unsaid c.in-Some.symbol.now.args) c.as_slice-param-items.result.now c.loop-param.param-index (record { 0 = 0 }) c.loop-param-test.true c.loop-param.invariant (unsaid_at c.is_unsaid.result c.as_slice.result.now c.in-Some.symbol.now.args _ c.is_unsaid.ensures c.as_slice.ensures ∙ c.if-is_unsaid.true)
    ∙ ap (list_any (is_unsaid c.in-Some.symbol.now.args)) c.as_slice-param-items.ensures
    ∙ unsaid_of _ c.in-Some.symbol.now (sym c.symbol.ensures ∙ ap option_copied c.in-Some.is)

pub loop-param-preserved : goal.loop-param-preserved
loop-param-preserved c = any_miss (is_unsaid c.in-Some.symbol.now.args) c.as_slice-param-items.result.now c.loop-param.param-index (record { 0 = 0 }) c.loop-param-test.true c.loop-param.invariant (unsaid_at c.is_unsaid.result c.as_slice.result.now c.in-Some.symbol.now.args _ c.is_unsaid.ensures c.as_slice.ensures ∙ c.if-is_unsaid.false)
