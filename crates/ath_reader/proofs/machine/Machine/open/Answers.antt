use Rattle.std.proofs.Common.{◌≡◌, true, IfOk, sym, ap, subst}
use Rattle.ath_grammar.specs.Grammar.{grammar}
use Rattle.ath_grammar.specs.Machine.{opens, tokens_of}
use Rattle.ath_grammar.specs.Rows.{row_of}
use Rattle.ath_grammar.specs.Tables.{Row, Start, start, by_token}
use Rattle.ath_grammar.specs.Tokens.{next_class}
use Rattle.ath_grammar.specs.Trees.{trees}
use Rattle.ath_builder.specs.Values.{held}
use Rattle.ath_reader.specs.Runs.{left, seen_of, shown, fitting}
use Rattle.ath_reader.proofs.Machines.{begins_true}
use Rattle.ath_reader.proofs.machine.Machine.open.Goals as goal

pub returns-in-BeginAs-clause-gives : goal.returns-in-BeginAs-clause-gives
returns-in-BeginAs-clause-gives c =
    let seen = seen_of c.args.seen.now in
    let vs = held c.args.self.now.values in
    let class = next_class (tokens_of seen) in
    let b = c.in-BeginAs in
    subst (λ (r : Row). IfOk c.begin.result (λ s. shown s c.begin.new.self ≡ opens trees seen (left c.args.self.now) vs (start grammar class (trees.kind vs) c.args.want r))) (sym (ap row_of b.is))
    (subst (λ (s₀ : Start). IfOk c.begin.result (λ s. shown s c.begin.new.self ≡ opens trees seen (left c.args.self.now) vs s₀)) (begins_true grammar class (trees.kind vs) c.args.want b.field-0 b.field-1 b.field-2 b.field-3.now)
    (subst (λ (r : Row). IfOk c.begin.result (λ s. shown s c.begin.new.self ≡ opens trees seen (left c.args.self.now) vs (fitting true (by_token 2 grammar class (trees.kind vs) c.args.want r)))) (ap row_of b.is) c.begin.ensures.gives))
