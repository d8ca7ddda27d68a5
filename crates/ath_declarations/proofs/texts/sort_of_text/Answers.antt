use Rattle.std.proofs.Common.{◌≡◌, ◌∙◌, Err, refl, sym, subst, rules}
use Rattle.ath_sorts.specs.Declaring.{error_of}
use Rattle.ath_declarations.specs.Outcomes.{MatchOutcome}
use Rattle.ath_declarations.specs.Texts.{meaning}
use Rattle.ath_declarations.proofs.Meanings.{misplaced, too_large, meant}
use Rattle.ath_declarations.proofs.texts.sort_of_text.Goals as goal

pub returns-in_err-check_constructors : goal.returns-in_err-check_constructors
returns-in_err-check_constructors c =
    let f = c.in_err-check_constructors.field-0.0 in
    let r : c.from_residual-in_err-check_constructors.result ≡ Err (error_of f) = search rules in
    subst (MatchOutcome (meaning c.args.sig.now c.args.text.now)) (sym r) (misplaced c.args.sig.now c.args.text.now c.in_ok-sort.sort c.in_ok-sort.ensures f (error_of f) c.in_err-check_constructors.ensures refl)

pub returns-then-not-is_within_limits : goal.returns-then-not-is_within_limits
returns-then-not-is_within_limits c = too_large c.args.sig.now c.args.text.now c.in_ok-sort.sort c.in_ok-sort.ensures c.in_ok-check_constructors.ensures (sym c.is_within_limits.ensures ∙ c.if-not-is_within_limits.true)

pub returns : goal.returns
returns c = meant c.args.sig.now c.args.text.now c.in_ok-sort.sort c.in_ok-sort.ensures c.in_ok-check_constructors.ensures (sym c.is_within_limits.ensures ∙ c.if-not-is_within_limits.false)
