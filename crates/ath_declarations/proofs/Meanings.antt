-- What a sort text means, test by test.
use Rattle.std.proofs.Common.{◌≡◌, true, false, ◌∷◌, [], Option, Some, None, option_map, Result, Ok, Err, cond, sym, ◌∙◌, ap}
use Rattle.ath_sorts.specs.declared.signature.Flaw.{Flaw}
use Rattle.ath_sorts.specs.declared.signature.SigError.{SigError}
use Rattle.ath_sorts.specs.declared.signature.Flaw.TheVariants as flaw
use Rattle.ath_sorts.specs.declared.signature.SigError.TheVariants.{Redeclared, TooWide, UnknownSort, Arity, SortTooLarge, LooseParam, Memory}
use Rattle.ath_sorts.specs.declared.sorts.Sort.{Sort}
use Rattle.ath_sorts.specs.Declaring.{error_of, first_fault}
use Rattle.ath_sorts.specs.Sorts.{is_small}
use Rattle.ath_sorts.specs.Signature.{Signature}
use Rattle.ath_syntax.specs.declared.node.SortText.{SortText}
use Rattle.ath_declarations.specs.Outcomes.{MatchOutcome}
use Rattle.ath_declarations.specs.Steps.{place_fault}
use Rattle.ath_declarations.specs.Texts.{sort_of, unless, text_fault, meaning}
use Rattle.ath_declarations.proofs.Places.{all_allowed}

-- the answer of an error is that error
pub err_matches : {A : Type 0} (outcome : Result A SigError) (e : SigError) → outcome ≡ Err e → MatchOutcome outcome (Err e)
err_matches outcome (Redeclared n) h = h
err_matches outcome (TooWide n) h = h
err_matches outcome (UnknownSort n) h = h
err_matches outcome (Arity n) h = h
err_matches outcome SortTooLarge h = h
err_matches outcome (LooseParam n) h = h
err_matches outcome Memory h = tt

module _ (sig : Signature) (t : SortText) (s : Sort) (spells : s ≡ sort_of t) where
  abbrev given : Option Flaw → Result Sort SigError
  given f = unless (option_map error_of (first_fault (f ∷ cond (is_small s) None (Some flaw.SortTooLarge) ∷ []))) (Ok s)

  meaning_is : meaning sig t ≡ given (place_fault sig s)
  meaning_is = ap (λ s. unless (option_map error_of (text_fault sig s)) (Ok s)) (sym spells) ∙ ap given (sym (all_allowed sig s))

  pub misplaced : (f : Flaw) (e : SigError) → place_fault sig s ≡ Some f → e ≡ error_of f → MatchOutcome (meaning sig t) (Err e)
  misplaced f e h same = err_matches (meaning sig t) e (meaning_is ∙ ap given h ∙ ap (λ (x : SigError). Err x) (sym same))

  pub too_large : place_fault sig s ≡ None → is_small s ≡ false → meaning sig t ≡ Err SortTooLarge
  too_large h l = meaning_is ∙ ap given h ∙ ap (λ b. unless (option_map error_of (first_fault (cond b None (Some flaw.SortTooLarge) ∷ []))) (Ok s)) l

  pub meant : place_fault sig s ≡ None → is_small s ≡ true → meaning sig t ≡ Ok s
  meant h l = meaning_is ∙ ap given h ∙ ap (λ b. unless (option_map error_of (first_fault (cond b None (Some flaw.SortTooLarge) ∷ []))) (Ok s)) l
