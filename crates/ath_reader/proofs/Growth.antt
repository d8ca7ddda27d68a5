-- What an answer keeps of the names and the phrases.
use Rattle.std.proofs.Common.{◌≡◌, ℕ, List, Option, Some, None, Result, Ok, Err, ◌⊎◌, inl, inr, sym, subst}
use Rattle.ath_syntax.specs.declared.directive.Directive.{Directive}
use Rattle.ath_syntax.specs.Nodes as syntax
use Rattle.ath_syntax.proofs.Growth.{KeepsNodes-refl as syntax_same}
use Rattle.ath_names.specs.Names.{KeepsNames}
use Rattle.ath_names.proofs.NamesLaws.{KeepsNames-refl}
use Rattle.ath_tokens.specs.Cutting.{Cutting}
use Rattle.ath_reader.specs.declared.reader.SyntaxError.{SyntaxError}
use Rattle.ath_reader.specs.Ahead.{names_past}
use Rattle.ath_reader.specs.Reading.{Reading, Front, Refuses}
use Rattle.ath_reader.specs.Answering.{Wants}
use Rattle.ath_reader.specs.Steps.{reading_of, NumbersTree}
use Rattle.ath_reader.proofs.KnownTokens.{past_grows}

names_same : (names names' : List (List ℕ)) → names' ≡ names → KeepsNames names names'
names_same names names' e = subst (KeepsNames names) (sym e) (KeepsNames-refl names)

phrases_same : (s s' : syntax.Nodes) → s' ≡ s → syntax.KeepsNodes s s'
phrases_same s s' e = subst (syntax.KeepsNodes s) (sym e) (syntax_same s)

-- the names of the tokens that are read, and of what comes next
pub front_grows : (r : Reading) (names : List (List ℕ)) (from : ℕ) (names' : List (List ℕ)) (f : Front r names from) → names' ≡ names_past f.next f.known → KeepsNames names names'
front_grows r names from names' f e = subst (KeepsNames names) (sym e) (past_grows r.file r.text names from f.tokens f.known f.to f.next f.read f.comes)

module _ (old : Cutting) (names : List (List ℕ)) (s : syntax.Nodes) (new : Cutting) (names' : List (List ℕ)) (s' : syntax.Nodes) where
  pub numbers_names : (result : Result (Option Directive) SyntaxError) → NumbersTree old names s result new names' s' → KeepsNames names names'
  numbers_names (Ok None) h = names_same names names' h.1
  numbers_names (Ok (Some d)) h = front_grows (reading_of old) names old.at names' h.1.front h.1.after
  numbers_names (Err e) h = by h.2
    where
      by : Wants e names names' s s' ⊎ (Refuses (reading_of old) names old.at e names' × (s' ≡ s)) → KeepsNames names names'
      by (inl w) = w.names_kept
      by (inr r) = front_grows (reading_of old) names old.at names' r.0.front r.0.after

  pub numbers_phrases : (result : Result (Option Directive) SyntaxError) → NumbersTree old names s result new names' s' → syntax.KeepsNodes s s'
  numbers_phrases (Ok None) h = phrases_same s s' h.2
  numbers_phrases (Ok (Some d)) h = h.2
  numbers_phrases (Err e) h = by h.2
    where
      by : Wants e names names' s s' ⊎ (Refuses (reading_of old) names old.at e names' × (s' ≡ s)) → syntax.KeepsNodes s s'
      by (inl w) = w.phrases_kept
      by (inr r) = phrases_same s s' r.1
