-- What a reader has come to, as its contracts see it.
use Rattle.std.proofs.Common.{◌≡◌, ℕ, List, Option, Some, None, Ok, refl, ap}
use Rattle.ath_syntax.specs.declared.directive.Directive.{Directive}
use Rattle.ath_syntax.specs.Nodes as syntax
use Rattle.ath_tokens.specs.Cutting.{Cutting}
use Rattle.ath_reader.specs.declared.reader.SyntaxError.{SyntaxError}
use Rattle.ath_reader.specs.Reading.{Reading}
use Rattle.ath_reader.specs.Answering.{progress_of, Answers}
use Rattle.ath_reader.specs.Steps.{NumbersTree}

abbrev pub read_view : Cutting → Option SyntaxError → Reading
read_view c refused = record { text = c.text; file = c.file; progress = progress_of refused c.at }

pub none_of : {A : Type 0} (o : Option A) → ((x : A) → o ≡ Some x → ⊥) → o ≡ None
none_of None h = refl
none_of (Some x) h = absurd (h x refl)

pub reader_ok : (c : Cutting) (refused : Option SyntaxError) (names : List (List ℕ)) (s : syntax.Nodes) (found : Option Directive) (new : Cutting) (names' : List (List ℕ)) (s' : syntax.Nodes) → refused ≡ None → NumbersTree c names s (Ok found) new names' s'
    → Answers (read_view c refused) (progress_of refused c.at) names s (Ok found) (read_view new refused) names' s'
reader_ok c None names s None new names' s' e (a, k, p, n) = (a, ap (λ (d : Cutting). read_view d None) n, k, p)
reader_ok c None names s (Some d) new names' s' e (to, f, g, n) = (to, f, g, ap (λ (d : Cutting). read_view d None) n)
reader_ok c (Some r) names s found new names' s' e h = cc
