-- What a reader answers, by what is next.
use Rattle.std.proofs.Common.{◌≡◌, ℕ, List, length, Option, Some, None, Result, Ok, Err, subst, ◌⊎◌}
use Rattle.ath_syntax.specs.declared.directive.Directive.{Directive}
use Rattle.ath_syntax.specs.Nodes as syntax
use Rattle.ath_syntax.specs.Stands.{IsDirective}
use Rattle.ath_syntax.specs.Tree.{DirectiveTree}
use Rattle.ath_reader.specs.declared.reader.SyntaxError.{SyntaxError}
use Rattle.ath_reader.specs.Reading.{reached, refused, Reading}
use Rattle.ath_reader.specs.Answering.{Finds, Wants, Answers}
use Rattle.ath_reader.specs.Next.{whole, ended, stopped, Spelled, IsNext}

-- What a reader answers from a byte on, by what is next there: it is what `Answers` says.
abbrev AnswersNext
    : Reading → ℕ → List (List ℕ) → syntax.Nodes → Result (Option Directive) SyntaxError → Reading → List (List ℕ) → syntax.Nodes → Type 0
AnswersNext r from names s (Ok None) new names' s' =
    IsNext r names from ended
    × (new ≡ record r { progress = reached (length r.text) })
    × (names' ≡ names)
    × (s' ≡ s)
AnswersNext r from names s (Ok (Some d)) new names' s' =
    (t : DirectiveTree) × (to : ℕ)
    × IsDirective s' d t
    × IsNext r names from (whole t to names')
    × syntax.KeepsNodes s s'
    × (new ≡ record r { progress = reached to })
AnswersNext r from names s (Err e) new names' s' =
    (Wants e names names' s s' ⊎ (IsNext r names from (stopped e names') × (s' ≡ s)))
    × (new ≡ record r { progress = refused e })

-- what is found is spelled
pub spelled_of_found : (r : Reading) (names : List (List ℕ)) (from : ℕ) (s : syntax.Nodes) (d : Directive) (to : ℕ) (names' : List (List ℕ)) → (f : Finds r names from s d to names') → Spelled r names from f.tree to names'
spelled_of_found r names from s d to names' f = record { front = f.front; whole = f.whole; end = f.end; after = f.after }

module _ (r : Reading) (from : ℕ) (names : List (List ℕ)) (s : syntax.Nodes) (new : Reading) (names' : List (List ℕ)) (s' : syntax.Nodes) where
  pub next_of_answer : (result : Result (Option Directive) SyntaxError) → Answers r (reached from) names s result new names' s' → AnswersNext r from names s result new names' s'
  next_of_answer (Ok None) h = h
  next_of_answer (Ok (Some d)) (to, found, grow, is) = (found.tree, to, found.stands, spelled_of_found r names from s' d to names' found, grow, is)
  next_of_answer (Err e) h = h

  -- the same for each answer
  module _ (result : Result (Option Directive) SyntaxError) (h : Answers r (reached from) names s result new names' s') where
    pub none_of_answer : result ≡ Ok None → IsNext r names from ended × (new ≡ record r { progress = reached (length r.text) }) × (names' ≡ names) × (s' ≡ s)
    none_of_answer e = subst (λ (o : Result (Option Directive) SyntaxError). AnswersNext r from names s o new names' s') e (next_of_answer result h)

    pub whole_of_answer : (d : Directive) → result ≡ Ok (Some d) → (t : DirectiveTree) × (to : ℕ) × IsDirective s' d t × IsNext r names from (whole t to names') × syntax.KeepsNodes s s' × (new ≡ record r { progress = reached to })
    whole_of_answer d e = subst (λ (o : Result (Option Directive) SyntaxError). AnswersNext r from names s o new names' s') e (next_of_answer result h)

    pub stopped_of_answer : (x : SyntaxError) → result ≡ Err x → (Wants x names names' s s' ⊎ (IsNext r names from (stopped x names') × (s' ≡ s))) × (new ≡ record r { progress = refused x })
    stopped_of_answer x e = subst (λ (o : Result (Option Directive) SyntaxError). AnswersNext r from names s o new names' s') e (next_of_answer result h)
