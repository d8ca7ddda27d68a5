-- What a reader answers.
use Rattle.std.specs.Prelude.{◌≡◌, ℕ, List, length, Option, Some, None, Result, Ok, Err, ◌⊎◌}
use Rattle.ath_syntax.specs.declared.directive.Directive.{Directive}
use Rattle.ath_syntax.specs.Nodes as syntax
use Rattle.ath_syntax.specs.Stands.{IsDirective}
use Rattle.ath_syntax.specs.Tree.{DirectiveTree}
use Rattle.ath_names.specs.Names as table
use Rattle.ath_reader.specs.declared.reader.SyntaxError.{SyntaxError}
use Rattle.ath_reader.specs.declared.reader.SyntaxKind.TheVariants.{Memory}
use Rattle.ath_reader.specs.Ahead.{the_end, ahead, names_past}
use Rattle.ath_reader.specs.Reading.{Progress, reached, refused, Reading, Front, IsWhole, Refuses}

-- the byte, where there is no refusal
abbrev pub progress_of : Option SyntaxError → ℕ → Progress
progress_of None byte = reached byte
progress_of (Some e) byte = refused e

-- the next directive, and the names after it: those of its tokens, and that of the token behind it
pub record Finds (r : Reading) (names : List (List ℕ)) (from : ℕ) (s : syntax.Nodes) (d : Directive) (to : ℕ) (names' : List (List ℕ)) : Type 0 where
  pub front : Front r names from
  pub tree : DirectiveTree
  pub whole : IsWhole front.tokens front.next tree
  pub stands : IsDirective s d tree
  pub end : front.to ≡ to
  pub after : names' ≡ names_past front.next front.known

-- want of memory leaves names and phrases that are there as they were
pub record Wants (e : SyntaxError) (names names' : List (List ℕ)) (s s' : syntax.Nodes) : Type 0 where
  pub kind : e.kind ≡ Memory
  pub names_kept : table.KeepsNames names names'
  pub phrases_kept : syntax.KeepsNodes s s'

-- What a reader answers from its progress, what it has come to then, and the names and phrases after it. A refusal is
-- given again, and leaves the phrases as they were.
abbrev pub Answers
    : Reading → Progress → List (List ℕ) → syntax.Nodes → Result (Option Directive) SyntaxError → Reading → List (List ℕ) → syntax.Nodes → Type 0
Answers r (refused e) names s result new names' s' =
    (result ≡ Err e) × (new ≡ r) × (names' ≡ names) × (s' ≡ s)
Answers r (reached from) names s (Ok None) new names' s' =
    (ahead r.file r.text names from ≡ the_end)
    × (new ≡ record r { progress = reached (length r.text) })
    × (names' ≡ names)
    × (s' ≡ s)
Answers r (reached from) names s (Ok (Some d)) new names' s' =
    (to : ℕ) × Finds r names from s' d to names' × syntax.KeepsNodes s s' × (new ≡ record r { progress = reached to })
Answers r (reached from) names s (Err e) new names' s' =
    (Wants e names names' s s' ⊎ (Refuses r names from e names' × (s' ≡ s)))
    × (new ≡ record r { progress = refused e })
