-- Why a line `Theorem: p` may be believed: the lines are those of events of which each theorem has a derivation.
use Rattle.std.specs.Prelude.{◌≡◌, ◌↔◌, ℕ, Bool, true, false, ◌==◌, List, [], ◌∷◌, ◌++◌, map, take, codes, Option, Some}
use Rattle.std.specs.List.{list_any, concat, IsDistinct, AllByRecursion}
use Rattle.std.specs.Str.{bytes_eq}
use Rattle.ath_names.specs.Names.{KeepsNames}
use Rattle.ath_io.specs.Shelf.{Texts}
use Rattle.ath_io.specs.Sink.{Held}
use Rattle.ath_print.specs.Events.{is_theorem}
use Rattle.ath_session.specs.declared.status.Status.{Status}
use Rattle.ath_session.specs.declared.status.Status.TheVariants.{Clean, Errors, Fuel}
use Rattle.ath_session.specs.Said.{Said, line_said}
use Rattle.ath_session.specs.Theorems.{AreJustified}

abbrev pub has_line_end : List ℕ → Bool
has_line_end text = list_any (λ b. b == 10) text

-- the line has one LF, at its end, and begins with `Theorem: ` exactly where its event is a theorem
pub record IsLine (s : Said) : Type 0 where
  pub text : List ℕ
  pub ends : line_said s ≡ text ++ 10 ∷ []
  pub one_end : has_line_end text ≡ false
  pub theorem : (take 9 (line_said s) ≡ codes "Theorem: ") ↔ (is_theorem s.event ≡ true)

-- a name stands for one symbol throughout: each table of names is a front of the next, and no text stands twice in one
abbrev pub AreNamed : List (List ℕ) → List Said → Type 0
AreNamed names [] = Unit {0}
AreNamed names (s ∷ ss) = KeepsNames names s.names × IsDistinct bytes_eq s.names × AreNamed s.names ss

-- what is said may be believed: its theorems have derivations, its names are clear, and its lines are lines
pub record AreBelieved (ss : List Said) : Type 0 where
  pub justified : AreJustified [] ss
  pub named : AreNamed [] ss
  pub lines : AllByRecursion IsLine ss

-- what is written of some bytes where a run ends: all of them, or a front where a fault ended it
abbrev pub IsWritten : Status → List ℕ → List ℕ → Type 0
IsWritten Clean written bytes = written ≡ bytes
IsWritten Errors written bytes = written ≡ bytes
IsWritten Fuel written bytes = written ≡ bytes
IsWritten _ written bytes = (rest : List ℕ) × (bytes ≡ written ++ rest)

-- what a sink holds after a run is what it held before, and then the lines of what may be believed
pub record WritesBelieved (status : Status) (before : Held) (after : Option Held) : Type 0 where
  pub said : List Said
  pub believed : AreBelieved said
  pub written : List ℕ
  pub front : IsWritten status written (concat (map line_said said))
  pub now : Held
  pub told : after ≡ Some now
  pub held : now.bytes ≡ before.bytes ++ written

-- where the shelf tells its texts, and the sink what it holds
abbrev pub BelievedTold : Status → Option Texts → Option Held → Option Held → Type 0
BelievedTold status shelf before after = (t : Texts) (h : Held) → shelf ≡ Some t → before ≡ Some h → WritesBelieved status h after
