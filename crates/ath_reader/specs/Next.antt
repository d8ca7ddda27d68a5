-- What is next in a text: one directive, none, or one refusal.
use Rattle.std.specs.Prelude.{◌≡◌, ℕ, List}
use Rattle.ath_syntax.specs.Tree.{DirectiveTree}
use Rattle.ath_reader.specs.declared.reader.SyntaxError.{SyntaxError}
use Rattle.ath_reader.specs.Ahead.{the_end, ahead, names_past}
use Rattle.ath_reader.specs.Reading.{Progress, reached, refused, Reading, Front, IsWhole, Refuses}

pub data Upcoming : Type 0 where
  -- a directive, the byte behind its tokens, and the names after it
  whole : DirectiveTree → ℕ → List (List ℕ) → Upcoming
  -- the end of the text
  ended : Upcoming
  -- a refusal, and the names after it
  stopped : SyntaxError → List (List ℕ) → Upcoming

-- from a byte on comes this directive, which ends before another byte, and these are the names after it: those of its tokens,
-- and that of the token behind it
pub record Spelled (r : Reading) (names : List (List ℕ)) (from : ℕ) (d : DirectiveTree) (to : ℕ) (names' : List (List ℕ)) : Type 0 where
  pub front : Front r names from
  pub whole : IsWhole front.tokens front.next d
  pub end : front.to ≡ to
  pub after : names' ≡ names_past front.next front.known

-- this is next from a byte on, where these names are known
abbrev pub IsNext : Reading → List (List ℕ) → ℕ → Upcoming → Type 0
IsNext r names from (whole d to names') = Spelled r names from d to names'
IsNext r names from ended = ahead r.file r.text names from ≡ the_end
IsNext r names from (stopped e names') = Refuses r names from e names'

-- the byte that is reached, where there is no refusal
abbrev pub byte_reached : Progress → ℕ
byte_reached (reached byte) = byte
byte_reached (refused e) = 0
