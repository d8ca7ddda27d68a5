-- What a reader has come to, fronts of directives, and refusals with their causes.
use Rattle.std.specs.Prelude.{◌≡◌, ℕ, ◌<◌, ◌≤◌, List, [], ◌∷◌, ◌++◌, length, take, true, false}
use Rattle.ath_syntax.specs.declared.place.Pos.{Pos}
use Rattle.ath_syntax.specs.Tree.{DirectiveTree}
use Rattle.ath_grammar.specs.Tokens.{Placed, at}
use Rattle.ath_grammar.specs.Directives.{SpellsDirective, Begins}
use Rattle.ath_grammar.specs.Levels.{depth}
use Rattle.ath_tokens.specs.Cut.{place_of}
use Rattle.ath_reader.specs.declared.limits.TheConstants.{MOST_LEVELS}
use Rattle.ath_reader.specs.declared.reader.SyntaxError.{SyntaxError}
use Rattle.ath_reader.specs.declared.reader.SyntaxKind.{SyntaxKind}
use Rattle.ath_reader.specs.declared.reader.SyntaxKind.TheVariants.{Lex, Unexpected, Unclosed, KindMix, TooDeep}
use Rattle.ath_reader.specs.Ahead.{Ahead, a_token, the_end, a_fault, ahead, Reads, Follows, names_past}

-- the byte from which the next directive is looked for, or the refusal that is given from then on
pub data Progress : Type 0 where
  reached : ℕ → Progress
  refused : SyntaxError → Progress

-- a text and the number of its file, and how far it is read
pub record Reading : Type 0 where
  pub text : List ℕ
  pub file : ℕ
  pub progress : Progress

-- never are more levels open than may be, behind each front of them
abbrev pub Shallow : List Placed → Type 0
Shallow ts = (n : ℕ) → depth (take n ts) ≤ MOST_LEVELS

-- some of the next tokens of a text, which begin a directive, and what comes next behind them
pub record Front (r : Reading) (names : List (List ℕ)) (from : ℕ) : Type 0 where
  pub tokens : List Placed
  pub known : List (List ℕ)
  pub to : ℕ
  pub read : Reads r.file r.text names from tokens known to
  pub begins : Begins true tokens
  pub shallow : Shallow tokens
  pub next : Ahead
  pub comes : ahead r.file r.text known to ≡ next

-- the tokens are a whole directive, whatever stands behind what comes next
abbrev pub IsWhole : List Placed → Ahead → DirectiveTree → Type 0
IsWhole ts next d = (more : List Placed) → Follows next more → SpellsDirective true (ts ++ more) d more

-- the tokens are no whole directive before what comes next
abbrev pub IsCut : List Placed → Ahead → Type 0
IsCut ts next = (more : List Placed) (d : DirectiveTree) → Follows next more → SpellsDirective true (ts ++ more) d more → ⊥

abbrev pub place : Placed → Pos
place (at p t) = p

-- The refusals and their causes: what comes next is a lexical fault; the end; a token with which no directive begins, and
-- none would if kinds weren't told apart; one with which a directive would begin then; or one that opens a level too many.
abbrev pub Fails : Reading → List Placed → Ahead → SyntaxKind → Pos → Type 0
Fails r ts (a_fault found byte) (Lex kind) pos = (kind ≡ found) × (pos ≡ place_of r.file r.text byte)
Fails r ts the_end Unclosed pos = (ts ≡ [] → ⊥) × (pos ≡ place_of r.file r.text (length r.text))
Fails r ts (a_token t known to) Unexpected pos = (Begins false (ts ++ t ∷ []) → ⊥) × (pos ≡ place t)
Fails r ts (a_token t known to) KindMix pos = (Begins true (ts ++ t ∷ []) → ⊥) × Begins false (ts ++ t ∷ []) × (pos ≡ place t)
Fails r ts (a_token t known to) TooDeep pos = Begins true (ts ++ t ∷ []) × (MOST_LEVELS < depth (ts ++ t ∷ [])) × (pos ≡ place t)
Fails r ts next kind pos = ⊥

-- a refusal, and the names after it
pub record Refuses (r : Reading) (names : List (List ℕ)) (from : ℕ) (e : SyntaxError) (names' : List (List ℕ)) : Type 0 where
  pub front : Front r names from
  pub cut : IsCut front.tokens front.next
  pub cause : Fails r front.tokens front.next e.kind e.pos
  pub after : names' ≡ names_past front.next front.known
