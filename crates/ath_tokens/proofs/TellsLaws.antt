-- What is told of the longest token, or of the fault, is what the cut of the text has there.
use Rattle.std.proofs.Common.{◌≡◌, ℕ, ◌+◌, ◌<◌, ◌≤◌, List, [], ◌∷◌, length, take, drop, Option, Some, None, Ok, Err, refl, sym, ap, ◌∙◌, inl, inr, ⊎_elim, arith, nat_lt, if◌then◌else◌}
use Rattle.std.proofs.lemmas.Bool.{lt-ltb, le-ltb}
use Rattle.std.specs.Option.{option_map}
use Rattle.ath_names.specs.declared.limits.TheConstants.{MOST_NAME_BYTES}
use Rattle.ath_sorts.specs.declared.sorts.Sym.{Sym}
use Rattle.ath_tokens.specs.declared.lexeme.Lexed.TheVariants.{Word, Var, SortVar, Str, Punct, Becomes, Fault}
use Rattle.ath_tokens.specs.declared.tokens.LexKind.{LexKind}
use Rattle.ath_tokens.specs.declared.tokens.LexKind.TheVariants.{NameTooLong}
use Rattle.ath_tokens.specs.declared.tokens.Token.TheVariants.{Word as WordToken, Var as VarToken, SortVar as SortVarToken, Str as StrToken, Punct as PunctToken, Becomes as BecomesToken}
use Rattle.ath_tokens.specs.Spelling.{Lexeme, word, var, sort_var, str, punct, becomes}
use Rattle.ath_tokens.specs.Cut.{longest, name_len, Cut, found, fault, fault_of, cut_at}
use Rattle.ath_tokens.specs.Scan.{Lexes, Numbers, Tells}
use Rattle.ath_tokens.proofs.FirstBytes.{if-true, if-false}

unfoldable pub answer : ℕ → List ℕ → Option (ℕ × Lexeme) → Cut
answer at rest o = elim o [ Some t ↦ if nat_lt MOST_NAME_BYTES (name_len t.1) then fault NameTooLong at else found t.1 at (at + t.0) | None ↦ let f = fault_of rest in fault f.0 (at + f.1) ]

pub cut-is : (rest : List ℕ) (at : ℕ) → 0 < length rest → cut_at at rest ≡ answer at rest (longest (length rest) rest)
unfolding answer
cut-is [] at some = absurd (omega arith)
cut-is (b ∷ bs) at some = refl

module _ (rest : List ℕ) (some : 0 < length rest) where
  pub cut-found : (n : ℕ) (l : Lexeme) → longest (length rest) rest ≡ Some (n, l) → name_len l ≤ MOST_NAME_BYTES → (at : ℕ) → cut_at at rest ≡ found l at (at + n)
  unfolding answer
  cut-found n l e short at = cut-is rest at some ∙ ap (answer at rest) e ∙ if-false (nat_lt MOST_NAME_BYTES (name_len l)) _ _ (le-ltb MOST_NAME_BYTES (name_len l) short)

  pub cut-long : (n : ℕ) (l : Lexeme) → longest (length rest) rest ≡ Some (n, l) → MOST_NAME_BYTES < name_len l → (at : ℕ) → cut_at at rest ≡ fault NameTooLong (at + 0)
  unfolding answer
  cut-long n l e long at = let here : at ≡ at + 0 = omega arith in cut-is rest at some ∙ ap (answer at rest) e ∙ if-true (nat_lt MOST_NAME_BYTES (name_len l)) _ _ (lt-ltb MOST_NAME_BYTES (name_len l) long) ∙ ap (fault NameTooLong) here

  pub cut-fault : (kind : LexKind) (n : ℕ) → longest (length rest) rest ≡ None → fault_of rest ≡ (kind, n) → (at : ℕ) → cut_at at rest ≡ fault kind (at + n)
  unfolding answer
  cut-fault kind n e f at = cut-is rest at some ∙ ap (answer at rest) e ∙ ap (λ (g : LexKind × ℕ). fault g.0 (at + g.1)) f

  -- a token with a name, which gets a number
  module _ (old new : List (List ℕ)) (name : List ℕ) (n : ℕ) (l : Lexeme) (e : longest (length rest) rest ≡ Some (n, l)) (len : name_len l ≡ length name) (within : n ≤ length rest) where
    pub tells-refused : (r : LexKind × ℕ) → Numbers old name (Err r) new → Tells old rest (Err r) new
    tells-refused r numbers = (omega (arith, numbers.1), ⊎_elim (λ memory. inl memory) (λ long. inr (λ at. cut-long n l e (omega (arith, len, long.1)) at ∙ (λ i. fault (sym long.0 i) (at + sym numbers.1 i)))) numbers.0, numbers.2)

-- each kind of token
module _ (rest : List ℕ) (some : 0 < length rest) (old new : List (List ℕ)) where
  pub tells-word : (n : ℕ) (s : Sym) → Lexes rest (Word n) → Numbers old (take n rest) (Ok s) new → Tells old rest (Ok (WordToken s, n)) new
  tells-word n s l numbers = (l.2, (word (take n rest), cut-found rest some n (word (take n rest)) l.0 numbers.0, numbers.1, ap (option_map (λ k. WordToken (record { 0 = k }))) numbers.2))

  pub tells-var : (m i n : ℕ) (s : Sym) → Lexes rest (Var m i n) → Numbers old (take m (drop 1 rest)) (Ok s) new → Tells old rest (Ok (VarToken s i, n)) new
  tells-var m i n s l numbers = (l.3, (var (take m (drop 1 rest)) i, cut-found rest some n (var (take m (drop 1 rest)) i) l.0 numbers.0, numbers.1, ap (option_map (λ k. VarToken (record { 0 = k }) i)) numbers.2))

  pub tells-sort_var : (m : ℕ) (s : Sym) → Lexes rest (SortVar m) → Numbers old (take m (drop 1 rest)) (Ok s) new → Tells old rest (Ok (SortVarToken s, 1 + m)) new
  tells-sort_var m s l numbers = (l.2, (sort_var (take m (drop 1 rest)), cut-found rest some (1 + m) (sort_var (take m (drop 1 rest))) l.0 numbers.0, numbers.1, ap (option_map (λ k. SortVarToken (record { 0 = k }))) numbers.2))

  pub tells-no_word : (n : ℕ) (r : LexKind × ℕ) → Lexes rest (Word n) → Numbers old (take n rest) (Err r) new → Tells old rest (Err r) new
  tells-no_word n r l numbers = tells-refused rest some old new (take n rest) n (word (take n rest)) l.0 refl l.2 r numbers

  pub tells-no_var : (m i n : ℕ) (r : LexKind × ℕ) → Lexes rest (Var m i n) → Numbers old (take m (drop 1 rest)) (Err r) new → Tells old rest (Err r) new
  tells-no_var m i n r l numbers = tells-refused rest some old new (take m (drop 1 rest)) n (var (take m (drop 1 rest)) i) l.0 refl l.3 r numbers

  pub tells-no_sort_var : (m : ℕ) (r : LexKind × ℕ) → Lexes rest (SortVar m) → Numbers old (take m (drop 1 rest)) (Err r) new → Tells old rest (Err r) new
  tells-no_sort_var m r l numbers = tells-refused rest some old new (take m (drop 1 rest)) (1 + m) (sort_var (take m (drop 1 rest))) l.0 refl l.2 r numbers

module _ (rest : List ℕ) (some : 0 < length rest) (old : List (List ℕ)) where
  pub tells-str : (bytes : List ℕ) (n : ℕ) → Lexes rest (Str bytes n) → Tells old rest (Ok (StrToken bytes, n)) old
  tells-str bytes n l = (l.1, (str bytes, cut-found rest some n (str bytes) l.0 (omega arith), refl, refl))

  pub tells-punct : (b : ℕ) → Lexes rest (Punct b) → Tells old rest (Ok (PunctToken b, 1)) old
  tells-punct b l = (omega arith, (punct b, cut-found rest some 1 (punct b) l (omega arith), refl, refl))

  pub tells-becomes : Lexes rest Becomes → 2 ≤ length rest → Tells old rest (Ok (BecomesToken, 2)) old
  tells-becomes l within = (within, (becomes, cut-found rest some 2 becomes l (omega arith), refl, refl))

  pub tells-fault : (kind : LexKind) (n : ℕ) → Lexes rest (Fault kind n) → Tells old rest (Err (kind, n)) old
  tells-fault kind n l = (l.1.0, inr (cut-fault rest some kind n l.0 l.1.1), refl)
