-- A token is the same to the grammar when names have joined the table, and the words `some-..` and `_` have one number.
use Rattle.std.proofs.Common.{◌≡◌, ℕ, ◌<◌, ◌≤◌, Bool, true, false, cond, ◌||◌, List, [], ◌∷◌, ◌++◌, length, Option, Some, None, refl, sym, ap, ◌∙◌, subst, arith, codes, nat_eq, ◌⊎◌, inl, inr}
use Rattle.std.specs.Prelude.{slice_get}
use Rattle.std.specs.List.{list_any, filter}
use Rattle.std.specs.Map.{lookup}
use Rattle.std.specs.Str.{bytes_eq}
use Rattle.std.proofs.lemmas.Option.{slice_get-get_or, get_or_from_slice_get, same_Some}
use Rattle.std.proofs.lemmas.Slice.Eq.{bytes_eq-Decides}
use Rattle.ath_sorts.specs.declared.sorts.Sym.{Sym}
use Rattle.ath_syntax.specs.Fits.{IsSomeWord}
use Rattle.ath_grammar.specs.declared.class.WordClass.TheVariants.{Plain, Dotted}
use Rattle.ath_grammar.specs.declared.lexeme.Lexeme.TheVariants.{Word, Wild, SomeOf}
use Rattle.ath_names.specs.Names.{number_of, first_names, fixed_words, numbered, IsTable, KeepsNames}
use Rattle.ath_names.proofs.NamesLaws.{KeepsNames-trans, text_kept, number_kept, number_of_text}
use Rattle.ath_tokens.specs.declared.tokens.Token.{Token}
use Rattle.ath_tokens.specs.declared.tokens.Token.TheVariants.{Word as WordToken, Var as VarToken, SortVar as SortVarToken, Str as StrToken, Punct, Becomes as BecomesToken}
use Rattle.ath_lexemes.specs.declared.reserved.Reserved.{Reserved}
use Rattle.ath_lexemes.specs.declared.reserved.Reserved.TheVariants.{Opener as OpenerWord, Directive as DirectiveWord, Mark as MarkWord, Own, Means, Wild as WildWord, SomeOf as SomeWord}
use Rattle.ath_lexemes.specs.Reserved.{reserved_words}
use Rattle.ath_lexemes.specs.Lexemes.{meant, reserved_or_plain, word_lexeme}
use Rattle.ath_lexemes.specs.Numbered.{text_of, IsNumbered, lexeme_of}

text_at : (names : List (List ℕ)) (n : Sym) → n.0 < length names → slice_get names n.0 ≡ Some (text_of names n)
text_at names n lt = slice_get-get_or names n.0 [] lt

text_of_kept : (old new : List (List ℕ)) → KeepsNames old new → (n : Sym) → n.0 < length old → text_of new n ≡ text_of old n
text_of_kept old new g n lt = get_or_from_slice_get new n.0 (text_of old n) [] (text_kept g n.0 lt ∙ text_at old n lt)

pub lexeme_kept : (old new : List (List ℕ)) → KeepsNames old new → (t : Token) → IsNumbered old t → lexeme_of new t ≡ lexeme_of old t
lexeme_kept old new g (WordToken n) lt = ap (λ text. word_lexeme text n) (text_of_kept old new g n lt)
lexeme_kept old new g (VarToken n index) lt = refl
lexeme_kept old new g (SortVarToken n) lt = refl
lexeme_kept old new g (StrToken bytes) lt = refl
lexeme_kept old new g (Punct b) lt = refl
lexeme_kept old new g BecomesToken lt = refl

-- a row that is found passes among the rows of its value
or_right : (a b : Bool) → b ≡ true → (a || b) ≡ true
or_right true b h = refl
or_right false b h = h

or_cases : (a b : Bool) → (a || b) ≡ true → (a ≡ true) ⊎ (b ≡ true)
or_cases true b h = inl refl
or_cases false b h = inr h

module _ {X : Type 0} (test : List ℕ → Bool) (wanted : X → Bool) where
  pub among : (rows : List (List ℕ × X)) (x : X) → lookup test rows ≡ Some x → wanted x ≡ true → list_any (λ e. test e.0) (filter (λ e. wanted e.1) rows) ≡ true
  among [] x h w = absurd (grind arith)
  among (e ∷ es) x h w = by (test e.0) (wanted e.1) refl refl (λ k. among es x k w) h
    where
      by : (b c : Bool) → test e.0 ≡ b → wanted e.1 ≡ c → (lookup test es ≡ Some x → list_any (λ f. test f.0) (filter (λ f. wanted f.1) es) ≡ true) → cond b (Some e.1) (lookup test es) ≡ Some x → list_any (λ f. test f.0) (cond c (e ∷ filter (λ f. wanted f.1) es) (filter (λ f. wanted f.1) es)) ≡ true
      by true true p q rest k = ap (λ b. b || list_any (λ f. test f.0) (filter (λ f. wanted f.1) es)) p
      by true false p q rest k = absurd (grind (arith, p, q, k, w))
      by false true p q rest k = or_right (test e.0) _ (rest k)
      by false false p q rest k = rest k

abbrev is_some_word : Reserved → Bool
is_some_word SomeWord = true
is_some_word r = false

abbrev is_wild_word : Reserved → Bool
is_wild_word WildWord = true
is_wild_word r = false

never_plain : (n k : Sym) (b : Bool) → (cond b (Word Dotted n) (Word Plain n) ≡ SomeOf k → ⊥) × (cond b (Word Dotted n) (Word Plain n) ≡ Wild k → ⊥)
never_plain n k true = (λ h. absurd (grind (arith, h)), λ h. absurd (grind (arith, h)))
never_plain n k false = (λ h. absurd (grind (arith, h)), λ h. absurd (grind (arith, h)))

some_meant : (n k : Sym) (r : Reserved) → meant n r ≡ SomeOf k → (is_some_word r ≡ true) × (n ≡ k)
some_meant n k (OpenerWord o) h = absurd (grind (arith, h))
some_meant n k (DirectiveWord w) h = absurd (grind (arith, h))
some_meant n k (Own c) h = absurd (grind (arith, h))
some_meant n k (Means c m) h = absurd (grind (arith, h))
some_meant n k WildWord h = absurd (grind (arith, h))
some_meant n k (MarkWord m) h = absurd (grind (arith, h))
some_meant n k SomeWord h = (refl, cc)

some_word : (text : List ℕ) (n k : Sym) (o : Option Reserved) → lookup (bytes_eq text) reserved_words ≡ o → reserved_or_plain text n o ≡ SomeOf k → (list_any (λ e. bytes_eq text e.0) (filter (λ e. is_some_word e.1) reserved_words) ≡ true) × (n ≡ k)
some_word text n k None g h = absurd ((never_plain n k (list_any (λ b. nat_eq b 46) text)).0 h)
some_word text n k (Some r) g h = let m = some_meant n k r h in (among (bytes_eq text) is_some_word reserved_words r g m.0, m.1)

wild_meant : (n k : Sym) (r : Reserved) → meant n r ≡ Wild k → (is_wild_word r ≡ true) × (n ≡ k)
wild_meant n k (OpenerWord o) h = absurd (grind (arith, h))
wild_meant n k (DirectiveWord w) h = absurd (grind (arith, h))
wild_meant n k (Own c) h = absurd (grind (arith, h))
wild_meant n k (Means c m) h = absurd (grind (arith, h))
wild_meant n k WildWord h = (refl, cc)
wild_meant n k (MarkWord m) h = absurd (grind (arith, h))
wild_meant n k SomeWord h = absurd (grind (arith, h))

wild_word : (text : List ℕ) (n k : Sym) (o : Option Reserved) → lookup (bytes_eq text) reserved_words ≡ o → reserved_or_plain text n o ≡ Wild k → (list_any (λ e. bytes_eq text e.0) (filter (λ e. is_wild_word e.1) reserved_words) ≡ true) × (n ≡ k)
wild_word text n k None g h = absurd ((never_plain n k (list_any (λ b. nat_eq b 46) text)).1 h)
wild_word text n k (Some r) g h = let m = wild_meant n k r h in (among (bytes_eq text) is_wild_word reserved_words r g m.0, m.1)

is_text : (a b : List ℕ) → bytes_eq a b ≡ true → a ≡ b
is_text a b h = (bytes_eq-Decides a b).0 h

any_cases : {X : Type 0} (test : X → Bool) (x : X) (xs : List X) → list_any test (x ∷ xs) ≡ true → (test x ≡ true) ⊎ (list_any test xs ≡ true)
any_cases test x xs h = or_cases (test x) (list_any test xs) h

list_rows : List (List ℕ × Reserved)
list_rows = (codes "some-list", SomeWord) ∷ []

sent_rows : List (List ℕ × Reserved)
sent_rows = (codes "some-sent", SomeWord) ∷ list_rows

term_rows : List (List ℕ × Reserved)
term_rows = (codes "some-term", SomeWord) ∷ sent_rows

some_rows : List (List ℕ × Reserved)
some_rows = (codes "some-var", SomeWord) ∷ term_rows

wild_rows : List (List ℕ × Reserved)
wild_rows = (codes "_", WildWord) ∷ []

these_are_some : filter (λ e. is_some_word e.1) reserved_words ≡ some_rows
unfolding some_rows term_rows sent_rows list_rows
these_are_some = refl

this_is_wild : filter (λ e. is_wild_word e.1) reserved_words ≡ wild_rows
unfolding wild_rows
this_is_wild = refl

-- a fixed word's number
Grows-fixed : (names : List (List ℕ)) → KeepsNames first_names names → KeepsNames fixed_words names
Grows-fixed names g = KeepsNames-trans (record { more = numbered (codes "x") 64 ++ numbered (codes "y") 64; longer = refl }) g

-- the text is a fixed word with one of these numbers
abbrev IsPlaced : List ℕ → Type 0
IsPlaced text = (i : ℕ) × (17 ≤ i) × (i ≤ 20) × (number_of fixed_words text ≡ Some i)

placed : (text word : List ℕ) (i : ℕ) → 17 ≤ i → i ≤ 20 → number_of fixed_words word ≡ Some i → bytes_eq text word ≡ true → IsPlaced text
placed text word i low high h e = (i, low, high, subst (λ t. number_of fixed_words t ≡ Some i) (sym (is_text text word e)) h)

module _ (text : List ℕ) where
  abbrev is_row : List ℕ × Reserved → Bool
  is_row e = bytes_eq text e.0

  in_list_rows : list_any is_row list_rows ≡ true → IsPlaced text
  unfolding list_rows
  in_list_rows h = by (any_cases is_row (codes "some-list", SomeWord) [] h)
    where
      by : (is_row (codes "some-list", SomeWord) ≡ true) ⊎ (false ≡ true) → IsPlaced text
      by (inl e) = placed text (codes "some-list") 20 (omega arith) (omega arith) refl e
      by (inr e) = absurd (grind (arith, e))

  in_sent_rows : list_any is_row sent_rows ≡ true → IsPlaced text
  unfolding sent_rows
  in_sent_rows h = by (any_cases is_row (codes "some-sent", SomeWord) list_rows h)
    where
      by : (is_row (codes "some-sent", SomeWord) ≡ true) ⊎ (list_any is_row list_rows ≡ true) → IsPlaced text
      by (inl e) = placed text (codes "some-sent") 19 (omega arith) (omega arith) refl e
      by (inr e) = in_list_rows e

  in_term_rows : list_any is_row term_rows ≡ true → IsPlaced text
  unfolding term_rows
  in_term_rows h = by (any_cases is_row (codes "some-term", SomeWord) sent_rows h)
    where
      by : (is_row (codes "some-term", SomeWord) ≡ true) ⊎ (list_any is_row sent_rows ≡ true) → IsPlaced text
      by (inl e) = placed text (codes "some-term") 18 (omega arith) (omega arith) refl e
      by (inr e) = in_sent_rows e

  in_some_rows : list_any is_row some_rows ≡ true → IsPlaced text
  unfolding some_rows
  in_some_rows h = by (any_cases is_row (codes "some-var", SomeWord) term_rows h)
    where
      by : (is_row (codes "some-var", SomeWord) ≡ true) ⊎ (list_any is_row term_rows ≡ true) → IsPlaced text
      by (inl e) = placed text (codes "some-var") 17 (omega arith) (omega arith) refl e
      by (inr e) = in_term_rows e

  in_wild_rows : list_any is_row wild_rows ≡ true → text ≡ codes "_"
  unfolding wild_rows
  in_wild_rows h = by (any_cases is_row (codes "_", WildWord) [] h)
    where
      by : (is_row (codes "_", WildWord) ≡ true) ⊎ (false ≡ true) → text ≡ codes "_"
      by (inl e) = is_text text (codes "_") e
      by (inr e) = absurd (grind (arith, e))

  some_placed : list_any is_row (filter (λ e. is_some_word e.1) reserved_words) ≡ true → IsPlaced text
  some_placed h = in_some_rows (subst (λ rows. list_any is_row rows ≡ true) these_are_some h)

  wild_placed : list_any is_row (filter (λ e. is_wild_word e.1) reserved_words) ≡ true → text ≡ codes "_"
  wild_placed h = in_wild_rows (subst (λ rows. list_any is_row rows ≡ true) this_is_wild h)

some_number : (names : List (List ℕ)) → IsTable names → KeepsNames first_names names → (n : Sym) → n.0 < length names → IsPlaced (text_of names n) → IsSomeWord n
some_number names table g n lt p =
    let e : n.0 ≡ p.0 = same_Some _ _ (sym (number_of_text names n.0 (text_of names n) table (text_at names n lt)) ∙ number_kept (Grows-fixed names g) (text_of names n) p.0 p.3) in
    (omega (arith, p.1), omega (arith, p.2))

-- the words `some-..` have their fixed numbers
pub some_words : (names : List (List ℕ)) → IsTable names → KeepsNames first_names names → (t : Token) (k : Sym) → IsNumbered names t → lexeme_of names t ≡ SomeOf k → IsSomeWord k
some_words names table g (WordToken n) k lt h =
    let w = some_word (text_of names n) n k (lookup (bytes_eq (text_of names n)) reserved_words) refl h in
    subst IsSomeWord w.1 (some_number names table g n lt (some_placed (text_of names n) w.0))
some_words names table g (VarToken n index) k lt h = absurd (grind (arith, h))
some_words names table g (SortVarToken n) k lt h = absurd (grind (arith, h))
some_words names table g (StrToken bytes) k lt h = absurd (grind (arith, h))
some_words names table g (Punct b) k lt h = absurd (grind (arith, h))
some_words names table g BecomesToken k lt h = absurd (grind (arith, h))

-- the text of `_`
wild_text : (names : List (List ℕ)) (t : Token) (k : Sym) → IsNumbered names t → lexeme_of names t ≡ Wild k → (k.0 < length names) × (text_of names k ≡ codes "_")
wild_text names (WordToken n) k lt h =
    let w = wild_word (text_of names n) n k (lookup (bytes_eq (text_of names n)) reserved_words) refl h in
    subst (λ (m : Sym). (m.0 < length names) × (text_of names m ≡ codes "_")) w.1 (lt, wild_placed (text_of names n) w.0)
wild_text names (VarToken n index) k lt h = absurd (grind (arith, h))
wild_text names (SortVarToken n) k lt h = absurd (grind (arith, h))
wild_text names (StrToken bytes) k lt h = absurd (grind (arith, h))
wild_text names (Punct b) k lt h = absurd (grind (arith, h))
wild_text names BecomesToken k lt h = absurd (grind (arith, h))

-- `_` is one name, also while names join the table
pub wild_is_one : (old new : List (List ℕ)) → IsTable old → IsTable new → KeepsNames old new → (t u : Token) (m k : Sym) → IsNumbered old t → IsNumbered new u → lexeme_of old t ≡ Wild m → lexeme_of new u ≡ Wild k → m.0 ≡ k.0
wild_is_one old new before after g t u m k a b h i =
    let x = wild_text old t m a h in
    let y = wild_text new u k b i in
    let first = number_kept g (codes "_") m.0 (number_of_text old m.0 (codes "_") before (text_at old m x.0 ∙ ap Some x.1)) in
    let second = number_of_text new k.0 (codes "_") after (text_at new k y.0 ∙ ap Some y.1) in
    same_Some _ _ (sym first ∙ second)
