-- The shape of a readable sentence has words, names and indices that are tokens, and heads that are words of the grammar.
use Rattle.std.proofs.Common.{◌≡◌, ℕ, ◌+◌, ◌^◌, ◌<◌, ◌≤◌, Bool, true, false, not, ◌&&◌, ◌==◌, List, [], ◌∷◌, ◌++◌, map, length, slice_index, Option, Some, None, is_some, position, refl, sym, ap, ◌∙◌, subst, arith, codes, true≢false, eqb-true, if◌then◌else◌, length-append}
use Rattle.std.proofs.lemmas.Bool.{and_parts, cond-false}
use Rattle.std.proofs.lemmas.Bool.Decides.{nat_tests}
use Rattle.std.proofs.lemmas.Fmt.{length-decimal-le_wide}
use Rattle.std.proofs.lemmas.List.Quantifiers.{position-Some}
use Rattle.std.specs.Fmt.{decimal}
use Rattle.std.specs.List.{list_all, list_any, AllByRecursion}
use Rattle.std.specs.Map.{lookup}
use Rattle.std.specs.Str.{bytes_eq}
use Rattle.std.specs.Prelude.{nat_le, nat_lt, zip}
use Rattle.ath_names.specs.declared.limits.TheConstants.{MOST_NAME_BYTES}
use Rattle.ath_sorts.specs.declared.sorts.Sym.{Sym}
use Rattle.ath_sorts.specs.declared.sorts.SVar.{SVar}
use Rattle.ath_sorts.specs.declared.sorts.SVar.TheVariants.{Written}
use Rattle.ath_sorts.specs.declared.sorts.Sort.{Sort}
use Rattle.ath_sorts.specs.declared.sorts.Sort.TheOpen as one
use Rattle.ath_sorts.specs.declared.signature.Symbol.{Symbol}
use Rattle.ath_sorts.specs.Sorts.{same_svar, image}
use Rattle.ath_sorts.specs.Signature.{Signature, symbol_of, symbol_among, arity_of, arity_among, boolean}
use Rattle.ath_sorts.proofs.SortLaws.{sort_induction}
use Rattle.ath_trees.specs.declared.node.Var.{Var as Variable}
use Rattle.ath_trees.specs.declared.node.Conn.{Conn}
use Rattle.ath_trees.specs.declared.node.Conn.TheVariants.{Not, And, Or, If, Iff}
use Rattle.ath_trees.specs.declared.node.Quant.{Quant}
use Rattle.ath_trees.specs.declared.node.Quant.TheVariants.{Forall, Exists}
use Rattle.ath_trees.specs.SortsIn.{result_sort}
use Rattle.ath_trees.specs.Tree.{Term, Terms, var, app, none, more, Sent, atom, equal, negated, joined, bound, conn_of}
use Rattle.ath_trees.specs.Variables.{same_var}
use Rattle.ath_trees.specs.WellSorted.{has_arity, is_valid_sort, HasSort, HaveSorts, IsWellSorted}
use Rattle.ath_trees.proofs.ValidSorts.{valid-var, valid-con, valid_under, use_valid, symbol_good}
use Rattle.ath_env.specs.LookUp.{text_of}
use Rattle.ath_tokens.specs.Bytes.{begins_part}
use Rattle.ath_tokens.specs.Spelling.{goes_on_word, is_part}
use Rattle.ath_grammar.specs.declared.class.WordClass.TheVariants.{Plain, Dotted}
use Rattle.ath_grammar.specs.declared.lexeme.Lexeme.TheVariants as L
use Rattle.ath_lexemes.specs.declared.reserved.Reserved.{Reserved}
use Rattle.ath_lexemes.specs.Reserved.{reserved_words}
use Rattle.ath_lexemes.specs.Lexemes.{word_lexeme, reserved_or_plain}
use Rattle.ath_print.specs.Prefix.{conn_text, quant_text, leaves_unsaid}
use Rattle.ath_reading_back.specs.Shapes.{SortShape, ascribed, Shapes, no_shapes, more_shapes, SortShaper, Shaper, numbered_shape, sorts_in_turn, sort_step, sort_shape, in_turn, item_shape, sorted_shape, bound_shape, occurrence_shape, app_shape, term_shape, terms_shapes, sent_shape}
use Rattle.ath_reading_back.specs.Premises.{is_word, is_name, is_variable_name, is_readable_variable, is_readable_term, are_readable_terms, has_readable_variables, has_no_equals, AreDeclared}
use Rattle.ath_reading_back.proofs.Digits.{decimal-words}
use Rattle.ath_reading_back.proofs.Cuts.{IsWordText, IsPartText}
use Rattle.ath_reading_back.proofs.Pieces.{LexicalSort, LexicalSorts, LexicalShape, LexicalShapes}
use Rattle.ath_reading_back.proofs.Spelled.{PlainSort, PlainSorts, PlainShape, PlainShapes, Head, plain_head, logical_head, infix_head}
use Rattle.ath_reading_back.proofs.PrintLaws.{shaped_var, shaped_con}

-- ---- names
abbrev IsPlainWord : List ℕ → Type 0
IsPlainWord w = IsWordText w × ((n : Sym) → word_lexeme w n ≡ L.Word Plain n)

le-is : (m n : ℕ) → nat_le m n ≡ true → m ≤ n
le-is m n e = grind (arith, nat_tests, e)

lt-is : (m n : ℕ) → nat_lt m n ≡ true → m < n
lt-is m n e = grind (arith, nat_tests, e)

not-true : (b : Bool) → not b ≡ true → b ≡ false
not-true true e = absurd (true≢false (sym e))
not-true false e = refl

word-text : (w : List ℕ) → is_word w ≡ true → length w ≤ MOST_NAME_BYTES → IsWordText w
word-text [] e short = absurd (true≢false (sym e))
word-text (b ∷ bs) e short = let p = and_parts (begins_part b) (goes_on_word bs) e in record { first = b; others = bs; is = refl; begins = p.0; goes = p.1; short = short }

not_reserved : (w : List ℕ) (n : Sym) (o : Option Reserved) → is_some o ≡ false → list_any (λ b. b == 46) w ≡ false → reserved_or_plain w n o ≡ L.Word Plain n
not_reserved w n (Some r) e d = absurd (true≢false e)
not_reserved w n None e d = cond-false (list_any (λ b. b == 46) w) (L.Word Dotted n) (L.Word Plain n) d

name-is : (w : List ℕ) → is_name w ≡ true → IsPlainWord w
name-is w e =
    let p = and_parts (is_word w) _ e in
    let q = and_parts (not (list_any (λ b. b == 46) w)) _ p.1 in
    let r = and_parts (not (is_some (lookup (bytes_eq w) reserved_words))) (nat_le (length w) MOST_NAME_BYTES) q.1 in
    (word-text w p.0 (le-is (length w) MOST_NAME_BYTES r.1), λ n. not_reserved w n (lookup (bytes_eq w) reserved_words) (not-true _ r.0) (not-true _ q.0))

part-is : (w : List ℕ) → is_variable_name w ≡ true → IsPartText w
part-is w e = let p = and_parts (is_part w) (nat_le (length w) MOST_NAME_BYTES) e in record { part = p.0; short = le-is (length w) MOST_NAME_BYTES p.1 }

-- ---- signs
sign_text : (w : List ℕ) → is_word w ≡ true → nat_le (length w) MOST_NAME_BYTES ≡ true → IsWordText w
sign_text w e short = word-text w e (le-is (length w) MOST_NAME_BYTES short)

conn_word : (c : Conn) → IsWordText (conn_text c)
conn_word Not = sign_text (codes "not") refl refl
conn_word And = sign_text (codes "and") refl refl
conn_word Or = sign_text (codes "or") refl refl
conn_word If = sign_text (codes "if") refl refl
conn_word Iff = sign_text (codes "iff") refl refl

conn_head : (c : Conn) → Head (conn_text c)
conn_head Not = logical_head (λ n. refl)
conn_head And = logical_head (λ n. refl)
conn_head Or = logical_head (λ n. refl)
conn_head If = logical_head (λ n. refl)
conn_head Iff = logical_head (λ n. refl)

quant_word : (k : Quant) → IsWordText (quant_text k)
quant_word Forall = sign_text (codes "forall") refl refl
quant_word Exists = sign_text (codes "exists") refl refl

quant_head : (k : Quant) → Head (quant_text k)
quant_head Forall = logical_head (λ n. refl)
quant_head Exists = logical_head (λ n. refl)

-- ---- what shapers show
abbrev GoodSort : SortShaper → Type 0
GoodSort f = (seen : List SVar) → (length seen ≤ length (f seen).1) × (length (f seen).1 < 10 ^ 64 → PlainSort (f seen).0 × LexicalSort (f seen).0)

abbrev Good : Shaper → Type 0
Good f = (seen : List SVar) → (length seen ≤ length (f seen).1) × (length (f seen).1 < 10 ^ 64 → PlainShape (f seen).0 × LexicalShape (f seen).0)

sorts_good : (fs : List SortShaper) → AllByRecursion GoodSort fs → (seen : List SVar) → (length seen ≤ length (sorts_in_turn fs seen).1) × (length (sorts_in_turn fs seen).1 < 10 ^ 64 → PlainSorts (sorts_in_turn fs seen).0 × LexicalSorts (sorts_in_turn fs seen).0)
sorts_good [] h seen = (omega arith, λ few. (tt, tt))
sorts_good (f ∷ fs) h seen =
    let a = h.0 seen in
    let b = sorts_good fs h.1 (f seen).1 in
    (omega (arith, a.0, b.0), λ few. let x = a.1 (omega (arith, b.0, few)) in let y = b.1 few in ((x.0, y.0), (x.1, y.1)))

all_good : (fs : List Shaper) → AllByRecursion Good fs → (seen : List SVar) → (length seen ≤ length (in_turn fs seen).1) × (length (in_turn fs seen).1 < 10 ^ 64 → PlainShapes (in_turn fs seen).0 × LexicalShapes (in_turn fs seen).0)
all_good [] h seen = (omega arith, λ few. (tt, tt))
all_good (f ∷ fs) h seen =
    let a = h.0 seen in
    let b = all_good fs h.1 (f seen).1 in
    (omega (arith, a.0, b.0), λ few. let x = a.1 (omega (arith, b.0, few)) in let y = b.1 few in ((x.0, y.0), (x.1, y.1)))

-- ---- items
name_good : (w : List ℕ) → IsPlainWord w → (fs : List Shaper) → AllByRecursion Good fs → Good (item_shape w fs)
name_good w e [] h seen = (omega arith, λ few. (e.1, (e.0, tt)))
name_good w e (f ∷ fs) h seen = let a = all_good (f ∷ fs) h seen in (a.0, λ few. let x = a.1 few in ((plain_head e.1, x.0), (e.0, x.1)))

sign_good : (w : List ℕ) → Head w → IsWordText w → (f : Shaper) (fs : List Shaper) → AllByRecursion Good (f ∷ fs) → Good (item_shape w (f ∷ fs))
sign_good w e t f fs h seen = let a = all_good (f ∷ fs) h seen in (a.0, λ few. let x = a.1 few in ((e, x.0), (t, x.1)))

-- ---- sort variables
variable-fine : (n : ℕ) → n < 10 ^ 64 → IsPartText (codes "S" ++ decimal n)
variable-fine n small = record { part = ap (λ b. true && b) (decimal-words n small); short = omega (arith, length-decimal-le_wide 64 n (omega arith) small small) }

numbered_good : (seen : List SVar) (v : SVar) (o : Option ℕ) → position (same_svar v) seen ≡ o
    → (length seen ≤ length (numbered_shape seen v o).1) × (length (numbered_shape seen v o).1 < 10 ^ 64 → PlainSort (numbered_shape seen v o).0 × LexicalSort (numbered_shape seen v o).0)
numbered_good seen v (Some n) e = let p = position-Some (same_svar v) seen n v e in (omega arith, λ few. (tt, variable-fine (n + 1) (omega (arith, p.0, few))))
numbered_good seen v None e = (omega (arith, length-append seen (v ∷ [])), λ few. (tt, variable-fine (length seen + 1) (omega (arith, length-append seen (v ∷ []), few))))

-- ---- a signature whose names are declared
same-text : (names : List (List ℕ)) (m n : Sym) → (m.0 == n.0) ≡ true → text_of names m ≡ text_of names n
same-text names m n e = ap (λ k. text_of names (record { 0 = k })) (eqb-true m.0 n.0 e)

symbol-named : (names : List (List ℕ)) (ss : List Symbol) (f : Sym) (d : Symbol) → list_all (λ s. is_name (text_of names s.name)) ss ≡ true → symbol_among ss f ≡ Some d → is_name (text_of names f) ≡ true
symbol-named names [] f d h e = absurd (grind (arith, e))
symbol-named names (s ∷ ss) f d h e = by (s.name.0 == f.0) refl (and_parts (is_name (text_of names s.name)) _ h) (symbol-named names ss f d)
  where
    by : (b : Bool) → (s.name.0 == f.0) ≡ b → (is_name (text_of names s.name) ≡ true) × (list_all (λ t. is_name (text_of names t.name)) ss ≡ true) → (list_all (λ t. is_name (text_of names t.name)) ss ≡ true → symbol_among ss f ≡ Some d → is_name (text_of names f) ≡ true) → is_name (text_of names f) ≡ true
    by true q p rest = ap is_name (sym (same-text names s.name f q)) ∙ p.0
    by false q p rest = rest p.1 (sym (cond-false (s.name.0 == f.0) (Some s) (symbol_among ss f) q) ∙ e)

sort-tested : (names : List (List ℕ)) (test : List ℕ → Bool) (es : List (Sym × ℕ)) (c : Sym) (n : ℕ) → list_all (λ e. test (text_of names e.0)) es ≡ true → has_arity (arity_among es c) n ≡ true → test (text_of names c) ≡ true
sort-tested names test [] c n h e = absurd (true≢false (sym e))
sort-tested names test (x ∷ xs) c n h e = by (x.0.0 == c.0) refl (and_parts (test (text_of names x.0)) _ h) (sort-tested names test xs c n)
  where
    by : (b : Bool) → (x.0.0 == c.0) ≡ b → (test (text_of names x.0) ≡ true) × (list_all (λ y. test (text_of names y.0)) xs ≡ true) → (list_all (λ y. test (text_of names y.0)) xs ≡ true → has_arity (arity_among xs c) n ≡ true → test (text_of names c) ≡ true) → test (text_of names c) ≡ true
    by true q p rest = ap test (sym (same-text names x.0 c q)) ∙ p.0
    by false q p rest = rest p.1 (ap (λ (o : Option ℕ). has_arity o n) (sym (cond-false (x.0.0 == c.0) (Some x.1) (arity_among xs c) q)) ∙ e)

module _ (names : List (List ℕ)) (sig : Signature) (d : AreDeclared names sig) (off : has_no_equals names sig ≡ true) where
  -- ---- sorts
  parts_good : (ss : List Sort) → AllByRecursion (λ s. is_valid_sort sig s ≡ true → GoodSort (sort_shape names s)) ss → list_all (is_valid_sort sig) ss ≡ true → AllByRecursion GoodSort (map (sort_shape names) ss)
  parts_good [] h e = tt
  parts_good (s ∷ ss) h e = let p = and_parts (is_valid_sort sig s) (list_all (is_valid_sort sig) ss) e in (h.0 p.0, parts_good ss h.1 p.1)

  con_good : (c : Sym) (fs : List SortShaper) (n : ℕ) → has_arity (arity_of sig c) n ≡ true → AllByRecursion GoodSort fs → GoodSort (sort_step names (one.Con c fs))
  con_good c fs n e h seen =
      let a = sorts_good fs h seen in
      let w = name-is (text_of names c) (sort-tested names is_name sig.sorts c n d.sorts e) in
      let z = not-true _ (sort-tested names (λ t. not (slice_index t 0 == 61)) sig.sorts c n off e) in
      (a.0, λ few. let x = a.1 few in ((w.1, x.0), (w.0, z, x.1)))

  sort_good : (s : Sort) → is_valid_sort sig s ≡ true → GoodSort (sort_shape names s)
  sort_good = sort_induction (λ s. is_valid_sort sig s ≡ true → GoodSort (sort_shape names s))
      (λ v e. subst GoodSort (sym (shaped_var names v)) (λ seen. numbered_good seen v (position (same_svar v) seen) refl))
      (λ c ss h e.
      let p = and_parts (has_arity (arity_of sig c) (length ss)) (list_all (is_valid_sort sig) ss) (sym (valid-con sig c ss) ∙ e) in
      subst GoodSort (sym (shaped_con names c ss)) (con_good c (map (sort_shape names) ss) (length ss) p.0 (parts_good ss h p.1)))

  -- a sort at valid sorts
  image_valid : (ps : List Sym) (ss : List Sort) → list_all (is_valid_sort sig) ss ≡ true → (v : SVar) → is_valid_sort sig (image (zip (map (λ p. Written p) ps) ss) v) ≡ true
  image_valid [] ss e v = valid-var sig v
  image_valid (p ∷ ps) [] e v = valid-var sig v
  image_valid (p ∷ ps) (s ∷ ss) e v = by (same_svar (Written p) v) (and_parts (is_valid_sort sig s) (list_all (is_valid_sort sig) ss) e) (λ h. image_valid ps ss h v)
    where
      by : (b : Bool) → (is_valid_sort sig s ≡ true) × (list_all (is_valid_sort sig) ss ≡ true) → (list_all (is_valid_sort sig) ss ≡ true → is_valid_sort sig (image (zip (map (λ q. Written q) ps) ss) v) ≡ true) → is_valid_sort sig (if b then s else image (zip (map (λ q. Written q) ps) ss) v) ≡ true
      by true h rest = h.0
      by false h rest = rest h.1

  result_valid : (f : Sym) (s : Symbol) (sorts : List Sort) → symbol_of sig f ≡ Some s → list_all (is_valid_sort sig) sorts ≡ true → is_valid_sort sig (result_sort (symbol_of sig f) sorts) ≡ true
  result_valid f s sorts e h =
      ap (λ (o : Option Symbol). is_valid_sort sig (result_sort o sorts)) e
      ∙ valid_under sig (image (zip (map (λ p. Written p) s.params) sorts)) (image_valid s.params sorts h) s.result (use_valid sig s.params s.result (symbol_good sig f s d.valid e).result_there)

  -- ---- variables
  sorted_good : (v : Variable) → is_readable_variable names v ≡ true → is_valid_sort sig v.sort ≡ true → Good (sorted_shape names v)
  sorted_good v e h seen =
      let a = sort_good v.sort h seen in
      let p = and_parts (is_variable_name (text_of names v.name)) (nat_lt v.index (10 ^ 18)) e in
      (a.0, λ few. let x = a.1 few in (x.0, (part-is (text_of names v.name) p.0, lt-is v.index (10 ^ 18) p.1, x.1)))

  occurrence_good : (binders : List Variable) (v : Variable) → is_readable_variable names v ≡ true → is_valid_sort sig v.sort ≡ true → Good (occurrence_shape names binders v)
  occurrence_good binders v e h = go (list_any (same_var v) binders)
    where
      go : (b : Bool) → Good (if b then bound_shape names v else sorted_shape names v)
      go true seen = let p = and_parts (is_variable_name (text_of names v.name)) (nat_lt v.index (10 ^ 18)) e in (omega arith, λ few. (tt, (part-is (text_of names v.name) p.0, lt-is v.index (10 ^ 18) p.1, tt)))
      go false seen = sorted_good v e h seen

  -- ---- terms
  ascribed_fine : (w : List ℕ) → IsPlainWord w → (t : Shapes) (s : SortShape) → PlainShapes t × LexicalShapes t → PlainSort s × LexicalSort s → PlainShape (ascribed w t s) × LexicalShape (ascribed w t s)
  ascribed_fine w e no_shapes s x y = ((e.1, y.0), (e.0, x.1, y.1))
  ascribed_fine w e (more_shapes t ts) s x y = ((plain_head e.1, x.0, y.0), (e.0, x.1, y.1))

  app_good : (b : Bool) (sort : Sort) → is_valid_sort sig sort ≡ true → (w : List ℕ) → IsPlainWord w → (fs : List Shaper) → AllByRecursion Good fs → Good (app_shape names b sort w fs)
  app_good true sort e w h fs all seen =
      let a = all_good fs all seen in
      let s = sort_good sort e (in_turn fs seen).1 in
      (omega (arith, a.0, s.0), λ few. ascribed_fine w h (in_turn fs seen).0 (sort_shape names sort (in_turn fs seen).1).0 (a.1 (omega (arith, s.0, few))) (s.1 few))
  app_good false sort e w h fs all seen = name_good w h fs all seen

  mutual
    term_good : (binders : List Variable) (t : Term) (s : Sort) → is_readable_term names t ≡ true → HasSort sig t s → Good (term_shape names sig binders t)
    term_good binders (var v) s e (HasSort.var_has valid same) = occurrence_good binders v e valid
    term_good binders (app f sorts args) s e (HasSort.app_has x found long valid have same) =
        app_good (leaves_unsaid (symbol_of sig f)) (result_sort (symbol_of sig f) sorts) (result_valid f x sorts found valid) (text_of names f) (name-is (text_of names f) (symbol-named names sig.symbols f x d.symbols found)) (terms_shapes names sig binders args) (terms_good binders args _ e have)

    terms_good : (binders : List Variable) (ts : Terms) (ss : List Sort) → are_readable_terms names ts ≡ true → HaveSorts sig ts ss → AllByRecursion Good (terms_shapes names sig binders ts)
    terms_good binders none ss e h = tt
    terms_good binders (more t ts) ss e (HaveSorts.more_has {s = s} {ss = others} x xs) = let p = and_parts (is_readable_term names t) (are_readable_terms names ts) e in (term_good binders t s p.0 x, terms_good binders ts others p.1 xs)

  -- ---- sentences
  pub sent_good : (binders : List Variable) (p : Sent) → has_readable_variables names p ≡ true → IsWellSorted sig p → Good (sent_shape names sig binders p)
  sent_good binders (atom t) e h = term_good binders t boolean e h
  sent_good binders (equal x y) e h =
      let p = and_parts (is_readable_term names x) (is_readable_term names y) e in
      sign_good (codes "=") (infix_head (λ n. refl)) (sign_text (codes "=") refl refl) (term_shape names sig binders x) (term_shape names sig binders y ∷ []) (term_good binders x h.0 p.0 h.1.0, (term_good binders y h.0 p.1 h.1.1, tt))
  sent_good binders (negated p) e h = sign_good (conn_text Not) (conn_head Not) (conn_word Not) (sent_shape names sig binders p) [] (sent_good binders p e h, tt)
  sent_good binders (joined c p q) e h =
      let r = and_parts (has_readable_variables names p) (has_readable_variables names q) e in
      sign_good (conn_text (conn_of c)) (conn_head (conn_of c)) (conn_word (conn_of c)) (sent_shape names sig binders p) (sent_shape names sig binders q ∷ []) (sent_good binders p r.0 h.0, (sent_good binders q r.1 h.1, tt))
  sent_good binders (bound k v p) e h =
      let r = and_parts (is_readable_variable names v) (has_readable_variables names p) e in
      sign_good (quant_text k) (quant_head k) (quant_word k) (sorted_shape names v) (sent_shape names sig (binders ++ v ∷ []) p ∷ []) (sorted_good v r.0 h.0, (sent_good (binders ++ v ∷ []) p r.1 h.1, tt))
