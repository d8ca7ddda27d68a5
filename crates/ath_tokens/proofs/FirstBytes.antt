-- The longest token, by its first byte.
use Rattle.std.proofs.Common.{◌≡◌, ℕ, zero, suc, ◌+◌, ◌-◌, ◌<◌, ◌≤◌, min, Bool, true, false, cond, ◌&&◌, not, List, [], ◌∷◌, length, take, drop, slice_index, Some, None, refl, sym, ap, ◌∙◌, arith, ◌==◌}
use Rattle.std.proofs.lemmas.List.{length-drop}
use Rattle.std.proofs.lemmas.List.Sums.{prefix_len-le-length}
use Rattle.std.specs.Char.{is_ascii_digit}
use Rattle.std.specs.List.{list_all, prefix_len}
use Rattle.ath_tokens.specs.declared.limits.TheConstants.{MOST_INDEX_DIGITS}
use Rattle.ath_tokens.specs.Bytes.{is_word_char, begins_part, is_at_part, is_punct}
use Rattle.ath_tokens.specs.Spelling.{word, var, sort_var, punct, becomes, is_part, goes_on_word, is_index, number, indexed, spells_var, spells_punct, spells}
use Rattle.ath_tokens.specs.Cut.{longest}
use Rattle.ath_tokens.specs.Scan.{word_more, is_at_zero, index_digits}
use Rattle.ath_tokens.proofs.Longest.{first-at, first-none}
use Rattle.ath_tokens.proofs.Scans.{and-false, all-front, all-longer, prefix_len-take, take-take-le, drop-take, at_part-take, word-front, word-longer, word_more-le, index-front, index-longer, index-zero, part-some, no_part-take}

pub if-true : {X : Type 0} (t : Bool) (x y : X) → t ≡ true → cond t x y ≡ x
if-true t x y e = ap (λ b. cond b x y) e

pub if-false : {X : Type 0} (t : Bool) (x y : X) → t ≡ false → cond t x y ≡ y
if-false t x y e = ap (λ b. cond b x y) e

-- a word
pub longest-word : (b : ℕ) (bs : List ℕ) → begins_part b ≡ true → longest (length (b ∷ bs)) (b ∷ bs) ≡ Some (suc (word_more bs), word (b ∷ take (word_more bs) bs))
longest-word b bs part =
    first-at b bs (λ xs. cond (goes_on_word xs) (Some (word (b ∷ xs))) None) (λ xs. if-true (begins_part b) _ _ part) (word_more bs) (word (b ∷ take (word_more bs) bs)) (word_more-le bs)
    (if-true (goes_on_word (take (word_more bs) bs)) _ _ (word-front bs))
    (λ m longer within. if-false (goes_on_word (take m bs)) _ _ (word-longer bs m longer within))

-- a sort variable
pub longest-sort_var : (bs : List ℕ) → is_at_part bs ≡ true → longest (length (39 ∷ bs)) (39 ∷ bs) ≡ Some (suc (prefix_len is_word_char bs), sort_var (take (prefix_len is_word_char bs) bs))
longest-sort_var bs part =
    let n = prefix_len is_word_char bs in
    first-at 39 bs (λ xs. cond (is_part xs) (Some (sort_var xs)) None) (λ xs. refl) n (sort_var (take n bs)) (prefix_len-le-length is_word_char bs)
    (if-true (is_part (take n bs)) _ _ (λ i. (at_part-take n bs (part-some bs part) ∙ part) i && all-front is_word_char bs i))
    (λ m longer within. if-false (is_part (take m bs)) _ _ (ap (λ t. is_at_part (take m bs) && t) (all-longer is_word_char bs m longer within) ∙ and-false (is_at_part (take m bs))))

pub longest-no_sort_var : (bs : List ℕ) → is_at_part bs ≡ false → longest (length (39 ∷ bs)) (39 ∷ bs) ≡ None
longest-no_sort_var bs part = first-none 39 bs (λ xs. cond (is_part xs) (Some (sort_var xs)) None) (λ xs. refl) (λ m within. if-false (is_part (take m bs)) _ _ (ap (λ t. t && list_all is_word_char (take m bs)) (no_part-take m bs part)))

-- `%` and an index after a variable's name, or nothing
indexed-none : (name r : List ℕ) (j : ℕ) → index_digits r ≡ 0 → 0 < j → j ≤ length r → indexed name (take j r) ≡ None
indexed-none name r zero e some le = absurd (omega arith)
indexed-none name [] (suc j) e some le = absurd (omega arith)
indexed-none name (c ∷ ds) (suc j) e some le = if-false (c == 37 && is_index (take j ds)) _ _ (by (c == 37) refl (is_at_zero ds) refl)
  where
    by : (t : Bool) → (c == 37) ≡ t → (z : Bool) → is_at_zero ds ≡ z → (c == 37 && is_index (take j ds)) ≡ false
    by false f z g = ap (λ t. t && is_index (take j ds)) f
    by true f true g = ap (λ t. c == 37 && t) (index-zero ds j g) ∙ and-false (c == 37)
    by true f false g = ap (λ t. c == 37 && t) (no j le) ∙ and-false (c == 37)
      where
        nothing : min MOST_INDEX_DIGITS (prefix_len is_ascii_digit ds) ≡ 0
        nothing = sym (if-true (c == 37 && not (is_at_zero ds)) (min MOST_INDEX_DIGITS (prefix_len is_ascii_digit ds)) 0 (λ i. f i && not (g i))) ∙ e

        no : (k : ℕ) → suc k ≤ length (c ∷ ds) → is_index (take k ds) ≡ false
        no zero h = refl
        no (suc k) h = index-longer ds (suc k) (omega (arith, nothing)) (omega arith)

-- what an index of some digits shows of its text
pub record HasIndex (r : List ℕ) : Type 0 where
  pub first : ℕ
  pub digits : List ℕ
  pub is : r ≡ first ∷ digits
  pub percent : (first == 37) ≡ true
  pub no_zero : is_at_zero digits ≡ false
  pub count : index_digits r ≡ min MOST_INDEX_DIGITS (prefix_len is_ascii_digit digits)

pub has_index : (r : List ℕ) → 0 < index_digits r → HasIndex r
has_index [] h = absurd (omega arith)
has_index (c ∷ ds) h = by (c == 37) refl (is_at_zero ds) refl
  where
    by : (t : Bool) → (c == 37) ≡ t → (z : Bool) → is_at_zero ds ≡ z → HasIndex (c ∷ ds)
    by true f false g = record { first = c; digits = ds; is = refl; percent = f; no_zero = g; count = if-true (c == 37 && not (is_at_zero ds)) _ _ (λ i. f i && not (g i)) }
    by true f true g = absurd (omega (arith, if-false (c == 37 && not (is_at_zero ds)) (min MOST_INDEX_DIGITS (prefix_len is_ascii_digit ds)) 0 (λ i. f i && not (g i))))
    by false f z g = absurd (omega (arith, if-false (c == 37 && not (is_at_zero ds)) (min MOST_INDEX_DIGITS (prefix_len is_ascii_digit ds)) 0 (ap (λ t. t && not (is_at_zero ds)) f)))

module _ (bs : List ℕ) (part : is_at_part bs ≡ true) where
  abbrev name_end : ℕ
  name_end = prefix_len is_word_char bs

  abbrev name : List ℕ
  name = take name_end bs

  -- a longer front has the same name, and then what comes after it
  var-front : (j : ℕ) → spells_var (take (name_end + j) bs) ≡ indexed name (take j (drop name_end bs))
  var-front j =
      let m = name_end + j in
      let same = prefix_len-take is_word_char bs m (omega arith) in
      if-true (is_at_part (take m bs)) _ _ (at_part-take m bs (omega (arith, part-some bs part)) ∙ part)
      ∙ (λ i. indexed (take (same i) (take m bs)) (drop (same i) (take m bs)))
      ∙ (λ i. indexed (take-take-le name_end m bs (omega arith) i) (drop-take name_end j bs i))

  -- a front as far as the name, or past it
  var-longer : (m : ℕ) → name_end < m → m ≤ length bs → (j : ℕ) → m ≡ name_end + j → (0 < j) × (j ≤ length (drop name_end bs)) × (spells_var (take m bs) ≡ indexed name (take j (drop name_end bs)))
  var-longer m a c j e = (omega arith, omega (arith, length-drop name_end bs), ap (λ k. spells_var (take k bs)) e ∙ var-front j)

  pub longest-var : index_digits (drop name_end bs) ≡ 0 → longest (length (63 ∷ bs)) (63 ∷ bs) ≡ Some (suc name_end, var name 0)
  longest-var none =
      first-at 63 bs spells_var (λ xs. refl) name_end (var name 0) (prefix_len-le-length is_word_char bs)
      (let zero_more : name_end ≡ name_end + 0 = omega arith in ap (λ k. spells_var (take k bs)) zero_more ∙ var-front 0)
      (λ m a c. let l = var-longer m a c (m - name_end) (omega arith) in l.2 ∙ indexed-none name (drop name_end bs) (m - name_end) none l.0 l.1)

  module _ (h : HasIndex (drop name_end bs)) (some : 0 < index_digits (drop name_end bs)) where
    abbrev count : ℕ
    count = index_digits (drop name_end bs)

    count-le : count ≤ prefix_len is_ascii_digit h.digits
    count-le = omega (arith, h.count)

    indexed-is : (j : ℕ) → indexed name (take (suc j) (drop name_end bs)) ≡ cond (h.first == 37 && is_index (take j h.digits)) (Some (var name (number (take j h.digits)))) None
    indexed-is j = ap (λ r. indexed name (take (suc j) r)) h.is

    pub longest-var_index : longest (length (63 ∷ bs)) (63 ∷ bs) ≡ Some (suc (name_end + suc count), var name (number (take count h.digits)))
    longest-var_index =
        first-at 63 bs spells_var (λ xs. refl) (name_end + suc count) (var name (number (take count h.digits)))
        (omega (arith, count-le, prefix_len-le-length is_ascii_digit h.digits, ap length h.is, length-drop name_end bs, prefix_len-le-length is_word_char bs))
        (var-front (suc count) ∙ indexed-is count ∙ if-true (h.first == 37 && is_index (take count h.digits)) _ _
        (λ i. h.percent i && index-front h.digits count h.no_zero some (omega (arith, h.count)) count-le i))
        (λ m a c. longer m c (m - (name_end + 1)) (omega arith) (omega arith))
      where
        longer : (m : ℕ) → m ≤ length bs → (j : ℕ) → m ≡ name_end + suc j → count < j → spells_var (take m bs) ≡ None
        longer m c j e more =
            ap (λ k. spells_var (take k bs)) e ∙ var-front (suc j) ∙ indexed-is j ∙ if-false (h.first == 37 && is_index (take j h.digits)) _ _
            (ap (λ t. h.first == 37 && t) (index-longer h.digits j (omega (arith, h.count)) (omega (arith, ap length h.is, length-drop name_end bs))) ∙ and-false (h.first == 37))

pub longest-no_var_part : (bs : List ℕ) → is_at_part bs ≡ false → longest (length (63 ∷ bs)) (63 ∷ bs) ≡ None
longest-no_var_part bs part = first-none 63 bs spells_var (λ xs. refl) (λ m within. if-false (is_at_part (take m bs)) _ _ (no_part-take m bs part))

-- a mark
module _ (b : ℕ) (bs : List ℕ) (no_part : begins_part b ≡ false) (no_var : (b == 63) ≡ false) (no_sort : (b == 39) ≡ false) (no_str : (b == 34) ≡ false) where
  other : (xs : List ℕ) → spells (b ∷ xs) ≡ cond (is_punct b) (spells_punct b xs) None
  other xs = if-false (begins_part b) _ _ no_part ∙ if-false (b == 63) _ _ no_var ∙ if-false (b == 39) _ _ no_sort ∙ if-false (b == 34) _ _ no_str

  pub longest-punct : is_punct b ≡ true → (b == 58 && (slice_index bs 0 == 61)) ≡ false → longest (length (b ∷ bs)) (b ∷ bs) ≡ Some (1, punct b)
  longest-punct mark apart = first-at b bs (spells_punct b) (λ xs. other xs ∙ if-true (is_punct b) _ _ mark) 0 (punct b) (omega arith) refl (longer bs apart)
    where
      longer : (cs : List ℕ) → (b == 58 && (slice_index cs 0 == 61)) ≡ false → (m : ℕ) → 0 < m → m ≤ length cs → spells_punct b (take m cs) ≡ None
      longer cs e zero h le = absurd (omega arith)
      longer [] e (suc m) h le = absurd (omega arith)
      longer (c ∷ cs) e (suc zero) h le = if-false (b == 58 && c == 61) _ _ e
      longer (c ∷ []) e (suc (suc m)) h le = absurd (omega arith)
      longer (c ∷ d ∷ cs) e (suc (suc m)) h le = refl

  pub longest-nothing : is_punct b ≡ false → longest (length (b ∷ bs)) (b ∷ bs) ≡ None
  longest-nothing mark = first-none b bs (λ xs. None) (λ xs. other xs ∙ if-false (is_punct b) _ _ mark) (λ m within. refl)

pub longest-becomes : (cs : List ℕ) → longest (length (58 ∷ 61 ∷ cs)) (58 ∷ 61 ∷ cs) ≡ Some (2, becomes)
longest-becomes cs = first-at 58 (61 ∷ cs) (spells_punct 58) (λ xs. refl) 1 becomes (omega arith) refl (longer cs)
  where
    longer : (ds : List ℕ) (m : ℕ) → 1 < m → m ≤ length (61 ∷ ds) → spells_punct 58 (take m (61 ∷ ds)) ≡ None
    longer ds zero h le = absurd (omega arith)
    longer ds (suc zero) h le = absurd (omega arith)
    longer [] (suc (suc m)) h le = absurd (omega arith)
    longer (d ∷ ds) (suc (suc m)) h le = refl
