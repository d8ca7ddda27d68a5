-- How words, parts and indices end where they are cut.
use Rattle.std.proofs.Common.{◌≡◌, ℕ, zero, suc, ◌+◌, ◌<◌, ◌≤◌, min, Bool, true, false, cond, ◌&&◌, ◌||◌, not, List, [], ◌∷◌, length, take, drop, refl, sym, ap, ◌∙◌, true≢false, ⊎_elim, arith, nat_lt, ◌==◌, get_or}
use Rattle.std.proofs.Math.Seq.{drop-cons}
use Rattle.std.proofs.lemmas.List.{length-take}
use Rattle.std.proofs.lemmas.Bool.{and_parts, lt-ltb, le-ltb, cases_lt}
use Rattle.std.specs.Char.{is_ascii_digit}
use Rattle.std.specs.List.{list_all, prefix_len}
use Rattle.ath_tokens.specs.declared.limits.TheConstants.{MOST_INDEX_DIGITS}
use Rattle.ath_tokens.specs.Bytes.{is_word_char, begins_part, is_at_part}
use Rattle.ath_tokens.specs.Spelling.{goes_on_word, is_index}
use Rattle.ath_tokens.specs.Scan.{goes_on, word_more, is_at_zero}

pub and-false : (t : Bool) → (t && false) ≡ false
and-false true = refl
and-false false = refl

or_left : (x y : Bool) → (x || y) ≡ false → x ≡ false
or_left true y e = e
or_left false y e = refl

or_first : (x y : Bool) → (x || y) ≡ true → y ≡ false → x ≡ true
or_first true y e f = refl
or_first false y e f = absurd (true≢false (sym e ∙ f))

module _ (p : ℕ → Bool) where
  pub prefix-true : (b : ℕ) (bs : List ℕ) → p b ≡ true → prefix_len p (b ∷ bs) ≡ suc (prefix_len p bs)
  prefix-true b bs e = let one : 1 + prefix_len p bs ≡ suc (prefix_len p bs) = omega arith in ap (λ t. cond t (1 + prefix_len p bs) 0) e ∙ one

  prefix-false : (b : ℕ) (bs : List ℕ) → p b ≡ false → prefix_len p (b ∷ bs) ≡ 0
  prefix-false b bs e = ap (λ t. cond t (1 + prefix_len p bs) 0) e

  pub all-front : (bs : List ℕ) → list_all p (take (prefix_len p bs) bs) ≡ true
  all-front [] = refl
  all-front (b ∷ bs) = by (p b) refl (all-front bs)
    where
      by : (t : Bool) → p b ≡ t → list_all p (take (prefix_len p bs) bs) ≡ true → list_all p (take (prefix_len p (b ∷ bs)) (b ∷ bs)) ≡ true
      by true e rest = ap (λ n. list_all p (take n (b ∷ bs))) (prefix-true b bs e) ∙ ap (λ t. t && list_all p (take (prefix_len p bs) bs)) e ∙ rest
      by false e rest = ap (λ n. list_all p (take n (b ∷ bs))) (prefix-false b bs e)

  pub all-longer : (bs : List ℕ) (m : ℕ) → prefix_len p bs < m → m ≤ length bs → list_all p (take m bs) ≡ false
  all-longer [] m a b = absurd (omega arith)
  all-longer (b ∷ bs) zero a c = absurd (omega arith)
  all-longer (b ∷ bs) (suc m) a c = by (p b) refl (all-longer bs m)
    where
      by : (t : Bool) → p b ≡ t → (prefix_len p bs < m → m ≤ length bs → list_all p (take m bs) ≡ false) → list_all p (take (suc m) (b ∷ bs)) ≡ false
      by true e rest = ap (λ t. p b && t) (rest (omega (arith, prefix-true b bs e)) (omega arith)) ∙ and-false (p b)
      by false e rest = ap (λ t. t && list_all p (take m bs)) e

  pub prefix_len-take : (bs : List ℕ) (m : ℕ) → prefix_len p bs ≤ m → prefix_len p (take m bs) ≡ prefix_len p bs
  prefix_len-take [] zero a = refl
  prefix_len-take [] (suc m) a = refl
  prefix_len-take (b ∷ bs) zero a = by (p b) refl
    where
      by : (t : Bool) → p b ≡ t → 0 ≡ prefix_len p (b ∷ bs)
      by true e = absurd (omega (arith, prefix-true b bs e))
      by false e = sym (prefix-false b bs e)
  prefix_len-take (b ∷ bs) (suc m) a = by (p b) refl (prefix_len-take bs m)
    where
      by : (t : Bool) → p b ≡ t → (prefix_len p bs ≤ m → prefix_len p (take m bs) ≡ prefix_len p bs) → prefix_len p (take (suc m) (b ∷ bs)) ≡ prefix_len p (b ∷ bs)
      by true e rest = ap (λ n. cond (p b) (1 + n) 0) (rest (omega (arith, prefix-true b bs e)))
      by false e rest = prefix-false b (take m bs) e ∙ sym (prefix-false b bs e)

  pub all-within : (bs : List ℕ) (n : ℕ) → n ≤ prefix_len p bs → list_all p (take n bs) ≡ true
  all-within bs zero h = refl
  all-within [] (suc n) h = refl
  all-within (b ∷ bs) (suc n) h = by (p b) refl (all-within bs n)
    where
      by : (t : Bool) → p b ≡ t → (n ≤ prefix_len p bs → list_all p (take n bs) ≡ true) → list_all p (take (suc n) (b ∷ bs)) ≡ true
      by true e rest = ap (λ t. t && list_all p (take n bs)) e ∙ rest (omega (arith, prefix-true b bs e))
      by false e rest = absurd (omega (arith, prefix-false b bs e))

-- a longer front of a text begins with the shorter
pub take-take-le : (n m : ℕ) (bs : List ℕ) → n ≤ m → take n (take m bs) ≡ take n bs
take-take-le zero m bs h = refl
take-take-le (suc n) zero bs h = absurd (omega arith)
take-take-le (suc n) (suc m) [] h = refl
take-take-le (suc n) (suc m) (b ∷ bs) h = ap (λ xs. b ∷ xs) (take-take-le n m bs (omega arith))

pub drop-take : (n m : ℕ) (bs : List ℕ) → drop n (take (n + m) bs) ≡ take m (drop n bs)
drop-take zero m bs = let e : 0 + m ≡ m = omega arith in ap (λ k. take k bs) e
drop-take (suc n) m [] = let e : suc n + m ≡ suc (n + m) = omega arith in ap (λ k. drop (suc n) (take k [])) e ∙ sym (nothing m)
  where
    nothing : (k : ℕ) → take {A = ℕ} k (drop {A = ℕ} (suc n) []) ≡ []
    nothing zero = refl
    nothing (suc k) = refl
drop-take (suc n) m (b ∷ bs) = let e : suc n + m ≡ suc (n + m) = omega arith in ap (λ k. drop (suc n) (take k (b ∷ bs))) e ∙ drop-take n m bs

-- a front that isn't empty begins a part as the text does
pub at_part-take : (m : ℕ) (bs : List ℕ) → 0 < m → is_at_part (take m bs) ≡ is_at_part bs
at_part-take zero bs h = absurd (omega arith)
at_part-take (suc m) [] h = refl
at_part-take (suc m) (b ∷ bs) h = refl

more-true : (b : ℕ) (bs : List ℕ) → goes_on (b ∷ bs) ≡ true → word_more (b ∷ bs) ≡ suc (word_more bs)
more-true b bs e = let one : 1 + word_more bs ≡ suc (word_more bs) = omega arith in ap (λ t. cond t (1 + word_more bs) 0) e ∙ one

more-false : (b : ℕ) (bs : List ℕ) → goes_on (b ∷ bs) ≡ false → word_more (b ∷ bs) ≡ 0
more-false b bs e = ap (λ t. cond t (1 + word_more bs) 0) e

-- the next byte alone shows whether a word goes on past a cut
goes_on-take : (b : ℕ) (bs : List ℕ) → goes_on (b ∷ bs) ≡ true → goes_on (b ∷ take (word_more bs) bs) ≡ true
goes_on-take b [] e = e
goes_on-take b (c ∷ cs) e = by (goes_on (c ∷ cs)) refl
  where
    by : (t : Bool) → goes_on (c ∷ cs) ≡ t → goes_on (b ∷ take (word_more (c ∷ cs)) (c ∷ cs)) ≡ true
    by true f = ap (λ n. goes_on (b ∷ take n (c ∷ cs))) (more-true c cs f) ∙ e
    by false f =
        let no_word = or_left (is_word_char c) _ f in
        let no_part : begins_part c ≡ false = ap (λ t. t && not (c == 39 || c == 63)) no_word in
        let word_b = or_first (is_word_char b) (b == 46 && begins_part c) e (ap (λ t. b == 46 && t) no_part ∙ and-false (b == 46)) in
        ap (λ t. t || (b == 46 && is_at_part (take (word_more (c ∷ cs)) (c ∷ cs)))) word_b

goes_on-shorter : (b : ℕ) (bs : List ℕ) (m : ℕ) → goes_on (b ∷ bs) ≡ false → goes_on (b ∷ take m bs) ≡ false
goes_on-shorter b [] zero e = e
goes_on-shorter b [] (suc m) e = e
goes_on-shorter b (c ∷ cs) zero e = ap (λ t. t || (b == 46 && false)) (or_left (is_word_char b) _ e) ∙ and-false (b == 46)
goes_on-shorter b (c ∷ cs) (suc m) e = e

pub word-front : (bs : List ℕ) → goes_on_word (take (word_more bs) bs) ≡ true
word-front [] = refl
word-front (b ∷ bs) = by (goes_on (b ∷ bs)) refl (word-front bs)
  where
    by : (t : Bool) → goes_on (b ∷ bs) ≡ t → goes_on_word (take (word_more bs) bs) ≡ true → goes_on_word (take (word_more (b ∷ bs)) (b ∷ bs)) ≡ true
    by true e rest = ap (λ n. goes_on_word (take n (b ∷ bs))) (more-true b bs e) ∙ ap (λ t. t && goes_on_word (take (word_more bs) bs)) (goes_on-take b bs e) ∙ rest
    by false e rest = ap (λ n. goes_on_word (take n (b ∷ bs))) (more-false b bs e)

pub word-longer : (bs : List ℕ) (m : ℕ) → word_more bs < m → m ≤ length bs → goes_on_word (take m bs) ≡ false
word-longer [] m a c = absurd (omega arith)
word-longer (b ∷ bs) zero a c = absurd (omega arith)
word-longer (b ∷ bs) (suc m) a c = by (goes_on (b ∷ bs)) refl (word-longer bs m)
  where
    by : (t : Bool) → goes_on (b ∷ bs) ≡ t → (word_more bs < m → m ≤ length bs → goes_on_word (take m bs) ≡ false) → goes_on_word (take (suc m) (b ∷ bs)) ≡ false
    by true e rest = ap (λ t. goes_on (b ∷ take m bs) && t) (rest (omega (arith, more-true b bs e)) (omega arith)) ∙ and-false (goes_on (b ∷ take m bs))
    by false e rest = ap (λ t. t && goes_on_word (take m bs)) (goes_on-shorter b bs m e)

pub word_more-le : (bs : List ℕ) → word_more bs ≤ length bs
word_more-le [] = omega arith
word_more-le (b ∷ bs) = by (goes_on (b ∷ bs)) refl (word_more-le bs)
  where
    by : (t : Bool) → goes_on (b ∷ bs) ≡ t → word_more bs ≤ length bs → word_more (b ∷ bs) ≤ length (b ∷ bs)
    by true e rest = omega (arith, more-true b bs e)
    by false e rest = omega (arith, more-false b bs e)

-- the digits of an index
pub index-front : (ds : List ℕ) (k : ℕ) → is_at_zero ds ≡ false → 0 < k → k ≤ MOST_INDEX_DIGITS → k ≤ prefix_len is_ascii_digit ds → is_index (take k ds) ≡ true
index-front [] k z some short h = absurd (omega arith)
index-front (d ∷ ds) zero z some short h = absurd (omega arith)
index-front (d ∷ ds) (suc k) z some short h =
    let digits = all-within is_ascii_digit (d ∷ ds) (suc k) h in
    let len : length (take k ds) < MOST_INDEX_DIGITS = omega (arith, length-take {A = ℕ}) in
    λ i. not (z i) && digits i && lt-ltb (length (take k ds)) MOST_INDEX_DIGITS len i

pub index-longer : (ds : List ℕ) (j : ℕ) → min MOST_INDEX_DIGITS (prefix_len is_ascii_digit ds) < j → j ≤ length ds → is_index (take j ds) ≡ false
index-longer ds zero h le = absurd (omega arith)
index-longer [] (suc j) h le = absurd (omega arith)
index-longer (d ∷ ds) (suc j) h le = ⊎_elim
    (λ more.
    let digits = all-longer is_ascii_digit (d ∷ ds) (suc j) more le in
    ap (λ t. not (d == 48) && t && nat_lt (length (take j ds)) MOST_INDEX_DIGITS) digits ∙ ap (λ t. t && nat_lt (length (take j ds)) MOST_INDEX_DIGITS) (and-false (not (d == 48))))
    (λ digits.
    let len : MOST_INDEX_DIGITS ≤ length (take j ds) = omega (arith, length-take {A = ℕ}) in
    ap (λ t. not (d == 48) && list_all is_ascii_digit (take (suc j) (d ∷ ds)) && t) (le-ltb (length (take j ds)) MOST_INDEX_DIGITS len) ∙ and-false (not (d == 48) && list_all is_ascii_digit (take (suc j) (d ∷ ds))))
    (cases_lt (prefix_len is_ascii_digit (d ∷ ds)) (suc j))

pub index-zero : (ds : List ℕ) (j : ℕ) → is_at_zero ds ≡ true → is_index (take j ds) ≡ false
index-zero ds zero z = refl
index-zero [] (suc j) z = refl
index-zero (d ∷ ds) (suc j) z = ap (λ t. not t && list_all is_ascii_digit (take (suc j) (d ∷ ds)) && nat_lt (length (take j ds)) MOST_INDEX_DIGITS) z

-- a part has a word character at least
pub part-some : (bs : List ℕ) → is_at_part bs ≡ true → 0 < prefix_len is_word_char bs
part-some [] e = absurd (true≢false (sym e))
part-some (b ∷ bs) e = omega (arith, prefix-true is_word_char b bs (and_parts (is_word_char b) _ e).0)

pub no_part-take : (m : ℕ) (bs : List ℕ) → is_at_part bs ≡ false → is_at_part (take m bs) ≡ false
no_part-take zero bs e = refl
no_part-take (suc m) [] e = refl
no_part-take (suc m) (b ∷ bs) e = e

-- one more byte of a word
pub word-step : (rest : List ℕ) (at w : ℕ) → at < length rest → goes_on (drop at rest) ≡ true → w ≡ at + word_more (drop at rest) → (at + 1 ≤ length rest) × (w ≡ at + 1 + word_more (drop (at + 1) rest))
word-step rest at w within on e =
    let next : at + 1 ≡ suc at = omega arith in
    let cons = drop-cons rest at 0 within in
    let more = more-true (get_or rest at 0) (drop (suc at) rest) (sym (ap goes_on cons) ∙ on) in
    let here = ap word_more cons in
    let there = ap (λ k. word_more (drop k rest)) next in
    (omega arith, omega (arith, e, here, more, there))
