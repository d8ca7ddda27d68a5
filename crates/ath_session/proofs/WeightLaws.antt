-- How much of a run is left falls at each step, and texts that are open are going.
use Rattle.std.proofs.Common.{◌≡◌, ◌⊎◌, inl, inr, ℕ, suc, ◌+◌, ◌-◌, ◌*◌, ◌^◌, ◌<◌, ◌≤◌, List, [], ◌∷◌, length, reverse, refl, sym, ◌∙◌, ap, subst, arith}
use Rattle.std.proofs.lemmas.List.{length-reverse}
use Rattle.std.proofs.lemmas.List.Elements.{All-cons, All-same}
use Rattle.std.proofs.Math.Nat.{pow-succ', one-le-pow, mul-le-mul_right, suc-mul}
use Rattle.ath_reader.specs.Reading.{Reading, reached}
use Rattle.ath_reader.specs.declared.limits.TheConstants.{MOST_BYTES}
use Rattle.ath_session.specs.Run.{Configuration, reading_of}
use Rattle.ath_session.specs.Steps.{IsGoing, AreGoing, Opens, whole_text, bytes_left, open_weight, weight}

below_product : (k p q n : ℕ) → 1 ≤ p → n < k → q ≡ k * p → n * p < q
below_product k p q n h less is =
    let le : suc n * p ≤ k * p = mul-le-mul_right p less in
    let next : suc n * p ≡ n * p + p = suc-mul n p in
    let le : n * p + p ≤ q = subst (λ (x : ℕ). x ≤ q) next (subst (λ (x : ℕ). suc n * p ≤ x) (sym is) le) in
    omega arith

-- a text of less than a whole one counts less than a byte of the one that it stands in
below_power : (k m e n : ℕ) → n < k → e ≡ suc m → n * k ^ m < k ^ e
below_power k m e n less is = below_product k (k ^ m) (k ^ e) n (one-le-pow m k (omega arith)) less (ap (λ (j : ℕ). k ^ j) is ∙ pow-succ' k m)

more : (x a b : ℕ) → a < b → x + a < x + b
more x a b h = omega arith

less_product : (a b q n rest : ℕ) → a < b → n < q → n + (a * q + rest) < b * q + rest
less_product a b q n rest h less =
    let le : suc a * q ≤ b * q = mul-le-mul_right q h in
    let le : a * q + q ≤ b * q = subst (λ (x : ℕ). x ≤ b * q) (suc-mul a q) le in
    omega arith

same_product : (a b q rest : ℕ) → a < b → 1 ≤ q → a * q + rest < b * q + rest
same_product a b q rest h one =
    let le : suc a * q ≤ b * q = mul-le-mul_right q h in
    let le : a * q + q ≤ b * q = subst (λ (x : ℕ). x ≤ b * q) (suc-mul a q) le in
    omega arith

counts : (b q rest : ℕ) → 1 ≤ b → 1 ≤ q → rest < b * q + rest
counts b q rest h one =
    let le : 1 * q ≤ b * q = mul-le-mul_right q h in
    let is : 1 * q ≡ 0 * q + q = suc-mul 0 q in
    omega arith

weight_is : (c d : Configuration) (stack : List Reading) → d.waiting ≡ c.waiting → d.stack ≡ stack → weight d ≡ length c.waiting * whole_text ^ 18 + open_weight stack
weight_is c d stack e f = ap (λ (names : List (List ℕ)). length names * whole_text ^ 18 + open_weight d.stack) e ∙ ap (λ (rs : List Reading). length c.waiting * whole_text ^ 18 + open_weight rs) f

some_power : (n : ℕ) → 1 ≤ whole_text ^ n
some_power n = one-le-pow n whole_text (omega arith)

-- a text that is open is read on up to another byte, or isn't open any more
module _ (c d : Configuration) (r : Reading) (from : ℕ) (at : r.progress ≡ reached from) where
  old_left : bytes_left r r.progress ≡ 1 + (length r.text - from)
  old_left = ap (bytes_left r) at

  old : ℕ
  old = bytes_left r r.progress * whole_text ^ (17 - length c.stack) + open_weight c.stack

  falls_to : (stack : List Reading) → d.waiting ≡ c.waiting → d.stack ≡ stack → open_weight stack < bytes_left r r.progress * whole_text ^ (17 - length c.stack) + open_weight c.stack → weight d < weight (record c { stack = r ∷ c.stack })
  falls_to stack e f h = subst (λ (w : ℕ). w < weight (record c { stack = r ∷ c.stack })) (sym (weight_is c d stack e f)) (more (length c.waiting * whole_text ^ 18) (open_weight stack) _ h)

  pub popped_falls : d.waiting ≡ c.waiting → d.stack ≡ c.stack → weight d < weight (record c { stack = r ∷ c.stack })
  popped_falls e f = falls_to c.stack e f (counts (bytes_left r r.progress) (whole_text ^ (17 - length c.stack)) (open_weight c.stack) (subst (λ (x : ℕ). 1 ≤ x) (sym old_left) (omega arith)) (some_power (17 - length c.stack)))

  module _ (to : ℕ) (on : from < to) (within : to ≤ length r.text) (deep : length c.stack ≤ 16) where
    less_left : 1 + (length r.text - to) < bytes_left r r.progress
    less_left = subst (λ (x : ℕ). 1 + (length r.text - to) < x) (sym old_left) (omega arith)

    read_falls : d.waiting ≡ c.waiting → d.stack ≡ record r { progress = reached to } ∷ c.stack → weight d < weight (record c { stack = r ∷ c.stack })
    read_falls e f = falls_to (record r { progress = reached to } ∷ c.stack) e f (same_product (1 + (length r.text - to)) (bytes_left r r.progress) (whole_text ^ (17 - length c.stack)) (open_weight c.stack) less_left (some_power (17 - length c.stack)))

    load_falls : (file : ℕ) (text : List ℕ) → length text ≤ MOST_BYTES → d.waiting ≡ c.waiting → d.stack ≡ reading_of file text ∷ record r { progress = reached to } ∷ c.stack → weight d < weight (record c { stack = r ∷ c.stack })
    load_falls file text fits e f =
        falls_to (reading_of file text ∷ record r { progress = reached to } ∷ c.stack) e f
        (less_product (1 + (length r.text - to)) (bytes_left r r.progress) (whole_text ^ (17 - length c.stack)) ((1 + (length text - 0)) * whole_text ^ (17 - suc (length c.stack))) (open_weight c.stack) less_left
        (below_power whole_text (17 - suc (length c.stack)) (17 - length c.stack) (1 + (length text - 0)) (omega arith) (omega arith)))

    opened_falls : (mid : Configuration) → mid.waiting ≡ c.waiting → mid.stack ≡ record r { progress = reached to } ∷ c.stack → d.waiting ≡ mid.waiting → ((d.stack ≡ mid.stack) ⊎ ((file : ℕ) × (text : List ℕ) × ((length text ≤ MOST_BYTES) × (d.stack ≡ reading_of file text ∷ mid.stack)))) → weight d < weight (record c { stack = r ∷ c.stack })
    opened_falls mid e f same (inl h) = read_falls (same ∙ e) (h ∙ f)
    opened_falls mid e f same (inr (file, text, (fits, h))) = load_falls file text fits (same ∙ e) (h ∙ ap (λ (rs : List Reading). reading_of file text ∷ rs) f)

    -- a text was read on, and perhaps another is open in it
    pub text_falls : (mid : Configuration) → mid.waiting ≡ c.waiting → mid.stack ≡ record r { progress = reached to } ∷ c.stack → Opens mid d → weight d < weight (record c { stack = r ∷ c.stack })
    text_falls mid e f opens = opened_falls mid e f opens.0 opens.1

-- a file of the command line is open, or isn't
module _ (c d : Configuration) (name : List ℕ) (names : List (List ℕ)) (waits : c.waiting ≡ name ∷ names) (empty : c.stack ≡ []) where
  file_counts : (w n y : ℕ) → n < y → w * y + n < suc w * y
  file_counts w n y h = subst (λ (z : ℕ). w * y + n < z) (sym (suc-mul w y)) (omega arith)

  now_left : weight c ≡ suc (length names) * whole_text ^ 18 + open_weight []
  now_left = weight_is (record c { waiting = name ∷ names }) c [] waits empty

  with_none : (y x : ℕ) → x < y → x < y + 0
  with_none y x h = omega arith

  file_goes : (stack : List Reading) → d.waiting ≡ names → d.stack ≡ stack → open_weight stack < whole_text ^ 18 → weight d < weight c
  file_goes stack e f h =
      subst (λ (w : ℕ). w < weight c) (sym (weight_is (record c { waiting = names }) d stack e f))
      (subst (λ (w : ℕ). length names * whole_text ^ 18 + open_weight stack < w) (sym now_left)
      (with_none (suc (length names) * whole_text ^ 18) _ (file_counts (length names) (open_weight stack) (whole_text ^ 18) h)))

  one_text : (file : ℕ) (text : List ℕ) → length text ≤ MOST_BYTES → open_weight (reading_of file text ∷ []) < whole_text ^ 18
  one_text file text fits = with_rest _ _ (below_power whole_text 17 18 (1 + (length text - 0)) (omega arith) refl)
    where
      with_rest : (x y : ℕ) → x < y → x + 0 < y
      with_rest x y h = omega arith

  opened_file : d.waiting ≡ names → (d.stack ≡ c.stack) ⊎ ((file : ℕ) × (text : List ℕ) × ((length text ≤ MOST_BYTES) × (d.stack ≡ reading_of file text ∷ c.stack))) → weight d < weight c
  opened_file e (inl h) = file_goes [] e (h ∙ empty) (some_power 18)
  opened_file e (inr (file, text, (fits, h))) = file_goes (reading_of file text ∷ []) e (h ∙ ap (λ (rs : List Reading). reading_of file text ∷ rs) empty) (one_text file text fits)

  pub file_falls : Opens (record c { waiting = names }) d → weight d < weight c
  file_falls opens = opened_file opens.0 opens.1

-- where texts are going, so are these and one that is opened
goes_from : (file : ℕ) (text : List ℕ) → IsGoing (reading_of file text)
goes_from file text = (0, (refl, omega arith))

opened_goes : (c d : Configuration) → AreGoing c → (d.stack ≡ c.stack) ⊎ ((file : ℕ) × (text : List ℕ) × ((length text ≤ MOST_BYTES) × (d.stack ≡ reading_of file text ∷ c.stack))) → AreGoing d
opened_goes c d h (inl e) = All-same IsGoing d.stack c.stack e h
opened_goes c d h (inr (file, text, (fits, e))) = All-same IsGoing d.stack (reading_of file text ∷ c.stack) e (All-cons IsGoing (reading_of file text) c.stack (goes_from file text) h)

pub opens_going : (c d : Configuration) → Opens c d → AreGoing c → AreGoing d
opens_going c d opens h = opened_goes c d h opens.1

-- at most one text more is open
opened_length : (c d : Configuration) → (d.stack ≡ c.stack) ⊎ ((file : ℕ) × (text : List ℕ) × ((length text ≤ MOST_BYTES) × (d.stack ≡ reading_of file text ∷ c.stack))) → length d.stack ≤ 1 + length c.stack
opened_length c d (inl e) = subst (λ (rs : List Reading). length rs ≤ 1 + length c.stack) (sym e) (omega arith)
opened_length c d (inr (file, text, (fits, e))) = subst (λ (rs : List Reading). length rs ≤ 1 + length c.stack) (sym e) (omega arith)

pub opens_length : (c d : Configuration) → Opens c d → length d.stack ≤ 1 + length c.stack
opens_length c d opens = opened_length c d opens.1

-- the same of the list of readers
pub opens_items : (c d : Configuration) (xs ys : List Reading) → c.stack ≡ reverse xs → d.stack ≡ reverse ys → Opens c d → length ys ≤ 1 + length xs
opens_items c d xs ys e f opens =
    let h = opens_length c d opens in
    let a : length c.stack ≡ length xs = ap (λ (rs : List Reading). length rs) e ∙ length-reverse xs in
    let b : length d.stack ≡ length ys = ap (λ (rs : List Reading). length rs) f ∙ length-reverse ys in
    omega arith
