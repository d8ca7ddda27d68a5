-- The longest token of a string.
use Rattle.std.proofs.Common.{◌≡◌, ℕ, zero, suc, ◌+◌, ◌<◌, true, false, ◌&&◌, List, [], ◌∷◌, ◌++◌, length, take, Some, None, refl, sym, ap, ◌∙◌, arith, ◌==◌, eq-eqb}
use Rattle.std.proofs.lemmas.List.{length-take, length-take-le}
use Rattle.std.proofs.lemmas.Bool.{ne_eqb}
use Rattle.std.specs.Str.{is_utf8}
use Rattle.ath_tokens.specs.Quoted.{Inside, plain, Turn, goes_on, closes, breaks, turn, Quoted, closed, wrong, unclosed, after, quoted}
use Rattle.ath_tokens.specs.Spelling.{str, str_of, spells_str}
use Rattle.ath_tokens.specs.Cut.{longest}
use Rattle.ath_tokens.proofs.Longest.{first-at, first-none}
use Rattle.ath_tokens.proofs.Scans.{and-false, take-take-le}
use Rattle.ath_tokens.proofs.FirstBytes.{if-true, if-false}

-- one byte's turn, and then the rest
abbrev pub going : Turn → (Inside → Quoted) → Quoted
going (goes_on t means) rest = after 1 means (rest t)
going closes rest = closed 0 []
going (breaks back) rest = wrong back 0

pub going-is : (s : Inside) (b : ℕ) (bs : List ℕ) → quoted s (b ∷ bs) ≡ going (turn s b) (λ t. quoted t bs)
going-is s b bs = by (turn s b)
  where
    by : (t : Turn) → elim t [ goes_on u means ↦ after 1 means (quoted u bs) | closes ↦ closed 0 [] | breaks back ↦ wrong back 0 ] ≡ going t (λ u. quoted u bs)
    by (goes_on u means) = refl
    by closes = refl
    by (breaks back) = refl

-- what `after` makes closed was closed
pub record WasClosed (more : List ℕ) (q : Quoted) (n : ℕ) (means : List ℕ) : Type 0 where
  pub before : ℕ
  pub rest : List ℕ
  pub is : q ≡ closed before rest
  pub len : n ≡ 1 + before
  pub all : closed (1 + before) (more ++ rest) ≡ closed n means

pub was_closed : (more : List ℕ) (q : Quoted) (n : ℕ) (means : List ℕ) → after 1 more q ≡ closed n means → WasClosed more q n means
was_closed more (closed m rest) n means e = record { before = m; rest = rest; is = refl; len = (let l : 1 + m ≡ n = cc in sym l); all = e }
was_closed more (wrong back m) n means e = cc
was_closed more unclosed n means e = cc

-- the closing quote lies in the text, and any front with it is closed alike
pub closed-front : (s : Inside) (bs : List ℕ) (n : ℕ) (means : List ℕ) → quoted s bs ≡ closed n means → (n < length bs) × ((m : ℕ) → n < m → quoted s (take m bs) ≡ closed n means)
closed-front s [] n means e = cc
closed-front s (b ∷ bs) n means e = by (turn s b) refl (sym (going-is s b bs) ∙ e) (λ t k rest h. closed-front t bs k rest h)
  where
    by : (t : Turn) → turn s b ≡ t → going (turn s b) (λ u. quoted u bs) ≡ closed n means
        → ((u : Inside) (k : ℕ) (rest : List ℕ) → quoted u bs ≡ closed k rest → (k < length bs) × ((m : ℕ) → k < m → quoted u (take m bs) ≡ closed k rest))
        → (n < length (b ∷ bs)) × ((m : ℕ) → n < m → quoted s (take m (b ∷ bs)) ≡ closed n means)
    by (goes_on u more) is h deeper =
        let w = was_closed more (quoted u bs) n means (sym (ap (λ t. going t (λ v. quoted v bs)) is) ∙ h) in
        let d = deeper u w.before w.rest w.is in
        (omega (arith, d.0, w.len), longer w d.1)
      where
        longer : (w : WasClosed more (quoted u bs) n means) → ((m : ℕ) → w.before < m → quoted u (take m bs) ≡ closed w.before w.rest) → (m : ℕ) → n < m → quoted s (take m (b ∷ bs)) ≡ closed n means
        longer w more_of zero l = absurd (omega arith)
        longer w more_of (suc m) l = going-is s b (take m bs) ∙ ap (λ t. going t (λ v. quoted v (take m bs))) is ∙ ap (after 1 more) (more_of m (omega (arith, w.len))) ∙ w.all
    by closes is h deeper =
        let e0 : closed 0 [] ≡ closed n means = sym (ap (λ t. going t (λ v. quoted v bs)) is) ∙ h in
        let n0 : 0 ≡ n = cc in
        (omega arith, longer e0 n0)
      where
        longer : closed 0 [] ≡ closed n means → 0 ≡ n → (m : ℕ) → n < m → quoted s (take m (b ∷ bs)) ≡ closed n means
        longer e0 n0 zero l = absurd (omega arith)
        longer e0 n0 (suc m) l = going-is s b (take m bs) ∙ ap (λ t. going t (λ v. quoted v (take m bs))) is ∙ e0
    by (breaks back) is h deeper = let clash : wrong back 0 ≡ closed n means = sym (ap (λ t. going t (λ v. quoted v bs)) is) ∙ h in cc

-- and where a front is closed, so is the text
pub closed-longer : (s : Inside) (bs : List ℕ) (m n : ℕ) (means : List ℕ) → quoted s (take m bs) ≡ closed n means → quoted s bs ≡ closed n means
closed-longer s bs zero n means e = let clash : unclosed ≡ closed n means = e in cc
closed-longer s [] (suc m) n means e = e
closed-longer s (b ∷ bs) (suc m) n means e = by (turn s b) refl (sym (going-is s b (take m bs)) ∙ e) (λ t k rest h. closed-longer t bs m k rest h)
  where
    by : (t : Turn) → turn s b ≡ t → going (turn s b) (λ u. quoted u (take m bs)) ≡ closed n means
        → ((u : Inside) (k : ℕ) (rest : List ℕ) → quoted u (take m bs) ≡ closed k rest → quoted u bs ≡ closed k rest)
        → quoted s (b ∷ bs) ≡ closed n means
    by (goes_on u more) is h deeper =
        let w = was_closed more (quoted u (take m bs)) n means (sym (ap (λ t. going t (λ v. quoted v (take m bs))) is) ∙ h) in
        going-is s b bs ∙ ap (λ t. going t (λ v. quoted v bs)) is ∙ ap (after 1 more) (deeper u w.before w.rest w.is) ∙ w.all
    by closes is h deeper = going-is s b bs ∙ ap (λ t. going t (λ v. quoted v bs)) is ∙ sym (ap (λ t. going t (λ v. quoted v (take m bs))) is) ∙ h
    by (breaks back) is h deeper = let clash : wrong back 0 ≡ closed n means = sym (ap (λ t. going t (λ v. quoted v (take m bs))) is) ∙ h in cc

-- the byte that shows a wrong escape lies in the text, and its backslash before it
pub wrong-within : (s : Inside) (bs : List ℕ) (back n : ℕ) → quoted s bs ≡ wrong back n → n < length bs
wrong-within s [] back n e = cc
wrong-within s (b ∷ bs) back n e = by (turn s b) (sym (going-is s b bs) ∙ e) (λ t k h. wrong-within t bs back k h)
  where
    by : (t : Turn) → going t (λ u. quoted u bs) ≡ wrong back n → ((u : Inside) (k : ℕ) → quoted u bs ≡ wrong back k → k < length bs) → n < suc (length bs)
    by (goes_on u more) h deeper = on (quoted u bs) h (deeper u)
      where
        on : (q : Quoted) → after 1 more q ≡ wrong back n → ((k : ℕ) → q ≡ wrong back k → k < length bs) → n < suc (length bs)
        on (closed k rest) f deeper = cc
        on (wrong d k) f deeper = let same : d ≡ back = cc in let len : 1 + k ≡ n = cc in omega (arith, deeper k (ap (λ x. wrong x k) same), len)
        on unclosed f deeper = cc
    by closes h deeper = cc
    by (breaks d) h deeper = let n0 : 0 ≡ n = cc in omega arith

pub longest-str : (bs : List ℕ) (n : ℕ) (means : List ℕ) → quoted plain bs ≡ closed n means → is_utf8 (take n bs) ≡ true → longest (length (34 ∷ bs)) (34 ∷ bs) ≡ Some (suc (suc n), str means)
longest-str bs n means e utf8 =
    let f = closed-front plain bs n means e in
    first-at 34 bs spells_str (λ xs. refl) (suc n) (str means) (omega (arith, f.0))
    (ap (str_of (take (suc n) bs)) (f.1 (suc n) (omega arith)) ∙ if-true (length (take (suc n) bs) == n + 1 && is_utf8 (take n (take (suc n) bs))) _ _
    (λ i. eq-eqb (length (take (suc n) bs)) (n + 1) (omega (arith, length-take-le (suc n) bs f.0)) i && (ap is_utf8 (take-take-le n (suc n) bs (omega arith)) ∙ utf8) i))
    (λ m longer within. ap (str_of (take m bs)) (f.1 m (omega arith)) ∙ if-false (length (take m bs) == n + 1 && is_utf8 (take n (take m bs))) _ _
    (ap (λ t. t && is_utf8 (take n (take m bs))) (ne_eqb (length (take m bs)) (n + 1) (λ same. omega (arith, same, length-take-le m bs within)))))

-- a string that is closed, but isn't UTF-8
pub longest-bad_str : (bs : List ℕ) (n : ℕ) (means : List ℕ) → quoted plain bs ≡ closed n means → is_utf8 (take n bs) ≡ false → longest (length (34 ∷ bs)) (34 ∷ bs) ≡ None
longest-bad_str bs n means e bad = first-none 34 bs spells_str (λ xs. refl) (λ m within. none m (quoted plain (take m bs)) refl)
  where
    none : (m : ℕ) (q : Quoted) → quoted plain (take m bs) ≡ q → str_of (take m bs) (quoted plain (take m bs)) ≡ None
    none m (closed k rest) f =
        let same : closed k rest ≡ closed n means = sym (closed-longer plain bs m k rest f) ∙ e in
        let kn : k ≡ n = cc in
        let short = (closed-front plain (take m bs) k rest f).0 in
        ap (str_of (take m bs)) f ∙ if-false (length (take m bs) == k + 1 && is_utf8 (take k (take m bs))) _ _
        (ap (λ t. length (take m bs) == k + 1 && t) (ap is_utf8 (take-take-le k m bs (omega (arith, short, length-take m bs))) ∙ ap (λ j. is_utf8 (take j bs)) kn ∙ bad) ∙ and-false (length (take m bs) == k + 1))
    none m (wrong back k) f = ap (str_of (take m bs)) f
    none m unclosed f = ap (str_of (take m bs)) f

-- a string that isn't closed
pub longest-no_str : (bs : List ℕ) → ((n : ℕ) (means : List ℕ) → quoted plain bs ≡ closed n means → ⊥) → longest (length (34 ∷ bs)) (34 ∷ bs) ≡ None
longest-no_str bs open_ended = first-none 34 bs spells_str (λ xs. refl) (λ m within. none m (quoted plain (take m bs)) refl)
  where
    none : (m : ℕ) (q : Quoted) → quoted plain (take m bs) ≡ q → str_of (take m bs) (quoted plain (take m bs)) ≡ None
    none m (closed k rest) f = absurd (open_ended k rest (closed-longer plain bs m k rest f))
    none m (wrong back k) f = ap (str_of (take m bs)) f
    none m unclosed f = ap (str_of (take m bs)) f
