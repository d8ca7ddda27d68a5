-- What a string means is UTF-8 where its text is: escapes mean ASCII, and no byte of a longer character is a quote or a backslash.
use Rattle.std.proofs.Common.{◌≡◌, ℕ, suc, ◌+◌, ◌-◌, ◌*◌, ◌<◌, ◌≤◌, Bool, true, false, cond, ◌&&◌, ◌||◌, List, [], ◌∷◌, ◌++◌, length, take, drop, refl, sym, ap, subst, ◌∙◌, ⊎_elim, arith, ◌==◌, get_or}
use Rattle.std.proofs.lemmas.Bool.{cases_lt, and_parts}
use Rattle.std.proofs.lemmas.Bool.Decides.{nat_tests}
use Rattle.std.proofs.lemmas.List.{take-append-drop, append-nil, append_assoc, length-append, length-take-le}
use Rattle.std.proofs.lemmas.Str.{IsUtf8-nil, IsUtf8-append, IsUtf8-from_ascii, IsUtf8-from_is_utf8, encode_ascii, inside_one, length-encode, len_utf8_bounds}
use Rattle.std.proofs.lemmas.Str.Ascii.{IsAscii-nil, IsAscii-cons}
use Rattle.std.specs.Char.{is_ascii_hexdigit}
use Rattle.std.specs.Int.{is_in_range}
use Rattle.std.specs.Str.{IsAscii, IsUtf8, is_utf8}
use lib.Utf8.{encode, encodes, scalar, scalars}
use Rattle.ath_tokens.specs.Bytes.{hex_value}
use Rattle.ath_tokens.specs.Quoted.{Inside, plain, escape, hex, hex_low, Turn, goes_on, closes, breaks, turn, Quoted, closed, quoted}
use Rattle.ath_tokens.proofs.Strings.{going, going-is, was_closed, closed-front}

-- the first of two hexadecimal digits has a value below 8
abbrev IsLow : Inside → Type 0
IsLow (hex_low h) = h < 8
IsLow s = Unit {0}

-- an ASCII byte means ASCII
abbrev MeansAscii : Turn → Type 0
MeansAscii (goes_on t means) = IsAscii means × IsLow t
MeansAscii t = Unit {0}

one-ascii : (b : ℕ) → b < 128 → IsAscii (b ∷ [])
one-ascii b h = IsAscii-cons b [] h IsAscii-nil

on-either : (x : Bool) (s t : Turn) → MeansAscii s → MeansAscii t → MeansAscii (cond x s t)
on-either true s t a b = a
on-either false s t a b = b

on-true : (x : Bool) (s t : Turn) → (x ≡ true → MeansAscii s) → MeansAscii t → MeansAscii (cond x s t)
on-true true s t a b = a refl
on-true false s t a b = b

octal-low : (b : ℕ) → is_in_range 48 55 b ≡ true → b - 48 < 8
octal-low b h = grind (arith, nat_tests)

hex-value-low : (b : ℕ) → is_ascii_hexdigit b ≡ true → hex_value b < 16
hex-value-low b h = grind (arith, nat_tests)

turn-ascii : (s : Inside) (b : ℕ) → b < 128 → IsLow s → MeansAscii (turn s b)
turn-ascii plain b l low =
    on-either (b == 34) closes (cond (b == 92) (goes_on escape []) (goes_on plain (b ∷ []))) tt
    (on-either (b == 92) (goes_on escape []) (goes_on plain (b ∷ [])) (IsAscii-nil, tt) (one-ascii b l, tt))
turn-ascii escape b l low =
    on-either (b == 34 || b == 92) (goes_on plain (b ∷ [])) (cond (b == 110) (goes_on plain (10 ∷ [])) (cond (b == 116) (goes_on plain (9 ∷ [])) (cond (b == 120) (goes_on hex []) (breaks 1)))) (one-ascii b l, tt)
    (on-either (b == 110) (goes_on plain (10 ∷ [])) (cond (b == 116) (goes_on plain (9 ∷ [])) (cond (b == 120) (goes_on hex []) (breaks 1))) (one-ascii 10 (omega arith), tt)
    (on-either (b == 116) (goes_on plain (9 ∷ [])) (cond (b == 120) (goes_on hex []) (breaks 1)) (one-ascii 9 (omega arith), tt)
    (on-either (b == 120) (goes_on hex []) (breaks 1) (IsAscii-nil, tt) tt)))
turn-ascii hex b l low = on-true (is_in_range 48 55 b) (goes_on (hex_low (b - 48)) []) (breaks 2) (λ h. (IsAscii-nil, octal-low b h)) tt
turn-ascii (hex_low h) b l low =
    on-true (is_ascii_hexdigit b) (goes_on plain ((16 * h + hex_value b) ∷ [])) (breaks 3)
    (λ digit. let v = hex-value-low b digit in (one-ascii (16 * h + hex_value b) (omega (arith, v, low)), tt)) tt

-- a byte beyond ASCII means itself, and breaks an escape
high-plain : (b : ℕ) → 128 ≤ b → turn plain b ≡ goes_on plain (b ∷ [])
high-plain b h = grind (arith, nat_tests)

abbrev IsPlain : Inside → Type 0
IsPlain plain = Unit {0}
IsPlain s = ⊥

abbrev Breaks : Turn → Type 0
Breaks (breaks n) = Unit {0}
Breaks t = ⊥

broken : (t : Turn) (rest : Inside → Quoted) (n : ℕ) (means : List ℕ) → Breaks t → going t rest ≡ closed n means → ⊥
broken (breaks k) rest n means b e = cc
broken (goes_on u m) rest n means b e = absurd b
broken closes rest n means b e = absurd b

on-false : (x : Bool) (s t : Turn) → x ≡ false → Breaks t → Breaks (cond x s t)
on-false true s t e b = cc
on-false false s t e b = b

high-differs : (b c : ℕ) → 128 ≤ b → c < 128 → (b == c) ≡ false
high-differs b c h l = grind (arith, nat_tests)

high-octal : (b : ℕ) → 128 ≤ b → is_in_range 48 55 b ≡ false
high-octal b h = grind (arith, nat_tests)

high-hexdigit : (b : ℕ) → 128 ≤ b → is_ascii_hexdigit b ≡ false
high-hexdigit b h = grind (arith, nat_tests)

high-escape : (b : ℕ) → 128 ≤ b → turn escape b ≡ breaks 1
high-escape b h = grind (arith, nat_tests)

high-inside : (s : Inside) (b : ℕ) (bs : List ℕ) (n : ℕ) (means : List ℕ) → 128 ≤ b → quoted s (b ∷ bs) ≡ closed n means → IsPlain s
high-inside plain b bs n means h e = tt
high-inside escape b bs n means h e =
    absurd (broken (turn escape b) (λ t. quoted t bs) n means (subst Breaks (sym (high-escape b h)) tt) (sym (going-is escape b bs) ∙ e))
high-inside hex b bs n means h e =
    absurd (broken (turn hex b) (λ t. quoted t bs) n means (on-false (is_in_range 48 55 b) (goes_on (hex_low (b - 48)) []) (breaks 2) (high-octal b h) tt) (sym (going-is hex b bs) ∙ e))
high-inside (hex_low k) b bs n means h e =
    absurd (broken (turn (hex_low k) b) (λ t. quoted t bs) n means (on-false (is_ascii_hexdigit b) (goes_on plain ((16 * k + hex_value b) ∷ [])) (breaks 3) (high-hexdigit b h) tt) (sym (going-is (hex_low k) b bs) ∙ e))

-- behind some bytes that mean themselves a string goes on so
record GoesOn (front : List ℕ) (tail : List ℕ) (n : ℕ) (means : List ℕ) : Type 0 where
  pub len : ℕ
  pub more : List ℕ
  pub is : quoted plain tail ≡ closed len more
  pub all : n ≡ length front + len
  pub same : means ≡ front ++ more

high-run : (front tail : List ℕ) (n : ℕ) (means : List ℕ) → ((k : ℕ) → k < length front → 128 ≤ get_or front k 0) → quoted plain (front ++ tail) ≡ closed n means → GoesOn front tail n means
high-run [] tail n means h e = record { len = n; more = means; is = e; all = omega arith; same = refl }
high-run (b ∷ bs) tail n means h e =
    let turned = ap (λ t. going t (λ u. quoted u (bs ++ tail))) (high-plain b (h 0 (omega arith))) in
    let w = was_closed (b ∷ []) (quoted plain (bs ++ tail)) n means (sym (going-is plain b (bs ++ tail) ∙ turned) ∙ e) in
    let r = high-run bs tail w.before w.rest (λ k l. h (suc k) (omega arith)) w.is in
    let meant : b ∷ w.rest ≡ means = cc in
    record { len = r.len; more = r.more; is = r.is; all = omega (arith, w.len, r.all); same = sym meant ∙ ap (λ l. b ∷ l) r.same }

high-bytes : (c : ℕ) → 128 ≤ c → (k : ℕ) → k < length (encode c) → 128 ≤ get_or (encode c) k 0
high-bytes c h k l = ⊎_elim
    (λ below. let one = inside_one c [] (encode c) k (sym (append-nil (encode c))) l below in omega arith)
    (λ above. above)
    (cases_lt (get_or (encode c) k 0) 128)

one-utf8 : (c : ℕ) → scalar c ≡ true → IsUtf8 (encode c)
one-utf8 c h = (c ∷ [], (ap (λ t. t && true) h, append-nil (encode c)))

plain-is : (s : Inside) → IsPlain s → s ≡ plain
plain-is plain h = refl
plain-is escape h = absurd h
plain-is hex h = absurd h
plain-is (hex_low k) h = absurd h

inside-plain : (front tail : List ℕ) (s : Inside) (n : ℕ) (means : List ℕ) → 0 < length front → ((k : ℕ) → k < length front → 128 ≤ get_or front k 0) → quoted s (front ++ tail) ≡ closed n means → IsPlain s
inside-plain [] tail s n means some h e = absurd (omega arith)
inside-plain (b ∷ bs) tail s n means some h e = high-inside s b (bs ++ tail) n means (h 0 (omega arith)) e

-- the text of a string, as far as its closing quote, goes on with these bytes
module _ (text rest : List ℕ) (deeper : (t : Inside) (k : ℕ) (means : List ℕ) → IsLow t → quoted t (text ++ rest) ≡ closed k means → k ≤ length text → IsUtf8 means) where
  low-char : (c : ℕ) (s : Inside) (n : ℕ) (means : List ℕ) → c < 128 → IsLow s → quoted s (c ∷ (text ++ rest)) ≡ closed n means → n ≤ suc (length text) → IsUtf8 means
  low-char c s n means l low e le = by (turn s c) (turn-ascii s c l low) (sym (going-is s c (text ++ rest)) ∙ e)
    where
      by : (t : Turn) → MeansAscii t → going t (λ v. quoted v (text ++ rest)) ≡ closed n means → IsUtf8 means
      by (goes_on t more) m h =
          let w = was_closed more (quoted t (text ++ rest)) n means h in
          let meant : more ++ w.rest ≡ means = cc in
          subst IsUtf8 meant (IsUtf8-append more w.rest (IsUtf8-from_ascii more m.0) (deeper t w.before w.rest m.1 w.is (omega (arith, w.len, le))))
      by closes m h = let none : [] ≡ means = cc in subst IsUtf8 none IsUtf8-nil
      by (breaks k) m h = cc

  high-char : (c : ℕ) (s : Inside) (n : ℕ) (means : List ℕ) → 128 ≤ c → scalar c ≡ true → quoted s (encode c ++ (text ++ rest)) ≡ closed n means → n ≤ length (encode c) + length text → IsUtf8 means
  high-char c s n means h one e le =
      let some : 0 < length (encode c) = omega (arith, length-encode c, (len_utf8_bounds c).0) in
      let outside = plain-is s (inside-plain (encode c) (text ++ rest) s n means some (high-bytes c h) e) in
      let r = high-run (encode c) (text ++ rest) n means (high-bytes c h) (subst (λ t. quoted t (encode c ++ (text ++ rest)) ≡ closed n means) outside e) in
      subst IsUtf8 (sym r.same) (IsUtf8-append (encode c) r.more (one-utf8 c one) (deeper plain r.len r.more tt r.is (omega (arith, r.all, le))))

means-utf8 : (cs rest : List ℕ) (s : Inside) (n : ℕ) (means : List ℕ) → scalars cs ≡ true → IsLow s → quoted s (encodes cs ++ rest) ≡ closed n means → n ≤ length (encodes cs) → IsUtf8 means
means-utf8 [] rest s n means u low e le = none rest e
  where
    none : (bs : List ℕ) → quoted s bs ≡ closed n means → IsUtf8 means
    none [] h = cc
    none (b ∷ bs) h = by (turn s b) (sym (going-is s b bs) ∙ h)
      where
        by : (t : Turn) → going t (λ v. quoted v bs) ≡ closed n means → IsUtf8 means
        by (goes_on t more) f = let w = was_closed more (quoted t bs) n means f in absurd (omega (arith, w.len, le))
        by closes f = let nothing : [] ≡ means = cc in subst IsUtf8 nothing IsUtf8-nil
        by (breaks k) f = cc
means-utf8 (c ∷ cs) rest s n means u low e le =
    let parts = and_parts (scalar c) (scalars cs) u in
    let deeper = λ (t : Inside) (k : ℕ) (more : List ℕ). means-utf8 cs rest t k more parts.1 in
    ⊎_elim
    (λ l. low-char (encodes cs) rest deeper c s n means l low
    (subst (λ f. quoted s ((f ++ encodes cs) ++ rest) ≡ closed n means) (encode_ascii c l) e)
    (subst (λ f. n ≤ length (f ++ encodes cs)) (encode_ascii c l) le))
    (λ h. high-char (encodes cs) rest deeper c s n means h parts.0
    (ap (quoted s) (sym (append_assoc (encode c) (encodes cs) rest)) ∙ e)
    (omega (arith, le, length-append (encode c) (encodes cs))))
    (cases_lt c 128)

pub string_utf8 : (bs : List ℕ) (n : ℕ) (means : List ℕ) → quoted plain bs ≡ closed n means → is_utf8 (take n bs) ≡ true → IsUtf8 means
string_utf8 bs n means e utf8 =
    let u = IsUtf8-from_is_utf8 (take n bs) utf8 in
    let len = length-take-le n bs (omega (arith, (closed-front plain bs n means e).0)) in
    let whole : encodes u.0 ++ drop n bs ≡ bs = ap (λ f. f ++ drop n bs) u.1.1 ∙ take-append-drop n bs in
    means-utf8 u.0 (drop n bs) plain n means u.1.0 tt (ap (quoted plain) whole ∙ e) (omega (arith, len, ap length u.1.1))
