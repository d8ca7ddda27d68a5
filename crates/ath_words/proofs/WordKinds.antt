-- The kinds of words, as clap's definitions and ours tell them apart.
use Rattle.std.proofs.Common.{◌≡◌, ◌∙◌, ◌∷◌, ◌++◌, ◌+◌, ◌==◌, ◌⊎◌, inl, inr, ℕ, suc, true, false, List, [], codes, length, take, drop, Option, Some, None, refl, sym, ap, subst, IsUtf8, arith, true≢false}
use Rattle.std.specs.Prelude.{slice_get}
use Rattle.std.specs.Char.{encode_utf8}
use Rattle.std.specs.Str.{encode_utf8_all}
use Rattle.std.specs.List.{before_first}
use Rattle.std.specs.Str.{bytes_eq, chars}
use Rattle.std.proofs.lemmas.Bool.{cases_Bool, eqb-true, false_from_ne_true}
use Rattle.std.proofs.lemmas.List.{take-append-drop}
use Rattle.std.proofs.lemmas.Slice.Eq.{bytes_eq-Decides}
use Rattle.std.proofs.lemmas.Str.{IsUtf8-past_char, encodes-chars}
use Rattle.clap.specs.Lexer.{long_of, name_and_value, short_of}
use Rattle.clap.specs.Walk.{Text, arg_by_long}
use Rattle.ath_words.specs.Words.{begins_with, is_file}
use Rattle.ath_words.proofs.Command.{rules}

-- a word that is refused, as clap reads it
pub data Unread (word : Text) : Type 0 where
  long : (name : Text) (value : Option Text) → long_of word ≡ Some (name, value) → arg_by_long rules name ≡ None → Unread word
  short : (b x : ℕ) (bs : Text) → long_of word ≡ None → short_of word ≡ Some (b ∷ bs) → slice_get (chars (b ∷ bs)) 0 ≡ Some x → Unread word

-- a word that is refused
pub record IsRefused (word : Text) : Type 0 where
  pub end : bytes_eq word (codes "--") ≡ false
  pub file : is_file word ≡ false
  pub fuel : bytes_eq word (codes "--fuel") ≡ false
  pub joined : begins_with (codes "--fuel=") word ≡ false
  pub unread : Unread word

-- a word that names a file
pub record NamesFile (word : Text) : Type 0 where
  pub end : bytes_eq word (codes "--") ≡ false
  pub file : is_file word ≡ true
  pub long : long_of word ≡ None
  pub short : short_of word ≡ None

pub data WordKind (word : Text) : Type 0 where
  ends : word ≡ codes "--" → WordKind word
  fuel_next : word ≡ codes "--fuel" → WordKind word
  fuel_is : (text : Text) → word ≡ codes "--fuel=" ++ text → WordKind word
  refused : IsRefused word → WordKind word
  file : NamesFile word → WordKind word

-- a text with a `=` (61) is cut there, and one without is all before it
cut : (xs : Text) → (xs ≡ before_first (λ x. x == 61) xs) ⊎ ((t : Text) × (xs ≡ before_first (λ x. x == 61) xs ++ 61 ∷ t))
cut [] = inl refl
cut (x ∷ xs) = by (cases_Bool (x == 61)) (cut xs)
  where
    one_more : (n : ℕ) → take (1 + n) (x ∷ xs) ≡ x ∷ take n xs
    one_more n = let next : 1 + n ≡ suc n = omega arith in ap (λ k. take k (x ∷ xs)) next

    by : ((x == 61) ≡ true) ⊎ ((x == 61) ≡ false) → (xs ≡ before_first (λ x. x == 61) xs) ⊎ ((t : Text) × (xs ≡ before_first (λ x. x == 61) xs ++ 61 ∷ t))
        → (x ∷ xs ≡ before_first (λ x. x == 61) (x ∷ xs)) ⊎ ((t : Text) × (x ∷ xs ≡ before_first (λ x. x == 61) (x ∷ xs) ++ 61 ∷ t))
    by (inl here) rest = inr (xs, rw here (ap (λ y. y ∷ xs) (eqb-true x 61 here)))
    by (inr other) (inl all) = inl (rw other (ap (λ ys. x ∷ ys) all ∙ sym (one_more _)))
    by (inr other) (inr (t, e)) = inr (t, rw other (ap (λ ys. x ∷ ys) e ∙ ap (λ ys. ys ++ 61 ∷ t) (sym (one_more _))))

-- ---- words that begin with `--`

abbrev dashes : Text → Text
dashes rest = 45 ∷ 45 ∷ rest

no_long : (z : ℕ) (zs : Text) → bytes_eq (dashes (z ∷ zs)) (codes "--fuel") ≡ false → begins_with (codes "--fuel=") (dashes (z ∷ zs)) ≡ false
    → arg_by_long rules (name_and_value (z ∷ zs)).0 ≡ None
no_long z zs other unjoined =
    let name = (name_and_value (z ∷ zs)).0 in
    let is_no : bytes_eq (codes "fuel") name ≡ false = false_from_ne_true (bytes_eq (codes "fuel") name) (λ e. by name ((bytes_eq-Decides (codes "fuel") name).0 e) (cut (z ∷ zs))) in
    rw is_no refl
  where
    by : (name : Text) → codes "fuel" ≡ name → (z ∷ zs ≡ name) ⊎ ((t : Text) × (z ∷ zs ≡ name ++ 61 ∷ t)) → ⊥
    by name is (inl all) = true≢false (sym (ap (λ rest. bytes_eq (dashes rest) (codes "--fuel")) (all ∙ sym is)) ∙ other)
    by name is (inr (t, e)) = true≢false (sym (ap (λ rest. begins_with (codes "--fuel=") (dashes rest)) (e ∙ ap (λ n. n ++ 61 ∷ t) (sym is))) ∙ unjoined)

long_kind : (z : ℕ) (zs : Text) → WordKind (dashes (z ∷ zs))
long_kind z zs = by (cases_Bool (bytes_eq (dashes (z ∷ zs)) (codes "--fuel"))) (cases_Bool (begins_with (codes "--fuel=") (dashes (z ∷ zs))))
  where
    by : (bytes_eq (dashes (z ∷ zs)) (codes "--fuel") ≡ true) ⊎ (bytes_eq (dashes (z ∷ zs)) (codes "--fuel") ≡ false)
        → (begins_with (codes "--fuel=") (dashes (z ∷ zs)) ≡ true) ⊎ (begins_with (codes "--fuel=") (dashes (z ∷ zs)) ≡ false) → WordKind (dashes (z ∷ zs))
    by (inl is) joined = fuel_next ((bytes_eq-Decides (dashes (z ∷ zs)) (codes "--fuel")).0 is)
    by (inr other) (inl is) =
        fuel_is (drop 7 (dashes (z ∷ zs))) (sym (take-append-drop 7 (dashes (z ∷ zs))) ∙ ap (λ start. start ++ drop 7 (dashes (z ∷ zs))) ((bytes_eq-Decides (take 7 (dashes (z ∷ zs))) (codes "--fuel=")).0 is))
    by (inr other) (inr unjoined) = refused (record {
      end = refl;
      file = refl;
      fuel = other;
      joined = unjoined;
      unread = long (name_and_value (z ∷ zs)).0 (name_and_value (z ∷ zs)).1 refl (no_long z zs other unjoined);
    })

dashes_kind : (rest : Text) → WordKind (dashes rest)
dashes_kind [] = ends refl
dashes_kind (z ∷ zs) = long_kind z zs

-- ---- words that begin with `-`

first_char : (b : ℕ) (bs : Text) → IsUtf8 (b ∷ bs) → (x : ℕ) × (slice_get (chars (b ∷ bs)) 0 ≡ Some x)
first_char b bs u = by (chars (b ∷ bs)) (encodes-chars (b ∷ bs) u)
  where
    by : (cs : List ℕ) → encode_utf8_all cs ≡ b ∷ bs → (x : ℕ) × (slice_get cs 0 ≡ Some x)
    by [] e = let bad : 0 ≡ suc (length bs) = ap length e in absurd (omega (arith, bad))
    by (c ∷ cs) e = (c, refl)

after_dash : (rest : Text) → IsUtf8 (45 ∷ rest) → IsUtf8 rest
unfolding encode_utf8
after_dash rest u = IsUtf8-past_char (45 ∷ rest) rest 45 u refl

short_kind : (y : ℕ) (ys : Text) → (y == 45) ≡ false → IsUtf8 (45 ∷ y ∷ ys) → WordKind (45 ∷ y ∷ ys)
short_kind y ys other u =
    let first = first_char y ys (after_dash (y ∷ ys) u) in
    refused (record {
      end = rw other refl;
      file = refl;
      fuel = rw other refl;
      joined = rw other refl;
      unread = short y first.0 ys (rw other refl) (rw other refl) first.1;
    })

dash_kind : (rest : Text) → IsUtf8 (45 ∷ rest) → WordKind (45 ∷ rest)
dash_kind [] u = file (record { end = refl; file = refl; long = refl; short = refl })
dash_kind (y ∷ ys) u = by (cases_Bool (y == 45))
  where
    by : ((y == 45) ≡ true) ⊎ ((y == 45) ≡ false) → WordKind (45 ∷ y ∷ ys)
    by (inl is) = subst (λ (b : ℕ). WordKind (45 ∷ b ∷ ys)) (sym (eqb-true y 45 is)) (dashes_kind ys)
    by (inr other) = short_kind y ys other u

pub word_kind : (word : Text) → IsUtf8 word → WordKind word
word_kind [] u = file (record { end = refl; file = refl; long = refl; short = refl })
word_kind (x ∷ xs) u = by (cases_Bool (x == 45))
  where
    by : ((x == 45) ≡ true) ⊎ ((x == 45) ≡ false) → WordKind (x ∷ xs)
    by (inl is) =
        let dash = eqb-true x 45 is in
        subst (λ (b : ℕ). WordKind (b ∷ xs)) (sym dash) (dash_kind xs (subst (λ (b : ℕ). IsUtf8 (b ∷ xs)) dash u))
    by (inr other) = file (record { end = rw other refl; file = rw other refl; long = rw other refl; short = rw other refl })
