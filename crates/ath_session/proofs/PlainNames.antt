-- The tables of names that a reading comes to: they grow, no text stands twice, and none has an LF, since no name of a token has.
use Rattle.std.proofs.Common.{◌≡◌, ℕ, zero, suc, ◌+◌, ◌-◌, ◌<◌, Bool, true, false, true≢false, cond, ◌||◌, ◌==◌, List, [], ◌∷◌, ◌++◌, length, take, drop, Some, None, refl, sym, ap, ◌∙◌, subst, arith, ◌⊎◌, inl, inr, if◌then◌else◌, codes}
use Rattle.std.proofs.lemmas.Grind.{common_steps}
use Rattle.std.specs.Prelude.{is_some, fold, nat_lt}
use Rattle.std.proofs.lemmas.Bool.Decides.{nat_tests}
use Rattle.std.specs.List.{list_any, position_or_len, IsDistinct}
use Rattle.std.specs.Str.{bytes_eq}
use Rattle.std.specs.Fmt.{digits}
use Rattle.ath_grammar.specs.Tokens.{Placed, at}
use Rattle.std.proofs.lemmas.Map.Keys.{IsDistinct-push}
use Rattle.std.specs.Cmp.Lexicographic.{nat_list_eq_equiv}
use Rattle.ath_names.specs.Names.{number_of, interned, numbered, fixed_words, first_names, KeepsNames}
use Rattle.ath_names.proofs.NamesLaws.{KeepsNames-trans, KeepsNames-interned}
use Rattle.ath_tokens.specs.Bytes.{is_word_char}
use Rattle.ath_tokens.specs.Cut.{Cut, found, ended, fault, next_of, place_of, names_with}
use Rattle.ath_tokens.specs.Spelling.{Lexeme, word, var, sort_var, str, punct, becomes, spells}
use Rattle.ath_tokens.proofs.CutLaws.{found_is_longest, found_within}
use Rattle.ath_tokens.proofs.SpelledNames.{Named, spelled}
use Rattle.ath_reader.specs.Ahead.{seen_as, Ahead, a_token, the_end, a_fault, ahead, Reads, reads_none, reads_more, names_past}
use Rattle.ath_session.specs.Believed.{has_line_end}
use Rattle.ath_session.proofs.PlainLines.{Plain, plain, plain-cons, plain-append, decimal-plain, ArePlain}

same_number : (m n : ℕ) → (m == n) ≡ true → m ≡ n
same_number m n e = grind (arith, common_steps)

name_byte : (b : ℕ) → (is_word_char b || b == 46) ≡ true → (b == 10) ≡ false
name_byte b e = by (b == 10) refl
  where
    by : (d : Bool) → (b == 10) ≡ d → d ≡ false
    by false f = refl
    by true f = let n : (is_word_char 10 || 10 == 46) ≡ true = subst (λ (c : ℕ). (is_word_char c || c == 46) ≡ true) (same_number b 10 f) e in absurd (true≢false (sym n))

-- the name of a token has no LF
plain_named : (l : Lexeme) (bs : List ℕ) → spells bs ≡ Some l → Named Plain l
plain_named = spelled Plain (plain [] refl) (λ b bs e h. plain-cons b (name_byte b e) h)

found_named : (text : List ℕ) (from : ℕ) (l : Lexeme) (s e : ℕ) → next_of text from ≡ found l s e → Named Plain l
found_named text from l s e f = plain_named l (take (e - s) (drop s text)) (found_is_longest text from l s e (found_within text from l s e f) f).spelled

-- ---- names
names_append : (names more : List (List ℕ)) → ArePlain names → ArePlain more → ArePlain (names ++ more)
names_append [] more h k = k
names_append (x ∷ xs) more h k = (h.0, names_append xs more h.1 k)

-- a table that has come from another: it is longer at most, no text stands twice in it, and none has an LF
pub record Comes (from names : List (List ℕ)) : Type 0 where
  pub grows : KeepsNames from names
  pub distinct : IsDistinct bytes_eq names
  pub plain : ArePlain names

-- a test passes at a place of a list, or nowhere
somewhere : {X : Type 0} (p : X → Bool) (xs : List X) → (position_or_len p xs < length xs) ⊎ (list_any p xs ≡ false)
somewhere p [] = inr refl
somewhere p (x ∷ xs) = by (p x) refl (somewhere p xs)
  where
    by : (b : Bool) → p x ≡ b → (position_or_len p xs < length xs) ⊎ (list_any p xs ≡ false) → (position_or_len p (x ∷ xs) < length (x ∷ xs)) ⊎ (list_any p (x ∷ xs) ≡ false)
    by true e rest = inl (grind arith)
    by false e (inl f) = inl (grind (arith, f))
    by false e (inr m) = inr (grind (arith, m))

-- a text without a number stands nowhere
no_number : (text : List ℕ) (names : List (List ℕ)) → is_some (number_of names text) ≡ false → list_any (bytes_eq text) names ≡ false
no_number text names e = by (somewhere (bytes_eq text) names)
  where
    n : ℕ
    n = position_or_len (bytes_eq text) names

    by : (n < length names) ⊎ (list_any (bytes_eq text) names ≡ false) → list_any (bytes_eq text) names ≡ false
    by (inl f) =
        let t : nat_lt n (length names) ≡ true = grind (arith, nat_tests, f) in
        absurd (true≢false (sym (ap (λ (b : Bool). is_some (cond b (Some n) None)) t) ∙ e))
    by (inr m) = m

interned_distinct : (names : List (List ℕ)) (text : List ℕ) → IsDistinct bytes_eq names → IsDistinct bytes_eq (interned names text)
interned_distinct names text h = by (is_some (number_of names text)) refl
  where
    by : (b : Bool) → is_some (number_of names text) ≡ b → IsDistinct bytes_eq (if b then names else names ++ text ∷ [])
    by true e = h
    by false e = IsDistinct-push nat_list_eq_equiv names text h (no_number text names e)

interned_plain : (names : List (List ℕ)) (text : List ℕ) → ArePlain names → Plain text → ArePlain (interned names text)
interned_plain names text h e = by (is_some (number_of names text))
  where
    by : (b : Bool) → ArePlain (if b then names else names ++ text ∷ [])
    by true = h
    by false = names_append names (text ∷ []) h (e, tt)

interned_comes : (from names : List (List ℕ)) (text : List ℕ) → Comes from names → Plain text → Comes from (interned names text)
interned_comes from names text c e = record {
  grows = KeepsNames-trans c.grows (KeepsNames-interned names text);
  distinct = interned_distinct names text c.distinct;
  plain = interned_plain names text c.plain e;
}

with_comes : (from names : List (List ℕ)) (l : Lexeme) → Comes from names → Named Plain l → Comes from (names_with names l)
with_comes from names (word text) c k = interned_comes from names text c k
with_comes from names (var text index) c k = interned_comes from names text c k
with_comes from names (sort_var text) c k = interned_comes from names text c k
with_comes from names (str bytes) c k = c
with_comes from names (punct b) c k = c
with_comes from names becomes c k = c

module _ (file : ℕ) (text : List ℕ) where
  token_comes : (first names : List (List ℕ)) (from : ℕ) (t : Placed) (known : List (List ℕ)) (to : ℕ) → Comes first names → ahead file text names from ≡ a_token t known to → Comes first known
  token_comes first names from t known to h = by (next_of text from) refl
    where
      shown : Cut → Ahead
      shown (found l start end) = let last = names_with names l in a_token (at (place_of file text start) (seen_as last l)) last end
      shown ended = the_end
      shown (fault kind byte) = a_fault kind byte

      by : (c : Cut) → next_of text from ≡ c → shown c ≡ a_token t known to → Comes first known
      by (found l start end) f e =
          let same : names_with names l ≡ known = cc in
          subst (Comes first) same (with_comes first names l h (found_named text from l start end f))
      by ended f e = absurd cc
      by (fault kind byte) f e = absurd cc

  reads_comes : (first names : List (List ℕ)) (from : ℕ) (ts : List Placed) (known : List (List ℕ)) (to : ℕ) → Comes first names → Reads file text names from ts known to → Comes first known
  reads_comes first names from [] known to h reads_none = h
  reads_comes first names from (t ∷ ts) known to h (reads_more {known = next} {mid = mid} e r) = reads_comes first next mid ts known to (token_comes first names from t next mid h e) r

  -- the names when what comes behind some tokens was looked at
  pub past_comes : (first names : List (List ℕ)) (from : ℕ) (ts : List Placed) (known : List (List ℕ)) (to : ℕ) (next : Ahead) → Comes first names → Reads file text names from ts known to → ahead file text known to ≡ next → Comes first (names_past next known)
  past_comes first names from ts known to (a_token t last end) h r e = token_comes first known to t last end (reads_comes first names from ts known to h r) e
  past_comes first names from ts known to the_end h r e = reads_comes first names from ts known to h r
  past_comes first names from ts known to (a_fault kind byte) h r e = reads_comes first names from ts known to h r

-- ---- the first names
all_plain : (names : List (List ℕ)) → list_any has_line_end names ≡ false → ArePlain names
all_plain [] e = tt
all_plain (x ∷ xs) e = let p = neither (has_line_end x) (list_any has_line_end xs) e in (plain x p.0, all_plain xs p.1)
  where
    neither : (a b : Bool) → (a || b) ≡ false → (a ≡ false) × (b ≡ false)
    neither true b f = absurd (cc)
    neither false b f = (refl, f)

numbered_plain : (stem : List ℕ) → Plain stem → (n : ℕ) → ArePlain (numbered stem n)
numbered_plain stem e zero = tt
numbered_plain stem e (suc n) = names_append (numbered stem n) _ (numbered_plain stem e n) (plain-append e (decimal-plain (n + 1)), tt)

first_plain : ArePlain first_names
first_plain =
    let xs = names_append fixed_words (numbered (codes "x") 64) (all_plain fixed_words refl) (numbered_plain (codes "x") (plain (codes "x") refl) 64) in
    names_append (fixed_words ++ numbered (codes "x") 64) (numbered (codes "y") 64) xs (numbered_plain (codes "y") (plain (codes "y") refl) 64)

all_distinct : (names texts : List (List ℕ)) → IsDistinct bytes_eq names → IsDistinct bytes_eq (fold interned names texts)
all_distinct names [] h = h
all_distinct names (text ∷ texts) h = all_distinct (interned names text) texts (interned_distinct names text h)

first_joins : fold interned (fold interned (fold interned [] fixed_words) (numbered (codes "x") 64)) (numbered (codes "y") 64) ≡ first_names
unfolding digits
first_joins = refl

no_names : IsDistinct bytes_eq []
unfolding IsDistinct
no_names = tt

pub first_comes : Comes [] first_names
first_comes = record {
  grows = record { more = first_names; longer = refl };
  distinct = subst (IsDistinct bytes_eq) first_joins
      (all_distinct (fold interned (fold interned [] fixed_words) (numbered (codes "x") 64)) (numbered (codes "y") 64)
      (all_distinct (fold interned [] fixed_words) (numbered (codes "x") 64)
      (all_distinct [] fixed_words no_names)));
  plain = first_plain;
}
