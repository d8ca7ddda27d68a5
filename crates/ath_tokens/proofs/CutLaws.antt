-- The laws of the cut.
use Rattle.std.proofs.Common.{◌≡◌, ℕ, zero, suc, ◌+◌, ◌-◌, ◌<◌, ◌≤◌, Bool, true, false, List, [], ◌∷◌, length, take, drop, Option, Some, None, refl, sym, ap, subst, ◌∙◌, ⊎_elim, cond, arith, nat_lt, not, ◌||◌, ◌==◌}
use Rattle.std.proofs.lemmas.Bool.{ltb-false, cases_lt}
use Rattle.std.proofs.lemmas.List.{length-drop, at_drop_all}
use Rattle.std.proofs.lemmas.Str.{IsUtf8-nil, is_utf8-from_IsUtf8}
use Rattle.std.specs.Str.{is_utf8}
use Rattle.std.specs.Str.Lossy.{utf8_valid_len}
use Rattle.ath_names.specs.declared.limits.TheConstants.{MOST_NAME_BYTES}
use Rattle.ath_tokens.specs.declared.tokens.LexKind.TheVariants.{BadUtf8, NameTooLong}
use Rattle.ath_tokens.specs.Bytes.{is_blank, is_line_end}
use Rattle.ath_tokens.specs.Spelling.{Lexeme, spells}
use Rattle.ath_tokens.specs.Cut.{longest, gap_len, name_len, Cut, found, ended, fault, fault_of, cut_at, next_of}
use Rattle.ath_tokens.specs.Laws.{IsGap, IsLongest, FoundIsLongest, EndedIsEnd}
use Rattle.ath_tokens.proofs.Longest.{longest-within}
use Rattle.ath_tokens.proofs.FirstBytes.{if-true, if-false}
use Rattle.ath_tokens.proofs.TellsLaws.{answer, cut-is}

-- the parts of a token that is found
start_of : Cut → ℕ
start_of (found l s e) = s
start_of ended = 0
start_of (fault k n) = 0

end_of : Cut → ℕ
end_of (found l s e) = e
end_of ended = 0
end_of (fault k n) = 0

token_in : Lexeme → Cut → Lexeme
token_in d (found l s e) = l
token_in d ended = d
token_in d (fault k n) = d

pub drop-drop : (m n : ℕ) (bs : List ℕ) → drop m (drop n bs) ≡ drop (n + m) bs
drop-drop m zero bs = let e : m ≡ 0 + m = omega arith in ap (λ k. drop k bs) e
drop-drop zero (suc n) [] = let e : suc n ≡ suc n + 0 = omega arith in ap (λ k. drop k []) e
drop-drop (suc m) (suc n) [] = let e : suc (n + suc m) ≡ suc n + suc m = omega arith in ap (λ k. drop k []) e
drop-drop m (suc n) (b ∷ bs) = let e : suc (n + m) ≡ suc n + m = omega arith in drop-drop m n bs ∙ ap (λ k. drop k (b ∷ bs)) e

pub gap_len-le : (c : Bool) (bs : List ℕ) → gap_len c bs ≤ length bs
gap_len-le true [] = omega arith
gap_len-le false [] = omega arith
gap_len-le true (b ∷ bs) = omega (arith, gap_len-le (not (is_line_end b)) bs)
gap_len-le false (b ∷ bs) = by (is_blank b || b == 35) (gap_len-le (b == 35) bs)
  where
    by : (t : Bool) → gap_len (b == 35) bs ≤ length bs → elim t [ true ↦ 1 + gap_len (b == 35) bs | false ↦ 0 ] ≤ suc (length bs)
    by true h = omega arith
    by false h = omega arith

-- a token at a place
record IsAt (at : ℕ) (rest : List ℕ) (l : Lexeme) (s e : ℕ) : Type 0 where
  start : s ≡ at
  some : s < e
  within : e ≤ at + length rest
  spelled : spells (take (e - s) rest) ≡ Some l
  longer : (n : ℕ) → e - s < n → n ≤ length rest → spells (take n rest) ≡ None
  short : name_len l ≤ MOST_NAME_BYTES

found-at : (at : ℕ) (rest : List ℕ) (l : Lexeme) (s e : ℕ) → cut_at at rest ≡ found l s e → IsAt at rest l s e
unfolding answer start_of end_of token_in
found-at at [] l s e f = let clash : ended ≡ found l s e = f in cc
found-at at (b ∷ bs) l s e f = by (longest (length (b ∷ bs)) (b ∷ bs)) refl (sym (cut-is (b ∷ bs) at (omega arith)) ∙ f)
  where
    by : (o : Option (ℕ × Lexeme)) → longest (length (b ∷ bs)) (b ∷ bs) ≡ o → answer at (b ∷ bs) (longest (length (b ∷ bs)) (b ∷ bs)) ≡ found l s e → IsAt at (b ∷ bs) l s e
    by None o h = let clash : fault (fault_of (b ∷ bs)).0 (at + (fault_of (b ∷ bs)).1) ≡ found l s e = sym (ap (answer at (b ∷ bs)) o) ∙ h in cc
    by (Some t) o h = on (nat_lt MOST_NAME_BYTES (name_len t.1)) refl
      where
        on : (long : Bool) → nat_lt MOST_NAME_BYTES (name_len t.1) ≡ long → IsAt at (b ∷ bs) l s e
        on true g = let clash : fault NameTooLong at ≡ found l s e = sym (ap (answer at (b ∷ bs)) o ∙ if-true (nat_lt MOST_NAME_BYTES (name_len t.1)) _ _ g) ∙ h in cc
        on false g =
            let here : found t.1 at (at + t.0) ≡ found l s e = sym (ap (answer at (b ∷ bs)) o ∙ if-false (nat_lt MOST_NAME_BYTES (name_len t.1)) _ _ g) ∙ h in
            let start : at ≡ s = ap start_of here in
            let end : at + t.0 ≡ e = ap end_of here in
            let token : t.1 ≡ l = ap (token_in l) here in
            let len : e - s ≡ t.0 = omega arith in
            let w = longest-within (length (b ∷ bs)) t.0 (b ∷ bs) t.1 o in
            record {
              start = sym start;
              some = omega (arith, w.0);
              within = omega (arith, w.1);
              spelled = ap (λ k. spells (take k (b ∷ bs))) len ∙ w.2 ∙ ap Some token;
              longer = λ n a c. w.3 n (omega (arith, len)) c;
              short = subst (λ x. name_len x ≤ MOST_NAME_BYTES) token (ltb-false MOST_NAME_BYTES (name_len t.1) g);
            }

ended-at : (at : ℕ) (rest : List ℕ) → 0 < length rest → cut_at at rest ≡ ended → ⊥
unfolding answer
ended-at at rest some f = by (longest (length rest) rest) refl (sym (cut-is rest at some) ∙ f)
  where
    by : (o : Option (ℕ × Lexeme)) → longest (length rest) rest ≡ o → answer at rest (longest (length rest) rest) ≡ ended → ⊥
    by None o h = let clash : fault (fault_of rest).0 (at + (fault_of rest).1) ≡ ended = sym (ap (answer at rest) o) ∙ h in cc
    by (Some t) o h = on (nat_lt MOST_NAME_BYTES (name_len t.1)) refl
      where
        on : (long : Bool) → nat_lt MOST_NAME_BYTES (name_len t.1) ≡ long → ⊥
        on true g = let clash : fault NameTooLong at ≡ ended = sym (ap (answer at rest) o ∙ if-true (nat_lt MOST_NAME_BYTES (name_len t.1)) _ _ g) ∙ h in cc
        on false g = let clash : found t.1 at (at + t.0) ≡ ended = sym (ap (answer at rest) o ∙ if-false (nat_lt MOST_NAME_BYTES (name_len t.1)) _ _ g) ∙ h in cc

module _ (text : List ℕ) (from : ℕ) (within : from ≤ length text) where
  abbrev rest : List ℕ
  rest = drop from text

  abbrev gap : ℕ
  gap = gap_len false rest

  passed : (c : Cut) → next_of text from ≡ c → ((n : ℕ) → c ≡ fault BadUtf8 n → ⊥) → (is_utf8 (take gap rest) ≡ true) × (cut_at (from + gap) (drop gap rest) ≡ c)
  passed c e apart = by (is_utf8 (take gap rest)) refl
    where
      by : (u : Bool) → is_utf8 (take gap rest) ≡ u → (is_utf8 (take gap rest) ≡ true) × (cut_at (from + gap) (drop gap rest) ≡ c)
      by true u = (u, sym (if-true (is_utf8 (take gap rest)) _ _ u) ∙ e)
      by false u = absurd (apart (from + utf8_valid_len (take gap rest)) (sym e ∙ if-false (is_utf8 (take gap rest)) _ _ u))

  pub found_at_start : (l : Lexeme) (s e : ℕ) → next_of text from ≡ found l s e → IsLongest text from l s e
  found_at_start l s e f =
      let p = passed (found l s e) f (λ n clash. cc) in
      let a = found-at (from + gap) (drop gap rest) l s e p.1 in
      let tail : drop gap rest ≡ drop s text = drop-drop gap from text ∙ ap (λ k. drop k text) (sym a.start) in
      record {
        gap = record { up_to = sym a.start; utf8 = p.0 };
        some = a.some;
        within = omega (arith, a.within, a.start, length-drop gap rest, length-drop from text, gap_len-le false rest);
        spelled = ap (λ xs. spells (take (e - s) xs)) (sym tail) ∙ a.spelled;
        longest = λ n b c. ap (λ xs. spells (take n xs)) (sym tail) ∙ a.longer n b (omega (arith, c, ap length tail));
        short = a.short;
      }

  pub ended_at_end : next_of text from ≡ ended → IsGap text from (length text)
  ended_at_end f =
      let p = passed ended f (λ n clash. cc) in
      record { up_to = nothing (drop gap rest) refl p.1; utf8 = p.0 }
    where
      nothing : (r : List ℕ) → drop gap rest ≡ r → cut_at (from + gap) (drop gap rest) ≡ ended → from + gap ≡ length text
      nothing [] e h = omega (arith, ap length e, length-drop gap rest, length-drop from text, gap_len-le false rest)
      nothing (b ∷ bs) e h = absurd (ended-at (from + gap) (b ∷ bs) (omega arith) (sym (ap (cut_at (from + gap)) e) ∙ h))

pub found_is_longest : FoundIsLongest
found_is_longest text from token start end within e = found_at_start text from within token start end e

pub ended_is_end : EndedIsEnd
ended_is_end text from within e = ended_at_end text from within e

-- a token that is found stands in the text
pub found_within : (text : List ℕ) (from : ℕ) (l : Lexeme) (s e : ℕ) → next_of text from ≡ found l s e → from ≤ length text
found_within text from l s e f = ⊎_elim (λ past. absurd (clash (sym (at_end past) ∙ f))) (λ within. within) (cases_lt (length text) from)
  where
    cut : List ℕ → Cut
    cut rest = let gap = gap_len false rest in cond (is_utf8 (take gap rest)) (cut_at (from + gap) (drop gap rest)) (fault BadUtf8 (from + utf8_valid_len (take gap rest)))

    at_end : length text < from → next_of text from ≡ ended
    at_end past = at_drop_all cut text from (omega arith) ∙ ap (λ t. cond t ended (fault BadUtf8 (from + utf8_valid_len []))) (is_utf8-from_IsUtf8 [] IsUtf8-nil)

    clash : ended ≡ found l s e → ⊥
    clash h = cc
