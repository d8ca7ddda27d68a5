-- Each token of a print is the longest one where it stands.
use Rattle.std.proofs.Common.{◌≡◌, ℕ, zero, suc, ◌+◌, ◌-◌, ◌^◌, ◌<◌, ◌≤◌, Bool, true, false, cond, ◌&&◌, ◌||◌, not, List, [], ◌∷◌, ◌++◌, length, take, drop, slice_index, Option, Some, None, refl, sym, ap, ◌∙◌, subst, arith, ◌==◌, eqb-true, true≢false, append_assoc, get_or, length-append, nat_lt}
use Rattle.std.proofs.Math.Seq.{drop-append_seam, take-append_seam, take-append-add}
use Rattle.std.proofs.lemmas.Bool.{and_parts, cond-true, cond-false, le-ltb}
use Rattle.std.proofs.lemmas.Bool.Decides.{nat_tests}
use Rattle.std.proofs.lemmas.List.Folds.{list_all-append}
use Rattle.std.proofs.lemmas.Fmt.{length-decimal-le, first_decimal}
use Rattle.std.specs.Char.{is_ascii_digit}
use Rattle.std.specs.Fmt.{decimal}
use Rattle.std.specs.List.{list_all, prefix_len}
use Rattle.ath_names.specs.declared.limits.TheConstants.{MOST_NAME_BYTES}
use Rattle.ath_tokens.specs.declared.limits.TheConstants.{MOST_INDEX_DIGITS}
use Rattle.ath_tokens.specs.declared.tokens.LexKind.TheVariants.{NameTooLong}
use Rattle.ath_tokens.specs.Bytes.{is_blank, is_word_char, begins_part, is_at_part}
use Rattle.ath_tokens.specs.Spelling.{Lexeme, word, var, sort_var, punct, is_part, goes_on_word, is_index, indexed, spells}
use Rattle.ath_tokens.specs.Cut.{longest, gap_len, name_len, found, fault, fault_of, cut_at}
use Rattle.ath_tokens.proofs.Longest.{longest-at}
use Rattle.ath_print.specs.Prefix.{index_text}
use Rattle.ath_reading_back.specs.Pieces.{opening, closing, colon, token_text}
use Rattle.ath_reading_back.proofs.Digits.{decimal-digits, decimal-number}

-- a token, where these bytes stand behind it
pub record IsCut (l : Lexeme) (rest : List ℕ) : Type 0 where
  pub cut : (at : ℕ) → cut_at at (token_text l ++ rest) ≡ found l at (at + length (token_text l))
  pub close : gap_len false (token_text l ++ rest) ≡ 0

-- bytes that are in no word, and what begins with one
pub data Stop : ℕ → Type 0 where
  a_space : Stop 32
  a_close : Stop 41
  a_colon : Stop 58

pub data Apart : List ℕ → Type 0 where
  at_end : Apart []
  at_stop : {c : ℕ} {bs : List ℕ} → Stop c → Apart (c ∷ bs)

-- a word in one token
pub record IsWordText (w : List ℕ) : Type 0 where
  pub first : ℕ
  pub others : List ℕ
  pub is : w ≡ first ∷ others
  pub begins : begins_part first ≡ true
  pub goes : goes_on_word others ≡ true
  pub short : length w ≤ MOST_NAME_BYTES

-- a part, as a name of a variable is
pub record IsPartText (w : List ℕ) : Type 0 where
  pub part : is_part w ≡ true
  pub short : length w ≤ MOST_NAME_BYTES

false_behind : (a : Bool) → (a && false) ≡ false
false_behind true = refl
false_behind false = refl

false_within : (a b : Bool) → (a && false && b) ≡ false
false_within true b = refl
false_within false b = refl

-- ---- a token that no longer bytes spell
Follows : List ℕ → List ℕ → Type 0
Follows t rest = (c : ℕ) (rs : List ℕ) → rest ≡ c ∷ rs → (ys : List ℕ) → spells (t ++ (c ∷ ys)) ≡ None

longest-front : (t rest : List ℕ) (l : Lexeme) → 0 < length t → spells t ≡ Some l → Follows t rest → longest (length (t ++ rest)) (t ++ rest) ≡ Some (length t, l)
unfolding Follows
longest-front t rest l some e none =
    longest-at (length (t ++ rest)) (length t) (t ++ rest) l some (omega (arith, length-append t rest)) (ap spells (take-append_seam t rest) ∙ e)
    (λ m a b. longer rest none (m - length t) m (omega arith) (omega arith) (omega (arith, length-append t rest)))
  where
    longer : (r : List ℕ) → ((c : ℕ) (rs : List ℕ) → r ≡ c ∷ rs → (ys : List ℕ) → spells (t ++ (c ∷ ys)) ≡ None) → (j m : ℕ) → m ≡ length t + j → 0 < j → m ≤ length t + length r → spells (take m (t ++ r)) ≡ None
    longer r h zero m is some le = absurd (omega arith)
    longer [] h (suc j) m is some le = absurd (omega arith)
    longer (c ∷ rs) h (suc j) m is some le = ap (λ n. spells (take n (t ++ (c ∷ rs)))) is ∙ ap spells (take-append-add t (c ∷ rs) (suc j)) ∙ h c rs refl (take j rs)

-- where the longest token is known, and isn't too long
cut-here : (b : ℕ) (bs : List ℕ) (n : ℕ) (l : Lexeme) → longest (length (b ∷ bs)) (b ∷ bs) ≡ Some (n, l) → name_len l ≤ MOST_NAME_BYTES → (at : ℕ) → cut_at at (b ∷ bs) ≡ found l at (at + n)
cut-here b bs n l e short at =
    ap (λ (o : Option (ℕ × Lexeme)). elim o [ Some t ↦ cond (nat_lt MOST_NAME_BYTES (name_len t.1)) (fault NameTooLong at) (found t.1 at (at + t.0)) | None ↦ let f = fault_of (b ∷ bs) in fault f.0 (at + f.1) ]) e
    ∙ cond-false (nat_lt MOST_NAME_BYTES (name_len l)) _ _ (le-ltb MOST_NAME_BYTES (name_len l) short)

-- ---- words
stops-word : (bs : List ℕ) (c : ℕ) → Stop c → (ys : List ℕ) → goes_on_word (bs ++ (c ∷ ys)) ≡ false
stops-word [] _ a_space ys = refl
stops-word [] _ a_close ys = refl
stops-word [] _ a_colon ys = refl
stops-word (b ∷ bs) c s ys = ap (λ t. (is_word_char b || (b == 46 && is_at_part (bs ++ (c ∷ ys)))) && t) (stops-word bs c s ys) ∙ false_behind (is_word_char b || (b == 46 && is_at_part (bs ++ (c ∷ ys))))

stop-first : (rest : List ℕ) → Apart rest → (c : ℕ) (rs : List ℕ) → rest ≡ c ∷ rs → Stop c
stop-first _ at_end c rs e = absurd (grind (arith, e))
stop-first _ (at_stop {c = b} s) c rs e = subst Stop (ap (λ xs. slice_index xs 0) e) s

word_not_blank : (b : ℕ) → begins_part b ≡ true → (is_blank b || b == 35) ≡ false
word_not_blank b e = grind (arith, nat_tests, e)

word-by : (b : ℕ) → begins_part b ≡ true → (xs : List ℕ) → spells (b ∷ xs) ≡ cond (goes_on_word xs) (Some (word (b ∷ xs))) None
word-by b e xs = cond-true (begins_part b) _ _ e

word-cut : (b : ℕ) (bs rest : List ℕ) → begins_part b ≡ true → goes_on_word bs ≡ true → length (b ∷ bs) ≤ MOST_NAME_BYTES → Apart rest → IsCut (word (b ∷ bs)) rest
unfolding Follows
word-cut b bs rest begins goes short a = record {
  cut = cut-here b (bs ++ rest) (suc (length bs)) (word (b ∷ bs))
      (longest-front (b ∷ bs) rest (word (b ∷ bs)) (omega arith) (word-by b begins bs ∙ cond-true (goes_on_word bs) _ _ goes)
      (λ c rs e ys. word-by b begins (bs ++ (c ∷ ys)) ∙ cond-false (goes_on_word (bs ++ (c ∷ ys))) _ _ (stops-word bs c (stop-first rest a c rs e) ys))) short;
  close = ap (λ (t : Bool). elim t [ true ↦ 1 + gap_len (b == 35) (bs ++ rest) | false ↦ 0 ]) (word_not_blank b begins);
}

pub cut-word : (w rest : List ℕ) → IsWordText w → Apart rest → IsCut (word w) rest
cut-word w rest h a = subst (λ v. IsCut (word v) rest) (sym h.is) (word-cut h.first h.others rest h.begins h.goes (subst (λ v. length v ≤ MOST_NAME_BYTES) h.is h.short) a)

-- ---- brackets and colons
alone : (b : ℕ) (rest : List ℕ) → (spells (b ∷ []) ≡ Some (punct b)) → ((c : ℕ) (rs : List ℕ) → rest ≡ c ∷ rs → (ys : List ℕ) → spells (b ∷ c ∷ ys) ≡ None) → gap_len false (b ∷ rest) ≡ 0 → IsCut (punct b) rest
unfolding Follows
alone b rest e none close = record { cut = cut-here b rest 1 (punct b) (longest-front (b ∷ []) rest (punct b) (omega arith) e none) (omega arith); close = close }

open_alone : (c : ℕ) (ys : List ℕ) → spells (40 ∷ c ∷ ys) ≡ None
open_alone c [] = refl
open_alone c (y ∷ ys) = refl

close_alone : (c : ℕ) (ys : List ℕ) → spells (41 ∷ c ∷ ys) ≡ None
close_alone c [] = refl
close_alone c (y ∷ ys) = refl

colon_alone : (c : ℕ) (ys : List ℕ) → (c == 61) ≡ false → spells (58 ∷ c ∷ ys) ≡ None
colon_alone c [] e = cond-false (c == 61) _ _ e
colon_alone c (y ∷ ys) e = refl

pub cut-open : (rest : List ℕ) → IsCut opening rest
cut-open rest = alone 40 rest refl (λ c rs e ys. open_alone c ys) refl

pub cut-close : (rest : List ℕ) → IsCut closing rest
cut-close rest = alone 41 rest refl (λ c rs e ys. close_alone c ys) refl

pub cut-colon : (rest : List ℕ) → (slice_index rest 0 == 61) ≡ false → IsCut colon rest
cut-colon rest h = alone 58 rest refl (λ c rs e ys. colon_alone c ys (ap (λ xs. slice_index xs 0 == 61) (sym e) ∙ h)) refl

-- ---- sort variables
stop_no_letter : (c : ℕ) → Stop c → is_word_char c ≡ false
stop_no_letter _ a_space = refl
stop_no_letter _ a_close = refl
stop_no_letter _ a_colon = refl

stop_no_digit : (c : ℕ) → Stop c → is_ascii_digit c ≡ false
stop_no_digit _ a_space = refl
stop_no_digit _ a_close = refl
stop_no_digit _ a_colon = refl

module _ (p : ℕ → Bool) where
  stops-run : (w : List ℕ) (c : ℕ) → p c ≡ false → (ys : List ℕ) → list_all p (w ++ (c ∷ ys)) ≡ false
  stops-run w c e ys = list_all-append p w (c ∷ ys) ∙ ap (λ t. list_all p w && (t && list_all p ys)) e ∙ false_behind (list_all p w)

  run-ends : (w rest : List ℕ) → list_all p w ≡ true → prefix_len p rest ≡ 0 → prefix_len p (w ++ rest) ≡ length w
  run-ends [] rest e z = z
  run-ends (b ∷ bs) rest e z =
      let q = and_parts (p b) (list_all p bs) e in
      cond-true (p b) (1 + prefix_len p (bs ++ rest)) 0 q.0 ∙ omega (arith, run-ends bs rest q.1 z)

pub cut-sort_var : (w rest : List ℕ) → IsPartText w → Apart rest → IsCut (sort_var w) rest
unfolding Follows
cut-sort_var w rest h a = record {
  cut = cut-here 39 (w ++ rest) (suc (length w)) (sort_var w)
      (longest-front (39 ∷ w) rest (sort_var w) (omega arith) (cond-true (is_part w) _ _ h.part)
      (λ c rs e ys. cond-false (is_part (w ++ (c ∷ ys))) _ _
      (ap (λ t. is_at_part (w ++ (c ∷ ys)) && t) (stops-run is_word_char w c (stop_no_letter c (stop-first rest a c rs e)) ys) ∙ false_behind (is_at_part (w ++ (c ∷ ys)))))) h.short;
  close = refl;
}

-- ---- variables
part_front : (w rest : List ℕ) → is_at_part w ≡ true → is_at_part (w ++ rest) ≡ true
part_front [] rest e = absurd (true≢false (sym e))
part_front (b ∷ bs) rest e = e

-- a name and what stands behind it
var-by : (w tail : List ℕ) → IsPartText w → prefix_len is_word_char tail ≡ 0 → spells (63 ∷ (w ++ tail)) ≡ indexed w tail
var-by w tail h z =
    let p = and_parts (is_at_part w) (list_all is_word_char w) h.part in
    let n = run-ends is_word_char w tail p.1 z in
    cond-true (is_at_part (w ++ tail)) _ _ (part_front w tail p.0)
    ∙ (λ i. indexed (take (n i) (w ++ tail)) (drop (n i) (w ++ tail)))
    ∙ (λ i. indexed (take-append_seam w tail i) (drop-append_seam w tail i))

stop-run : (c : ℕ) (ys : List ℕ) → Stop c → prefix_len is_word_char (c ∷ ys) ≡ 0
stop-run _ ys a_space = refl
stop-run _ ys a_close = refl
stop-run _ ys a_colon = refl

stop-indexed : (w : List ℕ) (c : ℕ) (ys : List ℕ) → Stop c → indexed w (c ∷ ys) ≡ None
stop-indexed w _ ys a_space = refl
stop-indexed w _ ys a_close = refl
stop-indexed w _ ys a_colon = refl

-- what stands behind the name is told apart by nothing that follows
record IsIndex (tail : List ℕ) (k : ℕ) : Type 0 where
  no_letter : prefix_len is_word_char tail ≡ 0
  value : (w : List ℕ) → indexed w tail ≡ Some (var w k)
  stops_run : (c : ℕ) → Stop c → (ys : List ℕ) → prefix_len is_word_char (tail ++ (c ∷ ys)) ≡ 0
  stops : (w : List ℕ) (c : ℕ) → Stop c → (ys : List ℕ) → indexed w (tail ++ (c ∷ ys)) ≡ None

no_index : IsIndex [] 0
no_index = record { no_letter = refl; value = λ w. refl; stops_run = λ c s ys. stop-run c ys s; stops = λ w c s ys. stop-indexed w c ys s }

index-is : (ds : List ℕ) → 48 < get_or ds 0 0 → list_all is_ascii_digit ds ≡ true → length ds ≤ 18 → is_index ds ≡ true
index-is [] first all short = absurd (omega arith)
index-is (d ∷ ds) first all short = grind (arith, nat_tests, first, all, short)

index-stops : (ds : List ℕ) (c : ℕ) → Stop c → (ys : List ℕ) → is_index (ds ++ (c ∷ ys)) ≡ false
index-stops [] _ a_space ys = refl
index-stops [] _ a_close ys = refl
index-stops [] _ a_colon ys = refl
index-stops (d ∷ ds) c s ys =
    ap (λ t. not (d == 48) && t && nat_lt (length (ds ++ (c ∷ ys))) MOST_INDEX_DIGITS) (stops-run is_ascii_digit (d ∷ ds) c (stop_no_digit c s) ys)
    ∙ false_within (not (d == 48)) (nat_lt (length (ds ++ (c ∷ ys))) MOST_INDEX_DIGITS)

some_index : (k : ℕ) → 0 < k → k < 10 ^ 18 → IsIndex (37 ∷ decimal k) k
some_index k some small =
    let is = index-is (decimal k) (first_decimal k some (omega arith)) (decimal-digits k (omega arith)) (length-decimal-le 18 k (omega arith) small (omega arith)) in
    record {
      no_letter = refl;
      value = λ w. cond-true (is_index (decimal k)) _ _ is ∙ ap (λ n. Some (var w n)) (decimal-number k (omega arith));
      stops_run = λ c s ys. refl;
      stops = λ w c s ys. cond-false (is_index (decimal k ++ (c ∷ ys))) _ _ (index-stops (decimal k) c s ys);
    }

index_is : (k : ℕ) → k < 10 ^ 18 → IsIndex (index_text k) k
index_is k small = go (k == 0) refl
  where
    go : (b : Bool) → (k == 0) ≡ b → IsIndex (index_text k) k
    go true e = subst (λ n. IsIndex (index_text n) n) (sym (eqb-true k 0 e)) no_index
    go false e = subst (λ t. IsIndex t k) (sym (cond-false (k == 0) [] (37 ∷ decimal k) e)) (some_index k (grind (arith, nat_tests, e)) small)

pub cut-var : (w rest : List ℕ) (k : ℕ) → IsPartText w → k < 10 ^ 18 → Apart rest → IsCut (var w k) rest
unfolding Follows
cut-var w rest k h small a =
    let x = index_is k small in
    record {
      cut = cut-here 63 ((w ++ index_text k) ++ rest) (suc (length (w ++ index_text k))) (var w k)
          (longest-front (63 ∷ (w ++ index_text k)) rest (var w k) (omega arith) (var-by w (index_text k) h x.no_letter ∙ x.value w)
          (λ c rs e ys.
          let s = stop-first rest a c rs e in
          ap (λ t. spells (63 ∷ t)) (append_assoc w (index_text k) (c ∷ ys)) ∙ var-by w (index_text k ++ (c ∷ ys)) h (x.stops_run c s ys) ∙ x.stops w c s ys)) h.short;
      close = refl;
    }
