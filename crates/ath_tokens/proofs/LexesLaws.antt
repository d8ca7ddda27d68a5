-- What the steps of reading a token find is the longest token, or the fault there.
use Rattle.std.proofs.Common.{◌≡◌, ℕ, zero, suc, ◌+◌, ◌<◌, ◌≤◌, Bool, true, false, cond, ◌&&◌, List, [], ◌∷◌, length, take, drop, slice_index, Some, None, refl, sym, ap, subst, ◌∙◌, true≢false, ⊎_elim, arith, ◌==◌, eqb-true}
use Rattle.std.proofs.lemmas.Bool.{cases_lt, and_parts}
use Rattle.std.proofs.lemmas.Bool.Decides.{nat_tests}
use Rattle.std.proofs.lemmas.List.{length-take, length-drop}
use Rattle.std.proofs.lemmas.List.Sums.{prefix_len-le-length}
use Rattle.std.proofs.lemmas.Str.{utf8_valid_len_le}
use Rattle.std.proofs.lemmas.Str.Ascii.{IsAscii-nil, IsAscii-cons}
use Rattle.std.specs.Char.{is_ascii_digit}
use Rattle.std.specs.List.{list_all, prefix_len}
use Rattle.std.specs.Str.{IsAscii, is_utf8}
use Rattle.ath_tokens.specs.declared.lexeme.Lexed.{Lexed}
use Rattle.ath_tokens.specs.declared.lexeme.Lexed.TheVariants.{Word, Var, SortVar, Str, Punct, Becomes, Fault}
use Rattle.ath_tokens.specs.declared.quoted.Quoted.{Quoted as Answer}
use Rattle.ath_tokens.specs.declared.quoted.Quoted.TheVariants.{Closed, Wrong, Unclosed}
use Rattle.ath_tokens.specs.Bytes.{is_word_char, begins_part, is_at_part, is_punct}
use Rattle.ath_tokens.specs.Quoted.{plain, closed, wrong, unclosed, quoted}
use Rattle.ath_tokens.specs.Spelling.{word, var, sort_var, str, becomes, goes_on_word, number}
use Rattle.ath_tokens.specs.Cut.{longest, fault_in}
use Rattle.ath_tokens.specs.Scan.{word_more, index_digits, Faults, Lexes}
use Rattle.ath_tokens.specs.Strings.{as_quoted, fault_lexed, string_lexed, fault_at, IsWithin}
use Rattle.ath_tokens.proofs.Scans.{all-front, all-within, word-front, word_more-le}
use Rattle.ath_tokens.proofs.FirstBytes.{longest-word, longest-sort_var, longest-no_sort_var, longest-var, longest-var_index, longest-no_var_part, longest-punct, longest-nothing, longest-becomes, HasIndex, has_index}
use Rattle.ath_tokens.proofs.SpelledNames.{part_holds, word_holds, ascii-more}
use Rattle.ath_tokens.proofs.Strings.{longest-str, longest-bad_str, longest-no_str}

-- names are ASCII
not_word : (b : ℕ) → 128 ≤ b → is_word_char b ≡ false
not_word b h = grind (arith, nat_tests)

word_char-ascii : (b : ℕ) → is_word_char b ≡ true → b < 128
word_char-ascii b e = ⊎_elim (λ below. below) (λ above. absurd (true≢false (sym e ∙ not_word b above))) (cases_lt b 128)

all-ascii : (bs : List ℕ) → list_all is_word_char bs ≡ true → IsAscii bs
all-ascii = part_holds IsAscii IsAscii-nil ascii-more

word-ascii : (bs : List ℕ) → goes_on_word bs ≡ true → IsAscii bs
word-ascii = word_holds IsAscii IsAscii-nil ascii-more

-- where no token begins, the fault is the answer
pub lexes-fault : (rest : List ℕ) (l : Lexed) → longest (length rest) rest ≡ None → Faults rest l → Lexes rest l
lexes-fault rest (Fault kind at) e f = (e, f)
lexes-fault rest (Word n) e f = absurd f
lexes-fault rest (Var m i n) e f = absurd f
lexes-fault rest (SortVar n) e f = absurd f
lexes-fault rest (Str s n) e f = absurd f
lexes-fault rest (Punct c) e f = absurd f
lexes-fault rest Becomes e f = absurd f

pub lexes-word : (rest : List ℕ) (n : ℕ) → 0 < length rest → begins_part (slice_index rest 0) ≡ true → n ≡ 1 + word_more (drop 1 rest) → Lexes rest (Word n)
lexes-word [] n some part e = absurd (omega arith)
lexes-word (b ∷ bs) n some part e =
    let len : n ≡ suc (word_more bs) = omega (arith, e) in (
      subst (λ k. longest (length (b ∷ bs)) (b ∷ bs) ≡ Some (k, word (take k (b ∷ bs)))) (sym len) (longest-word b bs part),
      subst (λ k. IsAscii (take k (b ∷ bs))) (sym len) (IsAscii-cons b (take (word_more bs) bs) (word_char-ascii b (and_parts (is_word_char b) _ part).0) (word-ascii (take (word_more bs) bs) (word-front bs))),
      omega (arith, len, word_more-le bs),
    )

pub lexes-sort_var : (rest : List ℕ) (n : ℕ) → 0 < length rest → slice_index rest 0 ≡ 39 → is_at_part (drop 1 rest) ≡ true → n ≡ prefix_len is_word_char (drop 1 rest) → Lexes rest (SortVar n)
lexes-sort_var [] n some mark part e = absurd (omega arith)
lexes-sort_var (b ∷ bs) n some mark part e =
    let next : 1 + n ≡ suc (prefix_len is_word_char bs) = omega (arith, e) in (
      subst (λ c. longest (length (c ∷ bs)) (c ∷ bs) ≡ Some (1 + n, sort_var (take n bs))) (sym mark)
          (longest-sort_var bs part ∙ (λ i. Some (sym next i, sort_var (take (sym e i) bs)))),
      subst (λ k. IsAscii (take k bs)) (sym e) (all-ascii (take (prefix_len is_word_char bs) bs) (all-front is_word_char bs)),
      omega (arith, e, prefix_len-le-length is_word_char bs),
    )

pub no_sort_var : (rest : List ℕ) → 0 < length rest → slice_index rest 0 ≡ 39 → is_at_part (drop 1 rest) ≡ false → longest (length rest) rest ≡ None
no_sort_var [] some mark part = absurd (omega arith)
no_sort_var (b ∷ bs) some mark part = subst (λ c. longest (length (c ∷ bs)) (c ∷ bs) ≡ None) (sym mark) (longest-no_sort_var bs part)

pub no_var : (rest : List ℕ) → 0 < length rest → slice_index rest 0 ≡ 63 → is_at_part (drop 1 rest) ≡ false → longest (length rest) rest ≡ None
no_var [] some mark part = absurd (omega arith)
no_var (b ∷ bs) some mark part = subst (λ c. longest (length (c ∷ bs)) (c ∷ bs) ≡ None) (sym mark) (longest-no_var_part bs part)

drop-next : (n : ℕ) (bs : List ℕ) → drop (suc n) bs ≡ drop 1 (drop n bs)
drop-next zero bs = refl
drop-next (suc n) [] = refl
drop-next (suc n) (b ∷ bs) = drop-next n bs

-- a variable, of whose text the code knows the length of the name and the count of the digits
module _ (b : ℕ) (bs : List ℕ) (n d : ℕ) (mark : b ≡ 63) (part : is_at_part bs ≡ true) (e : n ≡ prefix_len is_word_char bs) (digits : d ≡ index_digits (drop (1 + n) (b ∷ bs))) where
  after_name : drop (1 + n) (b ∷ bs) ≡ drop (prefix_len is_word_char bs) bs
  after_name = let next : 1 + n ≡ suc n = omega arith in ap (λ k. drop k (b ∷ bs)) next ∙ ap (λ k. drop k bs) e

  count : d ≡ index_digits (drop (prefix_len is_word_char bs) bs)
  count = digits ∙ ap index_digits after_name

  name-ascii : IsAscii (take n bs)
  name-ascii = subst (λ k. IsAscii (take k bs)) (sym e) (all-ascii (take (prefix_len is_word_char bs) bs) (all-front is_word_char bs))

  plain_var : d ≡ 0 → Lexes (b ∷ bs) (Var n 0 (1 + n))
  plain_var none =
      let next : 1 + n ≡ suc (prefix_len is_word_char bs) = omega (arith, e) in (
        subst (λ c. longest (length (c ∷ bs)) (c ∷ bs) ≡ Some (1 + n, var (take n bs) 0)) (sym mark)
            (longest-var bs part (sym count ∙ none) ∙ (λ i. Some (sym next i, var (take (sym e i) bs) 0))),
        name-ascii,
        omega arith,
        omega (arith, e, prefix_len-le-length is_word_char bs),
      )

  module _ (some : 0 < d) where
    text : HasIndex (drop (prefix_len is_word_char bs) bs)
    text = has_index (drop (prefix_len is_word_char bs) bs) (omega (arith, count, some))

    after_percent : drop (2 + n) (b ∷ bs) ≡ text.digits
    after_percent =
        let next : 2 + n ≡ suc (suc n) = omega arith in
        ap (λ k. drop k (b ∷ bs)) next ∙ ap (λ k. drop (suc k) bs) e ∙ drop-next (prefix_len is_word_char bs) bs ∙ ap (drop 1) text.is

    abbrev slice : List ℕ
    slice = take d (drop (2 + n) (b ∷ bs))

    slice-is : slice ≡ take (index_digits (drop (prefix_len is_word_char bs) bs)) text.digits
    slice-is = λ i. take (count i) (after_percent i)

    slice-digits : list_all is_ascii_digit slice ≡ true
    slice-digits = ap (list_all is_ascii_digit) slice-is ∙ all-within is_ascii_digit text.digits (index_digits (drop (prefix_len is_word_char bs) bs)) (omega (arith, text.count))

    index_var : (value : ℕ) → value ≡ number slice → Lexes (b ∷ bs) (Var n value (2 + n + d))
    index_var value v =
        let len : 2 + n + d ≡ suc (prefix_len is_word_char bs + suc (index_digits (drop (prefix_len is_word_char bs) bs))) = omega (arith, e, count) in (
          subst (λ c. longest (length (c ∷ bs)) (c ∷ bs) ≡ Some (2 + n + d, var (take n bs) value)) (sym mark)
              (longest-var_index bs part text (omega (arith, count, some)) ∙ (λ i. Some (sym len i, var (take (sym e i) bs) (sym (v ∙ ap number slice-is) i)))),
          name-ascii,
          omega arith,
          omega (arith, e, count, text.count, ap length text.is, length-drop (prefix_len is_word_char bs) bs, prefix_len-le-length is_ascii_digit text.digits, prefix_len-le-length is_word_char bs),
        )

module _ (n d : ℕ) where
  pub lexes-var : (rest : List ℕ) → 0 < length rest → slice_index rest 0 ≡ 63 → is_at_part (drop 1 rest) ≡ true → n ≡ prefix_len is_word_char (drop 1 rest) → d ≡ index_digits (drop (1 + n) rest) → d ≡ 0 → Lexes rest (Var n 0 (1 + n))
  lexes-var [] some mark part e digits none = absurd (omega arith)
  lexes-var (b ∷ bs) some mark part e digits none = plain_var b bs n d mark part e digits none

  pub var-digits : (rest : List ℕ) → 0 < length rest → slice_index rest 0 ≡ 63 → is_at_part (drop 1 rest) ≡ true → n ≡ prefix_len is_word_char (drop 1 rest) → d ≡ index_digits (drop (1 + n) rest) → 0 < d
      → list_all is_ascii_digit (take d (drop (2 + n) rest)) ≡ true
  var-digits [] some mark part e digits more = absurd (omega arith)
  var-digits (b ∷ bs) some mark part e digits more = slice-digits b bs n d mark part e digits more

  pub lexes-var_index : (rest : List ℕ) → 0 < length rest → slice_index rest 0 ≡ 63 → is_at_part (drop 1 rest) ≡ true → n ≡ prefix_len is_word_char (drop 1 rest) → d ≡ index_digits (drop (1 + n) rest) → 0 < d
      → (value : ℕ) → value ≡ number (take d (drop (2 + n) rest)) → Lexes rest (Var n value (2 + n + d))
  lexes-var_index [] some mark part e digits more value v = absurd (omega arith)
  lexes-var_index (b ∷ bs) some mark part e digits more value v = index_var b bs n d mark part e digits more value v

-- a mark
pub lexes-becomes : (rest : List ℕ) → (slice_index rest 0 == 58 && slice_index rest 1 == 61) ≡ true → Lexes rest Becomes
lexes-becomes [] e = absurd (true≢false (sym e))
lexes-becomes (b ∷ []) e = absurd (true≢false (sym (and_parts (b == 58) false e).1))
lexes-becomes (b ∷ c ∷ cs) e =
    let p = and_parts (b == 58) (c == 61) e in
    subst (λ x. longest (length (x ∷ c ∷ cs)) (x ∷ c ∷ cs) ≡ Some (2, becomes)) (sym (eqb-true b 58 p.0)) (subst (λ y. longest (length (58 ∷ y ∷ cs)) (58 ∷ y ∷ cs) ≡ Some (2, becomes)) (sym (eqb-true c 61 p.1)) (longest-becomes cs))

module _ (rest : List ℕ) where
  pub lexes-punct : (b : ℕ) → b ≡ slice_index rest 0 → 0 < length rest → begins_part (slice_index rest 0) ≡ false → (slice_index rest 0 == 63) ≡ false → (slice_index rest 0 == 39) ≡ false → (slice_index rest 0 == 34) ≡ false
      → is_punct b ≡ true → (slice_index rest 0 == 58 && slice_index rest 1 == 61) ≡ false → Lexes rest (Punct b)
  lexes-punct b is some no_part no_v no_sort no_str mark apart = subst (λ c. Lexes rest (Punct c)) (sym is) (by rest some no_part no_v no_sort no_str (sym (ap is_punct is) ∙ mark) apart)
    where
      by : (bs : List ℕ) → 0 < length bs → begins_part (slice_index bs 0) ≡ false → (slice_index bs 0 == 63) ≡ false → (slice_index bs 0 == 39) ≡ false → (slice_index bs 0 == 34) ≡ false
          → is_punct (slice_index bs 0) ≡ true → (slice_index bs 0 == 58 && slice_index bs 1 == 61) ≡ false → Lexes bs (Punct (slice_index bs 0))
      by [] s p v so st m a = absurd (omega arith)
      by (x ∷ xs) s p v so st m a = longest-punct x xs p v so st m a

  pub no_mark : 0 < length rest → begins_part (slice_index rest 0) ≡ false → (slice_index rest 0 == 63) ≡ false → (slice_index rest 0 == 39) ≡ false → (slice_index rest 0 == 34) ≡ false → is_punct (slice_index rest 0) ≡ false
      → longest (length rest) rest ≡ None
  no_mark = by rest
    where
      by : (bs : List ℕ) → 0 < length bs → begins_part (slice_index bs 0) ≡ false → (slice_index bs 0 == 63) ≡ false → (slice_index bs 0 == 39) ≡ false → (slice_index bs 0 == 34) ≡ false → is_punct (slice_index bs 0) ≡ false
          → longest (length bs) bs ≡ None
      by [] s p v so st m = absurd (omega arith)
      by (x ∷ xs) s p v so st m = longest-nothing x xs p v so st m

-- a string
string-at : (bs : List ℕ) (q : Answer) → quoted plain bs ≡ as_quoted q → IsWithin bs q → fault_at (string_lexed bs q) ≤ length bs → Lexes (34 ∷ bs) (string_lexed bs q)
string-at bs (Closed n means) e within far = by (is_utf8 (take n bs)) refl far
  where
    by : (t : Bool) → is_utf8 (take n bs) ≡ t → fault_at (string_lexed bs (Closed n means)) ≤ length bs → Lexes (34 ∷ bs) (string_lexed bs (Closed n means))
    by true u f =
        let next : n + 2 ≡ suc (suc n) = omega arith in
        subst (λ t. Lexes (34 ∷ bs) (cond t (Str means.items (n + 2)) (fault_lexed (fault_in bs (closed n means.items))))) (sym u)
        (longest-str bs n means.items e u ∙ (λ i. Some (sym next i, str means.items)), omega (arith, within))
    by false u f =
        subst (λ t. Lexes (34 ∷ bs) (cond t (Str means.items (n + 2)) (fault_lexed (fault_in bs (closed n means.items))))) (sym u)
        (longest-bad_str bs n means.items e u, (omega (arith, utf8_valid_len_le (take n bs), length-take n bs, within), ap (fault_in bs) e))
string-at bs (Wrong back at) e within far = (longest-no_str bs (λ n means c. let clash : wrong back at ≡ closed n means = sym e ∙ c in cc), (omega (arith, far), ap (fault_in bs) e))
string-at bs Unclosed e within far = (longest-no_str bs (λ n means c. let clash : unclosed ≡ closed n means = sym e ∙ c in cc), (omega (arith, far), ap (fault_in bs) e))

pub lexes-string : (rest body : List ℕ) (q : Answer) (l : Lexed) → 0 < length rest → slice_index rest 0 ≡ 34 → body ≡ drop 1 rest → quoted plain body ≡ as_quoted q → IsWithin body q → l ≡ string_lexed body q → fault_at l ≤ length body → Lexes rest l
lexes-string [] body q l some mark tail e within is far = absurd (omega arith)
lexes-string (b ∷ bs) body q l some mark tail e within is far =
    let here = string-at body q e within (subst (λ x. fault_at x ≤ length body) is far) in
    subst (λ x. Lexes (b ∷ bs) x) (sym is) (subst (λ x. Lexes (x ∷ bs) (string_lexed body q)) (sym mark) (subst (λ xs. Lexes (34 ∷ xs) (string_lexed body q)) tail here))
