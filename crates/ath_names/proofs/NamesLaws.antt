-- What callers know of a table of names: what interning keeps, and which text a number stands for.
use Rattle.std.proofs.Common.{◌≡◌, ℕ, zero, suc, ◌<◌, true, cond, List, [], ◌∷◌, ◌++◌, length, get_or, slice_get, Option, Some, None, is_some, refl, sym, ap, subst, ◌∙◌, true≢false, arith, IsUtf8, All, inl, inr, ◌⊎◌, append_assoc}
use Rattle.std.proofs.lemmas.List.{append-nil}
use Rattle.std.proofs.lemmas.List.Quantifiers.{position-Some}
use Rattle.std.proofs.lemmas.List.Elements.{All-push}
use Rattle.std.proofs.lemmas.Map.Keys.{IsDistinct-push, apart_from_distinct}
use Rattle.std.proofs.lemmas.Slice.Eq.{bytes_eq-Decides}
use Rattle.std.proofs.lemmas.Option.{get_or_from_slice_get, slice_get-get_or, slice_get_within}
use Rattle.std.proofs.lemmas.List.Sums.{position_or_len_is}
use Rattle.std.proofs.lemmas.Bool.{false_from_ne_true}
use Rattle.std.specs.List.{position_or_len, IsDistinct}
use Rattle.std.specs.Str.{bytes_eq}
use Rattle.std.specs.Cmp.Lexicographic.{nat_list_eq_equiv}
use Rattle.ath_names.specs.Names.{number_of, interned, KeepsNames, IsTable}
use Rattle.ath_names.proofs.Positions.{IsFound, IsMissing, found_or_missing, found-push, missing-push}

same : (text : List ℕ) → bytes_eq text text ≡ true
same text = (bytes_eq-Decides text text).1 refl

module _ (texts : List (List ℕ)) (text : List ℕ) where
  there : IsFound (bytes_eq text) texts → interned texts text ≡ texts
  there f = ap (λ (o : Option ℕ). cond (is_some o) texts (texts ++ text ∷ [])) f.answer

  absent : IsMissing (bytes_eq text) texts → interned texts text ≡ texts ++ text ∷ []
  absent m = ap (λ (o : Option ℕ). cond (is_some o) texts (texts ++ text ∷ [])) m.answer

  -- a text that is interned has a number
  pub number_of-interned : number_of (interned texts text) text ≡ Some (position_or_len (bytes_eq text) texts)
  number_of-interned = by (found_or_missing (bytes_eq text) texts)
    where
      by : IsFound (bytes_eq text) texts ⊎ IsMissing (bytes_eq text) texts → number_of (interned texts text) text ≡ Some (position_or_len (bytes_eq text) texts)
      by (inl f) = ap (λ ts. number_of ts text) (there f) ∙ f.answer
      by (inr m) = ap (λ ts. number_of ts text) (absent m) ∙ missing-push (bytes_eq text) texts text m (same text) ∙ ap Some (sym m.at_end)

  -- interning only grows the table
  pub KeepsNames-interned : KeepsNames texts (interned texts text)
  KeepsNames-interned = by (found_or_missing (bytes_eq text) texts)
    where
      by : IsFound (bytes_eq text) texts ⊎ IsMissing (bytes_eq text) texts → KeepsNames texts (interned texts text)
      by (inl f) = record { more = []; longer = there f ∙ sym (append-nil texts) }
      by (inr m) = record { more = text ∷ []; longer = absent m }

  -- interning keeps a table a table
  pub IsTable-interned : IsTable texts → IsUtf8 text → IsTable (interned texts text)
  IsTable-interned t u = by (found_or_missing (bytes_eq text) texts)
    where
      by : IsFound (bytes_eq text) texts ⊎ IsMissing (bytes_eq text) texts → IsTable (interned texts text)
      by (inl f) = subst IsTable (sym (there f)) t
      by (inr m) = subst IsTable (sym (absent m)) (record {
        distinct = IsDistinct-push nat_list_eq_equiv texts text t.distinct m.any;
        utf8 = All-push IsUtf8 texts text t.utf8 u;
      })

pub KeepsNames-refl : (texts : List (List ℕ)) → KeepsNames texts texts
KeepsNames-refl texts = record { more = []; longer = sym (append-nil texts) }

pub KeepsNames-trans : {first second third : List (List ℕ)} → KeepsNames first second → KeepsNames second third → KeepsNames first third
KeepsNames-trans {first} a b = record { more = a.more ++ b.more; longer = b.longer ∙ ap (λ ts. ts ++ b.more) a.longer ∙ append_assoc first a.more b.more }

-- a table that grows keeps the text of every number
pub text_kept : {old new : List (List ℕ)} → KeepsNames old new → (n : ℕ) → n < length old → slice_get new n ≡ slice_get old n
text_kept {old} g n h = ap (λ ts. slice_get ts n) g.longer ∙ left old n h
  where
    left : (ts : List (List ℕ)) (k : ℕ) → k < length ts → slice_get (ts ++ g.more) k ≡ slice_get ts k
    left [] k l = absurd (omega arith)
    left (t ∷ ts) zero l = refl
    left (t ∷ ts) (suc k) l = left ts k (omega arith)

-- a table that grows keeps the number of every text
pub number_kept : {old new : List (List ℕ)} → KeepsNames old new → (text : List ℕ) (n : ℕ) → number_of old text ≡ Some n → number_of new text ≡ Some n
number_kept {old} g text n e = ap (λ ts. number_of ts text) g.longer ∙ on old g.more e
  where
    on : (ts more : List (List ℕ)) → number_of ts text ≡ Some n → number_of (ts ++ more) text ≡ Some n
    on ts [] h = ap (λ us. number_of us text) (append-nil ts) ∙ h
    on ts (m ∷ more) h = ap (λ us. number_of us text) (sym (append_assoc ts (m ∷ []) more)) ∙ on (ts ++ m ∷ []) more (by (found_or_missing (bytes_eq text) ts) h)
      where
        by : IsFound (bytes_eq text) ts ⊎ IsMissing (bytes_eq text) ts → number_of ts text ≡ Some n → number_of (ts ++ m ∷ []) text ≡ Some n
        by (inl f) j = found-push (bytes_eq text) ts m f ∙ sym f.answer ∙ j
        by (inr f) j = let clash : None ≡ Some n = sym f.answer ∙ j in cc

-- the text of a text's number is the text
pub text_of_number : (texts : List (List ℕ)) (text : List ℕ) (n : ℕ) → number_of texts text ≡ Some n → slice_get texts n ≡ Some text
text_of_number texts text n e =
    let p = position-Some (bytes_eq text) texts n text e in
    slice_get-get_or texts n text p.0 ∙ ap Some (sym ((bytes_eq-Decides text (get_or texts n text)).0 p.1))

-- what isn't UTF-8 has no number
pub number_of-not_utf8 : (texts : List (List ℕ)) (text : List ℕ) → All IsUtf8 texts → (IsUtf8 text → ⊥) → number_of texts text ≡ None
number_of-not_utf8 texts text all bad = by (found_or_missing (bytes_eq text) texts)
  where
    by : IsFound (bytes_eq text) texts ⊎ IsMissing (bytes_eq text) texts → number_of texts text ≡ None
    by (inl f) =
        let n = position_or_len (bytes_eq text) texts in
        let p = position-Some (bytes_eq text) texts n text f.answer in
        absurd (bad (subst IsUtf8 (sym ((bytes_eq-Decides text (get_or texts n text)).0 p.1)) (all n text p.0)))
    by (inr m) = m.answer

-- in a table each text has the number of its place
pub number_of_text : (texts : List (List ℕ)) (n : ℕ) (text : List ℕ) → IsTable texts → slice_get texts n ≡ Some text → number_of texts text ≡ Some n
number_of_text texts n text table e = by (found_or_missing (bytes_eq text) texts)
  where
    within : n < length texts
    within = slice_get_within texts n text e

    at : (d : List ℕ) → get_or texts n d ≡ text
    at d = get_or_from_slice_get texts n text d e

    first : position_or_len (bytes_eq text) texts ≡ n
    first = position_or_len_is (bytes_eq text) texts n text (omega (arith, within)) (λ k lt. false_from_ne_true _ (λ t.
        let apart = apart_from_distinct bytes_eq texts k n text table.distinct lt within in
        let one : get_or texts k text ≡ get_or texts n text = sym ((bytes_eq-Decides text (get_or texts k text)).0 t) ∙ sym (at text) in
        true≢false (sym ((bytes_eq-Decides (get_or texts k text) (get_or texts n text)).1 one) ∙ apart)))
        (λ _. (bytes_eq-Decides text (get_or texts n text)).1 (sym (at text)))

    by : IsFound (bytes_eq text) texts ⊎ IsMissing (bytes_eq text) texts → number_of texts text ≡ Some n
    by (inl f) = f.answer ∙ ap Some first
    by (inr m) = absurd (omega (arith, m.at_end, first, within))

pub IsTable-nil : IsTable []
unfolding IsDistinct
IsTable-nil = record { distinct = tt; utf8 = λ k d h. absurd (omega arith) }
