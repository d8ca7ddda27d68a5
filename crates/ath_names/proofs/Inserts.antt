-- What the set of the texts says of the table.
use Rattle.std.proofs.Common.{◌≡◌, ℕ, IsUtf8, subst, cond, List, [], ◌∷◌, ◌++◌, map, Option, Some, is_some, position, sym, ap, ◌∙◌, ◌⊎◌, inl, inr, string_bytes}
use Rattle.std.specs.Prelude.{String, string_eq}
use Rattle.std.proofs.lemmas.List.{map-append}
use Rattle.std.specs.List.{position_or_len}
use Rattle.std.specs.Str.{bytes_eq}
use Rattle.indexmap.specs.IndexSet.{insert_key}
use Rattle.ath_names.specs.Names.{number_of, interned, Adds, IsTable}
use Rattle.ath_names.proofs.Positions.{IsFound, IsMissing, found_or_missing, position-map, position_or_len-map}
use Rattle.ath_names.proofs.NamesLaws.{number_of-interned, IsTable-interned}

module _ {A : Type 0} (keys : List (String A)) where
  abbrev texts : List (List ℕ)
  texts = map string_bytes keys

  -- looking a text up in the set gives its number
  pub number_of-keys : (text : List ℕ) → number_of texts text ≡ position (λ k. bytes_eq text (string_bytes k)) keys
  number_of-keys text = position-map string_bytes (bytes_eq text) keys

  -- the set with a key in it holds the interned texts
  pub texts-insert_key : (key : String A) → map string_bytes (insert_key string_eq keys key) ≡ interned texts (string_bytes key)
  texts-insert_key key = by (found_or_missing (string_eq key) keys)
    where
      text : List ℕ
      text = string_bytes key

      kept : (o : Option ℕ) → position (string_eq key) keys ≡ o → interned texts text ≡ cond (is_some o) texts (texts ++ text ∷ [])
      kept o e = ap (λ (p : Option ℕ). cond (is_some p) texts (texts ++ text ∷ [])) (number_of-keys text ∙ e)

      by : IsFound (string_eq key) keys ⊎ IsMissing (string_eq key) keys → map string_bytes (insert_key string_eq keys key) ≡ interned texts text
      by (inl f) = ap (λ b. map string_bytes (cond b keys (keys ++ key ∷ []))) f.any ∙ sym (kept _ f.answer)
      by (inr m) = ap (λ b. map string_bytes (cond b keys (keys ++ key ∷ []))) m.any ∙ map-append string_bytes keys (key ∷ []) ∙ sym (kept _ m.answer)

  pub number_of-insert_key : (key : String A) → number_of (map string_bytes (insert_key string_eq keys key)) (string_bytes key) ≡ Some (position_or_len (string_eq key) keys)
  number_of-insert_key key = ap (λ ts. number_of ts (string_bytes key)) (texts-insert_key key) ∙ number_of-interned texts (string_bytes key) ∙ ap Some (position_or_len-map string_bytes (bytes_eq (string_bytes key)) keys)

-- a text that is there already
pub Adds-present : (ts : List (List ℕ)) (text : List ℕ) (n : ℕ) → number_of ts text ≡ Some n → Adds ts text ts n
Adds-present ts text n e = (ap (λ (o : Option ℕ). cond (is_some o) ts (ts ++ text ∷ [])) (sym e), e)

module _ {A : Type 0} (keys new : List (String A)) (key : String A) (text : List ℕ) (is : string_bytes key ≡ text) (inserted : new ≡ insert_key string_eq keys key) where
  new-is : map string_bytes new ≡ interned (map string_bytes keys) text
  new-is = ap (map string_bytes) inserted ∙ texts-insert_key keys key ∙ ap (interned (map string_bytes keys)) is

  -- a text that joins the set
  pub Adds-inserted : (n : ℕ) → n ≡ position_or_len (string_eq key) keys → Adds (map string_bytes keys) text (map string_bytes new) n
  Adds-inserted n e = (new-is, ap (λ ks. number_of (map string_bytes ks) text) inserted ∙ ap (number_of (map string_bytes (insert_key string_eq keys key))) (sym is) ∙ number_of-insert_key keys key ∙ ap Some (sym e))

  pub IsTable-inserted : IsTable (map string_bytes keys) → IsUtf8 text → IsTable (map string_bytes new)
  IsTable-inserted t u = subst IsTable (sym new-is) (IsTable-interned (map string_bytes keys) text t u)
