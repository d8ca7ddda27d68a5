-- The first place at which a test passes, in a list that grows at its end.
use Rattle.std.proofs.Common.{◌≡◌, ◌+◌, ◌<◌, Bool, true, false, cond, not, List, [], ◌∷◌, ◌++◌, length, map, Some, None, position, refl, ap, ◌⊎◌, inl, inr, arith, length-append}
use Rattle.std.proofs.lemmas.List.{length-map}
use Rattle.std.proofs.lemmas.List.Folds.{position_or_len_push}
use Rattle.std.specs.List.{list_any, position_or_len}

module _ {X : Type 0} (p : X → Bool) where
  -- the test passes at a place within the list, or nowhere
  pub record IsFound (xs : List X) : Type 0 where
    pub within : position_or_len p xs < length xs
    pub answer : position p xs ≡ Some (position_or_len p xs)
    pub any : list_any p xs ≡ true

  pub record IsMissing (xs : List X) : Type 0 where
    pub at_end : position_or_len p xs ≡ length xs
    pub answer : position p xs ≡ None
    pub any : list_any p xs ≡ false

  pub found_or_missing : (xs : List X) → IsFound xs ⊎ IsMissing xs
  found_or_missing [] = inr (record { at_end = refl; answer = refl; any = refl })
  found_or_missing (x ∷ xs) = by (p x) refl (found_or_missing xs)
    where
      by : (b : Bool) → p x ≡ b → IsFound xs ⊎ IsMissing xs → IsFound (x ∷ xs) ⊎ IsMissing (x ∷ xs)
      by true e rest = inl (record { within = grind arith; answer = grind arith; any = grind arith })
      by false e (inl f) = inl (record { within = grind (arith, f.within); answer = grind (arith, f.within); any = grind (arith, f.any) })
      by false e (inr m) = inr (record { at_end = grind (arith, m.at_end); answer = grind (arith, m.at_end); any = grind (arith, m.any) })

  pub found-push : (xs : List X) (y : X) → IsFound xs → position p (xs ++ y ∷ []) ≡ Some (position_or_len p xs)
  found-push xs y f =
      let e = position_or_len_push p xs y in
      let l = length-append xs (y ∷ []) in
      let w = f.within in
      grind arith

  pub missing-push : (xs : List X) (y : X) → IsMissing xs → p y ≡ true → position p (xs ++ y ∷ []) ≡ Some (length xs)
  missing-push xs y m t =
      let e = position_or_len_push p xs y in
      let l = length-append xs (y ∷ []) in
      let w = m.at_end in
      grind arith

pub position_or_len-map : {X Y : Type 0} (f : X → Y) (p : Y → Bool) (xs : List X) → position_or_len p (map f xs) ≡ position_or_len (λ x. p (f x)) xs
position_or_len-map f p [] = refl
position_or_len-map f p (x ∷ xs) = ap (λ n. cond (not (p (f x))) (1 + n) 0) (position_or_len-map f p xs)

pub position-map : {X Y : Type 0} (f : X → Y) (p : Y → Bool) (xs : List X) → position p (map f xs) ≡ position (λ x. p (f x)) xs
position-map f p xs = rw (position_or_len-map f p xs, length-map xs f)
