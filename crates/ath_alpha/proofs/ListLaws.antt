-- Two lists under two functions.
use Rattle.std.proofs.Common.{◌≡◌, ℕ, zero, suc, ◌<◌, ◌≤◌, List, [], ◌∷◌, length, map, take, get_or, refl, arith}
use Rattle.std.proofs.lemmas.List.{take_all}

module _ {A B : Type 0} (f g : A → B) where
  pub maps-lengths : (xs ys : List A) → map f xs ≡ map g ys → length xs ≡ length ys
  maps-lengths [] [] e = refl
  maps-lengths (x ∷ xs) (y ∷ ys) e = let r : map f xs ≡ map g ys = cc in let q = maps-lengths xs ys r in omega arith
  maps-lengths [] (y ∷ ys) e = absurd (cc)
  maps-lengths (x ∷ xs) [] e = absurd (cc)

  pub maps-at : (xs ys : List A) (i : ℕ) (a b : A) → i < length xs → i < length ys → map f xs ≡ map g ys → f (get_or xs i a) ≡ g (get_or ys i b)
  maps-at [] ys i a b h k e = absurd (omega arith)
  maps-at (x ∷ xs) [] i a b h k e = absurd (omega arith)
  maps-at (x ∷ xs) (y ∷ ys) zero a b h k e = cc
  maps-at (x ∷ xs) (y ∷ ys) (suc i) a b h k e = let r : map f xs ≡ map g ys = cc in maps-at xs ys i a b (omega arith) (omega arith) r

  -- every member
  pub maps-all : (xs ys : List A) (n : ℕ) → length xs ≤ n → length ys ≤ n → map f (take n xs) ≡ map g (take n ys) → map f xs ≡ map g ys
  maps-all xs ys n h k e = rw (take_all n xs h, take_all n ys k) at e
