-- Items of lists by their places.
use Rattle.std.proofs.Common.{◌≡◌, ℕ, zero, suc, ◌+◌, ◌<◌, ◌≤◌, List, [], ◌∷◌, ◌++◌, length, map, take, drop, get_or, slice_get, Option, Some, None, refl, sym, ap, subst, arith, ◌⊎◌, inl, inr}
use Rattle.std.specs.List.{AllByRecursion}

pub some-inj : {X : Type 0} (x y : X) → ◌≡◌ {A = Option X} (Some x) (Some y) → x ≡ y
some-inj x y e = cc

pub some-not-none : {X : Type 0} (x : X) → ◌≡◌ {A = Option X} (Some x) None → ⊥
some-not-none x e = cc

pub get-left : {X : Type 0} (xs ys : List X) (i : ℕ) → i < length xs → slice_get (xs ++ ys) i ≡ slice_get xs i
get-left [] ys i h = absurd (omega arith)
get-left (x ∷ xs) ys zero h = refl
get-left (x ∷ xs) ys (suc i) h = get-left xs ys i (omega arith)

pub get-seam : {X : Type 0} (xs : List X) (y : X) (ys : List X) → slice_get (xs ++ y ∷ ys) (length xs) ≡ Some y
get-seam [] y ys = refl
get-seam (x ∷ xs) y ys = get-seam xs y ys

pub get-within : {X : Type 0} (xs : List X) (i : ℕ) (x : X) → slice_get xs i ≡ Some x → i < length xs
get-within [] i x h = absurd (some-not-none x (sym h))
get-within (y ∷ xs) zero x h = omega arith
get-within (y ∷ xs) (suc i) x h = let r = get-within xs i x h in omega arith

pub get-there : {X : Type 0} (xs : List X) (i : ℕ) → i < length xs → (x : X) × (slice_get xs i ≡ Some x)
get-there [] i h = absurd (omega arith)
get-there (x ∷ xs) zero h = (x, refl)
get-there (x ∷ xs) (suc i) h = get-there xs i (omega arith)

pub get-past : {X : Type 0} (xs : List X) (i : ℕ) → length xs ≤ i → slice_get xs i ≡ None
get-past [] i h = refl
get-past (x ∷ xs) zero h = absurd (omega arith)
get-past (x ∷ xs) (suc i) h = get-past xs i (omega arith)

-- an item of a list with one more is an old one or the new one
pub get-last : {X : Type 0} (xs : List X) (x : X) (i : ℕ) (y : X) → slice_get (xs ++ x ∷ []) i ≡ Some y → ((i < length xs) × (slice_get xs i ≡ Some y)) ⊎ ((i ≡ length xs) × (x ≡ y))
get-last [] x zero y h = inr (refl, some-inj x y h)
get-last [] x (suc i) y h = absurd (some-not-none y (sym h))
get-last (z ∷ xs) x zero y h = inl (omega arith, h)
get-last (z ∷ xs) x (suc i) y h = elim (get-last xs x i y h) [
  | inl p ↦ inl (let q = p.0 in omega arith, p.1)
  | inr p ↦ inr (ap suc p.0, p.1)
]

pub get-or-get : {X : Type 0} (xs : List X) (i : ℕ) (d x : X) → slice_get xs i ≡ Some x → get_or xs i d ≡ x
get-or-get [] i d x h = absurd (some-not-none x (sym h))
get-or-get (y ∷ xs) zero d x h = some-inj y x h
get-or-get (y ∷ xs) (suc i) d x h = get-or-get xs i d x h

pub get-from-or : {X : Type 0} (xs : List X) (i : ℕ) (d : X) → i < length xs → slice_get xs i ≡ Some (get_or xs i d)
get-from-or [] i d h = absurd (omega arith)
get-from-or (y ∷ xs) zero d h = refl
get-from-or (y ∷ xs) (suc i) d h = get-from-or xs i d (omega arith)

pub get-map : {X Y : Type 0} (f : X → Y) (xs : List X) (i : ℕ) (x : X) → slice_get xs i ≡ Some x → slice_get (map f xs) i ≡ Some (f x)
get-map f [] i x h = absurd (some-not-none x (sym h))
get-map f (y ∷ xs) zero x h = ap (λ z. Some (f z)) (some-inj y x h)
get-map f (y ∷ xs) (suc i) x h = get-map f xs i x h

pub length-snoc : {X : Type 0} (xs : List X) (x : X) → length (xs ++ x ∷ []) ≡ length xs + 1
length-snoc [] x = omega arith
length-snoc (y ∷ xs) x = let r = length-snoc xs x in omega arith

pub length-both : {X : Type 0} (xs ys : List X) → length (xs ++ ys) ≡ length xs + length ys
length-both [] ys = omega arith
length-both (x ∷ xs) ys = let r = length-both xs ys in omega arith

pub split-at : {X : Type 0} (xs : List X) (i : ℕ) (x : X) → slice_get xs i ≡ Some x → (xs ≡ take i xs ++ x ∷ drop (suc i) xs) × (length (take i xs) ≡ i)
split-at [] i x h = absurd (some-not-none x (sym h))
split-at (y ∷ xs) zero x h = (ap (λ z. z ∷ xs) (some-inj y x h), refl)
split-at (y ∷ xs) (suc i) x h = let r = split-at xs i x h in (ap (λ z. y ∷ z) r.0, ap suc r.1)

pub all-at : {X : Type 0} (P : X → Type 0) (xs : List X) (i : ℕ) (x : X) → AllByRecursion P xs → slice_get xs i ≡ Some x → P x
all-at P [] i x a h = absurd (some-not-none x (sym h))
all-at P (y ∷ xs) zero x a h = subst P (some-inj y x h) a.0
all-at P (y ∷ xs) (suc i) x a h = all-at P xs i x a.1 h

pub all-weaker : {X : Type 0} (P Q : X → Type 0) (xs : List X) → ((x : X) → P x → Q x) → AllByRecursion P xs → AllByRecursion Q xs
all-weaker P Q [] w a = tt
all-weaker P Q (x ∷ xs) w a = (w x a.0, all-weaker P Q xs w a.1)

pub all-snoc : {X : Type 0} (P : X → Type 0) (xs : List X) (x : X) → AllByRecursion P xs → P x → AllByRecursion P (xs ++ x ∷ [])
all-snoc P [] x a p = (p, tt)
all-snoc P (y ∷ xs) x a p = (a.0, all-snoc P xs x a.1 p)

pub map-same : {X Y : Type 0} (f g : X → Y) (xs : List X) → AllByRecursion (λ x. f x ≡ g x) xs → map f xs ≡ map g xs
map-same f g [] a = refl
map-same f g (x ∷ xs) a = λ i. (a.0 i) ∷ (map-same f g xs a.1 i)

pub map-both : {X Y : Type 0} (f : X → Y) (xs ys : List X) → map f (xs ++ ys) ≡ map f xs ++ map f ys
map-both f [] ys = refl
map-both f (x ∷ xs) ys = ap (λ r. f x ∷ r) (map-both f xs ys)

pub cons-head : {X : Type 0} (x y : X) (xs ys : List X) → x ∷ xs ≡ y ∷ ys → x ≡ y
cons-head x y xs ys e = cc

pub cons-tail : {X : Type 0} (x y : X) (xs ys : List X) → x ∷ xs ≡ y ∷ ys → xs ≡ ys
cons-tail x y xs ys e = cc

pub append-none : {X : Type 0} (xs : List X) → xs ++ [] ≡ xs
append-none [] = refl
append-none (x ∷ xs) = ap (λ r. x ∷ r) (append-none xs)

pub length-map' : {X Y : Type 0} (f : X → Y) (xs : List X) → length (map f xs) ≡ length xs
length-map' f [] = refl
length-map' f (x ∷ xs) = ap suc (length-map' f xs)
