-- The sort variables that may be in a tree.
use Rattle.std.proofs.Common.{◌≡◌, ℕ, zero, suc, ◌+◌, ◌<◌, ◌≤◌, Bool, true, false, ◌||◌, Option, Some, None, List, [], ◌∷◌, length, map, take, get_or, refl, sym, ◌∙◌, ap, subst, arith}
use Rattle.std.specs.Prelude.{nat_le}
use Rattle.std.proofs.lemmas.Grind.{common_steps}
use Rattle.std.proofs.lemmas.List.{take_all}
use Rattle.ath_sorts.specs.declared.sorts.Sym.{Sym}
use Rattle.ath_sorts.specs.declared.sorts.SVar.{SVar}
use Rattle.ath_sorts.specs.declared.sorts.SVar.TheVariants.{Written, Made}
use Rattle.ath_sorts.specs.declared.sorts.Sort.{Sort, Var, Con}
use Rattle.ath_sorts.specs.Sorts.{apply_to}
use Rattle.ath_sorts.proofs.SortLaws.{apply-var, apply-con}
use Rattle.ath_terms.specs.declared.sort_vars.SortVars.{SortVars}
use Rattle.ath_terms.specs.SortVars.{greater, both, only, is_up_to, may_have, Fixes}

left-up : (a b : Option ℕ) (n : ℕ) → is_up_to a n ≡ true → is_up_to (greater a b) n ≡ true
left-up None b n h = absurd (cc)
left-up (Some m) None n h = h
left-up (Some m) (Some k) n h = grind (arith, common_steps)

right-up : (a b : Option ℕ) (n : ℕ) → is_up_to b n ≡ true → is_up_to (greater a b) n ≡ true
right-up None b n h = h
right-up (Some m) None n h = absurd (cc)
right-up (Some m) (Some k) n h = grind (arith, common_steps)

left-or : (a b : Bool) → a ≡ true → (a || b) ≡ true
left-or a b e = rw e refl

right-or : (a b : Bool) → b ≡ true → (a || b) ≡ true
right-or true b e = refl
right-or false b e = e

pub fixes-left : (r q : SortVars) (f : SVar → Sort) → Fixes (both r q) f → Fixes r f
fixes-left r q f h (Written a) e = h (Written a) (left-or r.may_be_written q.may_be_written e)
fixes-left r q f h (Made n) e = h (Made n) (left-up r.most_made q.most_made n e)

pub fixes-right : (r q : SortVars) (f : SVar → Sort) → Fixes (both r q) f → Fixes q f
fixes-right r q f h (Written a) e = h (Written a) (right-or r.may_be_written q.may_be_written e)
fixes-right r q f h (Made n) e = h (Made n) (right-up r.most_made q.most_made n e)

has-only : (v : SVar) → may_have (only v) v ≡ true
has-only (Written a) = refl
has-only (Made n) = grind (arith, common_steps)

pub fixes-var : (sort : Sort) (v : SVar) (r : SortVars) (f : SVar → Sort) → sort ≡ Var v → r ≡ only v → Fixes r f → apply_to f sort ≡ sort
fixes-var sort v r f e o h = ap (apply_to f) e ∙ apply-var f v ∙ h v (subst (λ (q : SortVars). may_have q v ≡ true) (sym o) (has-only v)) ∙ sym e

-- ---- a list
-- one member more of a list on which two functions agree
pub agree-next : {A B : Type 0} (f g : A → B) (xs : List A) (i : ℕ) (d : A) → i < length xs → map f (take i xs) ≡ map g (take i xs) → f (get_or xs i d) ≡ g (get_or xs i d) → map f (take (i + 1) xs) ≡ map g (take (i + 1) xs)
agree-next f g [] i d h e k = absurd (omega arith)
agree-next f g (x ∷ xs) zero d h e k = ap (λ z. z ∷ []) k
agree-next f g (x ∷ xs) (suc i) d h e k =
    let r : map f (take i xs) ≡ map g (take i xs) = cc in
    let q : f x ≡ g x = cc in
    let s : suc i + 1 ≡ suc (i + 1) = omega arith in
    let t = agree-next f g xs i d (omega arith) r k in
    rw s (λ j. q j ∷ t j)

pub agree-all : {A B : Type 0} (f g : A → B) (xs : List A) (i : ℕ) → length xs ≤ i → map f (take i xs) ≡ map g (take i xs) → map f xs ≡ map g xs
agree-all f g xs i h e = let t = take_all i xs h in ap (map f) (sym t) ∙ e ∙ ap (map g) t

map-same : {A : Type 0} (xs : List A) → map (λ x. x) xs ≡ xs
map-same [] = refl
map-same (x ∷ xs) = ap (λ l. x ∷ l) (map-same xs)

pub sorts-left : (f : Sort → Sort) (xs : List Sort) (i : ℕ) → length xs ≤ i → map f (take i xs) ≡ map (λ x. x) (take i xs) → map f xs ≡ xs
sorts-left f xs i h e = agree-all f (λ x. x) xs i h e ∙ map-same xs

pub con-fixed : (f : SVar → Sort) (sort : Sort) (c : Sym) (args xs : List Sort) (i : ℕ) → sort ≡ Con c args → xs ≡ args → length xs ≤ i → map (apply_to f) (take i xs) ≡ map (λ x. x) (take i xs) → apply_to f sort ≡ sort
con-fixed f sort c args xs i e same h m =
    ap (apply_to f) e ∙ apply-con f c args ∙ ap (Con c) (subst (λ (l : List Sort). map (apply_to f) l ≡ l) same (sorts-left (apply_to f) xs i h m)) ∙ sym e

-- the loop
abbrev pub FixedTo : List Sort → ℕ → SortVars → Type 0
FixedTo xs i r = (f : SVar → Sort) → Fixes r f → map (apply_to f) (take i xs) ≡ map (λ x. x) (take i xs)

pub fixed-next : (xs : List Sort) (i : ℕ) (d : Sort) (r q b : SortVars) → i < length xs → FixedTo xs i r → ((f : SVar → Sort) → Fixes q f → apply_to f (get_or xs i d) ≡ get_or xs i d) → b ≡ both r q → FixedTo xs (i + 1) b
fixed-next xs i d r q b h m s e f g =
    let g' = subst (λ (x : SortVars). Fixes x f) e g in
    agree-next (apply_to f) (λ x. x) xs i d h (m f (fixes-left r q f g')) (s f (fixes-right r q f g'))

-- ---- a substitution
pub left-none : (r : SortVars) (f : SVar → Sort) → r.most_made ≡ None → (r.may_be_written ≡ true → (a : Sym) → f (Written a) ≡ Var (Written a)) → Fixes r f
left-none r f e w (Written a) h = w h a
left-none r f e w (Made n) h = absurd (let z : is_up_to None n ≡ true = subst (λ (o : Option ℕ). is_up_to o n ≡ true) e h in cc)

pub left-some : (r : SortVars) (f : SVar → Sort) (m low : ℕ) → r.most_made ≡ Some m → m < low → ((n : ℕ) → n < low → f (Made n) ≡ Var (Made n)) → (r.may_be_written ≡ true → (a : Sym) → f (Written a) ≡ Var (Written a)) → Fixes r f
left-some r f m low e l k w (Written a) h = w h a
left-some r f m low e l k w (Made n) h = let z : nat_le n m ≡ true = subst (λ (o : Option ℕ). is_up_to o n ≡ true) e h in k n (grind (arith, common_steps))
