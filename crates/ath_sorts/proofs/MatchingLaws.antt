-- Steps of matching.
use Rattle.std.proofs.Common.{◌≡◌, ℕ, suc, ◌+◌, ◌<◌, ◌≤◌, drop, length-take, Bool, true, false, cond, not, ◌&&◌, ◌||◌, IsTrue, List, [], ◌∷◌, ◌++◌, map, length, take, get_or, Option, Some, None, refl, sym, ◌∙◌, ap, subst, arith, ◌⊎◌, inl, inr}
use Rattle.std.specs.Borrow.{Bor}
use Rattle.std.specs.Option.{IsSome, is_some, option_copied}
use Rattle.std.specs.List.{list_any, AllByRecursion}
use Rattle.std.proofs.lemmas.List.Folds.{list_any-append}
use Rattle.std.proofs.lemmas.List.{take_more, take_all, take-append-drop}
use Rattle.std.proofs.Math.Seq.{drop-cons}
use Rattle.ath_sorts.specs.declared.sorts.Sym.{Sym}
use Rattle.ath_sorts.specs.declared.sorts.SVar.{SVar}
use Rattle.ath_sorts.specs.declared.sorts.Sort.{Sort, Var, Con}
use Rattle.ath_sorts.specs.Sorts.{same_svar, image, apply_to, occurs}
use Rattle.ath_sorts.specs.Substitutions.{entry_of}
use Rattle.ath_sorts.specs.Instances.{is_rigid, IsOff, Instantiates, is_free, IsInstance}
use Rattle.ath_sorts.specs.Matching.{Agrees, Extends, Refuses, MatchExtended}
use Rattle.ath_sorts.proofs.SortLaws.{sort_induction, apply-var, apply-con, occurs-var, occurs-con, Con-inj, same_svar-true, same_svar-refl, same-or-not}
use Rattle.ath_sorts.proofs.SubstitutionLaws.{image-some, image-none}
use Rattle.ath_sorts.proofs.Bools.{either_of, either_to, or-false}
use Rattle.ath_sorts.proofs.Gets.{length-map', cons-head, cons-tail, some-inj, map-both}
use Rattle.ath_sorts.proofs.SubstitutionLaws.{opt_cases, entry-kept, entry-absent}

-- lists that are equal up to one more item each
last_apart : (xs ys : List Sort) (x y : Sort) → length xs ≡ length ys → xs ++ x ∷ [] ≡ ys ++ y ∷ [] → (xs ≡ ys) × (x ≡ y)
last_apart [] [] x y h e = (refl, cons-head x y [] [] e)
last_apart [] (b ∷ ys) x y h e = absurd (omega arith)
last_apart (a ∷ xs) [] x y h e = absurd (omega arith)
last_apart (a ∷ xs) (b ∷ ys) x y h e =
    let r = last_apart xs ys x y (omega arith) (cons-tail a b (xs ++ x ∷ []) (ys ++ y ∷ []) e) in
    let p = cons-head a b (xs ++ x ∷ []) (ys ++ y ∷ []) e in
    let q = r.0 in
    (cc, r.1)

left_of : (a b : Bool) → (a && b) ≡ true → a ≡ true
left_of true b h = refl
left_of false b h = h

right_of : (a b : Bool) → (a && b) ≡ true → b ≡ true
right_of true b h = h
right_of false b h = absurd (cc)

middle_apart : (xs ys : List Sort) (x y : Sort) (us vs : List Sort) → length xs ≡ length ys → xs ++ x ∷ us ≡ ys ++ y ∷ vs → (xs ≡ ys) × (x ≡ y)
middle_apart [] [] x y us vs h e = (refl, cons-head x y us vs e)
middle_apart [] (b ∷ ys) x y us vs h e = absurd (omega arith)
middle_apart (a ∷ xs) [] x y us vs h e = absurd (omega arith)
middle_apart (a ∷ xs) (b ∷ ys) x y us vs h e =
    let r = middle_apart xs ys x y us vs (omega arith) (cons-tail a b (xs ++ x ∷ us) (ys ++ y ∷ vs) e) in
    let p = cons-head a b (xs ++ x ∷ us) (ys ++ y ∷ vs) e in
    let q = r.0 in
    (cc, r.1)

con_same : (c d : Sym) (xs ys : List Sort) → c.0 ≡ d.0 → xs ≡ ys → Con c xs ≡ Con d ys
con_same c d xs ys p q = λ i. Con (record { 0 = p i }) (q i)

args_same : (f : SVar → Sort) (c d : Sym) (gs ss : List Sort) → Instantiates f (Con c gs ∷ []) (Con d ss ∷ []) → Instantiates f gs ss
args_same f c d gs ss i = (Con-inj c d (map (apply_to f) gs) ss (sym (apply-con f c gs) ∙ cons-head (apply_to f (Con c gs)) (Con d ss) [] [] i)).1

is-some-of : (o : Option Sort) (t : Sort) → o ≡ Some t → is_some o ≡ true
is-some-of o t e = ap is_some e

entry-new : (s : List (SVar × Sort)) (v : SVar) (t : Sort) → entry_of s v ≡ None → entry_of (s ++ (v, t) ∷ []) v ≡ Some t
entry-new s v t h = entry-absent s (v, t) v h ∙ ap (λ b. cond b (Some t) None) (same_svar-refl v)

var_agrees : (f : SVar → Sort) (a : List (SVar × Sort)) (v : SVar) (s : Sort) → Agrees f a → f v ≡ s → Agrees f (a ++ (v, s) ∷ [])
var_agrees f a v s h e w t k = elim (opt_cases (entry_of a w)) [
  | inl n ↦ elim (same-or-not v w) [
    | inl p ↦ ap f (sym (same_svar-true v w p)) ∙ e ∙ some-inj s t (sym (entry-absent a (v, s) w n ∙ ap (λ b. cond b (Some s) None) p) ∙ k)
    | inr p ↦ absurd (let z = sym (entry-absent a (v, s) w n ∙ ap (λ b. cond b (Some s) None) p) ∙ k in cc)
  ]
  | inr n ↦ h w n.0 n.1 ∙ some-inj n.0 t (sym (entry-kept a (v, s) w n.0 n.1) ∙ k)
]

free-var : (rigid : List SVar) (v w : SVar) → is_free (Var v ∷ []) rigid w ≡ (same_svar w v && not (is_rigid rigid w))
free-var rigid v w = ap (λ b. b && not (is_rigid rigid w)) (or-false (occurs w (Var v)) ∙ occurs-var w v)

by_new : (rigid : List SVar) (a : List (SVar × Sort)) (v : SVar) (s : Sort) (w : SVar) → is_rigid rigid v ≡ false → IsSome (entry_of (a ++ (v, s) ∷ []) w) → IsSome (entry_of a w) ⊎ IsTrue (is_free (Var v ∷ []) rigid w)
by_new rigid a v s w soft k = elim (opt_cases (entry_of a w)) [
  | inl n ↦ elim (same-or-not v w) [
    | inl p ↦ inr (free-var rigid v w ∙ let e = same_svar-true v w p in let r = same_svar-refl v in let P : SVar → Type 0 = λ u. (same_svar u v && not (is_rigid rigid u)) ≡ true in subst P e (rw (r, soft) refl))
    | inr p ↦ absurd (let z = sym (ap is_some (entry-absent a (v, s) w n ∙ ap (λ b. cond b (Some s) None) p)) ∙ k in cc)
  ]
  | inr n ↦ inl (is-some-of (entry_of a w) n.0 n.1)
]

to_new : (rigid : List SVar) (a : List (SVar × Sort)) (v : SVar) (s : Sort) (w : SVar) → entry_of a v ≡ None → IsSome (entry_of a w) ⊎ IsTrue (is_free (Var v ∷ []) rigid w) → IsSome (entry_of (a ++ (v, s) ∷ []) w)
to_new rigid a v s w none k = elim (opt_cases (entry_of a w)) [
  | inl n ↦ elim k [
    | inl p ↦ absurd (let z = sym (ap is_some n) ∙ p in cc)
    | inr p ↦ ap is_some (entry-absent a (v, s) w n ∙ ap (λ b. cond b (Some s) None) (let q = left_of (same_svar w v) (not (is_rigid rigid w)) (sym (free-var rigid v w) ∙ p) in ap (λ u. same_svar u w) (sym (same_svar-true w v q)) ∙ same_svar-refl w))
  ]
  | inr n ↦ is-some-of (entry_of (a ++ (v, s) ∷ []) w) n.0 (entry-kept a (v, s) w n.0 n.1)
]

off_of : (rigid : List SVar) (s : List (SVar × Sort)) (general special : List Sort) → Extends rigid [] s general special → IsOff rigid (image s)
off_of rigid s general special h v r = elim (opt_cases (entry_of s v)) [
  | inl n ↦ image-none s v n
  | inr n ↦ elim ((h.covers v).0 (is-some-of (entry_of s v) n.0 n.1)) [
    | inl p ↦ absurd (cc)
    | inr p ↦ absurd (let z = right_of (list_any (occurs v) general) (not (is_rigid rigid v)) p in let y = sym (ap not r) ∙ z in cc)
  ]
]

pub extends-none : (rigid : List SVar) (s : List (SVar × Sort)) → Extends rigid s s [] []
extends-none rigid s = record {
  sound = λ f o a. (a, refl);
  complete = λ f o a i. a;
  covers = λ v. (inl, λ h. elim h [ inl p ↦ p | inr p ↦ absurd (cc) ]);
}

or_and : (a b c : Bool) → ((a || b) && c) ≡ ((a && c) || (b && c))
or_and true b true = refl
or_and true true false = refl
or_and true false false = refl
or_and false b c = refl

free-append : (xs ys : List Sort) (rigid : List SVar) (v : SVar) → is_free (xs ++ ys) rigid v ≡ (is_free xs rigid v || is_free ys rigid v)
free-append xs ys rigid v = ap (λ b. b && not (is_rigid rigid v)) (list_any-append (occurs v) xs ys) ∙ or_and (list_any (occurs v) xs) (list_any (occurs v) ys) (not (is_rigid rigid v))

-- one sort after others
module _ (rigid : List SVar) (a b : List (SVar × Sort)) (gs ss : List Sort) (before : Extends rigid a b gs ss) (even : length gs ≡ length ss) (g s : Sort) where
  pub extends-more : (c : List (SVar × Sort)) → Extends rigid b c (g ∷ []) (s ∷ []) → Extends rigid a c (gs ++ g ∷ []) (ss ++ s ∷ [])
  extends-more c last = record {
    sound = λ f o h.
        let p = last.sound f o h in
        let q = before.sound f o p.0 in
        let e = cons-head (apply_to f g) s [] [] p.1 in
        (q.0, map-both (apply_to f) gs (g ∷ []) ∙ cc);
    complete = λ f o h i.
        let e = last_apart (map (apply_to f) gs) ss (apply_to f g) s (length-map' (apply_to f) gs ∙ even) (sym (map-both (apply_to f) gs (g ∷ [])) ∙ i) in
        last.complete f o (before.complete f o h e.0) (ap (λ x. x ∷ []) e.1);
    covers = λ v. (
      (λ h. elim ((last.covers v).0 h) [
        | inl p ↦ elim ((before.covers v).0 p) [ inl q ↦ inl q | inr q ↦ inr (free-append gs (g ∷ []) rigid v ∙ either_to (is_free gs rigid v) (is_free (g ∷ []) rigid v) (inl q)) ]
        | inr p ↦ inr (free-append gs (g ∷ []) rigid v ∙ either_to (is_free gs rigid v) (is_free (g ∷ []) rigid v) (inr p))
      ]),
      (λ h. elim h [
        | inl p ↦ (last.covers v).1 (inl ((before.covers v).1 (inl p)))
        | inr p ↦ elim (either_of (is_free gs rigid v) (is_free (g ∷ []) rigid v) (sym (free-append gs (g ∷ []) rigid v) ∙ p)) [
          | inl q ↦ (last.covers v).1 (inl ((before.covers v).1 (inr q)))
          | inr q ↦ (last.covers v).1 (inr q)
        ]
      ]),
    );
  }

  pub refuses-more : (more more' : List Sort) → Refuses rigid b (g ∷ []) (s ∷ []) → Refuses rigid a (gs ++ g ∷ more) (ss ++ s ∷ more')
  refuses-more more more' refused f o h i =
      let e = middle_apart (map (apply_to f) gs) ss (apply_to f g) s (map (apply_to f) more) more' (length-map' (apply_to f) gs ∙ even) (sym (map-both (apply_to f) gs (g ∷ more)) ∙ i) in
      refused f o (before.complete f o h e.0) (ap (λ x. x ∷ []) e.1)

-- the arguments are matched where the sorts are
pub extends-con : (rigid : List SVar) (a b : List (SVar × Sort)) (c d : Sym) (gs ss : List Sort) → c.0 ≡ d.0 → Extends rigid a b gs ss → Extends rigid a b (Con c gs ∷ []) (Con d ss ∷ [])
extends-con rigid a b c d gs ss same h = record {
  sound = λ f o k. let p = h.sound f o k in (p.0, ap (λ x. x ∷ []) (apply-con f c gs ∙ con_same c d (map (apply_to f) gs) ss same p.1));
  complete = λ f o k i. h.complete f o k (args_same f c d gs ss i);
  covers = λ v. (λ k. elim ((h.covers v).0 k) [ inl p ↦ inl p | inr p ↦ inr (free_con v ∙ p) ], λ k. (h.covers v).1 (elim k [ inl p ↦ inl p | inr p ↦ inr (sym (free_con v) ∙ p) ]));
}
  where
    free_con : (v : SVar) → is_free (Con c gs ∷ []) rigid v ≡ is_free gs rigid v
    free_con v = ap (λ b. b && not (is_rigid rigid v)) (or-false (occurs v (Con c gs)) ∙ occurs-con v c gs)

pub refuses-con : (rigid : List SVar) (a : List (SVar × Sort)) (c d : Sym) (gs ss : List Sort) → Refuses rigid a gs ss → Refuses rigid a (Con c gs ∷ []) (Con d ss ∷ [])
refuses-con rigid a c d gs ss refused f o h i = refused f o h (args_same f c d gs ss i)

-- a variable that has no entry yet
pub extends-var : (rigid : List SVar) (a : List (SVar × Sort)) (v : SVar) (s : Sort) → is_rigid rigid v ≡ false → entry_of a v ≡ None → Extends rigid a (a ++ (v, s) ∷ []) (Var v ∷ []) (s ∷ [])
extends-var rigid a v s soft none = record {
  sound = λ f o h. ((λ w t e. h w t (entry-kept a (v, s) w t e)), ap (λ x. x ∷ []) (apply-var f v ∙ h v s (entry-new a v s none)));
  complete = λ f o h i w t e. var_agrees f a v s h (sym (apply-var f v) ∙ cons-head (apply_to f (Var v)) s [] [] i) w t e;
  covers = λ w. (λ k. by_new rigid a v s w soft k, λ k. to_new rigid a v s w none k);
}

-- a map that has been made from nothing is the instance
pub instance-of : (rigid : List SVar) (s : List (SVar × Sort)) (general special : List Sort) → Extends rigid [] s general special → IsInstance s general special rigid
instance-of rigid s general special h = record {
  instantiates = (h.sound (image s) (off_of rigid s general special h) (λ v t e. image-some s v t e)).1;
  off = off_of rigid s general special h;
  covers = λ v. (λ k. elim ((h.covers v).0 k) [ inl p ↦ absurd (cc) | inr p ↦ p ], λ k. (h.covers v).1 (inr k));
}

at_split : (xs : List Sort) (i : ℕ) (d : Sort) → i < length xs → xs ≡ take i xs ++ get_or xs i d ∷ drop (suc i) xs
at_split xs i d h = sym (take-append-drop i xs) ∙ ap (λ r. take i xs ++ r) (drop-cons xs i d h)

-- a turn of the loop over two lists
module _ (rigid : List SVar) (a b : List (SVar × Sort)) (gs ss : List Sort) (i : ℕ) (even : length gs ≡ length ss) (inside : i < length gs) (before : Extends rigid a b (take i gs) (take i ss)) (g s : Sort) (is_g : g ≡ get_or gs i g) (is_s : s ≡ get_or ss i s) where
  even_so_far : length (take i gs) ≡ length (take i ss)
  even_so_far = simp length-take (omega arith)

  pub turn : (c : List (SVar × Sort)) → Extends rigid b c (g ∷ []) (s ∷ []) → Extends rigid a c (take (i + 1) gs) (take (i + 1) ss)
  turn c last =
      let r = extends-more rigid a b (take i gs) (take i ss) before even_so_far g s c last in
      let p = take_more gs i g inside ∙ ap (λ x. take i gs ++ x ∷ []) (sym is_g) in
      let q = take_more ss i s (omega arith) ∙ ap (λ x. take i ss ++ x ∷ []) (sym is_s) in
      let P : List Sort → List Sort → Type 0 = λ x y. Extends rigid a c x y in
      subst (λ x. P x (take (i + 1) ss)) (sym p) (subst (λ y. P (take i gs ++ g ∷ []) y) (sym q) r)

  pub turn_refused : Refuses rigid b (g ∷ []) (s ∷ []) → Refuses rigid a gs ss
  turn_refused refused =
      let r = refuses-more rigid a b (take i gs) (take i ss) before even_so_far g s (drop (suc i) gs) (drop (suc i) ss) refused in
      let p = at_split gs i g inside ∙ ap (λ x. take i gs ++ x ∷ drop (suc i) gs) (sym is_g) in
      let q = at_split ss i s (omega arith) ∙ ap (λ x. take i ss ++ x ∷ drop (suc i) ss) (sym is_s) in
      let P : List Sort → List Sort → Type 0 = λ x y. Refuses rigid a x y in
      subst (λ x. P x ss) (sym p) (subst (λ y. P (take i gs ++ g ∷ drop (suc i) gs) y) (sym q) r)

pub all_of_turns : (rigid : List SVar) (a b : List (SVar × Sort)) (gs ss : List Sort) (i : ℕ) → length gs ≡ length ss → length gs ≤ i → Extends rigid a b (take i gs) (take i ss) → Extends rigid a b gs ss
all_of_turns rigid a b gs ss i even out h =
    let p = take_all i gs out in
    let q = take_all i ss (omega arith) in
    let P : List Sort → List Sort → Type 0 = λ x y. Extends rigid a b x y in
    subst (λ x. P x ss) p (subst (λ y. P (take i gs) y) q h)

pub refuses-con-at : (rigid : List SVar) (a : List (SVar × Sort)) (general special : Sort) (c d : Sym) (gs ss : List Sort) → general ≡ Con c gs → special ≡ Con d ss → Refuses rigid a gs ss → Refuses rigid a (general ∷ []) (special ∷ [])
refuses-con-at rigid a general special c d gs ss p q h =
    let P : Sort → Sort → Type 0 = λ x y. Refuses rigid a (x ∷ []) (y ∷ []) in
    subst (λ x. P x special) (sym p) (subst (λ y. P (Con c gs) y) (sym q) (refuses-con rigid a c d gs ss h))

pub extends-con-at : (rigid : List SVar) (a b : List (SVar × Sort)) (general special : Sort) (c d : Sym) (gs ss : List Sort) → general ≡ Con c gs → special ≡ Con d ss → c.0 ≡ d.0 → Extends rigid a b gs ss → Extends rigid a b (general ∷ []) (special ∷ [])
extends-con-at rigid a b general special c d gs ss p q same h =
    let P : Sort → Sort → Type 0 = λ x y. Extends rigid a b (x ∷ []) (y ∷ []) in
    subst (λ x. P x special) (sym p) (subst (λ y. P (Con c gs) y) (sym q) (extends-con rigid a b c d gs ss same h))

-- no map at all makes the sorts equal, where none from nothing does
pub refuses-all : (rigid : List SVar) (gs ss general special : List Sort) → gs ≡ general → ss ≡ special → Refuses rigid [] gs ss → (f : SVar → Sort) → IsOff rigid f → Instantiates f general special → ⊥
refuses-all rigid gs ss general special p q h f o i = h f o (λ v t e. absurd (cc)) (ap (map (apply_to f)) p ∙ i ∙ sym q)

pub none-found : (o : Option (Bor Sort)) → ((x : Bor Sort) → o ≡ Some x → ⊥) → option_copied o ≡ None
none-found None h = refl
none-found (Some x) h = absurd (h x refl)

-- what a refusal and a success say
pub refused-is : (rigid : List SVar) (a b : List (SVar × Sort)) (gs ss : List Sort) (x : Bool) → x ≡ false → MatchExtended rigid a b gs ss x → Refuses rigid a gs ss
refused-is rigid a b gs ss x e h = let P : Bool → Type 0 = λ x. MatchExtended rigid a b gs ss x in subst P e h

pub extended-is : (rigid : List SVar) (a b : List (SVar × Sort)) (gs ss : List Sort) (x : Bool) → x ≡ true → MatchExtended rigid a b gs ss x → Extends rigid a b gs ss
extended-is rigid a b gs ss x e h = let P : Bool → Type 0 = λ x. MatchExtended rigid a b gs ss x in subst P e h

-- maps that make the same of a sort make the same of the variables in it
module _ (f g : SVar → Sort) where
  any_agree : (v : SVar) (args : List Sort) → AllByRecursion (λ s. apply_to f s ≡ apply_to g s → occurs v s ≡ true → f v ≡ g v) args → map (apply_to f) args ≡ map (apply_to g) args → list_any (occurs v) args ≡ true → f v ≡ g v
  any_agree v [] h e o = absurd (cc)
  any_agree v (s ∷ ss) h e o = elim (either_of (occurs v s) (list_any (occurs v) ss) o) [
    | inl p ↦ h.0 (cons-head (apply_to f s) (apply_to g s) (map (apply_to f) ss) (map (apply_to g) ss) e) p
    | inr p ↦ any_agree v ss h.1 (cons-tail (apply_to f s) (apply_to g s) (map (apply_to f) ss) (map (apply_to g) ss) e) p
  ]

  pub agree_in : (v : SVar) (s : Sort) → apply_to f s ≡ apply_to g s → occurs v s ≡ true → f v ≡ g v
  agree_in v =
      let P : Sort → Type 0 = λ s. apply_to f s ≡ apply_to g s → occurs v s ≡ true → f v ≡ g v in
      sort_induction P
      (λ w e o.
      let q = same_svar-true v w (sym (occurs-var v w) ∙ o) in
      ap f q ∙ sym (apply-var f w) ∙ e ∙ apply-var g w ∙ sym (ap g q))
      (λ c args h e o. any_agree v args h (Con-inj c c (map (apply_to f) args) (map (apply_to g) args) (sym (apply-con f c args) ∙ e ∙ apply-con g c args)).1 (sym (occurs-con v c args) ∙ o))

  agree_all : (args : List Sort) (v : SVar) → AllByRecursion (λ s. apply_to f s ≡ apply_to g s → occurs v s ≡ true → f v ≡ g v) args
  agree_all [] v = tt
  agree_all (s ∷ ss) v = (agree_in v s, agree_all ss v)

pub instances_agree : (s t : List (SVar × Sort)) (general special : List Sort) (rigid : List SVar) → IsInstance s general special rigid → IsInstance t general special rigid → (v : SVar) → image s v ≡ image t v
instances_agree s t general special rigid m n v = elim (opt_cases (entry_of s v)) [
  | inl p ↦ elim (opt_cases (entry_of t v)) [
    | inl q ↦ image-none s v p ∙ sym (image-none t v q)
    | inr q ↦ absurd (let z = (m.covers v).1 ((n.covers v).0 (is-some-of (entry_of t v) q.0 q.1)) in let y = sym (ap is_some p) ∙ z in cc)
  ]
  | inr p ↦
      let free = (m.covers v).0 (is-some-of (entry_of s v) p.0 p.1) in
      any_agree (image s) (image t) v general (agree_all (image s) (image t) general v) (m.instantiates ∙ sym n.instantiates) (left_of (list_any (occurs v) general) (not (is_rigid rigid v)) free)
]
