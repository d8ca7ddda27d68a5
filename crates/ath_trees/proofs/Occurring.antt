-- The tests of variables, and of lists of them.
use Rattle.std.proofs.Common.{◌≡◌, Bool, true, false, not, ◌||◌, ◌==◌, List, [], ◌∷◌, ◌++◌, refl, sym, ◌∙◌, ap}
use Rattle.std.specs.Prelude.{filter}
use Rattle.ath_sorts.specs.Equality.{same_sort}
use Rattle.ath_sorts.proofs.Bools.{and_parts, or_parts, or-false, turned, same_num, num_same}
use Rattle.ath_sorts.proofs.SameSorts.{same_sort-refl, same_sort-true}
use Rattle.ath_trees.specs.declared.node.Var.{Var}
use Rattle.ath_trees.specs.declared.node.Binary.{Binary}
use Rattle.ath_trees.specs.declared.node.Quant.{Quant}
use Rattle.ath_trees.specs.Tree.{Term, Terms, var, app, none, more, Sent, atom, equal, negated, joined, bound}
use Rattle.ath_trees.specs.Variables.{is_namesake, same_var, with_var, with_vars, with_term, with_terms, with_sent, term_vars, free_vars}
use Rattle.ath_trees.specs.Occurrences.{is_among, is_named, every_var}

pub by_cases : {G : Type 0} (b : Bool) → (b ≡ true → G) → (b ≡ false → G) → G
by_cases true f g = f refl
by_cases false f g = g refl

pub or-left : (a b : Bool) → a ≡ true → a || b ≡ true
or-left a b e = rw e

pub or-right : (a b : Bool) → b ≡ true → a || b ≡ true
or-right true b e = refl
or-right false b e = e

or-assoc : (a b c : Bool) → ((a || b) || c) ≡ (a || (b || c))
or-assoc true b c = refl
or-assoc false b c = refl

pub not_true : (b : Bool) → (b ≡ true → ⊥) → b ≡ false
not_true true f = absurd (f refl)
not_true false f = refl

pub namesake-sym : (v w : Var) → is_namesake v w ≡ is_namesake w v
namesake-sym v w = rw (turned v.name.0 w.name.0, turned v.index w.index)

pub same_var-refl : (v : Var) → same_var v v ≡ true
same_var-refl v = rw (num_same v.name.0, num_same v.index) (same_sort-refl v.sort)

pub same_var-true : (v w : Var) → same_var v w ≡ true → v ≡ w
same_var-true v w e =
    let p = and_parts (is_namesake v w) (same_sort v.sort w.sort) e in
    let q = and_parts (v.name.0 == w.name.0) (v.index == w.index) p.0 in
    let a = same_num v.name.0 w.name.0 q.0 in
    let b = same_num v.index w.index q.1 in
    let c = same_sort-true v.sort w.sort p.1 in
    λ i. record { name = record { 0 = a i }; index = b i; sort = c i }

pub same_var-sym : (v w : Var) → same_var v w ≡ false → same_var w v ≡ false
same_var-sym v w e = by_cases (same_var w v) (λ t. absurd (let p = same_var-true w v t in let q = same_var-refl v in let r : same_var v w ≡ true = rw p q in cc)) (λ f. f)

-- variables without one name and index are two
pub apart : (v w : Var) → is_namesake v w ≡ false → same_var v w ≡ false
apart v w e = rw e

-- ---- lists
pub among-append : (v : Var) (us vs : List Var) → is_among v (us ++ vs) ≡ (is_among v us || is_among v vs)
among-append v [] vs = refl
among-append v (u ∷ us) vs = by_cases (same_var v u) (λ t. rw t) (λ f. rw f (among-append v us vs))

pub named-append : (v : Var) (us vs : List Var) → is_named v (us ++ vs) ≡ (is_named v us || is_named v vs)
named-append v [] vs = refl
named-append v (u ∷ us) vs = by_cases (is_namesake v u) (λ t. rw t) (λ f. rw f (named-append v us vs))

pub among-filter : (v w : Var) (us : List Var) → same_var v w ≡ false → is_among w us ≡ true → is_among w (filter (λ u. not (same_var v u)) us) ≡ true
among-filter v w [] e h = h
among-filter v w (u ∷ us) e h =
    by_cases (same_var v u)
    (λ t. let p = same_var-true v u t in let r : same_var w u ≡ false = rw (← p) (same_var-sym v w e) in rw t (among-filter v w us e (rw r at h)))
    (λ f. by_cases (same_var w u) (λ t. rw (f, t)) (λ g. rw (f, g) (among-filter v w us e (rw g at h))))

-- what is left by a filter was there, and isn't what it takes
pub among-filtered : (v w : Var) (us : List Var) → is_among w (filter (λ u. not (same_var v u)) us) ≡ true → (same_var v w ≡ false) × (is_among w us ≡ true)
among-filtered v w [] h = absurd (cc)
among-filtered v w (u ∷ us) h = by_cases (same_var v u)
    (λ t. let r = among-filtered v w us (rw t at h) in (r.0, or-right (same_var w u) (is_among w us) r.1))
    (λ f. by_cases (same_var w u)
    (λ t. (rw (same_var-true w u t) f, or-left (same_var w u) (is_among w us) t))
    (λ g. let r = among-filtered v w us (rw (f, g) at h) in (r.0, or-right (same_var w u) (is_among w us) r.1)))

pub named-of_among : (v : Var) (us : List Var) → is_among v us ≡ true → is_named v us ≡ true
named-of_among v [] e = absurd (cc)
named-of_among v (u ∷ us) e =
    by_cases (same_var v u)
    (λ t. or-left (is_namesake v u) (is_named v us) (and_parts (is_namesake v u) (same_sort v.sort u.sort) t).0)
    (λ f. or-right (is_namesake v u) (is_named v us) (named-of_among v us (rw f at e)))

pub unnamed : (v : Var) (us : List Var) → is_named v us ≡ false → is_among v us ≡ false
unnamed v us e = not_true (is_among v us) (λ t. let p = named-of_among v us t in absurd (cc))

-- one of them isn't a namesake of a variable that none is
pub not_named : (v w : Var) (us : List Var) → is_named v us ≡ false → is_among w us ≡ true → is_namesake v w ≡ false
not_named v w [] e h = absurd (cc)
not_named v w (u ∷ us) e h =
    let m = or_parts (is_namesake v u) (is_named v us) e in
    by_cases (same_var w u) (λ t. rw (same_var-true w u t) m.0) (λ f. not_named v w us m.1 (rw f at h))

-- ---- the variables of trees
among-with_var : (v : Var) (found : List Var) (w : Var) → is_among v (with_var found w) ≡ (is_among v found || same_var v w)
among-with_var v found w = by_cases (is_among w found)
    (λ t. rw t (by_cases (same_var v w)
    (λ s. let e : is_among v found ≡ true = rw (same_var-true v w s) t in rw (e))
    (λ s. rw s (sym (or-false (is_among v found))))))
    (λ f. rw f (among-append v found (w ∷ []) ∙ ap (λ b. is_among v found || b) (or-false (same_var v w))))

among-with_vars : (v : Var) (found vs : List Var) → is_among v (with_vars found vs) ≡ (is_among v found || is_among v vs)
among-with_vars v found [] = sym (or-false (is_among v found))
among-with_vars v found (w ∷ vs) = among-with_vars v (with_var found w) vs ∙ ap (λ b. b || is_among v vs) (among-with_var v found w) ∙ or-assoc (is_among v found) (same_var v w) (is_among v vs)

mutual
  among-with_term : (v : Var) (found : List Var) (t : Term) → is_among v (with_term found t) ≡ (is_among v found || is_among v (with_term [] t))
  among-with_term v found (var w) = among-with_var v found w ∙ ap (λ b. is_among v found || b) (sym (or-false (same_var v w)))
  among-with_term v found (app f ss ts) = among-with_terms v found ts

  among-with_terms : (v : Var) (found : List Var) (ts : Terms) → is_among v (with_terms found ts) ≡ (is_among v found || is_among v (with_terms [] ts))
  among-with_terms v found none = sym (or-false (is_among v found))
  among-with_terms v found (more t ts) =
      among-with_terms v (with_term found t) ts ∙ ap (λ b. b || is_among v (with_terms [] ts)) (among-with_term v found t)
      ∙ or-assoc (is_among v found) (is_among v (with_term [] t)) (is_among v (with_terms [] ts))
      ∙ ap (λ b. is_among v found || b) (sym (among-with_terms v (with_term [] t) ts))

pub among-more : (v : Var) (t : Term) (ts : Terms) → is_among v (with_terms [] (more t ts)) ≡ (is_among v (term_vars t) || is_among v (with_terms [] ts))
among-more v t ts = among-with_terms v (with_term [] t) ts

among-with_sent : (v : Var) (found : List Var) (p : Sent) → is_among v (with_sent found p) ≡ (is_among v found || is_among v (with_sent [] p))
among-with_sent v found (atom t) = among-with_term v found t
among-with_sent v found (equal s t) =
    among-with_term v (with_term found s) t ∙ ap (λ b. b || is_among v (with_term [] t)) (among-with_term v found s)
    ∙ or-assoc (is_among v found) (is_among v (with_term [] s)) (is_among v (with_term [] t))
    ∙ ap (λ b. is_among v found || b) (sym (among-with_term v (with_term [] s) t))
among-with_sent v found (negated p) = among-with_sent v found p
among-with_sent v found (joined c p q) =
    among-with_sent v (with_sent found p) q ∙ ap (λ b. b || is_among v (with_sent [] q)) (among-with_sent v found p)
    ∙ or-assoc (is_among v found) (is_among v (with_sent [] p)) (is_among v (with_sent [] q))
    ∙ ap (λ b. is_among v found || b) (sym (among-with_sent v (with_sent [] p) q))
among-with_sent v found (bound k w p) =
    among-with_vars v found (filter (λ u. not (same_var w u)) (with_sent [] p))
    ∙ ap (λ b. is_among v found || b) (sym (among-with_vars v [] (filter (λ u. not (same_var w u)) (with_sent [] p))))

pub among-equal : (v : Var) (s t : Term) → is_among v (free_vars (equal s t)) ≡ (is_among v (term_vars s) || is_among v (term_vars t))
among-equal v s t = among-with_term v (with_term [] s) t

pub among-joined : (v : Var) (c : Binary) (p q : Sent) → is_among v (free_vars (joined c p q)) ≡ (is_among v (free_vars p) || is_among v (free_vars q))
among-joined v c p q = among-with_sent v (with_sent [] p) q

among-bound : (v : Var) (k : Quant) (w : Var) (p : Sent) → is_among v (free_vars (bound k w p)) ≡ is_among v (filter (λ u. not (same_var w u)) (free_vars p))
among-bound v k w p = among-with_vars v [] (filter (λ u. not (same_var w u)) (with_sent [] p))

-- another variable of the body is free in the quantified sentence too
pub among-bound_of : (v : Var) (k : Quant) (w : Var) (p : Sent) → same_var w v ≡ false → is_among v (free_vars p) ≡ true → is_among v (free_vars (bound k w p)) ≡ true
among-bound_of v k w p e h = among-bound v k w p ∙ among-filter w v (free_vars p) e h

-- and only such a one is
pub among-of_bound : (v : Var) (k : Quant) (w : Var) (p : Sent) → is_among v (free_vars (bound k w p)) ≡ true → (same_var w v ≡ false) × (is_among v (free_vars p) ≡ true)
among-of_bound v k w p h = among-filtered w v (free_vars p) (sym (among-bound v k w p) ∙ h)

-- a free variable is one of all
pub free-every : (v : Var) (p : Sent) → is_among v (free_vars p) ≡ true → is_among v (every_var p) ≡ true
free-every v (atom t) e = e
free-every v (equal s t) e = among-append v (term_vars s) (term_vars t) ∙ sym (among-equal v s t) ∙ e
free-every v (negated p) e = free-every v p e
free-every v (joined c p q) e =
    among-append v (every_var p) (every_var q) ∙ by_cases (is_among v (free_vars p))
    (λ t. or-left _ _ (free-every v p t))
    (λ f. or-right _ _ (free-every v q (rw f at (sym (among-joined v c p q) ∙ e))))
free-every v (bound k u p) e = or-right _ _ (free-every v p (among-of_bound v k u p e).1)
