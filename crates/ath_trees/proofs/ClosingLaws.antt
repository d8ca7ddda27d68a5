-- A sentence that is closed over a variable is alpha-equal to the sentence quantified over it.
use Rattle.std.proofs.Common.{◌≡◌, ℕ, zero, suc, ◌≤◌, true, false, not, List, [], ◌∷◌, refl, sym, ◌∙◌, ap, subst, arith}
use Rattle.std.specs.Prelude.{filter}
use Rattle.ath_sorts.proofs.SameSorts.{same_sort-refl}
use Rattle.ath_trees.specs.declared.node.Var.{Var}
use Rattle.ath_trees.specs.declared.node.Quant.{Quant}
use Rattle.ath_trees.specs.Tree.{Term, Terms, var, app, none, more, Sent, atom, equal, negated, joined, bound}
use Rattle.ath_trees.specs.Measure.{sent_depth}
use Rattle.ath_trees.specs.Variables.{is_namesake, same_var, free_vars}
use Rattle.ath_trees.specs.Occurrences.{is_among, is_named, every_var}
use Rattle.ath_trees.specs.Nameless.{nquant, nameless, AlphaEqual}
use Rattle.ath_trees.specs.Substitution.{subst_term, subst_terms, subst_to, subst_sent}
use Rattle.ath_trees.specs.Closing.{closing, closed_over}
use Rattle.ath_trees.proofs.Occurring.{by_cases, or-left, or-right, not_true, namesake-sym, same_var-refl, same_var-true, same_var-sym, among-append, among-filter, unnamed, not_named, among-of_bound}
use Rattle.ath_trees.proofs.Renaming.{renewed-unused, binder-renamed, sent-deep, subst-renamed}

-- a list with a namesake of a variable
found_named : (v : Var) (us : List Var) → is_named v us ≡ true → (w : Var) × ((is_among w us ≡ true) × (is_namesake v w ≡ true))
found_named v [] e = absurd (cc)
found_named v (u ∷ us) e = by_cases (is_namesake v u)
    (λ t. (u, (or-left _ _ (same_var-refl u), t)))
    (λ f. let r = found_named v us (rw f at e) in (r.0, (or-right (same_var r.0 u) (is_among r.0 us) r.1.0, r.1.1)))

-- x alone has its name and index
abbrev IsLone : Var → List Var → Type 0
IsLone x us = (w : Var) → is_among w us ≡ true → same_var x w ≡ false → is_namesake w x ≡ false

lone : (x : Var) (us : List Var) → is_named x (filter (λ w. not (same_var x w)) us) ≡ false → IsLone x us
lone x us e w h d = namesake-sym w x ∙ not_named x w (filter (λ u. not (same_var x u)) us) e (among-filter x w us d h)

mutual
  term-itself : (x : Var) (t : Term) → subst_term x (var x) t ≡ t
  term-itself x (var v) = by_cases (same_var x v) (λ t. rw t (ap var (same_var-true x v t))) (λ f. rw f)
  term-itself x (app f ss ts) = ap (app f ss) (terms-itself x ts)

  terms-itself : (x : Var) (ts : Terms) → subst_terms x (var x) ts ≡ ts
  terms-itself x none = refl
  terms-itself x (more t ts) = let a = term-itself x t in let b = terms-itself x ts in λ i. more (a i) (b i)

subst-itself : (n : ℕ) (x : Var) (p : Sent) → sent_depth p ≤ n → IsLone x (every_var p) → subst_to n x (var x) p ≡ p
subst-itself zero x p h l = absurd (let d = sent-deep p in omega arith)
subst-itself (suc n) x (atom t) h l = ap atom (term-itself x t)
subst-itself (suc n) x (equal s t) h l = let a = term-itself x s in let b = term-itself x t in λ i. equal (a i) (b i)
subst-itself (suc n) x (negated p) h l = ap negated (subst-itself n x p (omega arith) l)
subst-itself (suc n) x (joined k p q) h l =
    let a = subst-itself n x p (omega arith) (λ w e. l w (among-append w (every_var p) (every_var q) ∙ or-left _ _ e)) in
    let b = subst-itself n x q (omega arith) (λ w e. l w (among-append w (every_var p) (every_var q) ∙ or-right _ _ e)) in
    λ i. joined k (a i) (b i)
subst-itself (suc n) x (bound k u p) h l = by_cases (is_among x (free_vars (bound k u p)))
    (λ t. let m = among-of_bound x k u p t in
    let s = l u (or-left _ _ (same_var-refl u)) (same_var-sym u x m.0) in
    let r = subst-itself n x p (omega arith) (λ w e. l w (or-right _ _ e)) in
    rw (t, s) (ap (bound k u) r))
    (λ f. rw f)

pub closes : (k : Quant) (x : Var) (p : Sent) → AlphaEqual (closed_over k x p) (bound k x p)
closes k x p =
    let new = closing x p in
    let un = renewed-unused x (filter (λ w. not (same_var x w)) (every_var p)) in
    by_cases (same_var x new)
    (λ t.
    let e : x ≡ new = same_var-true x new t in
    let l = subst-itself (sent_depth p) x p (omega arith) (lone x (every_var p) (subst (λ (v : Var). is_named v (filter (λ w. not (same_var x w)) (every_var p)) ≡ false) (sym e) un)) in
    subst (λ (v : Var). nameless (bound k v (subst_sent x (var v) p)) ≡ nameless (bound k x p)) e (ap (λ q. nameless (bound k x q)) l))
    (λ f.
    let none_other : is_named new (every_var p) ≡ false = not_true (is_named new (every_var p)) (λ z.
    let w = found_named new (every_var p) z in
    by_cases (same_var x w.0)
    (λ s. let g = rw (← same_var-true x w.0 s) at w.1.1 in let r : same_var x new ≡ true = rw (namesake-sym x new, g) (same_sort-refl x.sort) in absurd (cc))
    (λ d. let g = not_named new w.0 (filter (λ u. not (same_var x u)) (every_var p)) un (among-filter x w.0 (every_var p) d w.1.0) in let y = w.1.1 in absurd (cc))) in
    let r = subst-renamed (sent_depth p) x new p (omega arith) none_other in
    rw r (ap (nquant k x.sort) (binder-renamed [] x new p (unnamed new (every_var p) none_other))))
