-- Substitution form by form. Any number of levels from its own on gives the same; a sentence in which the variable isn't free
-- stays; and a renamed binder changes no number of nodes or levels.
use Rattle.std.proofs.Common.{◌≡◌, ℕ, zero, suc, ◌+◌, ◌*◌, ◌≤◌, max, true, false, refl, sym, ◌∙◌, ap, subst, arith}
use Rattle.std.specs.Prelude.{if◌then◌else◌}
use Rattle.ath_sorts.proofs.Bools.{or_parts}
use Rattle.ath_trees.specs.declared.limits.TheConstants.{MOST_TERM_NODES, MOST_TERM_LEVELS}
use Rattle.ath_trees.specs.declared.node.Var.{Var}
use Rattle.ath_trees.specs.declared.node.Binary.{Binary}
use Rattle.ath_trees.specs.declared.node.Quant.{Quant}
use Rattle.ath_trees.specs.Tree.{Term, Terms, var, app, none, more, Sent, atom, equal, negated, joined, bound}
use Rattle.ath_trees.specs.Measure.{term_size, terms_size, sent_size, term_depth, terms_depth, sent_depth}
use Rattle.ath_trees.specs.Variables.{same_var, term_vars, free_vars}
use Rattle.ath_trees.specs.Occurrences.{is_among, is_named, every_var}
use Rattle.ath_trees.specs.Renamed.{renamed}
use Rattle.ath_trees.specs.Substitution.{subst_term, subst_terms, other, subst_to, subst_sent}
use Rattle.ath_trees.proofs.Occurring.{by_cases, not_true, same_var-refl, same_var-true, same_var-sym, unnamed, among-equal, among-joined, among-bound_of, among-of_bound, free-every}
use Rattle.ath_trees.proofs.Renaming.{size-renamed, depth-renamed, sent-deep, term-absent, subst-renamed}
use Rattle.ath_trees.proofs.SubstLaws.{other-unused}

module _ (x : Var) (by : Term) where
  subst-levels : (m n : ℕ) (p : Sent) → sent_depth p ≤ m → sent_depth p ≤ n → subst_to m x by p ≡ subst_to n x by p
  subst-levels zero n p l r = absurd (let d = sent-deep p in omega arith)
  subst-levels (suc m) zero p l r = absurd (let d = sent-deep p in omega arith)
  subst-levels (suc m) (suc n) (atom t) l r = refl
  subst-levels (suc m) (suc n) (equal s t) l r = refl
  subst-levels (suc m) (suc n) (negated p) l r = ap negated (subst-levels m n p (omega arith) (omega arith))
  subst-levels (suc m) (suc n) (joined c p q) l r =
      let a = subst-levels m n p (omega arith) (omega arith) in
      let b = subst-levels m n q (omega arith) (omega arith) in
      λ i. joined c (a i) (b i)
  subst-levels (suc m) (suc n) (bound k v p) l r =
      let new = other v by p in
      let un = other-unused v by p in
      let a = subst-renamed m v new p (omega arith) un.1 in
      let b = subst-renamed n v new p (omega arith) un.1 in
      by_cases (is_among x (free_vars (bound k v p)))
      (λ t. by_cases (is_named v (term_vars by))
      (λ u.
      let e = subst-levels m n (renamed v new p) (omega (arith, depth-renamed v new p)) (omega (arith, depth-renamed v new p)) in
      rw (t, u, a, b) (ap (bound k new) e))
      (λ g. let e = subst-levels m n p (omega arith) (omega arith) in rw (t, g) (ap (bound k v) e)))
      (λ f. rw f refl)

  pub subst-atom : (t : Term) → subst_sent x by (atom t) ≡ atom (subst_term x by t)
  subst-atom t = subst-levels (sent_depth (atom t)) (suc (term_depth t)) (atom t) (omega arith) (omega arith)

  pub subst-equal : (s t : Term) → subst_sent x by (equal s t) ≡ equal (subst_term x by s) (subst_term x by t)
  subst-equal s t = subst-levels (sent_depth (equal s t)) (suc (sent_depth (equal s t))) (equal s t) (omega arith) (omega arith)

  pub subst-negated : (p : Sent) → subst_sent x by (negated p) ≡ negated (subst_sent x by p)
  subst-negated p = subst-levels (sent_depth (negated p)) (suc (sent_depth p)) (negated p) (omega arith) (omega arith)

  pub subst-joined : (c : Binary) (p q : Sent) → subst_sent x by (joined c p q) ≡ joined c (subst_sent x by p) (subst_sent x by q)
  subst-joined c p q =
      let l = max (sent_depth p) (sent_depth q) in
      let a = subst-levels l (sent_depth p) p (omega arith) (omega arith) in
      let b = subst-levels l (sent_depth q) q (omega arith) (omega arith) in
      subst-levels (sent_depth (joined c p q)) (suc l) (joined c p q) (omega arith) (omega arith) ∙ (λ i. joined c (a i) (b i))

  -- ---- where it isn't free
  absent-to : (n : ℕ) (p : Sent) → sent_depth p ≤ n → is_among x (free_vars p) ≡ false → subst_to n x by p ≡ p
  absent-to zero p l e = absurd (let d = sent-deep p in omega arith)
  absent-to (suc n) (atom t) l e = ap atom (term-absent x by t e)
  absent-to (suc n) (equal s t) l e =
      let m = or_parts (is_among x (term_vars s)) (is_among x (term_vars t)) (sym (among-equal x s t) ∙ e) in
      let a = term-absent x by s m.0 in
      let b = term-absent x by t m.1 in
      λ i. equal (a i) (b i)
  absent-to (suc n) (negated p) l e = ap negated (absent-to n p (omega arith) e)
  absent-to (suc n) (joined c p q) l e =
      let m = or_parts (is_among x (free_vars p)) (is_among x (free_vars q)) (sym (among-joined x c p q) ∙ e) in
      let a = absent-to n p (omega arith) m.0 in
      let b = absent-to n q (omega arith) m.1 in
      λ i. joined c (a i) (b i)
  absent-to (suc n) (bound k v p) l e = rw e refl

  pub subst-absent : (p : Sent) → is_among x (free_vars p) ≡ false → subst_sent x by p ≡ p
  subst-absent p e = absent-to (sent_depth p) p (omega arith) e

  -- ---- a quantified sentence
  module _ (k : Quant) (v : Var) (p : Sent) where
    not_in_bound : is_among x (free_vars p) ≡ false → is_among x (free_vars (bound k v p)) ≡ false
    not_in_bound e = not_true (is_among x (free_vars (bound k v p))) (λ t. let m = among-of_bound x k v p t in let q = m.1 in absurd (cc))

    not_own : same_var x v ≡ true → is_among x (free_vars (bound k v p)) ≡ false
    not_own s =
        let q : same_var v x ≡ true = subst (λ (u : Var). same_var u x ≡ true) (same_var-true x v s) (same_var-refl x) in
        not_true (is_among x (free_vars (bound k v p))) (λ t. let m = (among-of_bound x k v p t).0 in absurd (cc))

    pub subst-shadowed : same_var x v ≡ true → subst_sent x by (bound k v p) ≡ bound k v p
    subst-shadowed s = subst-absent (bound k v p) (not_own s)

    pub subst-bare : is_among x (free_vars p) ≡ false → subst_sent x by (bound k v p) ≡ bound k v p
    subst-bare e = subst-absent (bound k v p) (not_in_bound e)

    plain-step : is_among x (free_vars (bound k v p)) ≡ true → is_named v (term_vars by) ≡ false → subst_to (suc (sent_depth p)) x by (bound k v p) ≡ bound k v (subst_sent x by p)
    plain-step t g = rw (t, g) refl

    pub subst-plain : same_var x v ≡ false → is_named v (term_vars by) ≡ false → subst_sent x by (bound k v p) ≡ bound k v (subst_sent x by p)
    subst-plain d g = by_cases (is_among x (free_vars p))
        (λ t. let o = among-bound_of x k v p (same_var-sym x v d) t in
        subst-levels (sent_depth (bound k v p)) (suc (sent_depth p)) (bound k v p) (omega arith) (omega arith) ∙ plain-step o g)
        (λ f. subst-bare f ∙ ap (bound k v) (sym (subst-absent p f)))

    captured-step : is_among x (free_vars (bound k v p)) ≡ true → is_named v (term_vars by) ≡ true → subst_to (suc (sent_depth p)) x by (bound k v p) ≡ bound k (other v by p) (subst_sent x by (renamed v (other v by p) p))
    captured-step t u =
        let new = other v by p in
        let a = subst-renamed (sent_depth p) v new p (omega arith) (other-unused v by p).1 in
        let e = subst-levels (sent_depth p) (sent_depth (renamed v new p)) (renamed v new p) (omega (arith, depth-renamed v new p)) (omega arith) in
        rw (t, u, a) (ap (bound k new) e)

    pub subst-captured : same_var x v ≡ false → is_among x (free_vars p) ≡ true → is_named v (term_vars by) ≡ true → subst_sent x by (bound k v p) ≡ bound k (other v by p) (subst_sent x by (renamed v (other v by p) p))
    subst-captured d e u =
        let o = among-bound_of x k v p (same_var-sym x v d) e in
        subst-levels (sent_depth (bound k v p)) (suc (sent_depth p)) (bound k v p) (omega arith) (omega arith) ∙ captured-step o u

-- ---- nodes and levels: numbers of the parts that are joined, by a sum or by the greater one
module _ (join : ℕ → ℕ → ℕ) where
  abbrev mutual
    m_term : Term → ℕ
    m_term (var v) = 1
    m_term (app f ss ts) = 1 + m_terms ts

    m_terms : Terms → ℕ
    m_terms none = 0
    m_terms (more t ts) = join (m_term t) (m_terms ts)

  abbrev m_sent : Sent → ℕ
  m_sent (atom t) = m_term t
  m_sent (equal s t) = 1 + join (m_term s) (m_term t)
  m_sent (negated p) = 1 + m_sent p
  m_sent (joined c p q) = 1 + join (m_sent p) (m_sent q)
  m_sent (bound k v p) = 1 + m_sent p

  -- counted at the occurrences of the variable, each of which has a
  module _ (x : Var) (a : ℕ) where
    abbrev mutual
      c_term : Term → ℕ
      c_term (var v) = if same_var x v then a else 1
      c_term (app f ss ts) = 1 + c_terms ts

      c_terms : Terms → ℕ
      c_terms none = 0
      c_terms (more t ts) = join (c_term t) (c_terms ts)

    abbrev c_sent : Sent → ℕ
    c_sent (atom t) = c_term t
    c_sent (equal s t) = 1 + join (c_term s) (c_term t)
    c_sent (negated p) = 1 + c_sent p
    c_sent (joined c p q) = 1 + join (c_sent p) (c_sent q)
    c_sent (bound k v p) = if same_var x v then m_sent (bound k v p) else 1 + c_sent p

    mutual
      c_term-put : (by : Term) (t : Term) → m_term by ≡ a → m_term (subst_term x by t) ≡ c_term t
      c_term-put by (var v) e = by_cases (same_var x v) (λ t. rw t e) (λ f. rw f refl)
      c_term-put by (app f ss ts) e = ap (λ n. 1 + n) (c_terms-put by ts e)

      c_terms-put : (by : Term) (ts : Terms) → m_term by ≡ a → m_terms (subst_terms x by ts) ≡ c_terms ts
      c_terms-put by none e = refl
      c_terms-put by (more t ts) e = let b = c_term-put by t e in let c = c_terms-put by ts e in λ i. join (b i) (c i)

  module _ (x : Var) where
    mutual
      c_term-one : (t : Term) → c_term x 1 t ≡ m_term t
      c_term-one (var v) = by_cases (same_var x v) (λ t. rw t refl) (λ f. rw f refl)
      c_term-one (app f ss ts) = ap (λ n. 1 + n) (c_terms-one ts)

      c_terms-one : (ts : Terms) → c_terms x 1 ts ≡ m_terms ts
      c_terms-one none = refl
      c_terms-one (more t ts) = let b = c_term-one t in let c = c_terms-one ts in λ i. join (b i) (c i)

    c_sent-one : (p : Sent) → c_sent x 1 p ≡ m_sent p
    c_sent-one (atom t) = c_term-one t
    c_sent-one (equal s t) = let b = c_term-one s in let c = c_term-one t in λ i. 1 + join (b i) (c i)
    c_sent-one (negated p) = ap (λ n. 1 + n) (c_sent-one p)
    c_sent-one (joined k p q) = let b = c_sent-one p in let c = c_sent-one q in λ i. 1 + join (b i) (c i)
    c_sent-one (bound k v p) = by_cases (same_var x v) (λ t. rw t refl) (λ f. rw f (ap (λ n. 1 + n) (c_sent-one p)))

  -- a renaming of a variable to another
  module _ (y z : Var) where
    m_term-renamed : (t : Term) → m_term (subst_term y (var z) t) ≡ m_term t
    m_term-renamed t = c_term-put y 1 (var z) t refl ∙ c_term-one y t

    m_sent-renamed : (p : Sent) → m_sent (renamed y z p) ≡ m_sent p
    m_sent-renamed (atom t) = m_term-renamed t
    m_sent-renamed (equal s t) = let b = m_term-renamed s in let c = m_term-renamed t in λ i. 1 + join (b i) (c i)
    m_sent-renamed (negated p) = ap (λ n. 1 + n) (m_sent-renamed p)
    m_sent-renamed (joined k p q) = let b = m_sent-renamed p in let c = m_sent-renamed q in λ i. 1 + join (b i) (c i)
    m_sent-renamed (bound k v p) = by_cases (same_var y v) (λ t. rw t refl) (λ f. rw f (ap (λ n. 1 + n) (m_sent-renamed p)))

  module _ (x : Var) (a : ℕ) where
    -- neither of them the one that is counted
    module _ (y z : Var) (d : same_var x y ≡ false) (e : same_var x z ≡ false) where
      mutual
        c_term-renamed : (t : Term) → c_term x a (subst_term y (var z) t) ≡ c_term x a t
        c_term-renamed (var v) = by_cases (same_var y v)
            (λ t. let q : same_var x v ≡ false = subst (λ (u : Var). same_var x u ≡ false) (same_var-true y v t) d in rw (t, q, e) refl)
            (λ f. rw f refl)
        c_term-renamed (app f ss ts) = ap (λ n. 1 + n) (c_terms-renamed ts)

        c_terms-renamed : (ts : Terms) → c_terms x a (subst_terms y (var z) ts) ≡ c_terms x a ts
        c_terms-renamed none = refl
        c_terms-renamed (more t ts) = let b = c_term-renamed t in let c = c_terms-renamed ts in λ i. join (b i) (c i)

      c_sent-renamed : (p : Sent) → c_sent x a (renamed y z p) ≡ c_sent x a p
      c_sent-renamed (atom t) = c_term-renamed t
      c_sent-renamed (equal s t) = let b = c_term-renamed s in let c = c_term-renamed t in λ i. 1 + join (b i) (c i)
      c_sent-renamed (negated p) = ap (λ n. 1 + n) (c_sent-renamed p)
      c_sent-renamed (joined k p q) = let b = c_sent-renamed p in let c = c_sent-renamed q in λ i. 1 + join (b i) (c i)
      c_sent-renamed (bound k v p) = by_cases (same_var y v)
          (λ t. rw t refl)
          (λ f. by_cases (same_var x v)
          (λ s. rw (f, s) (ap (λ n. 1 + n) (m_sent-renamed y z p)))
          (λ g. rw (f, g) (ap (λ n. 1 + n) (c_sent-renamed p))))

    c_sent-put : (n : ℕ) (by : Term) (p : Sent) → sent_depth p ≤ n → m_term by ≡ a → m_sent (subst_to n x by p) ≡ c_sent x a p
    c_sent-put zero by p l e = absurd (let k = sent-deep p in omega arith)
    c_sent-put (suc n) by (atom t) l e = c_term-put x a by t e
    c_sent-put (suc n) by (equal s t) l e = let b = c_term-put x a by s e in let c = c_term-put x a by t e in λ i. 1 + join (b i) (c i)
    c_sent-put (suc n) by (negated p) l e = ap (λ k. 1 + k) (c_sent-put n by p (omega arith) e)
    c_sent-put (suc n) by (joined k p q) l e = let b = c_sent-put n by p (omega arith) e in let c = c_sent-put n by q (omega arith) e in λ i. 1 + join (b i) (c i)
    c_sent-put (suc n) by (bound k v p) l e =
        let new = other v by p in
        let un = other-unused v by p in
        let r = subst-renamed n v new p (omega arith) un.1 in
        by_cases (is_among x (free_vars (bound k v p)))
        (λ t.
        let m = among-of_bound x k v p t in
        let d = same_var-sym v x m.0 in
        by_cases (is_named v (term_vars by))
        (λ u.
        let o : same_var x new ≡ false = not_true (same_var x new) (λ z. let w = free-every x p m.1 in let y = rw (same_var-true x new z) at w in let f = unnamed new (every_var p) un.1 in absurd (cc)) in
        let h = c_sent-put n by (renamed v new p) (omega (arith, depth-renamed v new p)) e ∙ c_sent-renamed v new d o p in
        rw (t, u, r, d) (ap (λ k. 1 + k) h))
        (λ g. rw (t, g, d) (ap (λ k. 1 + k) (c_sent-put n by p (omega arith) e))))
        (λ f. by_cases (same_var x v)
        (λ s. rw (f, s) refl)
        (λ g.
        let i : is_among x (free_vars p) ≡ false = not_true (is_among x (free_vars p)) (λ z. let y = among-bound_of x k v p (same_var-sym x v g) z in absurd (cc)) in
        let h = ap m_sent (sym (absent-to x by n p (omega arith) i)) ∙ c_sent-put n by p (omega arith) e in
        rw (f, g) (ap (λ k. 1 + k) h)))

  m-put : (x : Var) (by : Term) (p : Sent) → m_sent (subst_sent x by p) ≡ c_sent x (m_term by) p
  m-put x by p = c_sent-put x (m_term by) (sent_depth p) by p (omega arith) refl

  m-bound : (x : Var) (by : Term) (k : Quant) (v : Var) (p : Sent) → same_var x v ≡ false → m_sent (subst_sent x by (bound k v p)) ≡ 1 + m_sent (subst_sent x by p)
  m-bound x by k v p d =
      let c = sym (m-put x by p) in
      m-put x by (bound k v p) ∙ rw d (ap (λ n. 1 + n) c)

  m-variable : (x z : Var) (p : Sent) → m_sent (subst_sent x (var z) p) ≡ m_sent p
  m-variable x z p = m-put x (var z) p ∙ c_sent-one x p

-- ---- its nodes
abbrev sum : ℕ → ℕ → ℕ
sum m n = m + n

mutual
  size-term : (t : Term) → term_size t ≡ m_term sum t
  size-term (var v) = refl
  size-term (app f ss ts) = ap (λ n. 1 + n) (size-terms ts)

  size-terms : (ts : Terms) → terms_size ts ≡ m_terms sum ts
  size-terms none = refl
  size-terms (more t ts) = let b = size-term t in let c = size-terms ts in λ i. b i + c i

size-sent : (p : Sent) → sent_size p ≡ m_sent sum p
size-sent (atom t) = size-term t
size-sent (equal s t) = let b = size-term s in let c = size-term t in omega arith
size-sent (negated p) = ap (λ n. 1 + n) (size-sent p)
size-sent (joined k p q) = let b = size-sent p in let c = size-sent q in omega arith
size-sent (bound k v p) = ap (λ n. 1 + n) (size-sent p)

pub size-shadowed : (x : Var) (by : Term) (k : Quant) (v : Var) (p : Sent) → same_var x v ≡ true → sent_size (subst_sent x by (bound k v p)) ≡ sent_size (bound k v p)
size-shadowed x by k v p s = ap sent_size (subst-shadowed x by k v p s)

pub size-bound : (x : Var) (by : Term) (k : Quant) (v : Var) (p : Sent) → same_var x v ≡ false → sent_size (subst_sent x by (bound k v p)) ≡ 1 + sent_size (subst_sent x by p)
size-bound x by k v p d = size-sent (subst_sent x by (bound k v p)) ∙ m-bound sum x by k v p d ∙ ap (λ n. 1 + n) (sym (size-sent (subst_sent x by p)))

pub size-variable : (x z : Var) (p : Sent) → sent_size (subst_sent x (var z) p) ≡ sent_size p
size-variable x z p = size-sent (subst_sent x (var z) p) ∙ m-variable sum x z p ∙ sym (size-sent p)

-- ---- its levels
mutual
  depth-term : (t : Term) → term_depth t ≡ m_term max t
  depth-term (var v) = refl
  depth-term (app f ss ts) = ap (λ n. 1 + n) (depth-terms ts)

  depth-terms : (ts : Terms) → terms_depth ts ≡ m_terms max ts
  depth-terms none = refl
  depth-terms (more t ts) = let b = depth-term t in let c = depth-terms ts in λ i. max (b i) (c i)

depth-sent : (p : Sent) → sent_depth p ≡ m_sent max p
depth-sent (atom t) = depth-term t
depth-sent (equal s t) = let b = depth-term s in let c = depth-term t in λ i. 1 + max (b i) (c i)
depth-sent (negated p) = ap (λ n. 1 + n) (depth-sent p)
depth-sent (joined k p q) = let b = depth-sent p in let c = depth-sent q in λ i. 1 + max (b i) (c i)
depth-sent (bound k v p) = ap (λ n. 1 + n) (depth-sent p)

pub depth-shadowed : (x : Var) (by : Term) (k : Quant) (v : Var) (p : Sent) → same_var x v ≡ true → sent_depth (subst_sent x by (bound k v p)) ≡ sent_depth (bound k v p)
depth-shadowed x by k v p s = ap sent_depth (subst-shadowed x by k v p s)

pub depth-bound : (x : Var) (by : Term) (k : Quant) (v : Var) (p : Sent) → same_var x v ≡ false → sent_depth (subst_sent x by (bound k v p)) ≡ 1 + sent_depth (subst_sent x by p)
depth-bound x by k v p d = depth-sent (subst_sent x by (bound k v p)) ∙ m-bound max x by k v p d ∙ ap (λ n. 1 + n) (sym (depth-sent (subst_sent x by p)))

pub depth-variable : (x z : Var) (p : Sent) → sent_depth (subst_sent x (var z) p) ≡ sent_depth p
depth-variable x z p = depth-sent (subst_sent x (var z) p) ∙ m-variable max x z p ∙ sym (depth-sent p)

-- ---- not many more nodes, and not much deeper
module _ (x : Var) (a : ℕ) (h : a ≤ MOST_TERM_NODES) where
  mutual
    few_term : (t : Term) → c_term sum x a t ≤ MOST_TERM_NODES * term_size t
    few_term (var v) = by_cases (same_var x v) (λ t. rw t (omega arith)) (λ f. rw f (omega arith))
    few_term (app f ss ts) = let r = few_terms ts in omega arith

    few_terms : (ts : Terms) → c_terms sum x a ts ≤ MOST_TERM_NODES * terms_size ts
    few_terms none = omega arith
    few_terms (more t ts) = let b = few_term t in let c = few_terms ts in omega arith

  few_sent : (p : Sent) → c_sent sum x a p ≤ MOST_TERM_NODES * sent_size p
  few_sent (atom t) = few_term t
  few_sent (equal s t) = let b = few_term s in let c = few_term t in omega arith
  few_sent (negated p) = let b = few_sent p in omega arith
  few_sent (joined c p q) = let b = few_sent p in let c = few_sent q in omega arith
  few_sent (bound k v p) = let b = few_sent p in let e = size-sent p in by_cases (same_var x v) (λ t. rw t (omega arith)) (λ f. rw f (omega arith))

module _ (x : Var) (a : ℕ) (h : a ≤ MOST_TERM_LEVELS) where
  mutual
    shallow_term : (t : Term) → c_term max x a t ≤ MOST_TERM_LEVELS + term_depth t
    shallow_term (var v) = by_cases (same_var x v) (λ t. rw t (omega arith)) (λ f. rw f (omega arith))
    shallow_term (app f ss ts) = let r = shallow_terms ts in omega arith

    shallow_terms : (ts : Terms) → c_terms max x a ts ≤ MOST_TERM_LEVELS + terms_depth ts
    shallow_terms none = omega arith
    shallow_terms (more t ts) = let b = shallow_term t in let c = shallow_terms ts in omega arith

  shallow_sent : (p : Sent) → c_sent max x a p ≤ MOST_TERM_LEVELS + sent_depth p
  shallow_sent (atom t) = shallow_term t
  shallow_sent (equal s t) = let b = shallow_term s in let c = shallow_term t in omega arith
  shallow_sent (negated p) = let b = shallow_sent p in omega arith
  shallow_sent (joined c p q) = let b = shallow_sent p in let c = shallow_sent q in omega arith
  shallow_sent (bound k v p) = let b = shallow_sent p in let e = depth-sent p in by_cases (same_var x v) (λ t. rw t (omega arith)) (λ f. rw f (omega arith))

pub term-few : (x : Var) (by t : Term) → term_size by ≤ MOST_TERM_NODES → term_size (subst_term x by t) ≤ MOST_TERM_NODES * term_size t
term-few x by t h = rw (size-term (subst_term x by t) ∙ c_term-put sum x (term_size by) by t (sym (size-term by))) (few_term x (term_size by) h t)

pub term-shallow : (x : Var) (by t : Term) → term_depth by ≤ MOST_TERM_LEVELS → term_depth (subst_term x by t) ≤ MOST_TERM_LEVELS + term_depth t
term-shallow x by t h = rw (depth-term (subst_term x by t) ∙ c_term-put max x (term_depth by) by t (sym (depth-term by))) (shallow_term x (term_depth by) h t)

pub sent-few : (x : Var) (by : Term) (p : Sent) → term_size by ≤ MOST_TERM_NODES → sent_size (subst_sent x by p) ≤ MOST_TERM_NODES * sent_size p
sent-few x by p h =
    let e = size-sent (subst_sent x by p) ∙ c_sent-put sum x (term_size by) (sent_depth p) by p (omega arith) (sym (size-term by)) in
    rw e (few_sent x (term_size by) h p)

pub sent-shallow : (x : Var) (by : Term) (p : Sent) → term_depth by ≤ MOST_TERM_LEVELS → sent_depth (subst_sent x by p) ≤ MOST_TERM_LEVELS + sent_depth p
sent-shallow x by p h =
    let e = depth-sent (subst_sent x by p) ∙ c_sent-put max x (term_depth by) (sent_depth p) by p (omega arith) (sym (depth-term by)) in
    rw e (shallow_sent x (term_depth by) h p)
