-- What becomes of what a graph stands for when the sides of a pair are made equal.
use Rattle.std.proofs.Common.{◌≡◌, ℕ, zero, suc, ◌+◌, ◌-◌, ◌/◌, ◌<◌, ◌≤◌, Bool, true, false, cond, List, [], ◌∷◌, ◌++◌, length, take, Option, Some, None, is_some, MatchOption, sym, ◌∙◌, ap, subst, arith, inl, inr, append_assoc}
use Rattle.std.proofs.lemmas.Grind.{common_steps}
use Rattle.std.proofs.lemmas.List.{take_all}
use Rattle.ath_unifiers.specs.declared.graph.Graph.{Graph}
use Rattle.ath_sorts.specs.declared.sorts.SVar.{SVar}
use Rattle.ath_sorts.specs.declared.sorts.Sort.{Sort, Var}
use Rattle.ath_sorts.specs.Sorts.{apply_to}
use Rattle.ath_unifiers.specs.Unifiers.{Unifies, HasUnifier}
use Rattle.ath_sorts.specs.Equality.{same_sort}
use Rattle.ath_unifiers.specs.Order.{vars_of, vars_read}
use Rattle.ath_unifiers.specs.Graphs.{value, Respects, IsGraph, IsClosed, IsOrdered, AddsSort, MatchUnited, MatchAcyclic, MatchEquated, Solves, Stands}
use Rattle.ath_unifiers.proofs.GraphGrowth.{kept_value, longer, ordered_nodes}
use Rattle.ath_unifiers.proofs.GraphSolutions.{has_unifier}
use Rattle.ath_unifiers.proofs.GraphUnions.{closed_when_done}
use Rattle.ath_sorts.proofs.SameSorts.{same_sort-refl, same_sort-true}
use Rattle.ath_sorts.proofs.Bools.{bool_cases}
use Rattle.ath_sorts.proofs.Gets.{append-none}

unifies-front : (f : SVar → Sort) (pairs : List (Sort × Sort)) (p : Sort × Sort) → Unifies f (pairs ++ p ∷ []) → Unifies f pairs
unifies-front f [] p u = tt
unifies-front f (q ∷ pairs) p u = (u.0, unifies-front f pairs p u.1)

unifies-last : (f : SVar → Sort) (pairs : List (Sort × Sort)) (p : Sort × Sort) → Unifies f (pairs ++ p ∷ []) → apply_to f p.0 ≡ apply_to f p.1
unifies-last f [] p u = u.0
unifies-last f (q ∷ pairs) p u = unifies-last f pairs p u.1

unifies-both : (f : SVar → Sort) (pairs : List (Sort × Sort)) (p : Sort × Sort) → Unifies f pairs → apply_to f p.0 ≡ apply_to f p.1 → Unifies f (pairs ++ p ∷ [])
unifies-both f [] p u e = (e, tt)
unifies-both f (q ∷ pairs) p u e = (u.0, unifies-both f pairs p u.1 e)

read-last : (pairs : List (Sort × Sort)) (p : Sort × Sort) → vars_read (pairs ++ p ∷ []) ≡ vars_read pairs ++ (cond (same_sort p.0 p.1) [] (vars_of p.0 ++ vars_of p.1))
read-last [] p = append-none (cond (same_sort p.0 p.1) [] (vars_of p.0 ++ vars_of p.1))
read-last (q ∷ pairs) p = ap (λ r. cond (same_sort q.0 q.1) [] (vars_of q.0 ++ vars_of q.1) ++ r) (read-last pairs p) ∙ sym (append_assoc (cond (same_sort q.0 q.1) [] (vars_of q.0 ++ vars_of q.1)) (vars_read pairs) (cond (same_sort p.0 p.1) [] (vars_of p.0 ++ vars_of p.1)))

-- a pair of equal sides changes nothing
pub stands_same : (g : Graph) (pairs : List (Sort × Sort)) (left right : Sort) → left ≡ right → Stands g pairs → Stands g (pairs ++ (left, right) ∷ [])
stands_same g pairs left right same h =
    let e : vars_read (pairs ++ (left, right) ∷ []) ≡ vars_read pairs = read-last pairs (left, right) ∙ ap (λ b. vars_read pairs ++ cond b [] (vars_of left ++ vars_of right)) (ap (same_sort left) (sym same) ∙ same_sort-refl left) ∙ append-none (vars_read pairs) in
    record {
      graph = h.graph;
      closed = h.closed;
      respects = λ f u. h.respects f (unifies-front f pairs (left, right) u);
      unifies = λ f r. unifies-both f pairs (left, right) (h.unifies f r) (ap (apply_to f) same);
      ordered = subst (λ (r : List SVar). IsOrdered r g) (sym e) h.ordered;
    }

module _ (g g1 g2 : Graph) (left right : Sort) (i j : ℕ) (is_graph : IsGraph g) (a : AddsSort g g1 left i) (b : AddsSort g1 g2 right j) where
  graph1 : IsGraph g1
  graph1 = a.grows.graph is_graph

  pub graph2 : IsGraph g2
  graph2 = b.grows.graph graph1

  pub closed2 : IsClosed g → IsClosed g2
  closed2 h = b.grows.closed graph1 (a.grows.closed is_graph h)

  pub left_there : i < length g2.nodes
  left_there = let l = longer g1 g2 (vars_of right) b.grows in let k = a.within in omega arith

  left_value : (f : SVar → Sort) → value f g2.nodes i ≡ apply_to f left
  left_value f = kept_value g1 g2 (vars_of right) b.grows f i a.within ∙ a.is_value f

  -- a map that unifies the pairs and the sides is one that respects the graph and makes the nodes of the sides equal
  to_respects : (pairs : List (Sort × Sort)) (f : SVar → Sort) → Stands g pairs → Unifies f (pairs ++ (left, right) ∷ []) → Respects f g2 × (value f g2.nodes i ≡ value f g2.nodes j)
  to_respects pairs f h u = (
    b.grows.respects f graph1 (a.grows.respects f is_graph (h.respects f (unifies-front f pairs (left, right) u))),
    left_value f ∙ unifies-last f pairs (left, right) u ∙ sym (b.is_value f),
  )

  to_unifies : (pairs : List (Sort × Sort)) (f : SVar → Sort) → Stands g pairs → Respects f g2 → value f g2.nodes i ≡ value f g2.nodes j → Unifies f (pairs ++ (left, right) ∷ [])
  to_unifies pairs f h r e = unifies-both f pairs (left, right) (h.unifies f (a.grows.respected f is_graph (b.grows.respected f graph1 r))) (sym (left_value f) ∙ e ∙ b.is_value f)

  ordered_now : (g3 : Graph) (pairs : List (Sort × Sort)) → (left ≡ right → ⊥) → g3.nodes ≡ g2.nodes → Stands g pairs → IsOrdered (vars_read (pairs ++ (left, right) ∷ [])) g3
  ordered_now g3 pairs apart nodes h =
      let differ : same_sort left right ≡ false = elim (bool_cases (same_sort left right)) [ inl p ↦ absurd (apart (same_sort-true left right p)) | inr p ↦ p ] in
      let e : vars_read (pairs ++ (left, right) ∷ []) ≡ (vars_read pairs ++ vars_of left) ++ vars_of right = read-last pairs (left, right) ∙ ap (λ b. vars_read pairs ++ cond b [] (vars_of left ++ vars_of right)) differ ∙ sym (append_assoc (vars_read pairs) (vars_of left) (vars_of right)) in
      let o = b.grows.ordered (vars_read pairs ++ vars_of left) (a.grows.ordered (vars_read pairs) h.ordered) in
      subst (λ (x : List SVar). IsOrdered x g3) (sym e) (ordered_nodes ((vars_read pairs ++ vars_of left) ++ vars_of right) g2 g3 nodes o)

  pub equated : (g3 : Graph) (pairs : List (Sort × Sort)) (ok : Bool) → (left ≡ right → ⊥) → MatchUnited g2 g3 i j ok → Stands g pairs → MatchEquated g3 (pairs ++ (left, right) ∷ []) ok
  equated g3 pairs true apart m h = record {
    graph = m.graph;
    closed = closed_when_done g3 m.closed;
    respects = λ f u. let r = to_respects pairs f h u in (m.respects f r.0 r.1).0;
    unifies = λ f k. let r = m.respected f k tt in to_unifies pairs f h r.0 r.1;
    ordered = ordered_now g3 pairs apart m.nodes h;
  }
  equated g3 pairs false apart none h = λ u. let r = to_respects pairs u.0 h u.1 in none u.0 r.0 r.1

-- ---- the first pairs of a list

pub unifies_fewer : (f : SVar → Sort) (pairs : List (Sort × Sort)) (n m : ℕ) → n ≤ m → Unifies f (take m pairs) → Unifies f (take n pairs)
unifies_fewer f [] zero m l u = tt
unifies_fewer f [] (suc n) m l u = tt
unifies_fewer f (p ∷ pairs) zero m l u = tt
unifies_fewer f (p ∷ pairs) (suc n) zero l u = absurd (omega arith)
unifies_fewer f (p ∷ pairs) (suc n) (suc m) l u = (u.0, unifies_fewer f pairs n m (omega arith) u.1)

pub none_with_more : (pairs : List (Sort × Sort)) (n m : ℕ) → n ≤ m → (HasUnifier (take n pairs) → ⊥) → HasUnifier (take m pairs) → ⊥
none_with_more pairs n m l none u = none (u.0, unifies_fewer u.0 pairs n m l u.1)

pub stands_when : (g : Graph) (pairs : List (Sort × Sort)) (ok : Bool) → ok ≡ true → MatchEquated g pairs ok → Stands g pairs
stands_when g pairs ok e h = let P : Bool → Type 0 = λ b. MatchEquated g pairs b in subst P e h

pub none_equated : (g : Graph) (pairs : List (Sort × Sort)) (ok : Bool) → ok ≡ false → MatchEquated g pairs ok → HasUnifier pairs → ⊥
none_equated g pairs ok e h = let P : Bool → Type 0 = λ b. MatchEquated g pairs b in subst P e h

pub none_cyclic : (g : Graph) (pairs : List (Sort × Sort)) (ok : Bool) → ok ≡ false → MatchAcyclic g ok → Stands g pairs → HasUnifier pairs → ⊥
none_cyclic g pairs ok e h s u = let P : Bool → Type 0 = λ b. MatchAcyclic g b in let none : P false = subst P e h in none u.0 (s.respects u.0 u.1)

pub some_pairs : (pairs : List (Sort × Sort)) → (HasUnifier pairs → ⊥) → 0 < length pairs
some_pairs [] none = absurd (none (λ v. Var v, tt))
some_pairs (p ∷ pairs) none = omega arith

pub solves_found : (o : Option Graph) (g : Graph) (P : Type 0) (pairs all : List (Sort × Sort)) (n : ℕ) → o ≡ Some g → MatchOption o P (λ g. Solves g (take n pairs)) → length pairs ≤ n → pairs ≡ all → Solves g all
solves_found o g P pairs all n e h l same =
    let Q : Option Graph → Type 0 = λ x. MatchOption x P (λ g. Solves g (take n pairs)) in
    let s : Q (Some g) = subst Q e h in
    subst (Solves g) (take_all n pairs l ∙ same) s

pub none_found : (o : Option Graph) (pairs : List (Sort × Sort)) (n : ℕ) → o ≡ None → MatchOption o (HasUnifier (take n pairs) → ⊥) (λ g. Solves g (take n pairs)) → length pairs ≤ n → HasUnifier pairs → ⊥
none_found o pairs n e h l u =
    let Q : Option Graph → Type 0 = λ x. MatchOption x (HasUnifier (take n pairs) → ⊥) (λ g. Solves g (take n pairs)) in
    let none : Q None = subst Q e h in
    none (subst HasUnifier (sym (take_all n pairs l)) u)

pub unifier_found : (o : Option Graph) (P : Type 0) (pairs : List (Sort × Sort)) → is_some o ≡ true → MatchOption o P (λ g. Solves g pairs) → HasUnifier pairs
unifier_found None P pairs e h = absurd (cc)
unifier_found (Some g) P pairs e h = has_unifier g pairs h

pub middle_below : (low high : ℕ) → 1 < high - low → low + (high - low) / 2 < high
middle_below low high h = grind (arith, common_steps)
