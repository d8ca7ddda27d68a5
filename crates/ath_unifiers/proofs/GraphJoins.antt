-- What becomes of a graph when two classes are joined.
use Rattle.std.proofs.Common.{◌≡◌, ℕ, zero, suc, ◌+◌, ◌<◌, ◌≤◌, Bool, true, false, cond, ◌==◌, nat_lt, IsTrue, List, [], ◌∷◌, length, map, slice_get, Option, Some, None, unwrap_or, refl, sym, ◌∙◌, ap, subst, arith, ◌⊎◌, inl, inr}
use Rattle.std.proofs.lemmas.Grind.{common_steps}
use Rattle.ath_unifiers.specs.declared.graph.Graph.{Graph}
use Rattle.ath_unifiers.specs.declared.nodes.Node.{Node}
use Rattle.ath_unifiers.specs.declared.nodes.Node.TheVariants.{Leaf, Branch}
use Rattle.ath_sorts.specs.declared.sorts.SVar.{SVar}
use Rattle.ath_sorts.specs.declared.sorts.SVar.TheVariants.{Written, Made}
use Rattle.ath_sorts.specs.declared.sorts.Sort.{Sort}
use Rattle.ath_sorts.specs.declared.sorts.Sym.{Sym}
use Rattle.ath_unifiers.specs.Graphs.{class_at, value, Respects, IsGraph, stands_before, names_class, rename, join_names, join_class, classes}
use Rattle.ath_sorts.proofs.Gets.{get-there, get-within, get-past, get-map, some-inj, some-not-none}
use Rattle.ath_unifiers.proofs.GraphTrees.{leaf-inj, leaf-not-branch}
use Rattle.ath_sorts.proofs.Bools.{true-not-false, bool_cases, num_cases}
use Rattle.ath_sorts.proofs.Gets.{length-map'}

pub rename-same : (x y : ℕ) → rename x y x ≡ y
rename-same x y = let e : (x == x) ≡ true = grind (arith, common_steps) in rw e refl

pub rename-other : (x y c : ℕ) → (c ≡ x → ⊥) → rename x y c ≡ c
rename-other x y c h = let e : (c == x) ≡ false = grind (arith, common_steps) in rw e refl

before-trans : (a b c : SVar) (i j k : ℕ) → stands_before a i b j ≡ true → stands_before b j c k ≡ true → stands_before a i c k ≡ true
before-trans (Written a) (Written b) (Written c) i j k p q = grind (arith, common_steps)
before-trans (Written a) (Written b) (Made n) i j k p q = refl
before-trans (Written a) (Made m) (Written c) i j k p q = absurd (true-not-false (sym q))
before-trans (Written a) (Made m) (Made n) i j k p q = refl
before-trans (Made l) (Written b) c i j k p q = absurd (true-not-false (sym p))
before-trans (Made l) (Made m) (Written c) i j k p q = absurd (true-not-false (sym q))
before-trans (Made l) (Made m) (Made n) i j k p q = grind (arith, common_steps)

before-other : (a b : SVar) (i j : ℕ) → (i ≡ j → ⊥) → (a ≡ b → ⊥) → stands_before a i b j ≡ false → stands_before b j a i ≡ true
before-other (Written a) (Written b) i j d e h = grind (arith, common_steps)
before-other (Written a) (Made n) i j d e h = absurd (true-not-false h)
before-other (Made m) (Written b) i j d e h = refl
before-other (Made m) (Made n) i j d e h = made m n e h
  where
    made : (m n : ℕ) → (Made m ≡ Made n → ⊥) → nat_lt m n ≡ false → nat_lt n m ≡ true
    made m n e h = elim (num_cases m n) [ inl p ↦ absurd (e (ap Made p)) | inr p ↦ grind (arith, common_steps) ]

-- classes are fewer after one is renamed
module _ (x y : ℕ) where
  one_less : (k c : ℕ) → (c ≡ x → k ≡ y → ⊥) → cond (rename x y c == k) 1 0 ≤ cond (c == k) 1 0
  one_less k c h = elim (num_cases c x) [
    | inl p ↦ renamed (cond (c == k) 1 0) (rw (p, rename-same) (not_there p))
    | inr p ↦ rw (rename-other x y c p) (omega arith)
  ]
    where
      renamed : (n : ℕ) → ◌≡◌ {A = ℕ} (cond (rename x y c == k) 1 0) 0 → cond (rename x y c == k) 1 0 ≤ n
      renamed n e = omega arith

      not_there : c ≡ x → ◌≡◌ {A = ℕ} (cond (y == k) 1 0) 0
      not_there p = let d : k ≡ y → ⊥ = h p in let e : (y == k) ≡ false = grind (arith, common_steps) in rw e refl

  classes-le : (k : ℕ) (cs : List ℕ) → ((i c : ℕ) → slice_get cs i ≡ Some c → c ≡ x → k + i ≡ y → ⊥) → classes k (map (rename x y) cs) ≤ classes k cs
  classes-le k [] h = omega arith
  classes-le k (c ∷ cs) h =
      let r = classes-le (suc k) cs (λ i d e p q. h (suc i) d e p (omega arith)) in
      let o = one_less k c (λ p q. h 0 c refl p (omega arith)) in
      omega arith

  pub classes-lt : (k : ℕ) (cs : List ℕ) (i : ℕ) → (x ≡ y → ⊥) → ((i c : ℕ) → slice_get cs i ≡ Some c → c ≡ x → k + i ≡ y → ⊥) → slice_get cs i ≡ Some x → k + i ≡ x → classes k (map (rename x y) cs) < classes k cs
  classes-lt k [] i d h e p = absurd (some-not-none x (sym e))
  classes-lt k (c ∷ cs) zero d h e p =
      let r = classes-le (suc k) cs (λ i d e p q. h (suc i) d e p (omega arith)) in
      let q = some-inj c x e in
      let k_is : k ≡ x = omega arith in
      let old : (c == k) ≡ true = grind (arith, common_steps) in
      let ren = ap (rename x y) q ∙ rename-same x y in
      let new : (rename x y c == k) ≡ false = grind (arith, common_steps) in
      let a : ◌≡◌ {A = ℕ} (cond (c == k) 1 0) 1 = ap (λ (b : Bool). cond {A = ℕ} b 1 0) old in
      let b : ◌≡◌ {A = ℕ} (cond (rename x y c == k) 1 0) 0 = ap (λ (b : Bool). cond {A = ℕ} b 1 0) new in
      omega arith
  classes-lt k (c ∷ cs) (suc i) d h e p =
      let r = classes-lt (suc k) cs i d (λ j b e p q. h (suc j) b e p (omega arith)) e (omega arith) in
      let o = one_less k c (λ p q. h 0 c refl p (omega arith)) in
      omega arith

-- the class x gets the name y
module _ (g : Graph) (is_graph : IsGraph g) (x y : ℕ) (apart : x ≡ y → ⊥) (x_in : x < length g.nodes) (y_in : y < length g.nodes) (x_named : class_at g.class x ≡ x) (y_named : class_at g.class y ≡ y)
    (on_branch : (c : Sym) (js : List ℕ) → slice_get g.nodes x ≡ Some (Branch c js) → (d : Sym) × ((ks : List ℕ) × (slice_get g.nodes y ≡ Some (Branch d ks))))
    (on_leaf : (u w : SVar) → slice_get g.nodes x ≡ Some (Leaf u) → slice_get g.nodes y ≡ Some (Leaf w) → stands_before w y u x ≡ true) where
  renamed : Graph
  renamed = record { nodes = g.nodes; class = map (rename x y) g.class }

  class_in : (i : ℕ) → i < length g.nodes → (slice_get g.class i ≡ Some (class_at g.class i)) × (class_at (map (rename x y) g.class) i ≡ rename x y (class_at g.class i))
  class_in i inside =
      let p = get-there g.class i (let e = is_graph.even in omega arith) in
      let q = ap (λ o. unwrap_or o i) p.1 in
      (p.1 ∙ ap Some (sym q), ap (λ o. unwrap_or o i) (get-map (rename x y) g.class i p.0 p.1) ∙ ap (rename x y) (sym q))

  class_out : (i : ℕ) → length g.nodes ≤ i → class_at (map (rename x y) g.class) i ≡ i
  class_out i out = ap (λ o. unwrap_or o i) (get-past (map (rename x y) g.class) i (let e = is_graph.even in let l = length-map' (rename x y) g.class in omega arith))

  in_or_out : (i : ℕ) → (i < length g.nodes) ⊎ (length g.nodes ≤ i)
  in_or_out i = grind (arith, common_steps)

  -- what a node's class is now
  class_now : (i : ℕ) → i < length g.nodes → ((class_at g.class i ≡ x) × (class_at (map (rename x y) g.class) i ≡ y)) ⊎ ((class_at g.class i ≡ x → ⊥) × (class_at (map (rename x y) g.class) i ≡ class_at g.class i))
  class_now i inside = elim (num_cases (class_at g.class i) x) [
    | inl p ↦ inl (p, (class_in i inside).1 ∙ ap (rename x y) p ∙ rename-same x y)
    | inr p ↦ inr (p, (class_in i inside).1 ∙ rename-other x y (class_at g.class i) p)
  ]

  y_now : class_at (map (rename x y) g.class) y ≡ y
  y_now = elim (class_now y y_in) [ inl p ↦ absurd (apart (sym p.0 ∙ y_named)) | inr p ↦ p.1 ∙ y_named ]

  x_now : class_at (map (rename x y) g.class) x ≡ y
  x_now = elim (class_now x x_in) [ inl p ↦ p.1 | inr p ↦ absurd (p.0 x_named) ]

  named_now : (i : ℕ) → class_at (map (rename x y) g.class) (class_at (map (rename x y) g.class) i) ≡ class_at (map (rename x y) g.class) i
  named_now i = elim (in_or_out i) [
    | inl inside ↦ elim (class_now i inside) [
      | inl p ↦ ap (class_at (map (rename x y) g.class)) p.1 ∙ y_now ∙ sym p.1
      | inr p ↦ ap (class_at (map (rename x y) g.class)) p.1 ∙ elim (class_now (class_at g.class i) (is_graph.below i inside)) [
        | inl q ↦ absurd (p.0 (sym (is_graph.named i) ∙ q.0))
        | inr q ↦ q.1 ∙ is_graph.named i ∙ sym p.1
      ]
    ]
    | inr out ↦ ap (class_at (map (rename x y) g.class)) (class_out i out)
  ]

  below_now : (i : ℕ) → i < length g.nodes → class_at (map (rename x y) g.class) i < length g.nodes
  below_now i inside = elim (class_now i inside) [
    | inl p ↦ subst (λ k. k < length g.nodes) (sym p.1) y_in
    | inr p ↦ subst (λ k. k < length g.nodes) (sym p.1) (is_graph.below i inside)
  ]

  branches_now : (i : ℕ) (c : Sym) (js : List ℕ) → slice_get g.nodes i ≡ Some (Branch c js) → (d : Sym) × ((ks : List ℕ) × (slice_get g.nodes (class_at (map (rename x y) g.class) i) ≡ Some (Branch d ks)))
  branches_now i c js h =
      let old = is_graph.branches i c js h in
      elim (class_now i (get-within g.nodes i (Branch c js) h)) [
        | inl p ↦ let r = on_branch old.0 old.1.0 (ap (slice_get g.nodes) (sym p.0) ∙ old.1.1) in (r.0, (r.1.0, ap (slice_get g.nodes) p.1 ∙ r.1.1))
        | inr p ↦ (old.0, (old.1.0, ap (slice_get g.nodes) p.1 ∙ old.1.1))
      ]

  least_at_y : (i : ℕ) (u w : SVar) → slice_get g.nodes i ≡ Some (Leaf u) → slice_get g.nodes y ≡ Some (Leaf w) → class_at g.class i ≡ x → (n : Node) × (slice_get g.nodes x ≡ Some n) → stands_before w y u i ≡ true
  least_at_y i u w h k p (Branch c js, e) = let r = on_branch c js e in absurd (leaf-not-branch w r.0 r.1.0 (sym k ∙ r.1.1))
  least_at_y i u w h k p (Leaf l, e) =
      let first = on_leaf l w e k in
      elim (is_graph.least i u l h (ap (slice_get g.nodes) p ∙ e)) [
        | inl q ↦
            let at : x ≡ i = sym p ∙ q in
            let same : l ≡ u = leaf-inj l u (sym e ∙ ap (slice_get g.nodes) at ∙ h) in
            subst (λ k. stands_before w y u k ≡ true) at (subst (λ v. stands_before w y v x ≡ true) same first)
        | inr q ↦ before-trans w l u y x i first (subst (λ k. stands_before l k u i ≡ true) p q)
      ]

  least_now : (i : ℕ) (u w : SVar) → slice_get g.nodes i ≡ Some (Leaf u) → slice_get g.nodes (class_at (map (rename x y) g.class) i) ≡ Some (Leaf w) → (class_at (map (rename x y) g.class) i ≡ i) ⊎ IsTrue (stands_before w (class_at (map (rename x y) g.class) i) u i)
  least_now i u w h k = elim (class_now i (get-within g.nodes i (Leaf u) h)) [
    | inl p ↦ inr (subst (λ j. stands_before w j u i ≡ true) (sym p.1) (least_at_y i u w h (ap (slice_get g.nodes) (sym p.1) ∙ k) p.0 (get-there g.nodes x x_in)))
    | inr p ↦ elim (is_graph.least i u w h (ap (slice_get g.nodes) (sym p.1) ∙ k)) [
      | inl q ↦ inl (p.1 ∙ q)
      | inr q ↦ inr (subst (λ j. stands_before w j u i ≡ true) (sym p.1) q)
    ]
  ]

  pub graph_now : IsGraph (record { nodes = g.nodes; class = map (rename x y) g.class })
  graph_now = record {
    even = length-map' (rename x y) g.class ∙ is_graph.even;
    below = below_now;
    named = named_now;
    branches = branches_now;
    least = least_now;
    children = is_graph.children;
    distinct = is_graph.distinct;
  }

  pub respects_now : (f : SVar → Sort) → Respects f g → value f g.nodes x ≡ value f g.nodes y → Respects f (record { nodes = g.nodes; class = map (rename x y) g.class })
  respects_now f r e i inside = elim (class_now i inside) [
    | inl p ↦ r i inside ∙ ap (value f g.nodes) p.0 ∙ e ∙ ap (value f g.nodes) (sym p.1)
    | inr p ↦ r i inside ∙ ap (value f g.nodes) (sym p.1)
  ]

  pub equal_now : (f : SVar → Sort) → Respects f (record { nodes = g.nodes; class = map (rename x y) g.class }) → value f g.nodes x ≡ value f g.nodes y
  equal_now f r = r x x_in ∙ ap (value f g.nodes) x_now

  pub respected_now : (f : SVar → Sort) → Respects f (record { nodes = g.nodes; class = map (rename x y) g.class }) → Respects f g
  respected_now f r i inside = elim (class_now i inside) [
    | inl p ↦ r i inside ∙ ap (value f g.nodes) p.1 ∙ sym (equal_now f r) ∙ ap (value f g.nodes) (sym p.0)
    | inr p ↦ r i inside ∙ ap (value f g.nodes) p.1
  ]

  pub fewer_now : classes 0 (map (rename x y) g.class) < classes 0 g.class
  fewer_now = classes-lt x y 0 g.class x apart
      (λ i c e p q.
      let at : i ≡ y = omega arith in
      let c_is : c ≡ y = some-inj c y (sym e ∙ ap (slice_get g.class) at ∙ (class_in y y_in).0 ∙ ap Some y_named) in
      apart (sym p ∙ c_is))
      ((class_in x x_in).0 ∙ ap Some x_named) (omega arith)

num_apart : (x y : ℕ) → (x ≡ y → ⊥) → (x == y) ≡ false
num_apart x y h = grind (arith, common_steps)

module _ (nodes : List Node) (class : List ℕ) (x y : ℕ) (apart : x ≡ y → ⊥) where
  pub names_first : names_class (slice_get nodes x) x (slice_get nodes y) y ≡ true → join_names nodes class x y ≡ map (rename y x) class
  names_first h = rw (num_apart x y apart, h) refl

  pub names_second : names_class (slice_get nodes x) x (slice_get nodes y) y ≡ false → join_names nodes class x y ≡ map (rename x y) class
  names_second h = rw (num_apart x y apart, h) refl

-- what is known of a graph in which the classes of a and b are one
pub record Joined (g new : Graph) (a b : ℕ) : Type 0 where
  pub graph : IsGraph new
  pub respects : (f : SVar → Sort) → Respects f g → value f g.nodes a ≡ value f g.nodes b → Respects f new
  pub respected : (f : SVar → Sort) → Respects f new → Respects f g
  pub equal : (f : SVar → Sort) → Respects f new → value f g.nodes a ≡ value f g.nodes b

module _ (g : Graph) (is_graph : IsGraph g) (a b : ℕ) (a_in : a < length g.nodes) (b_in : b < length g.nodes) where
  -- the sorts of nodes are equal where those of their classes are
  up : (f : SVar → Sort) → Respects f g → value f g.nodes a ≡ value f g.nodes b → value f g.nodes (class_at g.class a) ≡ value f g.nodes (class_at g.class b)
  up f r e = sym (r a a_in) ∙ e ∙ r b b_in

  down : (f : SVar → Sort) → Respects f g → value f g.nodes (class_at g.class a) ≡ value f g.nodes (class_at g.class b) → value f g.nodes a ≡ value f g.nodes b
  down f r e = r a a_in ∙ e ∙ sym (r b b_in)

  named_branch : (x y : ℕ) (n m : Option Node) → slice_get g.nodes x ≡ n → slice_get g.nodes y ≡ m → names_class n x m y ≡ true → x < length g.nodes → (c : Sym) (js : List ℕ) → m ≡ Some (Branch c js) → (d : Sym) × ((ks : List ℕ) × (slice_get g.nodes x ≡ Some (Branch d ks)))
  named_branch x y (Some (Branch d ks)) m p q h inside c js e = (d, (ks, p))
  named_branch x y (Some (Leaf v)) (Some (Branch d ks)) p q h inside c js e = absurd (true-not-false (sym h))
  named_branch x y (Some (Leaf v)) (Some (Leaf w)) p q h inside c js e = absurd (leaf-not-branch w c js e)
  named_branch x y (Some (Leaf v)) None p q h inside c js e = absurd (true-not-false (sym h))
  named_branch x y None m p q h inside c js e = let r = get-there g.nodes x inside in absurd (some-not-none r.0 (sym r.1 ∙ p))

  named_leaf : (x y : ℕ) → names_class (slice_get g.nodes x) x (slice_get g.nodes y) y ≡ true → (u w : SVar) → slice_get g.nodes y ≡ Some (Leaf u) → slice_get g.nodes x ≡ Some (Leaf w) → stands_before w x u y ≡ true
  named_leaf x y h u w p q = sym (λ i. names_class (q i) x (p i) y) ∙ h

  unnamed_branch : (x y : ℕ) (n m : Option Node) → slice_get g.nodes x ≡ n → names_class n x m y ≡ false → x < length g.nodes → (c : Sym) (js : List ℕ) → n ≡ Some (Branch c js) → (d : Sym) × ((ks : List ℕ) × (slice_get g.nodes y ≡ Some (Branch d ks)))
  unnamed_branch x y (Some (Branch d ks)) m p h inside c js e = absurd (true-not-false h)
  unnamed_branch x y (Some (Leaf v)) m p h inside c js e = absurd (leaf-not-branch v c js e)
  unnamed_branch x y None m p h inside c js e = absurd (true-not-false h)

  unnamed_leaf : (x y : ℕ) → (x ≡ y → ⊥) → names_class (slice_get g.nodes x) x (slice_get g.nodes y) y ≡ false → (u w : SVar) → slice_get g.nodes x ≡ Some (Leaf u) → slice_get g.nodes y ≡ Some (Leaf w) → stands_before w y u x ≡ true
  unnamed_leaf x y apart h u w p q =
      before-other u w x y apart (λ e. apart (is_graph.distinct x y u p (q ∙ ap (λ v. Some (Leaf v)) (sym e)))) (sym (λ i. names_class (p i) x (q i) y) ∙ h)

  abbrev P : Graph → Type 0
  P new = Joined g new a b × (classes 0 new.class < classes 0 g.class)

  by_renaming : (x y : ℕ) (apart : x ≡ y → ⊥) (x_in : x < length g.nodes) (y_in : y < length g.nodes) (x_named : class_at g.class x ≡ x) (y_named : class_at g.class y ≡ y)
      (on_branch : (c : Sym) (js : List ℕ) → slice_get g.nodes x ≡ Some (Branch c js) → (d : Sym) × ((ks : List ℕ) × (slice_get g.nodes y ≡ Some (Branch d ks))))
      (on_leaf : (u w : SVar) → slice_get g.nodes x ≡ Some (Leaf u) → slice_get g.nodes y ≡ Some (Leaf w) → stands_before w y u x ≡ true)
      → ((f : SVar → Sort) → Respects f g → value f g.nodes a ≡ value f g.nodes b → value f g.nodes x ≡ value f g.nodes y)
      → ((f : SVar → Sort) → Respects f g → value f g.nodes x ≡ value f g.nodes y → value f g.nodes a ≡ value f g.nodes b)
      → Joined g (record { nodes = g.nodes; class = map (rename x y) g.class }) a b × (classes 0 (map (rename x y) g.class) < classes 0 g.class)
  by_renaming x y apart x_in y_in x_named y_named on_branch on_leaf to from = (
    record {
      graph = graph_now g is_graph x y apart x_in y_in x_named y_named on_branch on_leaf;
      respects = λ f r e. respects_now g is_graph x y apart x_in y_in x_named y_named on_branch on_leaf f r (to f r e);
      respected = λ f r. respected_now g is_graph x y apart x_in y_in x_named y_named on_branch on_leaf f r;
      equal = λ f r. from f (respected_now g is_graph x y apart x_in y_in x_named y_named on_branch on_leaf f r) (equal_now g is_graph x y apart x_in y_in x_named y_named on_branch on_leaf f r);
    },
    fewer_now g is_graph x y apart x_in y_in x_named y_named on_branch on_leaf,
  )

  pub joined_apart : (new : Graph) → (class_at g.class a ≡ class_at g.class b → ⊥) → new.nodes ≡ g.nodes → new.class ≡ join_class g.nodes g.class a b → Joined g new a b × (classes 0 new.class < classes 0 g.class)
  joined_apart new apart same_nodes is =
      let x = class_at g.class a in
      let y = class_at g.class b in
      let x_in = is_graph.below a a_in in
      let y_in = is_graph.below b b_in in
      elim (bool_cases (names_class (slice_get g.nodes x) x (slice_get g.nodes y) y)) [
        | inl h ↦
            let e : new ≡ record { nodes = g.nodes; class = map (rename y x) g.class } = λ i. record { nodes = same_nodes i; class = (is ∙ names_first g.nodes g.class x y apart h) i } in
            subst P (sym e) (by_renaming y x (λ q. apart (sym q)) y_in x_in (is_graph.named b) (is_graph.named a)
            (named_branch x y (slice_get g.nodes x) (slice_get g.nodes y) refl refl h x_in) (named_leaf x y h)
            (λ f r q. sym (up f r q)) (λ f r q. down f r (sym q)))
        | inr h ↦
            let e : new ≡ record { nodes = g.nodes; class = map (rename x y) g.class } = λ i. record { nodes = same_nodes i; class = (is ∙ names_second g.nodes g.class x y apart h) i } in
            subst P (sym e) (by_renaming x y apart x_in y_in (is_graph.named a) (is_graph.named b)
            (unnamed_branch x y (slice_get g.nodes x) (slice_get g.nodes y) refl h x_in) (unnamed_leaf x y apart h) up down)
      ]
