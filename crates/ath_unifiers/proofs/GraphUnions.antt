-- What becomes of a graph and of the pairs that wait when two classes are joined.
use Rattle.std.proofs.Common.{◌≡◌, ℕ, zero, suc, ◌+◌, ◌*◌, ◌<◌, ◌≤◌, Bool, true, false, List, [], ◌∷◌, ◌++◌, length, map, sum, take, get_or, slice_get, Option, Some, None, unwrap_or, refl, sym, ◌∙◌, ap, subst, arith, ◌⊎◌, inl, inr, append_assoc}
use Rattle.std.proofs.lemmas.Grind.{common_steps}
use Rattle.std.proofs.lemmas.Nat.{mul-add-lt}
use Rattle.std.specs.List.{AllByRecursion, zip}
use Rattle.ath_unifiers.specs.declared.graph.Graph.{Graph}
use Rattle.ath_unifiers.specs.declared.nodes.Node.{Node}
use Rattle.ath_unifiers.specs.declared.nodes.Node.TheVariants.{Leaf, Branch}
use Rattle.ath_sorts.specs.declared.sorts.SVar.{SVar}
use Rattle.ath_sorts.specs.declared.sorts.Sort.{Sort}
use Rattle.ath_sorts.specs.declared.sorts.Sym.{Sym}
use Rattle.ath_unifiers.specs.Graphs.{class_at, value, Respects, IsGraph, IsClosed, rename, join_names, join_class, names_class, classes, Waits, Linked, same, waits, turned, through, AreLinked, WillAgreeAt, AreThere, AreEqual, Unites, NoneUnites, width, Joins, MatchJoined, MatchArguments}
use Rattle.ath_sorts.proofs.Bools.{bool_cases, num_cases, true-not-false}
use Rattle.ath_sorts.proofs.Gets.{all-weaker, append-none, cons-head, cons-tail, get-map, get-past, get-there, get-within, length-both, length-map', some-inj, some-not-none}
use Rattle.ath_unifiers.proofs.GraphJoins.{Joined, joined_apart, names_first, names_second, rename-same, rename-other}
use Rattle.ath_unifiers.proofs.GraphTrees.{branch-inj, leaf-not-branch}
use Rattle.ath_unifiers.proofs.GraphValues.{value-branch}
use Rattle.ath_sorts.proofs.SortLaws.{Con-inj}

-- ---- lists of pairs

waits_front : (i j : ℕ) (xs ys : List (ℕ × ℕ)) → Waits i j xs → Waits i j (xs ++ ys)
waits_front i j [] ys w = absurd w
waits_front i j (x ∷ xs) ys w = elim w [ inl p ↦ inl p | inr p ↦ inr (waits_front i j xs ys p) ]

waits_back : (i j : ℕ) (xs ys : List (ℕ × ℕ)) → Waits i j ys → Waits i j (xs ++ ys)
waits_back i j [] ys w = w
waits_back i j (x ∷ xs) ys w = inr (waits_back i j xs ys w)

waits_last : (i j : ℕ) (xs : List (ℕ × ℕ)) (p : ℕ × ℕ) → Waits i j (xs ++ p ∷ []) → Waits i j xs ⊎ ((i ≡ p.0) × (j ≡ p.1))
waits_last i j [] p w = elim w [ inl e ↦ inr e | inr e ↦ absurd e ]
waits_last i j (x ∷ xs) p w = elim w [
  | inl e ↦ inl (inl e)
  | inr e ↦ elim (waits_last i j xs p e) [ inl q ↦ inl (inr q) | inr q ↦ inr q ]
]

each_waits : (ps : List (ℕ × ℕ)) → AllByRecursion (λ p. Waits p.0 p.1 ps) ps
each_waits [] = tt
each_waits (p ∷ ps) = (inl (refl, refl), all-weaker (λ q. Waits q.0 q.1 ps) (λ q. Waits q.0 q.1 (p ∷ ps)) ps (λ q w. inr w) (each_waits ps))

all_front : (P : ℕ × ℕ → Type 0) (xs ys : List (ℕ × ℕ)) → AllByRecursion P (xs ++ ys) → AllByRecursion P xs
all_front P [] ys a = tt
all_front P (x ∷ xs) ys a = (a.0, all_front P xs ys a.1)

all_back : (P : ℕ × ℕ → Type 0) (xs ys : List (ℕ × ℕ)) → AllByRecursion P (xs ++ ys) → AllByRecursion P ys
all_back P [] ys a = a
all_back P (x ∷ xs) ys a = all_back P xs ys a.1

all_both : (P : ℕ × ℕ → Type 0) (xs ys : List (ℕ × ℕ)) → AllByRecursion P xs → AllByRecursion P ys → AllByRecursion P (xs ++ ys)
all_both P [] ys a b = b
all_both P (x ∷ xs) ys a b = (a.0, all_both P xs ys a.1 b)

pub last_there : (nodes : List Node) (xs : List (ℕ × ℕ)) (p : ℕ × ℕ) → AreThere nodes (xs ++ p ∷ []) → (p.0 < length nodes) × (p.1 < length nodes)
last_there nodes xs p a = (all_back (λ p. (p.0 < length nodes) × (p.1 < length nodes)) xs (p ∷ []) a).0

-- ---- lists side by side

zip_turned : (L : ℕ → ℕ → Type 0) → ((i j : ℕ) → L i j → L j i) → (xs ys : List ℕ) → AllByRecursion (λ p. L p.0 p.1) (zip xs ys) → AllByRecursion (λ p. L p.0 p.1) (zip ys xs)
zip_turned L t [] [] a = tt
zip_turned L t [] (y ∷ ys) a = tt
zip_turned L t (x ∷ xs) [] a = tt
zip_turned L t (x ∷ xs) (y ∷ ys) a = (t x y a.0, zip_turned L t xs ys a.1)

zip_through : (L : ℕ → ℕ → Type 0) → ((i j k : ℕ) → L i j → L j k → L i k) → (xs ys zs : List ℕ) → length xs ≡ length ys → AllByRecursion (λ p. L p.0 p.1) (zip xs ys) → AllByRecursion (λ p. L p.0 p.1) (zip ys zs) → AllByRecursion (λ p. L p.0 p.1) (zip xs zs)
zip_through L t [] ys zs e a b = tt
zip_through L t (x ∷ xs) ys [] e a b = tt
zip_through L t (x ∷ xs) [] (z ∷ zs) e a b = absurd (let q = e in omega arith)
zip_through L t (x ∷ xs) (y ∷ ys) (z ∷ zs) e a b = (t x y z a.0 b.0, zip_through L t xs ys zs (omega arith) a.1 b.1)

zip_map : {Y : Type 0} (h : ℕ → Y) (xs ys : List ℕ) → map h xs ≡ map h ys → (length xs ≡ length ys) × AllByRecursion (λ p. h p.0 ≡ h p.1) (zip xs ys)
zip_map h [] [] e = (refl, tt)
zip_map h [] (y ∷ ys) e = absurd (cc)
zip_map h (x ∷ xs) [] e = absurd (cc)
zip_map h (x ∷ xs) (y ∷ ys) e =
    let r = zip_map h xs ys (cons-tail (h x) (h y) (map h xs) (map h ys) e) in
    (ap suc r.0, (cons-head (h x) (h y) (map h xs) (map h ys) e, r.1))

map_zip : (h : ℕ → ℕ) (xs ys : List ℕ) → length xs ≡ length ys → AllByRecursion (λ p. h p.0 ≡ h p.1) (zip xs ys) → map h xs ≡ map h ys
map_zip h [] [] e a = refl
map_zip h [] (y ∷ ys) e a = absurd (let q = e in omega arith)
map_zip h (x ∷ xs) [] e a = absurd (let q = e in omega arith)
map_zip h (x ∷ xs) (y ∷ ys) e a = λ i. a.0 i ∷ map_zip h xs ys (omega arith) a.1 i

zip_there : (n : ℕ) (xs ys : List ℕ) → AllByRecursion (λ j. j < n) xs → AllByRecursion (λ j. j < n) ys → AllByRecursion (λ p. (p.0 < n) × (p.1 < n)) (zip xs ys)
zip_there n [] ys a b = tt
zip_there n (x ∷ xs) [] a b = tt
zip_there n (x ∷ xs) (y ∷ ys) a b = ((a.0, b.0), zip_there n xs ys a.1 b.1)

zip_short : (xs ys : List ℕ) → length (zip xs ys) ≤ length xs
zip_short [] ys = omega arith
zip_short (x ∷ xs) [] = omega arith
zip_short (x ∷ xs) (y ∷ ys) = let r = zip_short xs ys in omega arith

-- ---- once nothing waits

unlinked : (class : List ℕ) (i j : ℕ) → Linked class [] i j → class_at class i ≡ class_at class j
unlinked class i j (same e) = e
unlinked class i j (waits w) = absurd w
unlinked class i j (turned l) = sym (unlinked class j i l)
unlinked class i j (through k l m) = unlinked class i k l ∙ unlinked class k j m

pub closed_when_done : (g : Graph) → ((i : ℕ) → i < length g.nodes → WillAgreeAt g [] i) → IsClosed g
closed_when_done g h i inside c d js ks p q =
    let r = h i inside c d js ks p q in (
      r.0,
      map_zip (class_at g.class) js ks r.1.0 (all-weaker (λ p. Linked g.class [] p.0 p.1) (λ p. class_at g.class p.0 ≡ class_at g.class p.1) (zip js ks) (λ p l. unlinked g.class p.0 p.1 l) r.1.1),
    )

-- what is so before the first join
pub unites_first : (g : Graph) → IsGraph g → IsClosed g → (a b : ℕ) → a < length g.nodes → b < length g.nodes → Unites g g ((a, b) ∷ []) a b
unites_first g is_graph closed a b a_in b_in = record {
  nodes = refl;
  graph = is_graph;
  closed = λ i inside c d js ks p q.
      let r = closed i inside c d js ks p q in
      let z = zip_map (class_at g.class) js ks r.1 in
      (r.0, (z.0, all-weaker (λ p. class_at g.class p.0 ≡ class_at g.class p.1) (λ p. Linked g.class ((a, b) ∷ []) p.0 p.1) (zip js ks) (λ p e. same e) z.1));
  there = ((a_in, b_in), tt);
  respects = λ f r e. (r, (e, tt));
  respected = λ f r e. (r, e.0);
}

-- ---- a pair whose nodes are of one class already

linked_less : (class : List ℕ) (rest : List (ℕ × ℕ)) (a b : ℕ) → class_at class a ≡ class_at class b → (i j : ℕ) → Linked class (rest ++ (a, b) ∷ []) i j → Linked class rest i j
linked_less class rest a b e i j (same p) = same p
linked_less class rest a b e i j (waits w) = elim (waits_last i j rest (a, b) w) [
  | inl p ↦ waits p
  | inr p ↦ same (ap (class_at class) p.0 ∙ e ∙ sym (ap (class_at class) p.1))
]
linked_less class rest a b e i j (turned l) = turned (linked_less class rest a b e j i l)
linked_less class rest a b e i j (through k l m) = through k (linked_less class rest a b e i k l) (linked_less class rest a b e k j m)

pub joins_same : (g : Graph) (rest : List (ℕ × ℕ)) (a b : ℕ) → IsGraph g → a < length g.nodes → b < length g.nodes → class_at g.class a ≡ class_at g.class b → Joins g rest g rest a b
joins_same g rest a b is_graph a_in b_in e = record {
  unites = λ first c d u. record {
    nodes = u.nodes;
    graph = u.graph;
    closed = λ i inside x y js ks p q.
        let r = u.closed i inside x y js ks p q in
        (r.0, (r.1.0, all-weaker (λ p. Linked g.class (rest ++ (a, b) ∷ []) p.0 p.1) (λ p. Linked g.class rest p.0 p.1) (zip js ks) (λ p l. linked_less g.class rest a b e p.0 p.1 l) r.1.1));
    there = all_front (λ p. (p.0 < length g.nodes) × (p.1 < length g.nodes)) rest ((a, b) ∷ []) u.there;
    respects = λ f r k. let q = u.respects f r k in (q.0, all_front (λ p. value f g.nodes p.0 ≡ value f g.nodes p.1) rest ((a, b) ∷ []) q.1);
    respected = λ f r k. u.respected f r (all_both (λ p. value f g.nodes p.0 ≡ value f g.nodes p.1) rest ((a, b) ∷ []) k (r a a_in ∙ ap (value f g.nodes) e ∙ sym (r b b_in), tt));
  };
  fewer = let l = length-both rest ((a, b) ∷ []) in omega arith;
}

-- ---- a pair whose classes are joined

class_renamed : (lost won : ℕ) (class : List ℕ) (i : ℕ) → lost < length class → class_at (map (rename lost won) class) i ≡ rename lost won (class_at class i)
class_renamed lost won class i inside = elim (in_or_out (length class) i) [
  | inl p ↦ let q = get-there class i p in ap (λ o. unwrap_or o i) (get-map (rename lost won) class i q.0 q.1) ∙ ap (rename lost won) (sym (ap (λ o. unwrap_or o i) q.1))
  | inr p ↦
      ap (λ o. unwrap_or o i) (get-past (map (rename lost won) class) i (let l = length-map' (rename lost won) class in omega arith))
      ∙ sym (rename-other lost won i (λ e. let z = p in let y = inside in let w = e in omega arith))
      ∙ ap (rename lost won) (sym (ap (λ o. unwrap_or o i) (get-past class i p)))
]
  where
    in_or_out : (n i : ℕ) → (i < n) ⊎ (n ≤ i)
    in_or_out n i = grind (arith, common_steps)

-- arguments of two nodes, if both have a constructor
abbrev Meets : List ℕ → List (ℕ × ℕ) → List Node → ℕ → ℕ → Type 0
Meets class waiting nodes x y = (c d : Sym) (js ks : List ℕ) → slice_get nodes x ≡ Some (Branch c js) → slice_get nodes y ≡ Some (Branch d ks) → (c.0 ≡ d.0) × AreLinked class waiting js ks

meets_turned : (class : List ℕ) (waiting : List (ℕ × ℕ)) (nodes : List Node) (x y : ℕ) → Meets class waiting nodes x y → Meets class waiting nodes y x
meets_turned class waiting nodes x y m c d js ks p q =
    let r = m d c ks js q p in
    (sym r.0, (sym r.1.0, zip_turned (Linked class waiting) (λ i j l. turned l) ks js r.1.1))

module _ (g : Graph) (is_graph : IsGraph g) (rest more : List (ℕ × ℕ)) (a b lost won : ℕ) (lost_in : lost < length g.nodes) (same_class : class_at (map (rename lost won) g.class) a ≡ class_at (map (rename lost won) g.class) b) where
  abbrev class' : List ℕ
  class' = map (rename lost won) g.class

  renamed : (i : ℕ) → class_at (map (rename lost won) g.class) i ≡ rename lost won (class_at g.class i)
  renamed i = class_renamed lost won g.class i (let e = is_graph.even in omega arith)

  linked_on : (i j : ℕ) → Linked g.class (rest ++ (a, b) ∷ []) i j → Linked (map (rename lost won) g.class) (rest ++ more) i j
  linked_on i j (same e) = same (renamed i ∙ ap (rename lost won) e ∙ sym (renamed j))
  linked_on i j (waits w) = elim (waits_last i j rest (a, b) w) [
    | inl p ↦ waits (waits_front i j rest more p)
    | inr p ↦ same (ap (class_at class') p.0 ∙ same_class ∙ sym (ap (class_at class') p.1))
  ]
  linked_on i j (turned l) = turned (linked_on j i l)
  linked_on i j (through k l m) = through k (linked_on i k l) (linked_on k j m)

  all_on : (js ks : List ℕ) → AreLinked g.class (rest ++ (a, b) ∷ []) js ks → AreLinked (map (rename lost won) g.class) (rest ++ more) js ks
  all_on js ks h = (h.0, all-weaker (λ p. Linked g.class (rest ++ (a, b) ∷ []) p.0 p.1) (λ p. Linked class' (rest ++ more) p.0 p.1) (zip js ks) (λ p l. linked_on p.0 p.1 l) h.1)

  agrees_on : Meets (map (rename lost won) g.class) (rest ++ more) g.nodes lost won → (i : ℕ) → i < length g.nodes → WillAgreeAt g (rest ++ (a, b) ∷ []) i → WillAgreeAt (record { nodes = g.nodes; class = map (rename lost won) g.class }) (rest ++ more) i
  agrees_on meets i inside old c d js ks p q = elim (num_cases (class_at g.class i) lost) [
    | inl e ↦
        let h = is_graph.branches i c js p in
        let o = old c h.0 js h.1.0 p h.1.1 in
        let w : class_at class' i ≡ won = renamed i ∙ ap (rename lost won) e ∙ rename-same lost won in
        let m = meets h.0 d h.1.0 ks (ap (slice_get g.nodes) (sym e) ∙ h.1.1) (ap (slice_get g.nodes) (sym w) ∙ q) in
        let n = all_on js h.1.0 o.1 in
        (o.0 ∙ m.0, (n.0 ∙ m.1.0, zip_through (Linked class' (rest ++ more)) (λ i j k l m. through j l m) js h.1.0 ks n.0 n.1 m.1.1))
    | inr e ↦
        let w : class_at class' i ≡ class_at g.class i = renamed i ∙ rename-other lost won (class_at g.class i) e in
        let o = old c d js ks p (ap (slice_get g.nodes) (sym w) ∙ q) in
        (o.0, all_on js ks o.1)
  ]

widths_bound : (nodes : List Node) (i : ℕ) (n : Node) → slice_get nodes i ≡ Some n → width n ≤ sum (map width nodes)
widths_bound [] i n h = absurd (some-not-none n (sym h))
widths_bound (m ∷ nodes) zero n h = let e = ap width (some-inj m n h) in first_width (width m) (map width nodes) (width n) e
  where
    first_width : (x : ℕ) (xs : List ℕ) (y : ℕ) → x ≡ y → y ≤ sum (x ∷ xs)
    first_width x xs y e = grind (arith, common_steps)
widths_bound (m ∷ nodes) (suc i) n h = rest_width (width m) (map width nodes) (width n) (widths_bound nodes i n h)
  where
    rest_width : (x : ℕ) (xs : List ℕ) (y : ℕ) → y ≤ sum xs → y ≤ sum (x ∷ xs)
    rest_width x xs y l = grind (arith, common_steps)

fewer_left : (old new w r m : ℕ) → new < old → m ≤ w → new * (w + 1) + (r + m) < old * (w + 1) + (r + 1)
fewer_left old new w r m l k = let p = mul-add-lt new (w + 1) w old l (omega arith) in let q = mul_turned (w + 1) old in omega arith
  where
    mul_turned : (x y : ℕ) → x * y ≡ y * x
    mul_turned x y = grind (arith, common_steps)

-- what the pairs of arguments are worth
module _ (g : Graph) (is_graph : IsGraph g) (x y : ℕ) (f : SVar → Sort) (e : value f g.nodes x ≡ value f g.nodes y) where
  arguments_equal : (c d : Sym) (xs ys : List ℕ) → slice_get g.nodes x ≡ Some (Branch c xs) → slice_get g.nodes y ≡ Some (Branch d ys) → (c.0 ≡ d.0) × ((length xs ≡ length ys) × AreEqual f g.nodes (zip xs ys))
  arguments_equal c d xs ys p q =
      let s = sym (value-branch f g.nodes x c xs p (is_graph.children x c xs p)) ∙ e ∙ value-branch f g.nodes y d ys q (is_graph.children y d ys q) in
      let r = Con-inj c d (map (value f g.nodes) xs) (map (value f g.nodes) ys) s in
      (ap (λ z. z.0) r.0, zip_map (value f g.nodes) xs ys r.1)

-- the pairs of arguments that wait after a join
record Follows (g : Graph) (rest after : List (ℕ × ℕ)) (x y : ℕ) : Type 0 where
  pub more : List (ℕ × ℕ)
  pub is : after ≡ rest ++ more
  pub few : length more ≤ sum (map width g.nodes)
  pub there : AreThere g.nodes more
  pub equal : (f : SVar → Sort) → value f g.nodes x ≡ value f g.nodes y → AreEqual f g.nodes more
  pub meets : (class : List ℕ) → Meets class (rest ++ more) g.nodes x y

nothing_follows : (g : Graph) (rest after : List (ℕ × ℕ)) (x y : ℕ) → after ≡ rest → ((c d : Sym) (js ks : List ℕ) → slice_get g.nodes x ≡ Some (Branch c js) → slice_get g.nodes y ≡ Some (Branch d ks) → ⊥) → Follows g rest after x y
nothing_follows g rest after x y e none = record {
  more = [];
  is = e ∙ sym (append-none rest);
  few = omega arith;
  there = tt;
  equal = λ f e. tt;
  meets = λ class c d js ks p q. absurd (none c d js ks p q);
}

arguments_follow : (g : Graph) → IsGraph g → (rest after : List (ℕ × ℕ)) (x y : ℕ) (n m : Option Node) → slice_get g.nodes x ≡ n → slice_get g.nodes y ≡ m → MatchArguments rest after n m true → Follows g rest after x y
arguments_follow g is_graph rest after x y (Some (Branch c xs)) (Some (Branch d ys)) p q h = record {
  more = zip xs ys;
  is = h.1.1;
  few = let a = zip_short xs ys in let b = widths_bound g.nodes x (Branch c xs) p in omega arith;
  there = zip_there (length g.nodes) xs ys
      (all-weaker (λ j. j < x) (λ j. j < length g.nodes) xs (λ j l. let w = get-within g.nodes x (Branch c xs) p in omega arith) (is_graph.children x c xs p))
      (all-weaker (λ j. j < y) (λ j. j < length g.nodes) ys (λ j l. let w = get-within g.nodes y (Branch d ys) q in omega arith) (is_graph.children y d ys q));
  equal = λ f e. (arguments_equal g is_graph x y f e c d xs ys p q).1.1;
  meets = λ class a b js ks u v.
      let s = branch-inj c a xs js (sym p ∙ u) in
      let t = branch-inj d b ys ks (sym q ∙ v) in
      let all = all-weaker (λ p. Waits p.0 p.1 (zip xs ys)) (λ p. Linked class (rest ++ zip xs ys) p.0 p.1) (zip xs ys) (λ p w. waits (waits_back p.0 p.1 rest (zip xs ys) w)) (each_waits (zip xs ys)) in
      let P : List ℕ → List ℕ → Type 0 = λ js ks. AreLinked class (rest ++ zip xs ys) js ks in
      (ap (λ z. z.0) (sym s.0) ∙ h.0 ∙ ap (λ z. z.0) t.0, subst (λ js. P js ks) s.1 (subst (λ ks. P xs ks) t.1 (h.1.0, all)));
}
arguments_follow g is_graph rest after x y (Some (Branch c xs)) (Some (Leaf v)) p q h = nothing_follows g rest after x y h.1 (λ a d js ks u w. leaf-not-branch v d ks (sym q ∙ w))
arguments_follow g is_graph rest after x y (Some (Branch c xs)) None p q h = nothing_follows g rest after x y h.1 (λ a d js ks u w. some-not-none (Branch d ks) (sym w ∙ q))
arguments_follow g is_graph rest after x y (Some (Leaf v)) m p q h = nothing_follows g rest after x y h.1 (λ a d js ks u w. leaf-not-branch v a js (sym p ∙ u))
arguments_follow g is_graph rest after x y None m p q h = nothing_follows g rest after x y h.1 (λ a d js ks u w. some-not-none (Branch a js) (sym u ∙ p))

module _ (g : Graph) (is_graph : IsGraph g) (rest : List (ℕ × ℕ)) (a b : ℕ) (a_in : a < length g.nodes) (b_in : b < length g.nodes) where
  named_equal : (f : SVar → Sort) → Respects f g → value f g.nodes a ≡ value f g.nodes b → value f g.nodes (class_at g.class a) ≡ value f g.nodes (class_at g.class b)
  named_equal f r e = sym (r a a_in) ∙ e ∙ r b b_in

  -- where constructors clash nothing makes the nodes equal
  pub clash_unites_none : (after : List (ℕ × ℕ)) (n m : Option Node) → slice_get g.nodes (class_at g.class a) ≡ n → slice_get g.nodes (class_at g.class b) ≡ m → MatchArguments rest after n m false → NoneUnites g a b
  clash_unites_none after (Some (Branch c xs)) (Some (Branch d ys)) p q h f r e =
      let s = arguments_equal g is_graph (class_at g.class a) (class_at g.class b) f (named_equal f r e) c d xs ys p q in
      h s.0 s.1.0
  clash_unites_none after (Some (Branch c xs)) (Some (Leaf v)) p q h f r e = absurd (true-not-false (sym h.0))
  clash_unites_none after (Some (Branch c xs)) None p q h f r e = absurd (true-not-false (sym h.0))
  clash_unites_none after (Some (Leaf v)) m p q h f r e = absurd (true-not-false (sym h.0))
  clash_unites_none after None m p q h f r e = absurd (true-not-false (sym h.0))

  joins_renamed : (lost won : ℕ) → lost < length g.nodes → class_at (map (rename lost won) g.class) a ≡ class_at (map (rename lost won) g.class) b → (after : List (ℕ × ℕ)) (k : Follows g rest after (class_at g.class a) (class_at g.class b))
      → ((class : List ℕ) → Meets class (rest ++ k.more) g.nodes lost won)
      → (j : Joined g (record { nodes = g.nodes; class = map (rename lost won) g.class }) a b × (classes 0 (map (rename lost won) g.class) < classes 0 g.class))
      → Joins g rest (record { nodes = g.nodes; class = map (rename lost won) g.class }) (rest ++ k.more) a b
  joins_renamed lost won lost_in same_class after k meets j = record {
    unites = λ first c d u. record {
      nodes = u.nodes;
      graph = j.0.graph;
      closed = λ i inside. agrees_on g is_graph rest k.more a b lost won lost_in same_class (meets (map (rename lost won) g.class)) i inside (u.closed i inside);
      there = all_both (λ p. (p.0 < length g.nodes) × (p.1 < length g.nodes)) rest k.more (all_front (λ p. (p.0 < length g.nodes) × (p.1 < length g.nodes)) rest ((a, b) ∷ []) u.there) k.there;
      respects = λ f r e.
          let q = u.respects f r e in
          let ab = (all_back (λ p. value f g.nodes p.0 ≡ value f g.nodes p.1) rest ((a, b) ∷ []) q.1).0 in
          (j.0.respects f q.0 ab, all_both (λ p. value f g.nodes p.0 ≡ value f g.nodes p.1) rest k.more (all_front (λ p. value f g.nodes p.0 ≡ value f g.nodes p.1) rest ((a, b) ∷ []) q.1) (k.equal f (named_equal f q.0 ab)));
      respected = λ f r e. u.respected f (j.0.respected f r) (all_both (λ p. value f g.nodes p.0 ≡ value f g.nodes p.1) rest ((a, b) ∷ []) (all_front (λ p. value f g.nodes p.0 ≡ value f g.nodes p.1) rest k.more e) (j.0.equal f r, tt));
    };
    fewer =
        let l = length-both rest ((a, b) ∷ []) in
        let m = length-both rest k.more in
        let r = fewer_left (classes 0 g.class) (classes 0 (map (rename lost won) g.class)) (sum (map width g.nodes)) (length rest) (length k.more) j.1 k.few in
        omega arith;
  }

  pub joins_apart : (new : Graph) (after : List (ℕ × ℕ)) → (class_at g.class a ≡ class_at g.class b → ⊥) → new.nodes ≡ g.nodes → new.class ≡ join_class g.nodes g.class a b → MatchArguments rest after (slice_get g.nodes (class_at g.class a)) (slice_get g.nodes (class_at g.class b)) true → Joins g rest new after a b
  joins_apart new after apart nodes class h =
      let x = class_at g.class a in
      let y = class_at g.class b in
      let k = arguments_follow g is_graph rest after x y (slice_get g.nodes x) (slice_get g.nodes y) refl refl h in
      let j = joined_apart g is_graph a b a_in b_in new apart nodes class in
      let P : Graph → List (ℕ × ℕ) → Type 0 = λ n w. Joins g rest n w a b in
      let Q : Graph → Type 0 = λ n. Joined g n a b × (classes 0 n.class < classes 0 g.class) in
      subst (λ w. P new w) (sym k.is) (elim (bool_cases (names_class (slice_get g.nodes x) x (slice_get g.nodes y) y)) [
        | inl n ↦
            let e : new ≡ record { nodes = g.nodes; class = map (rename y x) g.class } = λ i. record { nodes = nodes i; class = (class ∙ names_first g.nodes g.class x y apart n) i } in
            let c : class_at (map (rename y x) g.class) a ≡ class_at (map (rename y x) g.class) b =
            class_renamed y x g.class a y_filed ∙ rename-other y x x apart ∙ sym (rename-same y x) ∙ sym (class_renamed y x g.class b y_filed) in
            subst (λ n. P n (rest ++ k.more)) (sym e) (joins_renamed y x (is_graph.below b b_in) c after k (λ class. meets_turned class (rest ++ k.more) g.nodes x y (k.meets class)) (subst Q e j))
        | inr n ↦
            let e : new ≡ record { nodes = g.nodes; class = map (rename x y) g.class } = λ i. record { nodes = nodes i; class = (class ∙ names_second g.nodes g.class x y apart n) i } in
            let c : class_at (map (rename x y) g.class) a ≡ class_at (map (rename x y) g.class) b =
            class_renamed x y g.class a x_filed ∙ rename-same x y ∙ sym (rename-other x y y (λ e. apart (sym e))) ∙ sym (class_renamed x y g.class b x_filed) in
            subst (λ n. P n (rest ++ k.more)) (sym e) (joins_renamed x y (is_graph.below a a_in) c after k k.meets (subst Q e j))
      ])
    where
      x_filed : class_at g.class a < length g.class
      x_filed = let e = is_graph.even in let p = is_graph.below a a_in in omega arith

      y_filed : class_at g.class b < length g.class
      y_filed = let e = is_graph.even in let p = is_graph.below b b_in in omega arith

-- ---- what the functions keep

-- nothing makes the first two equal where nothing makes the last pair that waits equal
pub none_from_last : (first g : Graph) (rest waiting : List (ℕ × ℕ)) (a b c d : ℕ) → Unites first g waiting c d → waiting ≡ rest ++ (a, b) ∷ [] → NoneUnites g a b → NoneUnites first c d
none_from_last first g rest waiting a b c d u e none f r k =
    let q = u.respects f r k in
    let p : AreEqual f g.nodes (rest ++ (a, b) ∷ []) = subst (AreEqual f g.nodes) e q.1 in
    none f q.0 (all_back (λ p. value f g.nodes p.0 ≡ value f g.nodes p.1) rest ((a, b) ∷ []) p).0

zip_more : (xs ys : List ℕ) (i : ℕ) → i < length xs → length xs ≡ length ys → zip (take i xs) (take i ys) ++ (get_or xs i 0, get_or ys i 0) ∷ [] ≡ zip (take (suc i) xs) (take (suc i) ys)
zip_more [] ys i l e = absurd (omega arith)
zip_more (x ∷ xs) [] i l e = absurd (omega arith)
zip_more (x ∷ xs) (y ∷ ys) zero l e = refl
zip_more (x ∷ xs) (y ∷ ys) (suc i) l e = ap (λ r. (x, y) ∷ r) (zip_more xs ys i (omega arith) (omega arith))

-- a turn of the loop that adds pairs
pub pairs_turn : (before waiting : List (ℕ × ℕ)) (xs ys : List ℕ) (i : ℕ) → i < length xs → length xs ≡ length ys → waiting ≡ before ++ zip (take i xs) (take i ys) → waiting ++ (get_or xs i 0, get_or ys i 0) ∷ [] ≡ before ++ zip (take (i + 1) xs) (take (i + 1) ys)
pairs_turn before waiting xs ys i l e h =
    let k : suc i ≡ i + 1 = omega arith in
    let P : ℕ → Type 0 = λ n. waiting ++ (get_or xs i 0, get_or ys i 0) ∷ [] ≡ before ++ zip (take n xs) (take n ys) in
    subst P k (ap (λ r. r ++ (get_or xs i 0, get_or ys i 0) ∷ []) h ∙ append_assoc before (zip (take i xs) (take i ys)) ((get_or xs i 0, get_or ys i 0) ∷ []) ∙ ap (λ r. before ++ r) (zip_more xs ys i l e))

pub arguments_at : (before after : List (ℕ × ℕ)) (ns ms : List Node) (x x' y y' : ℕ) (ok ok' : Bool) → ns ≡ ms → x ≡ x' → y ≡ y' → ok ≡ ok' → MatchArguments before after (slice_get ns x) (slice_get ns y) ok → MatchArguments before after (slice_get ms x') (slice_get ms y') ok'
arguments_at before after ns ms x x' y y' ok ok' e p q r h =
    let P : Option Node → Option Node → Bool → Type 0 = λ n m b. MatchArguments before after n m b in
    subst (λ b. P (slice_get ms x') (slice_get ms y') b) r (subst (λ m. P (slice_get ms x') m ok) (λ i. slice_get (e i) (q i)) (subst (λ n. P n (slice_get ns y) ok) (λ i. slice_get (e i) (p i)) h))

-- the names of the classes after a join, by which of the two names stays
pub first_stays : (g : Graph) (ns : List Node) (a b x y : ℕ) (t : Bool) (new : List ℕ) → ns ≡ g.nodes → x ≡ class_at g.class a → y ≡ class_at g.class b → (x ≡ y → ⊥) → t ≡ names_class (slice_get ns x) x (slice_get ns y) y → t ≡ true → new ≡ map (rename y x) g.class → new ≡ join_class g.nodes g.class a b
first_stays g ns a b x y t new e p q apart h is n = n ∙ sym (names_first ns g.class x y apart (sym h ∙ is)) ∙ (λ i. join_names (e i) g.class (p i) (q i))

pub second_stays : (g : Graph) (ns : List Node) (a b x y : ℕ) (t : Bool) (new : List ℕ) → ns ≡ g.nodes → x ≡ class_at g.class a → y ≡ class_at g.class b → (x ≡ y → ⊥) → t ≡ names_class (slice_get ns x) x (slice_get ns y) y → t ≡ false → new ≡ map (rename x y) g.class → new ≡ join_class g.nodes g.class a b
second_stays g ns a b x y t new e p q apart h is n = n ∙ sym (names_second ns g.class x y apart (sym h ∙ is)) ∙ (λ i. join_names (e i) g.class (p i) (q i))

pub joins_when : (old new : Graph) (before after : List (ℕ × ℕ)) (a b : ℕ) (ok : Bool) → ok ≡ true → MatchJoined old before new after a b ok → Joins old before new after a b
joins_when old new before after a b ok e h = let P : Bool → Type 0 = λ t. MatchJoined old before new after a b t in subst P e h

pub none_when : (old new : Graph) (before after : List (ℕ × ℕ)) (a b : ℕ) (ok : Bool) → ok ≡ false → MatchJoined old before new after a b ok → NoneUnites old a b
none_when old new before after a b ok e h = let P : Bool → Type 0 = λ t. MatchJoined old before new after a b t in subst P e h
