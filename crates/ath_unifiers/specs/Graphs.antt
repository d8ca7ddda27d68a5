-- What the graph of unification stands for.
use Rattle.std.specs.Prelude.{◌≡◌, ℕ, suc, ◌+◌, ◌*◌, ◌<◌, ◌⊎◌, Bool, true, false, ◌==◌, nat_lt, IsTrue, List, [], ◌∷◌, ◌++◌, map, sum, length, slice_get, Option, Some, None, unwrap_or, if◌then◌else◌}
use Rattle.std.specs.List.{AllByRecursion, list_all, list_any, zip}
use Rattle.ath_unifiers.specs.declared.graph.Graph.{Graph}
use Rattle.ath_unifiers.specs.declared.nodes.Node.{Node}
use Rattle.ath_unifiers.specs.declared.nodes.Node.TheVariants.{Leaf, Branch}
use Rattle.ath_sorts.specs.declared.sorts.SVar.{SVar}
use Rattle.ath_sorts.specs.declared.sorts.SVar.TheVariants.{Written, Made}
use Rattle.ath_sorts.specs.declared.sorts.Sort.{Sort, Var, Con}
use Rattle.ath_sorts.specs.declared.sorts.Sym.{Sym}
use Rattle.ath_sorts.specs.Sorts.{is_small, same_svar, image, apply_to}
use Rattle.ath_sorts.specs.Substitutions.{entry_of}
use Rattle.ath_unifiers.specs.Unifiers.{Unifies, HasUnifier, MovesAll}
use Rattle.ath_unifiers.specs.Order.{comes_first, concatenated, vars_of, vars_read}
pub use Rattle.ath_unifiers.specs.Partitions.{class_at, rename}
pub use Rattle.ath_unifiers.specs.Places.{LeafFree}

-- the node that names the class of a node
abbrev pub head_at : Graph → ℕ → Option Node
head_at g i = slice_get g.nodes (class_at g.class i)

-- the sort of a node, where f gives the sorts of variables and h those of nodes
abbrev pub node_value : (SVar → Sort) → (ℕ → Sort) → Node → Sort
node_value f h (Leaf v) = f v
node_value f h (Branch c js) = Con c (map h js)

abbrev pub sort_at : List Sort → ℕ → Sort
sort_at ss i = unwrap_or (slice_get ss i) (Var (Made 0))

unfoldable pub values_from : (SVar → Sort) → List Sort → List Node → List Sort
values_from f ss [] = ss
values_from f ss (n ∷ ns) = values_from f (ss ++ node_value f (sort_at ss) n ∷ []) ns

-- the sort of the node, where f gives the sorts of variables
abbrev pub value : (SVar → Sort) → List Node → ℕ → Sort
value f nodes = sort_at (values_from f [] nodes)

-- f makes the sorts of each class equal
abbrev pub Respects : (SVar → Sort) → Graph → Type 0
Respects f g = (i : ℕ) → i < length g.nodes → value f g.nodes i ≡ value f g.nodes (class_at g.class i)

-- whether the variable v at node i is to name a class rather than w at node j
abbrev pub stands_before : SVar → ℕ → SVar → ℕ → Bool
stands_before (Written a) i (Written b) j = nat_lt i j
stands_before (Written a) i (Made n) j = true
stands_before (Made m) i (Written b) j = false
stands_before (Made m) i (Made n) j = nat_lt m n

abbrev pub names_class : Option Node → ℕ → Option Node → ℕ → Bool
names_class (Some (Leaf v)) i (Some (Leaf w)) j = stands_before v i w j
names_class (Some (Leaf v)) i (Some (Branch d ks)) j = false
names_class (Some (Leaf v)) i None j = false
names_class (Some (Branch c js)) i n j = true
names_class None i n j = true

-- the classes of a and b joined
abbrev pub join_names : List Node → List ℕ → ℕ → ℕ → List ℕ
join_names nodes class x y = if x == y then class else (if names_class (slice_get nodes x) x (slice_get nodes y) y then map (rename y x) class else map (rename x y) class)

abbrev pub join_class : List Node → List ℕ → ℕ → ℕ → List ℕ
join_class nodes class a b = join_names nodes class (class_at class a) (class_at class b)

pub record IsGraph (g : Graph) : Type 0 where
  pub even : length g.class ≡ length g.nodes
  pub below : (i : ℕ) → i < length g.nodes → class_at g.class i < length g.nodes
  pub named : (i : ℕ) → class_at g.class (class_at g.class i) ≡ class_at g.class i
  -- a class with a constructor is named by a node with one
  pub branches : (i : ℕ) (c : Sym) (js : List ℕ) → slice_get g.nodes i ≡ Some (Branch c js) → (d : Sym) × ((ks : List ℕ) × (head_at g i ≡ Some (Branch d ks)))
  -- a class of variables is named by the least
  pub least : (i : ℕ) (u w : SVar) → slice_get g.nodes i ≡ Some (Leaf u) → head_at g i ≡ Some (Leaf w) → (class_at g.class i ≡ i) ⊎ IsTrue (stands_before w (class_at g.class i) u i)
  -- arguments stand before their constructor
  pub children : (i : ℕ) (c : Sym) (js : List ℕ) → slice_get g.nodes i ≡ Some (Branch c js) → AllByRecursion (λ j. j < i) js
  -- a variable has one node
  pub distinct : (i j : ℕ) (u : SVar) → slice_get g.nodes i ≡ Some (Leaf u) → slice_get g.nodes j ≡ Some (Leaf u) → i ≡ j

-- nodes of one class have the same constructor, and arguments of the same classes
abbrev pub AgreesAt : Graph → ℕ → Type 0
AgreesAt g i = (c d : Sym) (js ks : List ℕ) → slice_get g.nodes i ≡ Some (Branch c js) → head_at g i ≡ Some (Branch d ks) → (c.0 ≡ d.0) × (map (class_at g.class) js ≡ map (class_at g.class) ks)

abbrev pub IsClosed : Graph → Type 0
IsClosed g = (i : ℕ) → i < length g.nodes → AgreesAt g i

-- the tree of a node: what the names of the classes give from it
mutual
  pub data Unfolds (g : Graph) : ℕ → Sort → Type 0 where
    leaf : {i : ℕ} {t : Sort} (v : SVar) → head_at g i ≡ Some (Leaf v) → t ≡ Var v → Unfolds g i t
    branch : {i : ℕ} {t : Sort} (c : Sym) (js : List ℕ) (ts : List Sort) → head_at g i ≡ Some (Branch c js) → AllUnfold g js ts → t ≡ Con c ts → Unfolds g i t

  pub data AllUnfold (g : Graph) : List ℕ → List Sort → Type 0 where
    nothing : AllUnfold g [] []
    further : {j : ℕ} {js : List ℕ} {t : Sort} {ts : List Sort} → Unfolds g j t → AllUnfold g js ts → AllUnfold g (j ∷ js) (t ∷ ts)

abbrev pub HasTree : Graph → ℕ → Type 0
HasTree g i = (t : Sort) × Unfolds g i t

abbrev pub HasTrees : Graph → Type 0
HasTrees g = (i : ℕ) → i < length g.nodes → HasTree g i

abbrev pub IsNoBranch : Option Node → Type 0
IsNoBranch (Some (Branch c js)) = ⊥
IsNoBranch (Some (Leaf v)) = Unit {0}
IsNoBranch None = Unit {0}

abbrev pub IsNoLeaf : Option Node → Type 0
IsNoLeaf (Some (Leaf v)) = ⊥
IsNoLeaf (Some (Branch c js)) = Unit {0}
IsNoLeaf None = Unit {0}

-- the variables of the graph are those that were read, in that order
pub record IsOrdered (read : List SVar) (g : Graph) : Type 0 where
  pub first : (i j : ℕ) (u w : SVar) → i < j → slice_get g.nodes i ≡ Some (Leaf u) → slice_get g.nodes j ≡ Some (Leaf w) → IsTrue (comes_first read u w)
  pub there : (i : ℕ) (u : SVar) → slice_get g.nodes i ≡ Some (Leaf u) → IsTrue (list_any (λ w. same_svar w u) read)
  pub read_before : (u : SVar) → IsTrue (list_any (λ w. same_svar w u) read) → (i : ℕ) × (slice_get g.nodes i ≡ Some (Leaf u))

-- the graph has grown by nodes with these variables
pub record GraphGrows (old new : Graph) (vs : List SVar) : Type 0 where
  pub more : (ns : List Node) × (new.nodes ≡ old.nodes ++ ns)
  pub graph : IsGraph old → IsGraph new
  pub closed : IsGraph old → IsClosed old → IsClosed new
  pub respects : (f : SVar → Sort) → IsGraph old → Respects f old → Respects f new
  pub respected : (f : SVar → Sort) → IsGraph old → Respects f new → Respects f old
  pub ordered : (read : List SVar) → IsOrdered read old → IsOrdered (read ++ vs) new

pub record AddsSort (old new : Graph) (sort : Sort) (i : ℕ) : Type 0 where
  pub grows : GraphGrows old new (vars_of sort)
  pub within : i < length new.nodes
  pub is_value : (f : SVar → Sort) → value f new.nodes i ≡ apply_to f sort

pub record AddsSorts (old new : Graph) (sorts : List Sort) (is : List ℕ) : Type 0 where
  pub grows : GraphGrows old new (concatenated (map vars_of sorts))
  pub within : AllByRecursion (λ i. i < length new.nodes) is
  pub are_values : (f : SVar → Sort) → map (value f new.nodes) is ≡ map (apply_to f) sorts

-- whether i and j are a pair that waits
abbrev pub Waits : ℕ → ℕ → List (ℕ × ℕ) → Type 0
Waits i j [] = ⊥
Waits i j (p ∷ waiting) = ((i ≡ p.0) × (j ≡ p.1)) ⊎ Waits i j waiting

-- of one class, once the classes of the pairs that wait are joined
pub data Linked (class : List ℕ) (waiting : List (ℕ × ℕ)) : ℕ → ℕ → Type 0 where
  same : {i j : ℕ} → class_at class i ≡ class_at class j → Linked class waiting i j
  waits : {i j : ℕ} → Waits i j waiting → Linked class waiting i j
  turned : {i j : ℕ} → Linked class waiting i j → Linked class waiting j i
  through : {i k : ℕ} (j : ℕ) → Linked class waiting i j → Linked class waiting j k → Linked class waiting i k

abbrev pub AreLinked : List ℕ → List (ℕ × ℕ) → List ℕ → List ℕ → Type 0
AreLinked class waiting js ks = (length js ≡ length ks) × AllByRecursion (λ p. Linked class waiting p.0 p.1) (zip js ks)

abbrev pub WillAgreeAt : Graph → List (ℕ × ℕ) → ℕ → Type 0
WillAgreeAt g waiting i = (c d : Sym) (js ks : List ℕ) → slice_get g.nodes i ≡ Some (Branch c js) → head_at g i ≡ Some (Branch d ks) → (c.0 ≡ d.0) × AreLinked g.class waiting js ks

abbrev pub AreThere : List Node → List (ℕ × ℕ) → Type 0
AreThere nodes = AllByRecursion (λ p. (p.0 < length nodes) × (p.1 < length nodes))

-- f makes the sorts of each pair equal
abbrev pub AreEqual : (SVar → Sort) → List Node → List (ℕ × ℕ) → Type 0
AreEqual f nodes = AllByRecursion (λ p. value f nodes p.0 ≡ value f nodes p.1)

-- the same nodes, of which those classes are joined, or their nodes wait, that every f has to make equal which makes a and b equal
pub record Unites (old new : Graph) (waiting : List (ℕ × ℕ)) (a b : ℕ) : Type 0 where
  pub nodes : new.nodes ≡ old.nodes
  pub graph : IsGraph new
  pub closed : (i : ℕ) → i < length new.nodes → WillAgreeAt new waiting i
  pub there : AreThere new.nodes waiting
  pub respects : (f : SVar → Sort) → Respects f old → value f old.nodes a ≡ value f old.nodes b → Respects f new × AreEqual f new.nodes waiting
  pub respected : (f : SVar → Sort) → Respects f new → AreEqual f new.nodes waiting → Respects f old × (value f old.nodes a ≡ value f old.nodes b)

-- no f makes them equal
abbrev pub NoneUnites : Graph → ℕ → ℕ → Type 0
NoneUnites g a b = (f : SVar → Sort) → Respects f g → value f g.nodes a ≡ value f g.nodes b → ⊥

abbrev pub MatchUnited : Graph → Graph → ℕ → ℕ → Bool → Type 0
MatchUnited old new a b true = Unites old new [] a b
MatchUnited old new a b false = NoneUnites old a b

-- the number of classes, of nodes from number i on
abbrev pub classes : ℕ → List ℕ → ℕ
classes i [] = 0
classes i (c ∷ cs) = (if c == i then 1 else 0) + classes (suc i) cs

abbrev pub width : Node → ℕ
width (Leaf v) = 0
width (Branch c js) = length js

-- a bound on the joins that are left
abbrev pub joins_left : Graph → List (ℕ × ℕ) → ℕ
joins_left g waiting = classes 0 g.class * (sum (map width g.nodes) + 1) + length waiting

-- the last pair that waited is done, and those wait that follow from it
pub record Joins (old : Graph) (before : List (ℕ × ℕ)) (new : Graph) (after : List (ℕ × ℕ)) (a b : ℕ) : Type 0 where
  pub unites : (first : Graph) (c d : ℕ) → Unites first old (before ++ (a, b) ∷ []) c d → Unites first new after c d
  pub fewer : joins_left new after < joins_left old (before ++ (a, b) ∷ [])

abbrev pub MatchJoined : Graph → List (ℕ × ℕ) → Graph → List (ℕ × ℕ) → ℕ → ℕ → Bool → Type 0
MatchJoined old before new after a b true = Joins old before new after a b
MatchJoined old before new after a b false = NoneUnites old a b

-- the arguments of two nodes wait in pairs, or their constructors clash
abbrev pub MatchArguments : List (ℕ × ℕ) → List (ℕ × ℕ) → Option Node → Option Node → Bool → Type 0
MatchArguments before after (Some (Branch c xs)) (Some (Branch d ys)) true = (c.0 ≡ d.0) × ((length xs ≡ length ys) × (after ≡ before ++ zip xs ys))
MatchArguments before after (Some (Branch c xs)) (Some (Branch d ys)) false = c.0 ≡ d.0 → length xs ≡ length ys → ⊥
MatchArguments before after (Some (Branch c xs)) (Some (Leaf v)) ok = (ok ≡ true) × (after ≡ before)
MatchArguments before after (Some (Branch c xs)) None ok = (ok ≡ true) × (after ≡ before)
MatchArguments before after (Some (Leaf v)) n ok = (ok ≡ true) × (after ≡ before)
MatchArguments before after None n ok = (ok ≡ true) × (after ≡ before)

abbrev pub is_marked : List Bool → ℕ → Bool
is_marked marks i = unwrap_or (slice_get marks i) false

abbrev pub ready_node : List Bool → Option Node → Bool
ready_node marks (Some (Leaf v)) = true
ready_node marks (Some (Branch c js)) = list_all (is_marked marks) js
ready_node marks None = false

-- whether all arguments of the node are marked
abbrev pub is_ready : Graph → List Bool → ℕ → Bool
is_ready g marks i = ready_node marks (head_at g i)

-- what is marked has a tree
abbrev pub MarksTrees : Graph → List Bool → Type 0
MarksTrees g marks = (i : ℕ) → IsTrue (is_marked marks i) → HasTree g i

abbrev pub unmarked : List Bool → ℕ
unmarked marks = sum (map (λ m. if m then 0 else 1) marks)

-- the node is marked or can't be
abbrev pub IsStuckAt : Graph → List Bool → ℕ → Type 0
IsStuckAt g marks i = IsTrue (is_marked marks i) ⊎ (is_ready g marks i ≡ false)

-- nothing more can be marked
abbrev pub IsStuck : Graph → List Bool → Type 0
IsStuck g marks = (i : ℕ) → i < length marks → IsStuckAt g marks i

abbrev pub MatchAcyclic : Graph → Bool → Type 0
MatchAcyclic g true = HasTrees g
MatchAcyclic g false = (f : SVar → Sort) → Respects f g → ⊥

-- the graph stands for these pairs, if its classes stand for trees
pub record Stands (g : Graph) (pairs : List (Sort × Sort)) : Type 0 where
  pub graph : IsGraph g
  pub closed : IsClosed g
  pub respects : (f : SVar → Sort) → Unifies f pairs → Respects f g
  pub unifies : (f : SVar → Sort) → Respects f g → Unifies f pairs
  pub ordered : IsOrdered (vars_read pairs) g

pub record Solves (g : Graph) (pairs : List (Sort × Sort)) : Type 0 where
  pub stands : Stands g pairs
  pub trees : HasTrees g

abbrev pub MatchEquated : Graph → List (Sort × Sort) → Bool → Type 0
MatchEquated g pairs true = Stands g pairs
MatchEquated g pairs false = HasUnifier pairs → ⊥

-- the map sends each variable among the first n nodes to its tree
pub record IsSolution (g : Graph) (n : ℕ) (s : List (SVar × Sort)) : Type 0 where
  pub maps : (i : ℕ) (v : SVar) → i < n → slice_get g.nodes i ≡ Some (Leaf v) → Unfolds g i (image s v)
  pub others : (v : SVar) → ((i : ℕ) → i < n → slice_get g.nodes i ≡ Some (Leaf v) → ⊥) → entry_of s v ≡ None
  pub moves : MovesAll s

-- the tree of each variable is within the limits
abbrev pub HasSmallImages : Graph → Type 0
HasSmallImages g = (i : ℕ) (v : SVar) (t : Sort) → slice_get g.nodes i ≡ Some (Leaf v) → Unfolds g i t → IsTrue (is_small t)

abbrev pub HasLargeImage : Graph → Type 0
HasLargeImage g = (i : ℕ) × ((v : SVar) × ((slice_get g.nodes i ≡ Some (Leaf v)) × ((t : Sort) → Unfolds g i t → is_small t ≡ false)))
