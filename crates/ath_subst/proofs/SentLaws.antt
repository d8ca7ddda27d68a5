-- A walk over a sentence of a store that maps its tree.
use Rattle.std.proofs.Common.{◌≡◌, ℕ, zero, suc, ◌+◌, ◌<◌, ◌≤◌, max, true, false, List, [], ◌∷◌, ◌++◌, length, map, take, get_or, Some, refl, sym, ◌∙◌, ap, subst, arith}
use Rattle.std.specs.List.{All}
use Rattle.std.proofs.lemmas.List.{take_all}
use Rattle.ath_sorts.specs.declared.sorts.SVar.{SVar}
use Rattle.ath_sorts.specs.declared.sorts.Sort.{Sort}
use Rattle.ath_sorts.specs.Signature.{Signature}
use Rattle.ath_trees.specs.declared.limits.TheConstants.{MOST_TERM_NODES, MOST_TERM_LEVELS}
use Rattle.ath_trees.specs.declared.node.Var.{Var}
use Rattle.ath_trees.specs.declared.node.Conn.{Conn}
use Rattle.ath_trees.specs.declared.node.Conn.TheVariants.{Not, And, Or, If, Iff}
use Rattle.ath_trees.specs.declared.node.Binary.{Binary}
use Rattle.ath_trees.specs.declared.node.Binary.TheVariants as binary
use Rattle.ath_trees.specs.declared.node.Quant.{Quant}
use Rattle.ath_trees.specs.declared.node.TermId.{TermId}
use Rattle.ath_trees.specs.declared.node.SentId.{SentId}
use Rattle.ath_terms.specs.declared.node.SentNode.{SentNode}
use Rattle.ath_terms.specs.declared.node.SentNode.TheVariants as node
use Rattle.ath_trees.specs.Tree.{Term, Sent, var, atom, equal, negated, joined, bound}
use Rattle.ath_trees.specs.Measure.{term_size, term_depth, sent_size, sent_depth}
use Rattle.ath_trees.specs.Renamed.{renamed}
use Rattle.ath_trees.specs.SortUnder.{sent_at_sorts}
use Rattle.ath_trees.specs.Substitution.{subst_term, subst_sent}
use Rattle.ath_trees.specs.Under.{term_under}
use Rattle.ath_trees.specs.Variables.{same_var, with_sents}
use Rattle.ath_trees.specs.WellSorted.{IsWellSorted}
use Rattle.ath_trees.proofs.Renaming.{size-renamed, depth-renamed}
use Rattle.ath_trees.proofs.SubstForms.{subst-atom, subst-equal, subst-negated, subst-joined}
use Rattle.ath_trees.proofs.SortUnderLaws.{at_sorts-size, at_sorts-depth}
use Rattle.ath_trees.proofs.SortUnderForms.{at_sorts-atom, at_sorts-equal, at_sorts-negated, at_sorts-joined}
use Rattle.ath_terms.specs.Kept.{IsSentKept}
use Rattle.ath_terms.specs.Lists.{AreSents}
use Rattle.ath_terms.specs.Nodes.{parts_tree, sent_tree, conn_tree, arity, IsSentBelow}
use Rattle.ath_terms.specs.Trees.{Trees, term_at, sent_at, Grows, IsTerm, IsSent}
use Rattle.ath_terms.proofs.Grow.{sent-kept}
use Rattle.ath_subst.proofs.StepLaws.{map-take-next}

pub sents-kept : (s u : Trees) (ids : List SentId) (xs : List Sent) → Grows s u → AreSents s ids xs → AreSents u ids xs
sents-kept s u [] [] g h = tt
sents-kept s u (i ∷ ids) (x ∷ xs) g h = (sent-kept s u i.0 x g h.0, sents-kept s u ids xs g h.1)
sents-kept s u [] (x ∷ xs) g h = h
sents-kept s u (i ∷ ids) [] g h = h

pub sents-push : (u : Trees) (ids : List SentId) (xs : List Sent) (i : SentId) (x : Sent) → AreSents u ids xs → IsSent u i.0 x → AreSents u (ids ++ i ∷ []) (xs ++ x ∷ [])
sents-push u [] [] i x h k = (k, tt)
sents-push u (j ∷ ids) (y ∷ xs) i x h k = (h.0, sents-push u ids xs i x h.1 k)
sents-push u [] (y ∷ xs) i x h k = absurd h
sents-push u (j ∷ ids) [] i x h k = absurd h

-- the images of the sentences of some ids
abbrev pub sent_images : (Sent → Sent) → Trees → List SentId → List Sent
sent_images g s ids = map (λ j. g (sent_at s.sents j.0)) ids

pub sent_images-next : (g : Sent → Sent) (old s u : Trees) (ids parts : List SentId) (i : ℕ) (d part : SentId) → i < length ids → Grows s u → AreSents s parts (sent_images g old (take i ids)) → IsSent u part.0 (g (sent_at old.sents (get_or ids i d).0)) → AreSents u (parts ++ part ∷ []) (sent_images g old (take (i + 1) ids))
sent_images-next g old s u ids parts i d part h k a w =
    subst (AreSents u (parts ++ part ∷ [])) (sym (map-take-next (λ (j : SentId). g (sent_at old.sents j.0)) ids i d h))
    (sents-push u parts (sent_images g old (take i ids)) part (g (sent_at old.sents (get_or ids i d).0)) (sents-kept s u parts (sent_images g old (take i ids)) k a) w)

pub sents-below : (s : Trees) (ids : List SentId) (xs : List Sent) → AreSents s ids xs → All (λ i. i.0 < length s.sents) ids
sents-below s [] xs h k d l = absurd (omega arith)
sents-below s (i ∷ ids) (x ∷ xs) h zero d l = h.0.0
sents-below s (i ∷ ids) (x ∷ xs) h (suc k) d l = sents-below s ids xs h.1 k d (omega arith)
sents-below s (i ∷ ids) [] h k d l = absurd h

pub sents-are : (s : Trees) (ids : List SentId) (xs : List Sent) → AreSents s ids xs → map (λ i. sent_at s.sents i.0) ids ≡ xs
sents-are s [] [] h = refl
sents-are s (i ∷ ids) (x ∷ xs) h = let p = h.0.1 in let q = sents-are s ids xs h.1 in λ j. p j ∷ q j
sents-are s [] (x ∷ xs) h = absurd h
sents-are s (i ∷ ids) [] h = absurd h

pub sents-count : (s : Trees) (ids : List SentId) (xs : List Sent) → AreSents s ids xs → length ids ≡ length xs
sents-count s [] [] h = refl
sents-count s (i ∷ ids) (x ∷ xs) h = ap suc (sents-count s ids xs h.1)
sents-count s [] (x ∷ xs) h = absurd h
sents-count s (i ∷ ids) [] h = absurd h

pub map-count : {A B : Type 0} (f : A → B) (xs : List A) → length (map f xs) ≡ length xs
map-count f [] = refl
map-count f (x ∷ xs) = ap suc (map-count f xs)

-- ---- what maps a sentence form by form, over terms and connectives
pub record Maps (g : Sent → Sent) (h : Term → Term) : Type 0 where
  pub at_atom : (t : Term) → g (atom t) ≡ atom (h t)
  pub at_equal : (s t : Term) → g (equal s t) ≡ equal (h s) (h t)
  pub at_not : (p : Sent) → g (negated p) ≡ negated (g p)
  pub at_two : (c : Binary) (p q : Sent) → g (joined c p q) ≡ joined c (g p) (g q)

-- and keeps its nodes and levels
pub record Keeps (g : Sent → Sent) : Type 0 where
  pub size : (p : Sent) → sent_size (g p) ≡ sent_size p
  pub depth : (p : Sent) → sent_depth (g p) ≡ sent_depth p

pub sorts-map : (f : SVar → Sort) → Maps (sent_at_sorts f) (term_under f)
sorts-map f = record { at_atom = at_sorts-atom f; at_equal = at_sorts-equal f; at_not = at_sorts-negated f; at_two = at_sorts-joined f }

pub sorts-keep : (f : SVar → Sort) → Keeps (sent_at_sorts f)
sorts-keep f = record { size = at_sorts-size f; depth = at_sorts-depth f }

pub renaming-maps : (y z : Var) → Maps (renamed y z) (subst_term y (var z))
renaming-maps y z = record { at_atom = λ t. refl; at_equal = λ s t. refl; at_not = λ p. refl; at_two = λ c p q. refl }

pub renaming-keeps : (y z : Var) → Keeps (renamed y z)
renaming-keeps y z = record { size = size-renamed y z; depth = depth-renamed y z }

pub put-maps : (x : Var) (by : Term) → Maps (subst_sent x by) (subst_term x by)
put-maps x by = record { at_atom = subst-atom x by; at_equal = subst-equal x by; at_not = subst-negated x by; at_two = subst-joined x by }

pub kept-by : (g : Sent → Sent) → Keeps g → (p x : Sent) (n l : ℕ) → x ≡ g p → n ≡ sent_size p → l ≡ sent_depth p → n ≤ MOST_TERM_NODES → l ≤ MOST_TERM_LEVELS → IsSentKept x (record { nodes = n; levels = l })
kept-by g k p x n l e v w a b =
    let v' : n ≡ sent_size x = v ∙ sym (k.size p) ∙ ap sent_size (sym e) in
    let w' : l ≡ sent_depth x = w ∙ sym (k.depth p) ∙ ap sent_depth (sym e) in
    record { nodes = v'; levels = w'; small = record { nodes = omega arith; levels = omega arith } }

pub sorted-by : (sig : Signature) (x y : Sent) → x ≡ y → IsWellSorted sig y → IsWellSorted sig x
sorted-by sig x y e h = subst (IsWellSorted sig) (sym e) h

-- ---- connectives
pair-map : (g : Sent → Sent) (h : Term → Term) → Maps g h → (c : Binary) (ps : List Sent) → length ps ≡ 2 → g (parts_tree (Some c) ps) ≡ parts_tree (Some c) (map g ps)
pair-map g h m c [] l = absurd (omega arith)
pair-map g h m c (p ∷ []) l = absurd (omega arith)
pair-map g h m c (p ∷ q ∷ []) l = m.at_two c p q
pair-map g h m c (p ∷ q ∷ r ∷ ps) l = absurd (omega arith)

pub conn-map : (g : Sent → Sent) (h : Term → Term) → Maps g h → (c : Conn) (ps : List Sent) → length ps ≡ arity c → g (conn_tree c ps) ≡ conn_tree c (map g ps)
conn-map g h m Not [] l = absurd (omega arith)
conn-map g h m Not (p ∷ []) l = m.at_not p
conn-map g h m Not (p ∷ q ∷ ps) l = absurd (omega arith)
conn-map g h m And ps l = pair-map g h m binary.And ps l
conn-map g h m Or ps l = pair-map g h m binary.Or ps l
conn-map g h m If ps l = pair-map g h m binary.If ps l
conn-map g h m Iff ps l = pair-map g h m binary.Iff ps l

pair-deep : (c : Binary) (ps : List Sent) (i : ℕ) (d : Sent) → length ps ≡ 2 → i < length ps → sent_depth (get_or ps i d) < sent_depth (parts_tree (Some c) ps)
pair-deep c [] i d l h = absurd (omega arith)
pair-deep c (p ∷ []) i d l h = absurd (omega arith)
pair-deep c (p ∷ q ∷ []) zero d l h = omega arith
pair-deep c (p ∷ q ∷ []) (suc zero) d l h = omega arith
pair-deep c (p ∷ q ∷ []) (suc (suc i)) d l h = absurd (omega arith)
pair-deep c (p ∷ q ∷ r ∷ ps) i d l h = absurd (omega arith)

conn-deep : (c : Conn) (ps : List Sent) (i : ℕ) (d : Sent) → length ps ≡ arity c → i < length ps → sent_depth (get_or ps i d) < sent_depth (conn_tree c ps)
conn-deep Not [] i d l h = absurd (omega arith)
conn-deep Not (p ∷ []) zero d l h = omega arith
conn-deep Not (p ∷ []) (suc i) d l h = absurd (omega arith)
conn-deep Not (p ∷ q ∷ ps) i d l h = absurd (omega arith)
conn-deep And ps i d l h = pair-deep binary.And ps i d l h
conn-deep Or ps i d l h = pair-deep binary.Or ps i d l h
conn-deep If ps i d l h = pair-deep binary.If ps i d l h
conn-deep Iff ps i d l h = pair-deep binary.Iff ps i d l h

pub through : (g : Sent → Sent) (ss : List Sent) (ids : List SentId) → map g (map (λ i. sent_at ss i.0) ids) ≡ map (λ i. g (sent_at ss i.0)) ids
through g ss [] = refl
through g ss (i ∷ ids) = ap (λ l. g (sent_at ss i.0) ∷ l) (through g ss ids)

get_or-map : (ss : List Sent) (ids : List SentId) (i : ℕ) (d : SentId) (e : Sent) → i < length ids → get_or (map (λ j. sent_at ss j.0) ids) i e ≡ sent_at ss (get_or ids i d).0
get_or-map ss [] i d e h = absurd (omega arith)
get_or-map ss (x ∷ xs) zero d e h = refl
get_or-map ss (x ∷ xs) (suc i) d e h = get_or-map ss xs i d e (omega arith)

-- ---- what a node stands for
pub record IsConn (old : Trees) (p : ℕ) (c : Conn) (ids : List SentId) : Type 0 where
  pub tree : sent_at old.sents p ≡ conn_tree c (map (λ j. sent_at old.sents j.0) ids)
  pub count : length ids ≡ arity c
  pub below : All (λ i. i.0 < p) ids

pub record IsBound (old : Trees) (p : ℕ) (k : Quant) (v : Var) (q : SentId) : Type 0 where
  pub tree : sent_at old.sents p ≡ bound k v (sent_at old.sents q.0)
  pub below : q.0 < p

pub record IsAtom (old : Trees) (p a : ℕ) (t : TermId) : Type 0 where
  pub tree : sent_at old.sents p ≡ atom (term_at old.terms t.0)
  pub below : t.0 < a

pub record IsEquation (old : Trees) (p a : ℕ) (s t : TermId) : Type 0 where
  pub tree : sent_at old.sents p ≡ equal (term_at old.terms s.0) (term_at old.terms t.0)
  pub left : s.0 < a
  pub right : t.0 < a

module _ (old : Trees) (n m : SentNode) (p a : ℕ) (e : m ≡ n) (tree : sent_tree old.terms old.sents n ≡ sent_at old.sents p) (below : IsSentBelow a p n) where
  pub conn_node : (c : Conn) (ids : List SentId) → m ≡ node.Conn c ids → IsConn old p c ids
  conn_node c ids is = let q : n ≡ node.Conn c ids = sym e ∙ is in let t = rw q at tree in let b = rw q at below in record { tree = sym t; count = b.0; below = b.1 }

  pub bound_node : (k : Quant) (v : Var) (r : SentId) → m ≡ node.Quant k v r → IsBound old p k v r
  bound_node k v r is = let q : n ≡ node.Quant k v r = sym e ∙ is in let t = rw q at tree in let b = rw q at below in record { tree = sym t; below = b }

  pub atom_node : (t : TermId) → m ≡ node.Atom t → IsAtom old p a t
  atom_node t is = let q : n ≡ node.Atom t = sym e ∙ is in let x = rw q at tree in let b = rw q at below in record { tree = sym x; below = b }

  pub equation_node : (s t : TermId) → m ≡ node.Eq s t → IsEquation old p a s t
  equation_node s t is = let q : n ≡ node.Eq s t = sym e ∙ is in let x = rw q at tree in let b = rw q at below in record { tree = sym x; left = b.0; right = b.1 }

-- the nodes and levels of their terms
pub record IsTermSmall (t : Term) : Type 0 where
  pub nodes : term_size t ≤ MOST_TERM_NODES
  pub levels : term_depth t ≤ MOST_TERM_LEVELS

pub atom-small : (old : Trees) (p a n l : ℕ) (t : TermId) → IsAtom old p a t → n ≡ sent_size (sent_at old.sents p) → l ≡ sent_depth (sent_at old.sents p) → n ≤ MOST_TERM_NODES → l ≤ MOST_TERM_LEVELS → IsTermSmall (term_at old.terms t.0)
atom-small old p a n l t is e f h k =
    let x : sent_size (sent_at old.sents p) ≡ term_size (term_at old.terms t.0) = ap sent_size is.tree in
    let y : sent_depth (sent_at old.sents p) ≡ term_depth (term_at old.terms t.0) = ap sent_depth is.tree in
    record { nodes = omega arith; levels = omega arith }

pub equation-small : (old : Trees) (p a n l : ℕ) (s t : TermId) → IsEquation old p a s t → n ≡ sent_size (sent_at old.sents p) → l ≡ sent_depth (sent_at old.sents p) → n ≤ MOST_TERM_NODES → l ≤ MOST_TERM_LEVELS → IsTermSmall (term_at old.terms s.0) × IsTermSmall (term_at old.terms t.0)
equation-small old p a n l s t is e f h k =
    let x : sent_size (sent_at old.sents p) ≡ 1 + term_size (term_at old.terms s.0) + term_size (term_at old.terms t.0) = ap sent_size is.tree in
    let y : sent_depth (sent_at old.sents p) ≡ 1 + max (term_depth (term_at old.terms s.0)) (term_depth (term_at old.terms t.0)) = ap sent_depth is.tree in
    (record { nodes = omega arith; levels = omega arith }, record { nodes = omega arith; levels = omega arith })

-- ---- a quantifier whose variable isn't the renamed one
pub renamed-bound : (y z : Var) (k : Quant) (v : Var) (p : Sent) → same_var y v ≡ false → renamed y z (bound k v p) ≡ bound k v (renamed y z p)
renamed-bound y z k v p e = rw e refl

pub renamed-shadowed : (y z : Var) (k : Quant) (v : Var) (p : Sent) → same_var y v ≡ true → renamed y z (bound k v p) ≡ bound k v p
renamed-shadowed y z k v p e = rw e refl

-- ---- the nodes of their mapped parts
module _ (g : Sent → Sent) (h : Term → Term) (maps : Maps g h) (old : Trees) (p : ℕ) where
  pub atom-tree : (new : Trees) (a : ℕ) (t r : TermId) → IsAtom old p a t → IsTerm new r.0 (h (term_at old.terms t.0)) → sent_tree new.terms new.sents (node.Atom r) ≡ g (sent_at old.sents p)
  atom-tree new a t r is w = ap atom w.1 ∙ sym (maps.at_atom (term_at old.terms t.0)) ∙ ap g (sym is.tree)

  pub equation-tree : (mid new : Trees) (s t l r : TermId) → IsEquation old p (length old.terms) s t → Grows old mid → Grows mid new → IsTerm mid l.0 (h (term_at old.terms s.0)) → IsTerm new r.0 (h (term_at mid.terms t.0)) → sent_tree new.terms new.sents (node.Eq l r) ≡ g (sent_at old.sents p)
  equation-tree mid new s t l r is j k v w =
      let x = k.same_terms l.0 v.0 ∙ v.1 in
      let y = w.1 ∙ ap h (j.same_terms t.0 is.right) in
      (λ i. equal (x i) (y i)) ∙ sym (maps.at_equal (term_at old.terms s.0) (term_at old.terms t.0)) ∙ ap g (sym is.tree)

  module _ (c : Conn) (ids xs : List SentId) (is : IsConn old p c ids) (same : xs ≡ ids) where
    pub conn_part-inside : (i : ℕ) (d : SentId) → i < length xs → (get_or xs i d).0 < p
    conn_part-inside i d l = rw same (is.below i d (rw same at l))

    pub conn_part-deep : (s : Trees) (i : ℕ) (d : SentId) → p < length old.sents → i < length xs → Grows old s → sent_depth (sent_at s.sents (get_or xs i d).0) < sent_depth (sent_at old.sents p)
    conn_part-deep s i d b l j =
        let k : i < length ids = rw same at l in
        let w = conn_part-inside i d l in
        let q = j.same_sents (get_or xs i d).0 (omega arith) in
        let m = map-count (λ (j : SentId). sent_at old.sents j.0) ids in
        let r = conn-deep c (map (λ j. sent_at old.sents j.0) ids) i (sent_at old.sents 0) (m ∙ is.count) (omega arith) in
        let x = get_or-map old.sents ids i d (sent_at old.sents 0) k in
        rw (q, is.tree, same, ← x) r

    pub conn-step : (s u : Trees) (parts : List SentId) (i : ℕ) (d part : SentId) → p < length old.sents → i < length xs → Grows old s → Grows s u → AreSents s parts (sent_images g old (take i xs)) → IsSent u part.0 (g (sent_at s.sents (get_or xs i d).0)) → AreSents u (parts ++ part ∷ []) (sent_images g old (take (i + 1) xs))
    conn-step s u parts i d part b l j k a r =
        let w = conn_part-inside i d l in
        sent_images-next g old s u xs parts i d part l k a (r.0, r.1 ∙ ap g (j.same_sents (get_or xs i d).0 (omega arith)))

    whole : (s : Trees) (parts : List SentId) (i : ℕ) → length xs ≤ i → AreSents s parts (sent_images g old (take i xs)) → AreSents s parts (sent_images g old ids)
    whole s parts i l a = subst (λ (js : List SentId). AreSents s parts (sent_images g old js)) (take_all i xs l ∙ same) a

    pub conn-tree : (s : Trees) (parts : List SentId) (i : ℕ) → length xs ≤ i → AreSents s parts (sent_images g old (take i xs)) → sent_tree s.terms s.sents (node.Conn c parts) ≡ g (sent_at old.sents p)
    conn-tree s parts i l a =
        ap (conn_tree c) (sents-are s parts (sent_images g old ids) (whole s parts i l a) ∙ sym (through g old.sents ids))
        ∙ sym (conn-map g h maps c (map (λ j. sent_at old.sents j.0) ids) (map-count (λ (j : SentId). sent_at old.sents j.0) ids ∙ is.count))
        ∙ ap g (sym is.tree)

    pub conn-below : (s : Trees) (parts : List SentId) (i : ℕ) → length xs ≤ i → AreSents s parts (sent_images g old (take i xs)) → (length parts ≡ arity c) × All (λ j. j.0 < length s.sents) parts
    conn-below s parts i l a =
        let w = whole s parts i l a in
        (sents-count s parts (sent_images g old ids) w ∙ map-count (λ (j : SentId). g (sent_at old.sents j.0)) ids ∙ is.count, sents-below s parts (sent_images g old ids) w)

pub sent_list-all : (ss : List Sent) (ids : List SentId) (i : ℕ) (found : List Var) → length ids ≤ i → found ≡ with_sents [] (map (λ j. sent_at ss j.0) (take i ids)) → found ≡ with_sents [] (map (λ j. sent_at ss j.0) ids)
sent_list-all ss ids i found h e = e ∙ ap (λ (l : List SentId). with_sents [] (map (λ j. sent_at ss j.0) l)) (take_all i ids h)
