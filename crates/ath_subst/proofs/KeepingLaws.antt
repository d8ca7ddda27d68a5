-- What a substitution leaves as it is.
use Rattle.std.proofs.Common.{◌≡◌, Bool, true, false, not, ℕ, ◌≤◌, List, length, map, take, refl, sym, ◌∙◌, ap, subst}
use Rattle.ath_sorts.specs.declared.sorts.Sym.{Sym}
use Rattle.ath_sorts.specs.declared.sorts.SVar.{SVar}
use Rattle.ath_sorts.specs.declared.sorts.Sort.{Sort, Con}
use Rattle.ath_sorts.specs.Sorts.{image, apply_to}
use Rattle.ath_sorts.proofs.SubstitutionLaws.{apply-at-con}
use Rattle.ath_trees.specs.declared.node.Conn.{Conn}
use Rattle.ath_trees.specs.declared.node.Var.{Var as Variable}
use Rattle.ath_trees.specs.declared.node.SentId.{SentId}
use Rattle.ath_trees.specs.declared.node.TermId.{TermId}
use Rattle.ath_trees.specs.Tree.{var, app, listed, Sent, atom, equal}
use Rattle.ath_trees.specs.Under.{term_under, sent_under}
use Rattle.ath_trees.proofs.UnderLaws.{listed-under}
use Rattle.ath_terms.specs.declared.node.SentNode.{SentNode}
use Rattle.ath_terms.specs.declared.node.SentNode.TheVariants as node
use Rattle.ath_terms.specs.declared.node.TermNode.{TermNode}
use Rattle.ath_terms.specs.declared.node.TermNode.TheVariants.{Var, App}
use Rattle.ath_terms.specs.Nodes.{term_tree, sent_tree, conn_tree, IsSentBelow}
use Rattle.ath_terms.specs.Trees.{Trees, term_at, sort_at, sent_at}
use Rattle.ath_terms.specs.Marks.{IsTermMarked, IsSentMarked}
use Rattle.ath_terms.specs.SortVars.{Fixes}
use Rattle.ath_terms.specs.SortsIn.{IsSortedIn}
use Rattle.ath_terms.specs.declared.marks.Marks.{Marks}
use Rattle.ath_sorts.specs.Signature.{Signature}
use Rattle.ath_trees.specs.SortsIn.{has_small_sorts, sent_has_small_sorts}
use Rattle.ath_terms.proofs.ConnParts.{under_of_conn}
use Rattle.ath_terms.proofs.SortVarLaws.{agree-all, sorts-left}
use Rattle.ath_subst.proofs.StepLaws.{map-through}

pub con-left : (s : List (SVar × Sort)) (sort : Sort) (c : Sym) (args xs : List Sort) (i : ℕ) → sort ≡ Con c args → xs ≡ args → length xs ≤ i → map (apply_to (image s)) (take i xs) ≡ map (λ x. x) (take i xs) → apply_to (image s) sort ≡ sort
con-left s sort c args xs i e same h m =
    apply-at-con s sort c args e ∙ ap (Con c) (subst (λ (l : List Sort). map (apply_to (image s)) l ≡ l) same (sorts-left (apply_to (image s)) xs i h m)) ∙ sym e

-- a term with a node
module _ (f : SVar → Sort) (s : Trees) (n : TermNode) (t : ℕ) (tree : term_tree s.terms n ≡ term_at s.terms t) where
  pub var-left : (v : Variable) → n ≡ Var v → apply_to f v.sort ≡ v.sort → term_under f (term_at s.terms t) ≡ term_at s.terms t
  var-left v is e =
      let p : var v ≡ term_at s.terms t = rw is at tree in
      ap (term_under f) (sym p) ∙ (λ i. var (record { name = v.name; index = v.index; sort = e i })) ∙ p

  pub app-left : (g : Sym) (sorts these : List Sort) (ids xs : List TermId) (i : ℕ) → n ≡ App g sorts ids → these ≡ sorts → xs ≡ ids → map (apply_to f) these ≡ these → length xs ≤ i → map (λ j. term_under f (term_at s.terms j.0)) (take i xs) ≡ map (λ j. term_at s.terms j.0) (take i xs) → term_under f (term_at s.terms t) ≡ term_at s.terms t
  app-left g sorts these ids xs i is as_are same e h m =
      let p : app g sorts (listed (map (λ j. term_at s.terms j.0) ids)) ≡ term_at s.terms t = rw is at tree in
      let q : map (apply_to f) sorts ≡ sorts = subst (λ (l : List Sort). map (apply_to f) l ≡ l) as_are e in
      let r = agree-all (λ (j : TermId). term_under f (term_at s.terms j.0)) (λ (j : TermId). term_at s.terms j.0) xs i h m in
      let u = subst (λ (l : List TermId). map (λ j. term_under f (term_at s.terms j.0)) l ≡ map (λ j. term_at s.terms j.0) l) same r in
      let w = listed-under f (map (λ j. term_at s.terms j.0) ids) ∙ ap listed (map-through f s.terms ids ∙ u) in
      ap (term_under f) (sym p) ∙ (λ k. app g (q k) (w k)) ∙ p

-- a sentence with a node
module _ (f : SVar → Sort) (s : Trees) (n : SentNode) (p : ℕ) (tree : sent_tree s.terms s.sents n ≡ sent_at s.sents p) where
  pub atom-left : (t : TermId) → n ≡ node.Atom t → term_under f (term_at s.terms t.0) ≡ term_at s.terms t.0 → sent_under f (sent_at s.sents p) ≡ sent_at s.sents p
  atom-left t is e =
      let q : atom (term_at s.terms t.0) ≡ sent_at s.sents p = rw is at tree in
      ap (sent_under f) (sym q) ∙ ap atom e ∙ q

  pub equal-left : (l r : TermId) → n ≡ node.Eq l r → term_under f (term_at s.terms l.0) ≡ term_at s.terms l.0 → term_under f (term_at s.terms r.0) ≡ term_at s.terms r.0 → sent_under f (sent_at s.sents p) ≡ sent_at s.sents p
  equal-left l r is e g =
      let q : equal (term_at s.terms l.0) (term_at s.terms r.0) ≡ sent_at s.sents p = rw is at tree in
      ap (sent_under f) (sym q) ∙ (λ i. equal (e i) (g i)) ∙ q

  pub conn-left : (c : Conn) (ids xs : List SentId) (a k i : ℕ) → n ≡ node.Conn c ids → xs ≡ ids → IsSentBelow a k n → length xs ≤ i → map (λ j. sent_under f (sent_at s.sents j.0)) (take i xs) ≡ map (λ j. sent_at s.sents j.0) (take i xs) → sent_under f (sent_at s.sents p) ≡ sent_at s.sents p
  conn-left c ids xs a k i is same below h m =
      let q : conn_tree c (map (λ j. sent_at s.sents j.0) ids) ≡ sent_at s.sents p = rw is at tree in
      let b = rw is at below in
      let r = agree-all (λ (j : SentId). sent_under f (sent_at s.sents j.0)) (λ (j : SentId). sent_at s.sents j.0) xs i h m in
      let u = subst (λ (l : List SentId). map (λ j. sent_under f (sent_at s.sents j.0)) l ≡ map (λ j. sent_at s.sents j.0) l) same r in
      ap (sent_under f) (sym q) ∙ under_of_conn f c s.sents ids b.0 ∙ ap (conn_tree c) u ∙ q

-- ---- what is marked
true-by : (b : Bool) → not b ≡ false → b ≡ true
true-by true e = refl
true-by false e = sym e

pub term-kept : (s : Trees) (t : ℕ) (f : SVar → Sort) (m : Marks) → IsTermMarked s t m → Fixes m.sorts f → (term_under f (term_at s.terms t) ≡ term_at s.terms t) × (apply_to f (sort_at s.sorts t) ≡ sort_at s.sorts t)
term-kept s t f m h e = (h.tree.fixed f e, h.sort f e)

pub small-kept : (s : Trees) (t : ℕ) (f : SVar → Sort) (m : Marks) (sig : Signature) → IsTermMarked s t m → not m.is_small ≡ false → Fixes m.sorts f → IsSortedIn sig s → has_small_sorts sig (term_under f (term_at s.terms t)) ≡ true
small-kept s t f m sig h e x sorted = ap (has_small_sorts sig) (h.tree.fixed f x) ∙ h.tree.small (true-by m.is_small e) sig sorted

pub small_sent-kept : (s : Trees) (p : Sent) (f : SVar → Sort) (m : Marks) (sig : Signature) → IsSentMarked s p m → not m.is_small ≡ false → Fixes m.sorts f → IsSortedIn sig s → sent_has_small_sorts sig (sent_under f p) ≡ true
small_sent-kept s p f m sig h e x sorted = ap (sent_has_small_sorts sig) (h.fixed f x) ∙ h.small (true-by m.is_small e) sig sorted
