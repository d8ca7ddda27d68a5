-- The nodes and levels that are kept with what is built.
use Rattle.std.proofs.Common.{◌≡◌, ℕ, zero, suc, ◌+◌, ◌<◌, ◌≤◌, max, List, [], ◌∷◌, length, map, sym, ◌∙◌, ap, arith}
use Rattle.ath_sorts.specs.declared.sorts.SVar.{SVar}
use Rattle.ath_sorts.specs.declared.sorts.Sort.{Sort}
use Rattle.ath_sorts.specs.declared.sorts.Sym.{Sym}
use Rattle.ath_trees.specs.declared.node.Var.{Var}
use Rattle.ath_trees.specs.declared.node.Binary.{Binary}
use Rattle.ath_trees.specs.declared.node.Quant.{Quant}
use Rattle.ath_trees.specs.declared.node.SentId.{SentId}
use Rattle.ath_trees.specs.Measure.{term_size, terms_size, term_depth, terms_depth, sent_size, sent_depth, IsSmall}
use Rattle.ath_trees.specs.Tree.{Term, Terms, app, Sent, equal, negated, joined, bound}
use Rattle.ath_trees.specs.Under.{var_under, term_under}
use Rattle.ath_trees.specs.SortUnder.{sent_at_sorts}
use Rattle.ath_trees.proofs.SortUnderLaws.{at_sorts-size, at_sorts-depth}
use Rattle.ath_terms.specs.Kept.{IsTermKept, IsSentKept, IsListed}
use Rattle.ath_terms.specs.Trees.{sent_at}
use Rattle.ath_trees.proofs.UnderLaws.{size-under, depth-under}
use Rattle.ath_subst.proofs.KeptLaws.{term-kept-under}
use Rattle.ath_construction.specs.Construction.{grouped}
use Rattle.ath_construction.proofs.GroupLaws.{group_from}

-- an application
pub app-kept : (f : SVar → Sort) (g : Sym) (made : List Sort) (ts : Terms) (x : Term) (n l : ℕ) → x ≡ term_under f (app g made ts) → n ≡ 1 + terms_size ts → l ≡ 1 + terms_depth ts → IsListed ts → IsTermKept x (record { nodes = n; levels = l })
app-kept f g made ts x n l e p q small =
    let a = small.nodes in
    let b = small.levels in
    term-kept-under f (app g made ts) x n l e p q (omega arith) (omega arith)

-- a sentence with the nodes and levels of one within the limits
kept_as : (p x : Sent) (n l : ℕ) → sent_size x ≡ sent_size p → sent_depth x ≡ sent_depth p → n ≡ sent_size p → l ≡ sent_depth p → IsSmall p → IsSentKept x (record { nodes = n; levels = l })
kept_as p x n l e d v w small =
    let i = small.nodes in
    let j = small.levels in
    record { nodes = v ∙ sym e; levels = w ∙ sym d; small = record { nodes = omega arith; levels = omega arith } }

pub equal-kept : (f : SVar → Sort) (s t : Term) (x : Sent) (n l : ℕ) → x ≡ equal (term_under f s) (term_under f t) → n ≡ 1 + term_size s + term_size t → l ≡ 1 + max (term_depth s) (term_depth t) → IsSmall (equal s t) → IsSentKept x (record { nodes = n; levels = l })
equal-kept f s t x n l e p q small = kept_as (equal s t) x n l
    (ap sent_size e ∙ (λ i. 1 + size-under f s i + size-under f t i))
    (ap sent_depth e ∙ (λ i. 1 + max (depth-under f s i) (depth-under f t i)))
    p q small

pub negated-kept : (f : SVar → Sort) (p x : Sent) (n l : ℕ) → x ≡ negated (sent_at_sorts f p) → n ≡ 1 + sent_size p → l ≡ 1 + sent_depth p → IsSmall (negated p) → IsSentKept x (record { nodes = n; levels = l })
negated-kept f p x n l e v w small = kept_as (negated p) x n l
    (ap sent_size e ∙ ap (λ k. 1 + k) (at_sorts-size f p))
    (ap sent_depth e ∙ ap (λ k. 1 + k) (at_sorts-depth f p))
    v w small

pub joined-kept : (c : Binary) (p q x : Sent) (n l : ℕ) → x ≡ joined c p q → n ≡ 1 + sent_size p + sent_size q → l ≡ 1 + max (sent_depth p) (sent_depth q) → IsSmall (joined c p q) → IsSentKept x (record { nodes = n; levels = l })
joined-kept c p q x n l e v w small = kept_as (joined c p q) x n l (ap sent_size e) (ap sent_depth e) v w small

pub bound-kept : (f : SVar → Sort) (k : Quant) (v : Var) (p x : Sent) (n l : ℕ) → x ≡ bound k (var_under f v) (sent_at_sorts f p) → n ≡ 1 + sent_size p → l ≡ 1 + sent_depth p → IsSmall (bound k v p) → IsSentKept x (record { nodes = n; levels = l })
bound-kept f k v p x n l e a b small = kept_as (bound k v p) x n l
    (ap sent_size e ∙ ap (λ m. 1 + m) (at_sorts-size f p))
    (ap sent_depth e ∙ ap (λ m. 1 + m) (at_sorts-depth f p))
    a b small

-- what is grouped from a place on is within the limits, where the whole is
module _ (ss : List Sent) (c : Binary) where
  group-less : (ids : List SentId) (i : ℕ) → i < length ids → (sent_size (group_from ss c ids i) ≤ sent_size (grouped c (map (λ j. sent_at ss j.0) ids))) × (sent_depth (group_from ss c ids i) ≤ sent_depth (grouped c (map (λ j. sent_at ss j.0) ids)))
  group-less [] i h = absurd (omega arith)
  group-less (x ∷ ids) zero h = (omega arith, omega arith)
  group-less (x ∷ []) (suc i) h = absurd (omega arith)
  group-less (x ∷ y ∷ ids) (suc i) h = let r = group-less (y ∷ ids) i (omega arith) in let a = r.0 in let b = r.1 in (omega arith, omega arith)

  pub group-small : (f : SVar → Sort) (ids : List SentId) (i : ℕ) (x : Sent) → i < length ids → IsSmall (grouped c (map (λ j. sent_at ss j.0) ids)) → x ≡ sent_at_sorts f (group_from ss c ids i) → IsSmall x
  group-small f ids i x h small e =
      let r = group-less ids i h in
      let a = r.0 in
      let b = r.1 in
      let s : sent_size x ≡ sent_size (group_from ss c ids i) = ap sent_size e ∙ at_sorts-size f (group_from ss c ids i) in
      let d : sent_depth x ≡ sent_depth (group_from ss c ids i) = ap sent_depth e ∙ at_sorts-depth f (group_from ss c ids i) in
      let n = small.nodes in
      let l = small.levels in
      record { nodes = omega arith; levels = omega arith }
