-- What a store keeps with each node: how many nodes its tree has, and how deep it is. Every tree is within the limits.
use Rattle.std.specs.Prelude.{◌≡◌, ℕ, ◌+◌, ◌≤◌, List, [], ◌∷◌}
use Rattle.ath_trees.specs.declared.limits.TheConstants.{MOST_TERM_NODES, MOST_TERM_LEVELS}
use Rattle.ath_trees.specs.Measure.{term_size, terms_size, term_depth, terms_depth, sent_size, sent_depth, IsSmall}
use Rattle.ath_trees.specs.Tree.{Term, Terms, Sent, atom}

pub record Extent : Type 0 where
  pub nodes : ℕ
  pub levels : ℕ

pub record IsTermKept (t : Term) (e : Extent) : Type 0 where
  pub nodes : e.nodes ≡ term_size t
  pub levels : e.levels ≡ term_depth t
  pub small : IsSmall (atom t)

pub record IsSentKept (p : Sent) (e : Extent) : Type 0 where
  pub nodes : e.nodes ≡ sent_size p
  pub levels : e.levels ≡ sent_depth p
  pub small : IsSmall p

-- an application to these arguments is within the limits
pub record IsListed (ts : Terms) : Type 0 where
  pub nodes : 1 + terms_size ts ≤ MOST_TERM_NODES
  pub levels : 1 + terms_depth ts ≤ MOST_TERM_LEVELS

-- the members of two lists, one by one
abbrev pub AreEach : {A B : Type 0} → (A → B → Type 0) → List A → List B → Type 0
AreEach P [] [] = Unit {0}
AreEach P (a ∷ as') (b ∷ bs) = P a b × AreEach P as' bs
AreEach P [] (b ∷ bs) = ⊥
AreEach P (a ∷ as') [] = ⊥

-- the trees of the terms and of the sentences
pub record AreKept (ts : List Term) (es : List Extent) (ps : List Sent) (fs : List Extent) : Type 0 where
  pub terms : AreEach IsTermKept ts es
  pub sents : AreEach IsSentKept ps fs
