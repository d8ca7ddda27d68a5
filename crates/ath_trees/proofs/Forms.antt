-- The parts of equal nameless forms are equal.
use Rattle.std.proofs.Common.{◌≡◌, ℕ, List, ap}
use Rattle.ath_sorts.specs.declared.sorts.Sym.{Sym}
use Rattle.ath_sorts.specs.declared.sorts.Sort.{Sort}
use Rattle.ath_trees.specs.declared.node.Var.{Var}
use Rattle.ath_trees.specs.declared.node.Binary.{Binary}
use Rattle.ath_trees.specs.declared.node.Quant.{Quant}
use Rattle.ath_trees.specs.Nameless.{NTerm, NTerms, nfree, nbound, napp, nmore, NSent, natom, nequal, nnegated, njoined, nquant}

pub free-inj : (v w : Var) → nfree v ≡ nfree w → v ≡ w
free-inj v w e = cc

pub bound-inj : (i j : ℕ) → nbound i ≡ nbound j → i ≡ j
bound-inj i j e = cc

pub app-inj : (f g : Sym) (ss us : List Sort) (ts vs : NTerms) → napp f ss ts ≡ napp g us vs → (f.0 ≡ g.0) × ((ss ≡ us) × (ts ≡ vs))
app-inj f g ss us ts vs e = let p : f ≡ g = cc in (ap (λ (x : Sym). x.0) p, (cc, cc))

pub more-inj : (t u : NTerm) (ts us : NTerms) → nmore t ts ≡ nmore u us → (t ≡ u) × (ts ≡ us)
more-inj t u ts us e = (cc, cc)

pub atom-inj : (t u : NTerm) → natom t ≡ natom u → t ≡ u
atom-inj t u e = cc

pub equal-inj : (s t u v : NTerm) → nequal s t ≡ nequal u v → (s ≡ u) × (t ≡ v)
equal-inj s t u v e = (cc, cc)

pub negated-inj : (p q : NSent) → nnegated p ≡ nnegated q → p ≡ q
negated-inj p q e = cc

pub joined-inj : (c d : Binary) (p q r s : NSent) → njoined c p q ≡ njoined d r s → (c ≡ d) × ((p ≡ r) × (q ≡ s))
joined-inj c d p q r s e = (cc, (cc, cc))

pub quant-inj : (k l : Quant) (a b : Sort) (p q : NSent) → nquant k a p ≡ nquant l b q → (k ≡ l) × ((a ≡ b) × (p ≡ q))
quant-inj k l a b p q e = (cc, (cc, cc))
