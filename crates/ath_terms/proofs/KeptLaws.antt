-- The nodes and levels that are kept with a new application.
use Rattle.std.proofs.Common.{◌≡◌, ℕ, ◌+◌, sym, ◌∙◌, ap, List, arith}
use Rattle.ath_sorts.specs.declared.sorts.Sort.{Sort}
use Rattle.ath_sorts.specs.declared.sorts.Sym.{Sym}
use Rattle.ath_sorts.specs.Signature.{Signature}
use Rattle.ath_trees.specs.Measure.{term_size, terms_size, term_depth, terms_depth}
use Rattle.ath_trees.specs.Tree.{Term, Terms, app}
use Rattle.ath_trees.specs.WellSorted.{HasSort}
use Rattle.ath_terms.specs.Kept.{IsTermKept, IsListed}

pub plain-kept : (x : Term) (g : Sym) (sorts : List Sort) (ts : Terms) (n l : ℕ) → x ≡ app g sorts ts → n ≡ 1 + terms_size ts → l ≡ 1 + terms_depth ts → IsListed ts → IsTermKept x (record { nodes = n; levels = l })
plain-kept x g sorts ts n l e p q small =
    let a = small.nodes in
    let b = small.levels in
    let p' : n ≡ term_size x = p ∙ ap term_size (sym e) in
    let q' : l ≡ term_depth x = q ∙ ap term_depth (sym e) in
    record { nodes = p'; levels = q'; small = record { nodes = omega arith; levels = omega arith } }

pub app-has : (sig : Signature) (x y : Term) (r q : Sort) → x ≡ y → r ≡ q → HasSort sig y q → HasSort sig x r
app-has sig x y r q p e h = rw (p, e) h
