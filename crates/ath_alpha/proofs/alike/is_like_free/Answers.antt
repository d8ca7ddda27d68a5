use Rattle.std.proofs.Common.{◌≡◌, ℕ, true, false, ◌==◌, ◌&&◌, ◌↔◌, ap}
use Rattle.ath_sorts.specs.Signature.{boolean}
use Rattle.ath_sorts.proofs.Bools.{and_parts, same_num, num_same}
use Rattle.ath_trees.specs.declared.node.Var.{Var}
use Rattle.ath_trees.specs.Variables.{is_namesake}
use Rattle.ath_terms.proofs.VariableLaws.{var_told}
use Rattle.ath_alpha.specs.Seen.{var_seen}
use Rattle.ath_alpha.proofs.alike.is_like_free.Goals as goal

pub returns-then-told : goal.returns-then-told
returns-then-told c = rw c.if-told.true (var_told c.is_same_var.result c.args.v.now c.args.w.now c.is_same_var.ensures)

same-numbers : (a b m n : ℕ) → a ≡ b → m ≡ n → (a == b && m == n) ≡ true
same-numbers a b m n p q = rw (p, q, num_same b, num_same n)

namesake_told : (v w : Var) → (is_namesake v w ≡ true) ↔ (var_seen false v ≡ var_seen false w)
namesake_told v w = (
  λ e.
      let p = and_parts (v.name.0 == w.name.0) (v.index == w.index) e in
      let a = same_num v.name.0 w.name.0 p.0 in
      let b = same_num v.index w.index p.1 in
      λ i. record { name = record { 0 = a i }; index = b i; sort = boolean },
  λ e. same-numbers v.name.0 w.name.0 v.index w.index (ap (λ (u : Var). u.name.0) e) (ap (λ (u : Var). u.index) e),
)

pub returns-else-told : goal.returns-else-told
returns-else-told c = rw (c.is_namesake.ensures, c.if-told.false) (namesake_told c.args.v.now c.args.w.now)
