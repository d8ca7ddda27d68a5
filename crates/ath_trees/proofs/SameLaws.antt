-- `same_sent` tells equality.
use Rattle.std.proofs.Common.{◌↔◌, ◌≡◌, Bool, true, false, refl, sym, ap}
use Rattle.ath_sorts.proofs.Bools.{and_parts, same_num, num_same}
use base.Stored.{Gv, gnil, gnum, gcons}
use Rattle.ath_trees.specs.Tree.{Sent}
use Rattle.ath_trees.specs.Code.{code_sent}
use Rattle.ath_trees.specs.Coded.{inj_sent}
use Rattle.ath_trees.specs.Same.{same_code, same_sent}

same_code-refl : (a : Gv) → same_code a a ≡ true
same_code-refl gnil = refl
same_code-refl (gnum m) = num_same m
same_code-refl (gcons a b) = rw (same_code-refl a) (same_code-refl b)

same_code-true : (a b : Gv) → same_code a b ≡ true → a ≡ b
same_code-true gnil gnil e = refl
same_code-true (gnum m) (gnum n) e = ap gnum (same_num m n e)
same_code-true (gcons a b) (gcons c d) e =
    let p = and_parts (same_code a c) (same_code b d) e in
    let l = same_code-true a c p.0 in
    let r = same_code-true b d p.1 in
    cc
same_code-true gnil (gnum n) e = absurd (cc)
same_code-true gnil (gcons a b) e = absurd (cc)
same_code-true (gnum m) gnil e = absurd (cc)
same_code-true (gnum m) (gcons a b) e = absurd (cc)
same_code-true (gcons a b) gnil e = absurd (cc)
same_code-true (gcons a b) (gnum n) e = absurd (cc)

pub same_sent-refl : (p : Sent) → same_sent p p ≡ true
unfolding same_sent
same_sent-refl p = same_code-refl (code_sent p)

pub same_sent-true : (p q : Sent) → same_sent p q ≡ true → p ≡ q
unfolding same_sent
same_sent-true p q e = inj_sent p q (same_code-true (code_sent p) (code_sent q) e)

-- a test that tells equality is `same_sent`
pub same_sent_is : (b : Bool) (p q : Sent) → (b ≡ true) ↔ (p ≡ q) → b ≡ same_sent p q
same_sent_is true p q h = rw (h.0 refl) (sym (same_sent-refl q))
same_sent_is false p q h = go (same_sent p q) refl
  where
    go : (t : Bool) → same_sent p q ≡ t → false ≡ same_sent p q
    go true e = absurd (let r = h.1 (same_sent-true p q e) in cc)
    go false e = sym e
