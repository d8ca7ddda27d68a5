-- Natural deduction in a theory, from asserted sentences, under hypotheses. A list of hypotheses is read as a set.
use Rattle.std.specs.Prelude.{◌≡◌, ◌⊎◌, List, [], ◌∷◌}
use Rattle.ath_trees.specs.declared.node.Binary.TheVariants.{And, Or, If, Iff}
use Rattle.ath_trees.specs.Nameless.{AlphaEqual}
use Rattle.ath_trees.specs.Tree.{Sent, atom, negated, joined, constant}
use Rattle.ath_trees.specs.WellSorted.{IsWellSorted, AreWellSorted}
use Rattle.ath_calculus.specs.Theory.{Theory}

abbrev pub IsAmong : {A : Type 0} → A → List A → Type 0
IsAmong p [] = ⊥
IsAmong p (q ∷ hyps) = (p ≡ q) ⊎ IsAmong p hyps

abbrev pub AreAmong : List Sent → List Sent → Type 0
AreAmong some others = (p : Sent) → IsAmong p some → IsAmong p others

-- the sentence `true`, and the sentence `false`
abbrev pub truth : Sent
truth = atom (constant (record { 0 = 1 }))

abbrev pub falsity : Sent
falsity = atom (constant (record { 0 = 2 }))

-- the sentences that are derivable under hypotheses, by these rules alone
pub data Derives (th : Theory) (asserted : List Sent) : List Sent → Sent → Type 0 where
  -- an asserted sentence
  axiom_of : {hyps : List Sent} {p : Sent} → AreWellSorted th.signature hyps → IsWellSorted th.signature p → IsAmong p asserted → Derives th asserted hyps p
  -- a hypothesis
  hypothesis : {hyps : List Sent} {p : Sent} → AreWellSorted th.signature hyps → IsAmong p hyps → Derives th asserted hyps p
  -- `true`
  true_intro : {hyps : List Sent} → AreWellSorted th.signature hyps → IsWellSorted th.signature truth → Derives th asserted hyps truth
  -- what is derivable under some of the hypotheses
  weaken : {some hyps : List Sent} {p : Sent} → AreWellSorted th.signature hyps → AreAmong some hyps → Derives th asserted some p → Derives th asserted hyps p
  -- a sentence that differs from a derivable one in the names and indices of bound variables alone
  alpha : {hyps : List Sent} {p q : Sent} → AlphaEqual p q → Derives th asserted hyps p → Derives th asserted hyps q
  -- `(if p q)`, of `q` under `p` too
  if_intro : {hyps : List Sent} {p q : Sent} → Derives th asserted (p ∷ hyps) q → Derives th asserted hyps (joined If p q)
  -- `q`, of `(if p q)` and `p`
  if_elim : {hyps : List Sent} {p q : Sent} → Derives th asserted hyps (joined If p q) → Derives th asserted hyps p → Derives th asserted hyps q
  -- `(and p q)`, of `p` and `q`
  and_intro : {hyps : List Sent} {p q : Sent} → Derives th asserted hyps p → Derives th asserted hyps q → Derives th asserted hyps (joined And p q)
  -- `p`, of `(and p q)`
  and_left : {hyps : List Sent} {p q : Sent} → Derives th asserted hyps (joined And p q) → Derives th asserted hyps p
  -- `q`, of `(and p q)`
  and_right : {hyps : List Sent} {p q : Sent} → Derives th asserted hyps (joined And p q) → Derives th asserted hyps q
  -- `(or p q)`, of `p`
  or_left : {hyps : List Sent} {p q : Sent} → IsWellSorted th.signature q → Derives th asserted hyps p → Derives th asserted hyps (joined Or p q)
  -- `(or p q)`, of `q`
  or_right : {hyps : List Sent} {p q : Sent} → IsWellSorted th.signature p → Derives th asserted hyps q → Derives th asserted hyps (joined Or p q)
  -- `r`, of `(or p q)`, of `r` under `p` too, and of `r` under `q` too
  or_elim : {hyps : List Sent} {p q r : Sent} → Derives th asserted hyps (joined Or p q) → Derives th asserted (p ∷ hyps) r → Derives th asserted (q ∷ hyps) r → Derives th asserted hyps r
  -- `(not p)`, of `false` under `p` too
  not_intro : {hyps : List Sent} {p : Sent} → Derives th asserted (p ∷ hyps) falsity → Derives th asserted hyps (negated p)
  -- `false`, of `p` and `(not p)`
  not_elim : {hyps : List Sent} {p : Sent} → IsWellSorted th.signature falsity → Derives th asserted hyps p → Derives th asserted hyps (negated p) → Derives th asserted hyps falsity
  -- `p`, of `(not (not p))`
  not_not_elim : {hyps : List Sent} {p : Sent} → Derives th asserted hyps (negated (negated p)) → Derives th asserted hyps p
  -- `(iff p q)`, of `(if p q)` and `(if q p)`
  iff_intro : {hyps : List Sent} {p q : Sent} → Derives th asserted hyps (joined If p q) → Derives th asserted hyps (joined If q p) → Derives th asserted hyps (joined Iff p q)
  -- `(if p q)`, of `(iff p q)`
  iff_left : {hyps : List Sent} {p q : Sent} → Derives th asserted hyps (joined Iff p q) → Derives th asserted hyps (joined If p q)
  -- `(if q p)`, of `(iff p q)`
  iff_right : {hyps : List Sent} {p q : Sent} → Derives th asserted hyps (joined Iff p q) → Derives th asserted hyps (joined If q p)

-- each of these is derivable
abbrev pub AreDerivable : Theory → List Sent → List Sent → List Sent → Type 0
AreDerivable th asserted hyps ps = (p : Sent) → IsAmong p ps → Derives th asserted hyps p
