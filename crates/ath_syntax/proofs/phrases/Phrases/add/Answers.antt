use Rattle.std.proofs.Common.{rules, ◌≡◌, length}
use Rattle.ath_syntax.proofs.Growth.{KeepsNodes-phrase}
use Rattle.ath_syntax.proofs.NodeLaws.{phrase_of_new}
use Rattle.ath_syntax.proofs.Fitting.{NodesFit-phrase}
use Rattle.ath_syntax.proofs.phrases.Phrases.add.Goals as goal

pub invariant_of-self-2 : goal.invariant_of-self-2
invariant_of-self-2 c = rw c.in_ok-push.ensures.items (NodesFit-phrase _ _ c.self.invariant (rw c.self.view_is c.requires))

pub returns-clause-stands : goal.returns-clause-stands
returns-clause-stands c =
    let e : c.len-number.result ≡ length c.self.inside.phrases.items = search rules in
    λ t. rw (c.in_ok-push.ensures.items, ← c.self.view_is) (phrase_of_new _ c.args.node t _ (rw c.self.view_is c.requires) e)

pub returns-clause-kept : goal.returns-clause-kept
returns-clause-kept c = rw (c.in_ok-push.ensures.items, ← c.self.view_is) (KeepsNodes-phrase _ _)
