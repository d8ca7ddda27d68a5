use Rattle.std.proofs.Common.{rules, ◌≡◌, length, subst, sym}
use Rattle.ath_syntax.specs.Nodes.{Nodes}
use Rattle.ath_syntax.specs.Fits.{PatternFits}
use Rattle.ath_syntax.proofs.Growth.{KeepsNodes-pattern}
use Rattle.ath_syntax.proofs.NodeLaws.{pattern_of_new}
use Rattle.ath_syntax.proofs.Fitting.{NodesFit-pattern}
use Rattle.ath_syntax.proofs.phrases.Phrases.add_pat.Goals as goal

pub invariant_of-self-2 : goal.invariant_of-self-2
invariant_of-self-2 c = rw c.in_ok-push.ensures.items (NodesFit-pattern _ _ c.self.invariant (subst (λ (s : Nodes). PatternFits s.patterns c.args.node) (sym c.self.view_is) c.requires))

pub returns-clause-stands : goal.returns-clause-stands
returns-clause-stands c =
    let e : c.len-number.result ≡ length c.self.inside.patterns.items = search rules in
    λ t. rw (c.in_ok-push.ensures.items, ← c.self.view_is) (pattern_of_new _ c.args.node t _ e)

pub returns-clause-kept : goal.returns-clause-kept
returns-clause-kept c = rw (c.in_ok-push.ensures.items, ← c.self.view_is) (KeepsNodes-pattern _ _)
