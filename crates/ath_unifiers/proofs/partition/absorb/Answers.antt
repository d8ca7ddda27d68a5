use Rattle.std.proofs.Common.{◌∙◌, take}
use Rattle.ath_unifiers.proofs.PartitionJoins.{on_err}
use Rattle.ath_unifiers.proofs.partition.absorb.Goals as goal

pub returns-in_err-push-clause-not_named : goal.returns-in_err-push-clause-not_named
returns-in_err-push-clause-not_named c = on_err c.from_residual.result c.loop-member.invariant.0

pub returns-in_err-push-clause-kept : goal.returns-in_err-push-clause-kept
returns-in_err-push-clause-kept c = (take c.loop-member.member-index c.args.more.now, c.in_err-push.ensures.err ∙ c.loop-member.invariant.1)
