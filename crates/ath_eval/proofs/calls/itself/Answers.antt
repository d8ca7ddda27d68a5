use Rattle.std.proofs.Common.{refl}
use Rattle.ath_env.specs.Stands.{value_at}
use Rattle.ath_eval.specs.declared.world.Outcome.TheVariants as ends
use Rattle.ath_eval.proofs.Counts.{not_itself, is_itself}
use Rattle.ath_eval.proofs.calls.itself.Goals as goal

pub returns-then-is_empty : goal.returns-then-is_empty
returns-then-is_empty c = λ s h. is_itself s c.args.args.now (value_at s c.args.head) c.args.at (ends.Value c.args.head) c.is_empty.result c.is_empty.ensures c.if-is_empty.true (λ fresh fuel. ((h, refl), refl, refl))

pub returns : goal.returns
returns c = λ s h. not_itself s c.args.args.now (value_at s c.args.head) c.args.at c.bare.result c.is_empty.result c.is_empty.ensures c.if-is_empty.false (c.bare.ensures s)
