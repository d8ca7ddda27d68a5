use Rattle.ath_eval.specs.Evaluation.{most_nested}
use Rattle.ath_eval.specs.World.{context_of, environment_of}
use Rattle.ath_eval.proofs.Sound.{theorem-derivable}
use Rattle.ath_eval.proofs.machine.run.Goals as goal

pub returns-clause-follows : goal.returns-clause-follows
returns-clause-follows c = λ asserted hyps sound. let w = c.args.w.now in let x = c.requires in let e = c.evaluate-evaluated.new.w in let o = c.in_ok-outcome in
    theorem-derivable (context_of w) (environment_of w) asserted hyps most_nested x.0 w.fuel e.fuel w.fresh e.fresh e.store o.outcome sound (o.ensures.outcome x.0 x.1)
