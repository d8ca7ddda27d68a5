use Rattle.std.proofs.Common.{refl, sym, ◌∙◌}
use Rattle.ath_terms.specs.Trees.{sent_at}
use Rattle.ath_base.specs.Base.{holds}
use Rattle.ath_eval.specs.declared.world.Outcome.TheVariants as ends
use Rattle.ath_eval.specs.Methods.{if_held, not_in_base}
use Rattle.ath_eval.specs.Outcomes.{concludes}
use Rattle.ath_eval.specs.World.{environment_of}
use Rattle.ath_eval.proofs.Ponens.{held, not_held, same_answer}
use Rattle.ath_eval.proofs.methods.conclude.Goals as goal

pub returns-then-is_in_base : goal.returns-then-is_in_base
returns-then-is_in_base c = let a = c.args in let s = a.w.now.store in let p = sent_at s.sents a.p.0 in let o = holds (environment_of a.w.now).base p in
    same_answer s (ends.Theorem a.p) (if_held o p (concludes p) a.at) (concludes p) (held o p (concludes p) a.at (sym c.is_in_base.ensures ∙ c.if-is_in_base.true))
    (λ fresh fuel. ((c.requires, refl), refl, refl))

pub returns : goal.returns
returns c = let a = c.args in let s = a.w.now.store in let p = sent_at s.sents a.p.0 in let o = holds (environment_of a.w.now).base p in
    same_answer s c.in_ok-outcome.outcome (if_held o p (concludes p) a.at) (not_in_base p a.at) (not_held o p (concludes p) a.at (sym c.is_in_base.ensures ∙ c.if-is_in_base.false))
    (c.in_ok-outcome.ensures s c.requires)
