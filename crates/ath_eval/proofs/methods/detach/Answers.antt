use Rattle.std.proofs.Common.{refl, sym, ◌∙◌}
use Rattle.ath_terms.specs.Trees.{sent_at}
use Rattle.ath_eval.specs.declared.world.Outcome.TheVariants as ends
use Rattle.ath_eval.specs.Methods as methods
use Rattle.ath_eval.specs.Outcomes.{concludes}
use Rattle.ath_eval.specs.World.{environment_of}
use Rattle.ath_eval.proofs.Ponens.{other_premise, no_implication, no_premise, conclusion, same_answer}
use Rattle.ath_eval.proofs.methods.detach.Goals as goal

pub returns-then-not-is_alpha_equal : goal.returns-then-not-is_alpha_equal
returns-then-not-is_alpha_equal c = let a = c.args in let s = a.w.now.store in
    same_answer s c.in_ok-outcome.outcome (methods.detached ((environment_of a.w.now).base) (sent_at s.sents a.p.0) (sent_at s.sents a.parts.0.0) (sent_at s.sents a.parts.1.0) (sent_at s.sents a.q.0) a.at) (methods.wrong_shape 2 a.at)
    (other_premise ((environment_of a.w.now).base) (sent_at s.sents a.p.0) (sent_at s.sents a.parts.0.0) (sent_at s.sents a.parts.1.0) (sent_at s.sents a.q.0) a.at c.is_alpha_equal.result c.is_alpha_equal.ensures c.if-not-is_alpha_equal.true) (c.in_ok-outcome.ensures s)

pub returns-then-not-is_in_base : goal.returns-then-not-is_in_base
returns-then-not-is_in_base c = let a = c.args in let s = a.w.now.store in
    same_answer s c.in_ok-outcome-2.outcome (methods.detached ((environment_of a.w.now).base) (sent_at s.sents a.p.0) (sent_at s.sents a.parts.0.0) (sent_at s.sents a.parts.1.0) (sent_at s.sents a.q.0) a.at) (methods.not_in_base (sent_at s.sents a.p.0) a.at)
    (no_implication ((environment_of a.w.now).base) (sent_at s.sents a.p.0) (sent_at s.sents a.parts.0.0) (sent_at s.sents a.parts.1.0) (sent_at s.sents a.q.0) a.at c.is_alpha_equal.result c.is_alpha_equal.ensures c.if-not-is_alpha_equal.false (sym c.is_in_base.ensures ∙ c.if-not-is_in_base.true)) (c.in_ok-outcome-2.ensures s c.requires.implication)

pub returns-then-not-is_in_base-2 : goal.returns-then-not-is_in_base-2
returns-then-not-is_in_base-2 c = let a = c.args in let s = a.w.now.store in
    same_answer s c.in_ok-outcome-3.outcome (methods.detached ((environment_of a.w.now).base) (sent_at s.sents a.p.0) (sent_at s.sents a.parts.0.0) (sent_at s.sents a.parts.1.0) (sent_at s.sents a.q.0) a.at) (methods.not_in_base (sent_at s.sents a.q.0) a.at)
    (no_premise ((environment_of a.w.now).base) (sent_at s.sents a.p.0) (sent_at s.sents a.parts.0.0) (sent_at s.sents a.parts.1.0) (sent_at s.sents a.q.0) a.at c.is_alpha_equal.result c.is_alpha_equal.ensures c.if-not-is_alpha_equal.false (sym c.is_in_base.ensures ∙ c.if-not-is_in_base.false) (sym c.is_in_base-2.ensures ∙ c.if-not-is_in_base-2.true)) (c.in_ok-outcome-3.ensures s c.requires.premise)

pub returns : goal.returns
returns c = let a = c.args in let s = a.w.now.store in
    same_answer s (ends.Theorem a.parts.1) (methods.detached ((environment_of a.w.now).base) (sent_at s.sents a.p.0) (sent_at s.sents a.parts.0.0) (sent_at s.sents a.parts.1.0) (sent_at s.sents a.q.0) a.at) (concludes (sent_at s.sents a.parts.1.0))
    (conclusion ((environment_of a.w.now).base) (sent_at s.sents a.p.0) (sent_at s.sents a.parts.0.0) (sent_at s.sents a.parts.1.0) (sent_at s.sents a.q.0) a.at c.is_alpha_equal.result c.is_alpha_equal.ensures c.if-not-is_alpha_equal.false (sym c.is_in_base.ensures ∙ c.if-not-is_in_base.false) (sym c.is_in_base-2.ensures ∙ c.if-not-is_in_base-2.false))
    (λ fresh fuel. ((c.requires.joined.1, refl), refl, refl))
