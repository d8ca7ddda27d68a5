use Rattle.std.proofs.Common.{◌≡◌, ◌<◌, ℕ, List, length, Some, None, sym, subst, arith}
use Rattle.std.specs.Prelude.{slice_get}
use Rattle.ath_syntax.specs.Fits.{most}
use Rattle.ath_env.specs.declared.value.Value.{Value}
use Rattle.ath_env.specs.Stands.{AreValues}
use Rattle.ath_eval.specs.declared.frame.Frame.TheVariants.{Argument}
use Rattle.ath_eval.specs.Machine.{arguments_at}
use Rattle.ath_eval.specs.Stretches.{reading}
use Rattle.ath_eval.proofs.Stretches.{steps_after, steps_push, arguments_done, arguments_next, phrase_in, head_in, arguments_in}
use Rattle.ath_eval.proofs.machine.take_arguments.Goals as goal

pub argument-requires : goal.argument-requires
argument-requires c = phrase_in (reading c.args.w.now) c.args.w.now.phrases c.args.w.now.store c.requires.known.0 c.args.w.now.fresh c.args.form c.args.phrase c.args.head c.args.done c.args.levels c.args.stack.now.items c.requires.known.1 c.requires.known.2

pub act-requires-clause-phrase : goal.act-requires-clause-phrase
act-requires-clause-phrase c = phrase_in (reading c.args.w.now) c.args.w.now.phrases c.args.w.now.store c.requires.known.0 c.args.w.now.fresh c.args.form c.args.phrase c.args.head c.args.done c.args.levels c.args.stack.now.items c.requires.known.1 c.requires.known.2

pub act-requires-clause-arguments : goal.act-requires-clause-arguments
act-requires-clause-arguments c = rw c.as_slice.ensures (arguments_in (reading c.args.w.now) c.args.w.now.phrases c.args.w.now.store c.requires.known.0 c.args.w.now.fresh c.args.form c.args.phrase c.args.head c.args.done c.args.levels c.args.stack.now.items c.requires.known.1 c.requires.known.2)

pub act-requires-clause-head : goal.act-requires-clause-head
act-requires-clause-head c = head_in (reading c.args.w.now) c.args.w.now.phrases c.args.w.now.store c.requires.known.0 c.args.w.now.fresh c.args.form c.args.phrase c.args.head c.args.done c.args.levels c.args.stack.now.items c.requires.known.1 c.requires.known.2

pub returns-in_ok-state-in-None-clause-steps : goal.returns-in_ok-state-in-None-clause-steps
returns-in_ok-state-in-None-clause-steps c = λ fuel. let a = c.args in let s = a.w.now.store in let nodes = a.w.now.phrases in let r = reading a.w.now in let o = c.in_ok-state-in-None in let fs = a.stack.now.items in
    let none : slice_get (arguments_at nodes a.phrase) (length a.done) ≡ None = sym (subst (λ (n : ℕ). None ≡ slice_get (arguments_at nodes a.phrase) n) c.len.ensures c.in-None.ensures.number) in
    steps_after nodes s _ _ _ _ _ c.act.new.w.store fuel c.act.new.w.fresh o.state fs (omega arith)
    (λ out m. let k = arguments_done r nodes s a.w.now.fresh a.phrase fs out a.form a.head a.done a.levels fuel none m in
    (k.0, k.1, k.2, k.3, k.4, k.5, k.6, k.7, subst (λ (vs : List Value). AreValues s vs k.4) (sym c.as_slice.ensures) k.8, k.9, k.10)) (o.ensures.steps fs a.levels fuel)

pub returns-in_ok-push-in-Some-clause-steps : goal.returns-in_ok-push-in-Some-clause-steps
returns-in_ok-push-in-Some-clause-steps c = λ fuel. let a = c.args in let s = a.w.now.store in let nodes = a.w.now.phrases in let r = reading a.w.now in let k = c.in-Some in let fs = a.stack.now.items in
    let some : slice_get (arguments_at nodes a.phrase) (length a.done) ≡ Some k.next = sym (subst (λ (n : ℕ). Some k.next ≡ slice_get (arguments_at nodes a.phrase) n) c.len.ensures c.in-Some.ensures.number) in
    steps_push r nodes s _ _ fuel a.w.now.fresh k.next a.levels fs (Argument a.form a.phrase a.head a.done a.levels r.scope) c.push.new.self.items c.in_ok-push-in-Some.ensures.items (omega arith)
    (λ out m. arguments_next r nodes s a.w.now.fresh a.phrase fs out a.form a.head a.done a.levels fuel k.next some (subst (λ (n : ℕ). n < most) c.len.ensures k.ensures.few) m)
