use Rattle.std.proofs.Common.{subst, List, ℕ}
use Rattle.std.proofs.lemmas.List.{take_all}
use Rattle.ath_unifiers.proofs.Partitions.{Filed, filed_none, filed_turn, filed_all}
use Rattle.ath_unifiers.proofs.partition.file.Goals as goal

pub loop-i-init : goal.loop-i-init
loop-i-init c = filed_none c.args.from c.args.into c.args.block.now

pub loop-i-preserved : goal.loop-i-preserved
loop-i-preserved c = filed_turn c.args.from c.args.into c.args.members.now c.args.block.now c.loop-i.block c.move_one.new.block c.loop-i.i c.loop-i-test.true c.loop-i.invariant c.move_one.ensures

pub returns : goal.returns
returns c =
    let all = take_all c.loop-i.i c.args.members.now c.loop-i-test.false in
    filed_all c.args.from c.args.into c.args.members.now c.args.block.now c.loop-i.block (subst (λ (ms : List ℕ). Filed c.args.from c.args.into ms c.args.block.now c.loop-i.block) all c.loop-i.invariant) c.requires
