use Rattle.std.proofs.Common.{refl}
use Rattle.ath_declarations.specs.Declarations.{declared}
use Rattle.ath_print.specs.Events.{symbols_added}
use Rattle.ath_session.proofs.LimitLaws.{flawed_declaration}
use Rattle.ath_session.proofs.DeclareLaws.{symbols_grown, grown_sorted, refused_reply}
use Rattle.ath_session.proofs.session.Session.declare.Goals as goal

pub invariant_of-self : goal.invariant_of-self
invariant_of-self c =
    let w = c.args.self.now.world in
    let g = symbols_grown c.args.list.now c.args.args.now c.args.result_sort.now c.requires.differ c.args.self.now.world.sig c.declare.new.sig c.args.names.now c.declare.result c.declare.ensures.outcome c.declare.ensures.begun in
    ((grown_sorted w.sig c.declare.new.sig w.store g w.sorted, (w.in_store, (w.inside, (w.roomy, (g.narrow w.narrow, tt))))), (c.args.self.now.table, tt))

pub returns-in-Err-clause-reply : goal.returns-in-Err-clause-reply
returns-in-Err-clause-reply c =
    let w = c.args.self.now.world in
    flawed_declaration c.refuse_declaration.result w c.args.at (symbols_added c.args.names.now) (declared w.sig c.args.names.now c.args.list.now c.args.args.now c.args.result_sort.now) c.in-Err.error c.in-Err.ensures c.refuse_declaration.ensures.memory c.refuse_declaration.ensures.reply

pub returns-in-Err-declare-clause-reply : goal.returns-in-Err-declare-clause-reply
returns-in-Err-declare-clause-reply c =
    let w = c.args.self.now.world in
    refused_reply w _ refl c.args.at (symbols_added c.args.names.now) (declared w.sig c.args.names.now c.args.list.now c.args.args.now c.args.result_sort.now) c.declare.result c.declare.ensures.outcome c.refuse_declaration-in-Err-declare.result c.in-Err-declare.error c.in-Err-declare.is c.refuse_declaration-in-Err-declare.ensures.memory c.refuse_declaration-in-Err-declare.ensures.reply
