use Rattle.std.proofs.Common.{length, Ok, refl, ap}
use Rattle.ath_sorts.specs.Declaring.{with_sort}
use Rattle.ath_declarations.specs.Texts.{unless}
use Rattle.ath_declarations.specs.Declarations.{domain_declared}
use Rattle.ath_declarations.specs.declared.declaring.DeclareError.TheVariants.{Flawed}
use Rattle.ath_print.specs.Events.{domain_added}
use Rattle.ath_session.proofs.LimitLaws.{flawed_declaration}
use Rattle.ath_session.proofs.DeclareLaws.{domain_grown, grown_sorted, refused_reply}
use Rattle.ath_session.proofs.session.Session.declare_domain.Goals as goal

pub invariant_of-self : goal.invariant_of-self
invariant_of-self c =
    let w = c.args.self.now.world in
    let g = domain_grown c.args.self.now.world.sig c.declare_domain.new.sig c.args.name c.args.vars.now c.declare_domain.result c.declare_domain.ensures.outcome c.declare_domain.ensures.unchanged in
    ((grown_sorted w.sig c.declare_domain.new.sig w.store g w.sorted, (w.in_store, (w.inside, (w.roomy, (g.narrow w.narrow, tt))))), (c.args.self.now.table, tt))

pub returns-in-Err-clause-reply : goal.returns-in-Err-clause-reply
returns-in-Err-clause-reply c =
    let w = c.args.self.now.world in
    flawed_declaration c.refuse_declaration.result w c.args.at (domain_added c.args.name) (domain_declared w.sig c.args.name c.args.vars.now) (Flawed c.in-Err.flaw) (ap (λ fault. unless fault (Ok (with_sort w.sig c.args.name (length c.args.vars.now)))) c.in-Err.ensures) c.refuse_declaration.ensures.memory c.refuse_declaration.ensures.reply

pub returns-in-Err-declare_domain-clause-reply : goal.returns-in-Err-declare_domain-clause-reply
returns-in-Err-declare_domain-clause-reply c =
    let w = c.args.self.now.world in
    refused_reply w _ refl c.args.at (domain_added c.args.name) (domain_declared w.sig c.args.name c.args.vars.now) c.declare_domain.result c.declare_domain.ensures.outcome c.refuse_declaration-in-Err-declare_domain.result c.in-Err-declare_domain.error c.in-Err-declare_domain.is c.refuse_declaration-in-Err-declare_domain.ensures.memory c.refuse_declaration-in-Err-declare_domain.ensures.reply
