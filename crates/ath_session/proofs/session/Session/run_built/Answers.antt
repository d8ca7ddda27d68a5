use Rattle.std.proofs.Common.{refl}
use Rattle.ath_terms.proofs.Grow.{grows-none}
use Rattle.ath_session.proofs.ReplyLaws.{domain_tells, declare_tells, assert_tells, load_tells, phrase_tells, other_tells}
use Rattle.ath_session.proofs.session.Session.run_built.Goals as goal

pub returns-in-Domain-clause-reply : goal.returns-in-Domain-clause-reply
returns-in-Domain-clause-reply c =
    domain_tells c.args.self.now.world c.declare_domain.new.self.world c.args.directive.now.what c.args.directive.now.pos c.declare_domain.result c.in-Domain.name c.as_slice.result.now c.in-Domain.vars c.in-Domain.is c.as_slice.ensures c.declare_domain.ensures.reply

pub returns-in-Declare-clause-reply : goal.returns-in-Declare-clause-reply
returns-in-Declare-clause-reply c =
    let k = c.in-Declare in
    declare_tells c.args.self.now.world c.declare.new.self.world c.args.directive.now.what c.args.directive.now.pos c.declare.result c.as_slice-in-Declare.result.now k.names k.list c.as_slice-args.result.now k.args k.result_sort k.is c.as_slice-in-Declare.ensures c.as_slice-args.ensures c.declare.ensures.reply

pub returns-in-Assert-clause-reply : goal.returns-in-Assert-clause-reply
returns-in-Assert-clause-reply c =
    let k = c.in-Assert in
    assert_tells c.args.self.now.world c.assert.new.self.world c.args.directive.now.what c.args.directive.now.pos c.assert.result k.field-0 k.closed k.phrase k.is c.assert.ensures.reply

pub returns-in-Load-clause-reply : goal.returns-in-Load-clause-reply
returns-in-Load-clause-reply c =
    load_tells c.args.self.now.world c.args.self.now.world c.args.directive.now.what c.args.directive.now.pos c.load.result c.in-Load.name c.as_str.result.now c.in-Load.is c.as_str.ensures c.load.ensures

pub returns-in-Phrase-clause-reply : goal.returns-in-Phrase-clause-reply
returns-in-Phrase-clause-reply c =
    phrase_tells c.args.self.now.world c.show.new.self.world c.args.directive.now.what c.args.directive.now.pos c.show.result c.in-Phrase.phrase c.in-Phrase.is c.show.ensures.reply

pub returns-in_default : goal.returns-in_default
returns-in_default c = record {
  numbers = record { names = refl; phrases = refl; store = grows-none c.args.self.now.world.store };
  reply = other_tells c.args.self.now.world c.args.directive.now.what c.args.directive.now.pos c.refusal.result c.plain.result (λ n vs e. c.in_default.not-Domain n vs e) (λ ns ps os o e. c.in_default.not-Declare ns ps os o e) (λ n b i e. c.in_default.not-Assert n b i e) (λ b e. c.in_default.not-Load b e) (λ i e. c.in_default.not-Phrase i e) c.plain.ensures.kind c.plain.ensures.args c.refusal.ensures;
}
