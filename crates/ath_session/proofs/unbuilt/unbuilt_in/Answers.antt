use Rattle.std.proofs.Common.{sym, ◌∙◌, ap}
use Rattle.ath_session.specs.Unbuilt as built
use Rattle.ath_session.proofs.StatementLaws.{domain_here, declare_here, assert_here, phrase_here, other_here, assert_bare}
use Rattle.ath_session.proofs.unbuilt.unbuilt_in.Goals as goal

pub returns-in-Domain : goal.returns-in-Domain
returns-in-Domain c = λ x h. sym (ap (built.unbuilt_in c.args.names.now c.args.at) (domain_here c.args.phrases.now c.args.what.now x h c.in-Domain.field-0 c.in-Domain.field-1 c.in-Domain.is))

pub returns-in-Declare : goal.returns-in-Declare
returns-in-Declare c = λ x h.
    let k = c.in-Declare in
    sym (ap (built.unbuilt_in c.args.names.now c.args.at) (declare_here c.args.phrases.now c.args.what.now x h k.field-0 k.field-1 k.field-2 k.field-3 k.is))

pub returns-else-is_some : goal.returns-else-is_some
returns-else-is_some c = λ x h.
    let k = c.in-Assert in
    let e = assert_here c.args.phrases.now c.args.what.now x h k.name k.field-1 k.phrase k.is in
    c.unbuilt.ensures e.0 e.1 ∙ assert_bare c.args.names.now c.args.at k.name k.field-1 e.0 (sym c.is_some.ensures ∙ c.if-is_some.false) ∙ sym (ap (built.unbuilt_in c.args.names.now c.args.at) e.2)

pub returns-in-Phrase : goal.returns-in-Phrase
returns-in-Phrase c = λ x h.
    let e = phrase_here c.args.phrases.now c.args.what.now x h c.in-Phrase.phrase c.in-Phrase.is in
    c.unbuilt-in-Phrase.ensures e.0 e.1 ∙ sym (ap (built.unbuilt_in c.args.names.now c.args.at) e.2)

pub returns-in_default : goal.returns-in_default
returns-in_default c = λ x h.
    let o = other_here c.args.phrases.now c.args.what.now x h (λ n vs e. c.in_default.not-Domain n vs e) (λ ns ps os o e. c.in_default.not-Declare ns ps os o e) (λ n b i e. c.in_default.not-Assert n b i e) (λ b e. c.in_default.not-Load b e) (λ i e. c.in_default.not-Phrase i e) in
    o.told c.args.names.now c.args.at
