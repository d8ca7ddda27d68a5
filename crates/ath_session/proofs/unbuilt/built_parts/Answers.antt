use Rattle.std.proofs.Common.{◌<◌, true, false, List, Some, sym, ◌∙◌, subst}
use Rattle.std.specs.List.{All}
use Rattle.ath_syntax.specs.declared.node.PhraseId.{PhraseId}
use Rattle.ath_session.specs.Parts.{ArePartsOf, parts}
use Rattle.ath_session.proofs.UnbuiltLaws.{apply_here, call_here, name_parts, variable_parts, ascribe_parts, apply_parts, call_parts, no_parts_here, ascribe_below, apply_below, call_below}
use Rattle.ath_session.proofs.unbuilt.built_parts.Goals as goal

pub is_head-requires : goal.is_head-requires
is_head-requires c =
    let a = apply_here c.args.phrases.now c.args.phrase c.node.result.now c.in-Apply.head c.in-Apply.parts c.node.ensures.node c.in-Apply.is c.requires.0 c.requires.1 in
    (a.head, a.is_head)

pub returns-then-is_head-clause-parts : goal.returns-then-is_head-clause-parts
returns-then-is_head-clause-parts c = λ x h.
    subst (λ (is : List PhraseId). ArePartsOf c.args.phrases.now (Some is) (parts c.args.names.now x)) (sym c.as_slice.ensures)
    (apply_parts c.args.phrases.now c.args.names.now true c.args.phrase c.node.result.now c.in-Apply.head c.in-Apply.parts c.node.ensures.node c.in-Apply.is (λ y k. sym c.if-is_head.true ∙ c.is_head.ensures y k) x h)

pub returns-then-is_head-clause-smaller : goal.returns-then-is_head-clause-smaller
returns-then-is_head-clause-smaller c =
    subst (λ (is : List PhraseId). All (λ i. i.0 < c.args.phrase.0) is) (sym c.as_slice.ensures)
    (apply_below c.args.phrases.now c.args.phrase.0 c.node.result.now.deduction c.node.result.now.form c.in-Apply.head c.in-Apply.parts c.in-Apply.is c.node.ensures.fits)

pub is_method_name-requires : goal.is_method_name-requires
is_method_name-requires c =
    let a = call_here c.args.phrases.now c.args.phrase c.node.result.now c.in-Call.head c.in-Call.parts c.node.ensures.node c.in-Call.is c.requires.0 c.requires.1 in
    (a.head, a.is_head)

pub returns-then-is_method_name-clause-parts : goal.returns-then-is_method_name-clause-parts
returns-then-is_method_name-clause-parts c = λ x h.
    subst (λ (is : List PhraseId). ArePartsOf c.args.phrases.now (Some is) (parts c.args.names.now x)) (sym c.as_slice-then-is_method_name.ensures)
    (call_parts c.args.phrases.now c.args.names.now true c.args.phrase c.node.result.now c.in-Call.head c.in-Call.parts c.node.ensures.node c.in-Call.is (λ y k. sym c.if-is_method_name.true ∙ c.is_method_name.ensures y k) x h)

pub returns-then-is_method_name-clause-smaller : goal.returns-then-is_method_name-clause-smaller
returns-then-is_method_name-clause-smaller c =
    subst (λ (is : List PhraseId). All (λ i. i.0 < c.args.phrase.0) is) (sym c.as_slice-then-is_method_name.ensures)
    (call_below c.args.phrases.now c.args.phrase.0 c.node.result.now.deduction c.node.result.now.form c.in-Call.head c.in-Call.parts c.in-Call.is c.node.ensures.fits)

pub returns-in-Name-clause-parts : goal.returns-in-Name-clause-parts
returns-in-Name-clause-parts c = name_parts c.args.phrases.now c.args.names.now c.args.phrase c.node.result.now c.in-Name.field-0 c.node.ensures.node c.in-Name.is

pub returns-else-is_head-clause-parts : goal.returns-else-is_head-clause-parts
returns-else-is_head-clause-parts c =
    apply_parts c.args.phrases.now c.args.names.now false c.args.phrase c.node.result.now c.in-Apply.head c.in-Apply.parts c.node.ensures.node c.in-Apply.is (λ y k. sym c.if-is_head.false ∙ c.is_head.ensures y k)

pub returns-else-is_method_name-clause-parts : goal.returns-else-is_method_name-clause-parts
returns-else-is_method_name-clause-parts c =
    call_parts c.args.phrases.now c.args.names.now false c.args.phrase c.node.result.now c.in-Call.head c.in-Call.parts c.node.ensures.node c.in-Call.is (λ y k. sym c.if-is_method_name.false ∙ c.is_method_name.ensures y k)

pub returns-in_default : goal.returns-in_default
returns-in_default c = record {
  parts = no_parts_here c.args.phrases.now c.args.names.now c.args.phrase c.node.result.now c.node.ensures.node (λ y e. c.in_default.not-Name y e) (λ y k o e. c.in_default.not-Var y k o e) (λ j o e. c.in_default.not-Ascribe j o e) (λ j is e. c.in_default.not-Apply j is e) (λ j is e. c.in_default.not-Call j is e);
  smaller = tt;
}

pub returns-in-Var-clause-parts : goal.returns-in-Var-clause-parts
returns-in-Var-clause-parts c = variable_parts c.args.phrases.now c.args.names.now c.args.phrase c.node.result.now c.in-Var.field-0 c.in-Var.field-1 c.in-Var.field-2 c.node.ensures.node c.in-Var.is

pub returns-in-Ascribe-clause-parts : goal.returns-in-Ascribe-clause-parts
returns-in-Ascribe-clause-parts c = ascribe_parts c.args.phrases.now c.args.names.now c.args.phrase c.node.result.now c.in-Ascribe.part c.in-Ascribe.field-1 c.from_ref.result.now c.node.ensures.node c.in-Ascribe.is c.from_ref.ensures.value

pub returns-in-Ascribe-clause-smaller : goal.returns-in-Ascribe-clause-smaller
returns-in-Ascribe-clause-smaller c = ascribe_below c.args.phrases.now c.args.phrase.0 c.node.result.now.deduction c.node.result.now.form c.in-Ascribe.part c.in-Ascribe.field-1 c.from_ref.result.now c.in-Ascribe.is c.from_ref.ensures.value c.node.ensures.fits
