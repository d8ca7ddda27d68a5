use Rattle.std.proofs.Common.{◌≡◌, ◌<◌, length, get_or, Err, sym, subst, ◌∙◌, arith, rules}
use Rattle.std.proofs.lemmas.Grind.{common_steps}
use Rattle.ath_sorts.specs.Declaring.{symbol_fault}
use Rattle.ath_declarations.specs.declared.declaring.DeclareError.TheVariants.{Flawed}
use Rattle.ath_declarations.specs.Declarations.{with_symbols}
use Rattle.ath_declarations.proofs.Joins.{Tells, tested, first_refused, test_refused}
use Rattle.ath_declarations.proofs.declaring.check_names.Goals as goal

pub returns-in_err-check_symbol : goal.returns-in_err-check_symbol
returns-in_err-check_symbol c =
    let some : 0 < length c.args.names.now = grind (arith, common_steps) in
    let p = c.deref.ensures.value in
    let q = c.deref-2.ensures.value in
    let r : c.from_residual.result ≡ Err (Flawed c.in_err-check_symbol.field-0.0) = search rules in
    test_refused _ _ _ r (first_refused c.args.shape.now.params.items c.args.shape.now.args.items c.args.shape.now.result c.args.sig.now c.args.names.now (record { 0 = 0 }) c.in_err-check_symbol.field-0.0 some
    (sym (λ i. symbol_fault c.args.sig.now (get_or c.args.names.now 0 (record { 0 = 0 })) (p i) (q i) c.args.shape.now.result) ∙ c.in_err-check_symbol.ensures))

pub returns-in-Some : goal.returns-in-Some
returns-in-Some c =
    let some : 0 < length c.args.names.now = grind (arith, common_steps) in
    let p = c.deref.ensures.value in
    let q = c.deref-2.ensures.value in
    subst (λ f. Tells c.args.shape.now.params.items c.args.shape.now.args.items c.args.shape.now.result f (with_symbols c.args.sig.now c.args.names.now c.args.shape.now.params.items c.args.shape.now.args.items c.args.shape.now.result))
    (sym c.in_ok-name.ensures ∙ c.in-Some.is)
    (tested c.args.shape.now.params.items c.args.shape.now.args.items c.args.shape.now.result c.args.sig.now c.args.names.now (record { 0 = 0 }) some
    (sym (λ i. symbol_fault c.args.sig.now (get_or c.args.names.now 0 (record { 0 = 0 })) (p i) (q i) c.args.shape.now.result) ∙ c.in_ok-check_symbol.ensures))

pub returns-in-None : goal.returns-in-None
returns-in-None c =
    let some : 0 < length c.args.names.now = grind (arith, common_steps) in
    let p = c.deref.ensures.value in
    let q = c.deref-2.ensures.value in
    subst (λ f. Tells c.args.shape.now.params.items c.args.shape.now.args.items c.args.shape.now.result f (with_symbols c.args.sig.now c.args.names.now c.args.shape.now.params.items c.args.shape.now.args.items c.args.shape.now.result))
    (sym c.in_ok-name.ensures ∙ c.in-None.is)
    (tested c.args.shape.now.params.items c.args.shape.now.args.items c.args.shape.now.result c.args.sig.now c.args.names.now (record { 0 = 0 }) some
    (sym (λ i. symbol_fault c.args.sig.now (get_or c.args.names.now 0 (record { 0 = 0 })) (p i) (q i) c.args.shape.now.result) ∙ c.in_ok-check_symbol.ensures))
