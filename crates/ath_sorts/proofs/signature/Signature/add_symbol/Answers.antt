use Rattle.std.proofs.Common.{◌≡◌, ◌∙◌, Err, ap, refl, rules, subst, sym}
use Rattle.ath_sorts.specs.Answers.{MatchFault}
use Rattle.ath_sorts.specs.Declaring.{error_of, symbol_fault}
use Rattle.ath_sorts.specs.Signature.{symbol_of}
use Rattle.ath_sorts.proofs.SignatureLaws.{flawed, symbol-lookup, new_when_none, AreNamed-after}
use Rattle.ath_sorts.proofs.signature.Signature.add_symbol.Goals as goal

pub file-requires : goal.file-requires
file-requires c =
    let e = symbol-lookup c.self.inside.symbols.entries c.args.name c.self.invariant ∙ ap (λ s. symbol_of s c.args.name) c.self.view_is in
    e ∙ new_when_none c.args.self.now c.args.name c.deref.result.now c.deref-2.result.now c.args.result_sort.now c.in_ok-check_symbol.ensures

pub invariant_of-self : goal.invariant_of-self
invariant_of-self c = AreNamed-after c.file.result c.self.inside.symbols.entries c.file.new.table.entries c.args.name c.in_ok-symbol.symbol c.self.invariant (ap (λ s. s.name) c.in_ok-symbol.ensures) c.file.ensures.ok c.file.ensures.err

pub returns-in_err-check_symbol-clause-answer : goal.returns-in_err-check_symbol-clause-answer
returns-in_err-check_symbol-clause-answer c =
    let f = c.in_err-check_symbol.field-0.0 in
    let p = c.deref.ensures.value in
    let q = c.deref-2.ensures.value in
    let fault = symbol_fault c.args.self.now c.args.name c.args.params.now.items c.args.args.now.items c.args.result_sort.now in
    let r : c.from_residual.result ≡ Err (error_of f) = search rules in
    subst (MatchFault fault) (sym r) (flawed fault f (error_of f) (sym (λ i. symbol_fault c.args.self.now c.args.name (p i) (q i) c.args.result_sort.now) ∙ c.in_err-check_symbol.ensures) refl)
