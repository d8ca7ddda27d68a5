use Rattle.std.proofs.Common.{◌∙◌, ap}
use Rattle.ath_sorts.specs.Signature.{arity_of}
use Rattle.ath_sorts.proofs.SignatureLaws.{arity-lookup, domain_new}
use Rattle.ath_sorts.proofs.signature.Signature.add_domain.Goals as goal

pub file-requires : goal.file-requires
file-requires c =
    let e = arity-lookup c.self.inside.sorts.entries c.args.name ∙ ap (λ s. arity_of s c.args.name) c.self.view_is in
    e ∙ domain_new c.args.self.now c.args.name c.args.arity c.in_ok-check_domain.ensures
