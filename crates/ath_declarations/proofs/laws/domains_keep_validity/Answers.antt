use Rattle.ath_declarations.proofs.Keeping.{domain_valid}
use Rattle.ath_declarations.proofs.laws.domains_keep_validity.Goals as goal

pub returns : goal.returns
returns c old new name vars v h = domain_valid old new name vars v h
