use Rattle.ath_declarations.proofs.Keeping.{domain_there}
use Rattle.ath_declarations.proofs.laws.domains_are_there.Goals as goal

pub returns : goal.returns
returns c old new name vars h = domain_there old new name vars h
