use Rattle.ath_declarations.proofs.Keeping.{domain_keeps}
use Rattle.ath_declarations.proofs.laws.domains_keep.Goals as goal

pub returns : goal.returns
returns c old new name vars h = domain_keeps old new name vars h
