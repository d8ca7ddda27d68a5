use Rattle.ath_declarations.proofs.Narrow.{domain_narrow}
use Rattle.ath_declarations.proofs.laws.domains_keep_narrow.Goals as goal

pub returns : goal.returns
returns c old new name vars n h = domain_narrow old new name vars n h
