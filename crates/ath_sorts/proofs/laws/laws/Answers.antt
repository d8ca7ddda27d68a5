use Rattle.ath_sorts.proofs.MatchingLaws.{instances_agree}
use Rattle.ath_sorts.proofs.SubstitutionLaws.{applying}
use Rattle.ath_sorts.proofs.ValidityLaws.{initial_valid, sorts_keep_validity, symbols_keep_validity}
use Rattle.ath_sorts.proofs.laws.laws.Goals as goal

pub returns-clause-applying_is_composition : goal.returns-clause-applying_is_composition
returns-clause-applying_is_composition c s t sort = applying s t sort

pub returns-clause-instances_agree : goal.returns-clause-instances_agree
returns-clause-instances_agree c s t general special rigid m n v = instances_agree s t general special rigid m n v

pub returns-clause-first_signature_is_valid : goal.returns-clause-first_signature_is_valid
returns-clause-first_signature_is_valid c = initial_valid

pub returns-clause-sorts_keep_validity : goal.returns-clause-sorts_keep_validity
returns-clause-sorts_keep_validity c sig name arity h e = sorts_keep_validity sig name arity h e

pub returns-clause-symbols_keep_validity : goal.returns-clause-symbols_keep_validity
returns-clause-symbols_keep_validity c sig s h d w e = symbols_keep_validity sig s h d w e
