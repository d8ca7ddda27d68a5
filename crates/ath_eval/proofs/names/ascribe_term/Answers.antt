use Rattle.ath_construction.specs.Construction.{made_ascription}
use Rattle.ath_terms.specs.Trees.{term_at}
use Rattle.ath_eval.specs.Applying.{gives_term}
use Rattle.ath_eval.proofs.NameLaws.{valid_meaning, sorted_by, sorted_not}
use Rattle.ath_eval.proofs.names.ascribe_term.Goals as goal

pub invariant_of-w-clause-sorted : goal.invariant_of-w-clause-sorted
invariant_of-w-clause-sorted c = let a = c.args in let w = a.w.now in let q = c.requires.meant in c.ascribe-made.ensures.sorted w.sig w.sorted (valid_meaning w.sig q.0 a.meant c.in-Ok.sort q.1 c.in-Ok.is)

pub returns-in_ok-outcome-in-Ok-clause-outcome : goal.returns-in_ok-outcome-in-Ok-clause-outcome
returns-in_ok-outcome-in-Ok-clause-outcome c = λ text m. let a = c.args in let w = a.w.now in let o = c.in_ok-outcome-in-Ok in let u = c.ascribe-made.new.store in let t = term_at w.store.terms a.t.0 in
    sorted_by w.sig text a.meant m u o.outcome a.at c.in-Ok.sort (λ s place. gives_term w.sig (made_ascription w.sig t s) place) c.in-Ok.is
    (o.ensures w.sig u (made_ascription w.sig t c.in-Ok.sort) (c.ascribe-made.ensures.built w.sig w.sorted))

pub returns-in_ok-outcome-in-Err-clause-outcome : goal.returns-in_ok-outcome-in-Err-clause-outcome
returns-in_ok-outcome-in-Err-clause-outcome c = λ text m. let a = c.args in let w = a.w.now in let o = c.in_ok-outcome-in-Err in let t = term_at w.store.terms a.t.0 in
    sorted_not w.sig text a.meant m w.store o.outcome a.at c.in-Err.error (λ s place. gives_term w.sig (made_ascription w.sig t s) place) c.in-Err.is o.ensures.memory (o.ensures.outcome w.store)
