use Rattle.std.proofs.Common.{◌≡◌, [], ◌∙◌, map, rules, subst, sym}
use Rattle.ath_terms.specs.Marks.{AreApart}
use Rattle.ath_terms.specs.Trees.{sent_at}
use Rattle.ath_terms.proofs.StoreMarks.{sents-adds}
use Rattle.ath_construction.proofs.PairLaws.{apart-none}
use Rattle.ath_construction.proofs.connectives.connective_pairs.Goals as goal

pub returns-then-marks : goal.returns-then-marks
returns-then-marks c =
    let first : c.new-pairs.result.items ≡ [] = search rules in
    first ∙ apart-none [] _ (subst AreApart (sym (sents-adds [] (map (λ i. sent_at c.args.store.now.sents i.0) c.args.parts.now))) (c.list_sent_marks-marks.ensures.apart c.if-marks.true))
