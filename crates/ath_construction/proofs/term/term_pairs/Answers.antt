use Rattle.std.proofs.Common.{◌≡◌, ◌∙◌, [], ◌∷◌, rules}
use Rattle.ath_terms.specs.Trees.{sort_at}
use Rattle.ath_construction.proofs.PairLaws.{apart-none}
use Rattle.ath_construction.proofs.term.term_pairs.Goals as goal

pub returns-then-marks : goal.returns-then-marks
returns-then-marks c =
    let first : c.add_pair.new.pairs.items ≡ (sort_at c.args.store.now.sorts c.args.t.0, c.args.sort.now) ∷ [] = search rules in
    first ∙ apart-none ((sort_at c.args.store.now.sorts c.args.t.0, c.args.sort.now) ∷ []) _ (c.marks-marks.ensures.tree.apart c.if-marks.true)
