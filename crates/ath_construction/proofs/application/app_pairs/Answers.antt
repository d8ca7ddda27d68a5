use Rattle.std.proofs.Common.{◌≡◌, [], ◌∙◌, map, rules, subst, sym}
use Rattle.std.specs.Prelude.{zip}
use Rattle.ath_sorts.specs.Sorts.{image, apply_to}
use Rattle.ath_terms.specs.Marks.{AreApart}
use Rattle.ath_terms.proofs.MarkLaws.{listed-adds}
use Rattle.ath_construction.specs.Listing.{terms_of, sorts_of}
use Rattle.ath_construction.proofs.PairLaws.{apart-none}
use Rattle.ath_construction.proofs.application.app_pairs.Goals as goal

pub returns-then-marks : goal.returns-then-marks
returns-then-marks c =
    let first : c.add_argument_pairs.new.pairs.items ≡ zip (map (apply_to (image c.args.inst.now)) c.args.symbol.now.args) (sorts_of c.args.store.now c.args.args.now) = search rules in
    first ∙ apart-none _ _ (subst AreApart (sym (listed-adds [] (terms_of c.args.store.now c.args.args.now))) (c.list_marks-marks.ensures.apart c.if-marks.true))
