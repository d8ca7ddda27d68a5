use Rattle.std.proofs.Common.{◌≡◌, ◌∙◌, [], ◌∷◌, ap, rules, sym}
use Rattle.ath_terms.specs.Trees.{term_at, sort_at}
use Rattle.ath_terms.specs.Marks.{all_marks, with_marks}
use Rattle.ath_terms.specs.declared.marks.Marks.{Marks}
use Rattle.ath_terms.proofs.MarkLaws.{equal-marked}
use Rattle.ath_construction.proofs.PairLaws.{apart-none}
use Rattle.ath_construction.proofs.equations.equation_pairs.Goals as goal

pub returns-then-marks : goal.returns-then-marks
returns-then-marks c =
    let told = equal-marked c.args.store.now (term_at c.args.store.now.terms c.args.s.0) (term_at c.args.store.now.terms c.args.t.0) c.marks.result c.marks-2.result c.marks.ensures.tree c.marks-2.ensures.tree in
    let same = c.with-marks.ensures ∙ ap (λ (m : Marks). with_marks m c.marks-2.result) (c.with.ensures ∙ ap (λ (m : Marks). with_marks m c.marks.result) c.all.ensures) in
    let first : c.add_pair.new.pairs.items ≡ (sort_at c.args.store.now.sorts c.args.s.0, sort_at c.args.store.now.sorts c.args.t.0) ∷ [] = search rules in
    first ∙ apart-none ((sort_at c.args.store.now.sorts c.args.s.0, sort_at c.args.store.now.sorts c.args.t.0) ∷ []) _ (told.apart (ap (λ (m : Marks). m.is_apart) (sym same) ∙ c.if-marks.true))
