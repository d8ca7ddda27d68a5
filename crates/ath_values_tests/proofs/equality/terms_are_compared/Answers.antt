use Rattle.std.proofs.Common.{[]}
use Rattle.ath_syntax.specs.Nodes.{Nodes}
use Rattle.ath_syntax.proofs.Growth.{KeepsNodes-refl}
use Rattle.ath_terms.proofs.Grow.{grows-none}
use Rattle.ath_values.proofs.Growth.{keep_value, values-trans}
use Rattle.ath_values_tests.proofs.equality.terms_are_compared.Goals as goal

no_nodes : Nodes
no_nodes = record { phrases = []; patterns = [] }

pub are_equal-requires : goal.are_equal-requires
are_equal-requires g c =
    let first = keep_value no_nodes no_nodes _ _ _ _ (KeepsNodes-refl no_nodes) (grows-none _) (values-trans _ _ _ c.in_ok-second.ensures.kept c.in_ok-third.ensures.kept) _ _ (c.in_ok-first.ensures.stands no_nodes) in
    let second = keep_value no_nodes no_nodes _ _ _ _ (KeepsNodes-refl no_nodes) (grows-none _) c.in_ok-third.ensures.kept _ _ (c.in_ok-second.ensures.stands no_nodes) in
    (no_nodes, _, _, first, second)

pub are_equal-requires-2 : goal.are_equal-requires-2
are_equal-requires-2 g c =
    let first = keep_value no_nodes no_nodes _ _ _ _ (KeepsNodes-refl no_nodes) (grows-none _) (values-trans _ _ _ c.in_ok-second.ensures.kept c.in_ok-third.ensures.kept) _ _ (c.in_ok-first.ensures.stands no_nodes) in
    (no_nodes, _, _, first, c.in_ok-third.ensures.stands no_nodes)
