use Rattle.std.proofs.Common.{refl, sym, ◌∙◌}
use Rattle.ath_trees.proofs.laws.alpha_is_an_equivalence.Goals as goal

pub returns : goal.returns
returns c = record { itself = λ p. refl; turned = λ p q e. sym e; through = λ p q r e f. e ∙ f }
