use Rattle.std.proofs.Common.{ap, ◌∙◌, sym, ◌==◌, length}
use Rattle.ath_sorts.specs.Signature.{boolean}
use Rattle.ath_sorts.specs.Equality.{same_sort}
use Rattle.ath_env.proofs.ValueLaws.{boolean_con}
use Rattle.ath_env.proofs.value.is_boolean.Goals as goal

pub returns-then-name : goal.returns-then-name
returns-then-name c = boolean_con c.in-Con.name c.in-Con.args c.is_empty.result (c.is_empty.ensures ∙ ap (λ l. length l == 0) c.as_slice.ensures) c.if-name.true ∙ ap (λ s. same_sort s boolean) (sym c.in-Con.is)
