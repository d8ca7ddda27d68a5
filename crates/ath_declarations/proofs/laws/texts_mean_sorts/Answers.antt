use Rattle.ath_declarations.proofs.Keeping.{meant_sort}
use Rattle.ath_declarations.proofs.laws.texts_mean_sorts.Goals as goal

pub returns : goal.returns
returns c sig text s h = meant_sort sig text s h
