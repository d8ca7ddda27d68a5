-- The rows of the grammar keep to the types of their symbols.
use Rattle.std.proofs.Common.{◌≡◌, true, false, refl}
use Rattle.ath_grammar.specs.declared.class.Class.{Class}
use Rattle.ath_grammar.specs.declared.symbol.Symbol.{Symbol}
use Rattle.ath_grammar.specs.declared.symbol.Symbol.TheVariants as S
use Rattle.ath_grammar.specs.declared.item.Want.{Want}
use Rattle.ath_grammar.specs.declared.item.Want.TheVariants.{Any, Only}
use Rattle.ath_grammar.specs.Grammar.{grammar}
use Rattle.ath_grammar.proofs.Classes.{holds_of_all, every}
use Rattle.ath_grammar.proofs.ProperTypes.{allowed, keeps}

row_keeps : (s : Symbol) (w : Want) → allowed s w ≡ true → holds_of_all (λ c. keeps s w c (grammar s c)) ≡ true
row_keeps S.Directive w e = cc
row_keeps S.ClausePairs Any e = cc
row_keeps S.ClauseRows Any e = cc
row_keeps S.BranchInside Any e = cc
row_keeps S.BranchPairs Any e = cc
row_keeps S.BranchRow Any e = cc
row_keeps S.BranchRows Any e = cc
row_keeps S.Alternatives Any e = cc
row_keeps S.AfterFirst Any e = cc
row_keeps S.FirstBinder Any e = cc
row_keeps S.FirstBinder (Only false) e = cc
row_keeps S.AfterFirstBinder Any e = cc
row_keeps S.AfterFirstBinder (Only false) e = cc
row_keeps S.Binders Any e = cc
row_keeps S.Binders (Only false) e = cc
row_keeps S.AfterBinder Any e = cc
row_keeps S.AfterBinder (Only false) e = cc
row_keeps S.Phrase Any e = refl
row_keeps S.Phrase (Only true) e = refl
row_keeps S.Phrase (Only false) e = refl
row_keeps _ Any e = refl
row_keeps _ (Only true) e = refl
row_keeps _ (Only false) e = refl

pub rows_keep : (s : Symbol) (w : Want) → allowed s w ≡ true → (c : Class) → keeps s w c (grammar s c) ≡ true
rows_keep s w e c = every (λ d. keeps s w d (grammar s d)) (row_keeps s w e) c
