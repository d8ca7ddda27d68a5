-- A production of the code as a row of the table.
use Rattle.ath_grammar.specs.declared.production.Production.{Production}
use Rattle.ath_grammar.specs.declared.production.Production.TheVariants.{Nothing, Take, Skip, BeginAs}
use Rattle.ath_grammar.specs.Tables.{Row, none, take, skip, begin_as}

abbrev pub row_of : Production → Row
row_of Nothing = none
row_of (Take m g is) = take m g is.now
row_of (Skip m xs) = skip m xs.now
row_of (BeginAs m s x is) = begin_as m s x is.now
