-- What a number past the end would stand for, and a connective of no parts.
use Rattle.std.specs.Prelude.{[]}
use Rattle.ath_trees.specs.Tree.{Term, app, none}

abbrev pub blank : Term
blank = app (record { 0 = 1 }) [] none
