-- Worked nodes and levels, computed.
use Rattle.std.proofs.Common.{◌≡◌, [], refl}
use Rattle.ath_trees.specs.declared.node.Binary.TheVariants.{If}
use Rattle.ath_trees.specs.Tree.{Term, app, none, more, atom, equal, negated, joined, constant}
use Rattle.ath_trees.specs.Measure.{sent_size, sent_depth}

abbrev a : Term
a = constant (record { 0 = 5 })

abbrev b : Term
b = constant (record { 0 = 6 })

-- (f a b)
abbrev pair : Term
pair = app (record { 0 = 7 }) [] (more a (more b none))

if-size : sent_size (joined If (atom a) (atom b)) ≡ 3
if-size = refl

if-depth : sent_depth (joined If (atom a) (atom b)) ≡ 2
if-depth = refl

not-equal-size : sent_size (negated (equal pair a)) ≡ 6
not-equal-size = refl

not-equal-depth : sent_depth (negated (equal pair a)) ≡ 4
not-equal-depth = refl
