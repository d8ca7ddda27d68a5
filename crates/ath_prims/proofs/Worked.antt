-- Worked examples of the rows and of their refusals.
use Rattle.std.proofs.Common.{◌≡◌, Bool, true, false, ◌&&◌, ◌||◌, List, [], ◌∷◌, Option, Some, None, refl}
use Rattle.ath_trees.specs.declared.node.Binary.TheVariants.{And, Or, If, Iff}
use Rattle.ath_trees.specs.Tree.{Sent, atom, constant, negated, joined}
use Rattle.ath_calculus.specs.Derives.{truth, falsity}
use Rattle.ath_prims.specs.declared.method.Method.TheVariants.{Claim, Mp, Both, LeftAnd, RightAnd, LeftEither, RightEither, Cd, Equiv, LeftIff, RightIff, Dn, Absurd, TrueIntro}
use Rattle.ath_prims.specs.declared.method.Method.{Method}
use Rattle.ath_prims.specs.declared.schema.Part.{Part}
use Rattle.ath_prims.specs.declared.schema.Part.TheVariants.{A, B, C}
use Rattle.ath_prims.specs.declared.schema.Shape.{Shape}
use Rattle.ath_prims.specs.declared.schema.Shape.TheVariants.{Any, Not, NotNot, Joined}
use Rattle.ath_prims.specs.declared.schema.Premise.{Premise}
use Rattle.ath_prims.specs.declared.schema.Conclusion.{Conclusion}
use Rattle.ath_prims.specs.declared.schema.Conclusion.TheVariants.{Bare, Built, True, False}
use Rattle.ath_prims.specs.Schemata.{row}
use Rattle.ath_prims.specs.Applied.{Argument, applied, miscounted, wrong_kind, wrong_shape, not_in_base, concludes}

abbrev p : Sent
p = atom (constant (record { 0 = 10 }))

abbrev q : Sent
q = atom (constant (record { 0 = 11 }))

abbrev r : Sent
r = atom (constant (record { 0 = 12 }))

-- an argument that holds, one that doesn't, and one that is no sentence
abbrev yes : Sent → Argument
yes x = record { sentence = Some x; holds = true }

abbrev not_yet : Sent → Argument
not_yet x = record { sentence = Some x; holds = false }

abbrev other : Argument
other = record { sentence = None; holds = false }

claim_row : applied Claim (yes p ∷ []) ≡ concludes p
claim_row = refl

mp_row : applied Mp (yes (joined If p q) ∷ yes p ∷ []) ≡ concludes q
mp_row = refl

both_row : applied Both (yes p ∷ yes q ∷ []) ≡ concludes (joined And p q)
both_row = refl

left-and_row : applied LeftAnd (yes (joined And p q) ∷ []) ≡ concludes p
left-and_row = refl

right-and_row : applied RightAnd (yes (joined And p q) ∷ []) ≡ concludes q
right-and_row = refl

-- the other side needn't hold
left-either_row : applied LeftEither (yes p ∷ not_yet q ∷ []) ≡ concludes (joined Or p q)
left-either_row = refl

right-either_row : applied RightEither (not_yet p ∷ yes q ∷ []) ≡ concludes (joined Or p q)
right-either_row = refl

cd_row : applied Cd (yes (joined Or p q) ∷ yes (joined If p r) ∷ yes (joined If q r) ∷ []) ≡ concludes r
cd_row = refl

cd_exchanged : applied Cd (yes (joined Or p q) ∷ yes (joined If q r) ∷ yes (joined If p r) ∷ []) ≡ wrong_shape 2
cd_exchanged = refl

equiv_row : applied Equiv (yes (joined If p q) ∷ yes (joined If q p) ∷ []) ≡ concludes (joined Iff p q)
equiv_row = refl

equiv_twice : applied Equiv (yes (joined If p q) ∷ yes (joined If p q) ∷ []) ≡ wrong_shape 2
equiv_twice = refl

left-iff_row : applied LeftIff (yes (joined Iff p q) ∷ []) ≡ concludes (joined If p q)
left-iff_row = refl

right-iff_row : applied RightIff (yes (joined Iff p q) ∷ []) ≡ concludes (joined If q p)
right-iff_row = refl

dn_row : applied Dn (yes (negated (negated p)) ∷ []) ≡ concludes p
dn_row = refl

dn_once : applied Dn (yes (negated p) ∷ []) ≡ wrong_shape 1
dn_once = refl

absurd_row : applied Absurd (yes p ∷ yes (negated p) ∷ []) ≡ concludes falsity
absurd_row = refl

true-intro_row : applied TrueIntro [] ≡ concludes truth
true-intro_row = refl

-- a number of arguments comes before their kinds, and argument by argument a kind before a shape
counted_first : applied Mp (other ∷ []) ≡ miscounted 2 1
counted_first = refl

shape_of_the_first : applied Mp (not_yet p ∷ other ∷ []) ≡ wrong_shape 1
shape_of_the_first = refl

kind_of_the_second : applied Mp (not_yet (joined If p q) ∷ other ∷ []) ≡ wrong_kind 2
kind_of_the_second = refl

-- shapes come before what holds, and that from the left
shape_before_base : applied Mp (not_yet (joined If p q) ∷ not_yet r ∷ []) ≡ wrong_shape 2
shape_before_base = refl

the_first_missing : applied Both (not_yet p ∷ not_yet q ∷ []) ≡ not_in_base p
the_first_missing = refl

the_second_missing : applied Both (yes p ∷ not_yet q ∷ []) ≡ not_in_base q
the_second_missing = refl

-- ---- each part of a row's conclusion stands in an argument
abbrev same_part : Part → Part → Bool
same_part A A = true
same_part B B = true
same_part C C = true
same_part m n = false

abbrev stands_in : Part → Shape → Bool
stands_in m (Any n) = same_part m n
stands_in m (Not n) = same_part m n
stands_in m (NotNot n) = same_part m n
stands_in m (Joined k n l) = same_part m n || same_part m l

abbrev is_given : Part → List Premise → Bool
is_given m [] = false
is_given m (r ∷ rs) = stands_in m r.shape || is_given m rs

abbrev is_whole : Conclusion → List Premise → Bool
is_whole (Bare m) rs = is_given m rs
is_whole (Built k m n) rs = is_given m rs && is_given n rs
is_whole True rs = true
is_whole False rs = true

rows_are_whole : (m : Method) → is_whole (row m).conclusion (row m).premises ≡ true
rows_are_whole Claim = refl
rows_are_whole Mp = refl
rows_are_whole Both = refl
rows_are_whole LeftAnd = refl
rows_are_whole RightAnd = refl
rows_are_whole LeftEither = refl
rows_are_whole RightEither = refl
rows_are_whole Cd = refl
rows_are_whole Equiv = refl
rows_are_whole LeftIff = refl
rows_are_whole RightIff = refl
rows_are_whole Dn = refl
rows_are_whole Absurd = refl
rows_are_whole TrueIntro = refl
