-- Each theorem has a derivation, from exactly the sentences asserted before it.
use Rattle.std.specs.Prelude.{List, [], ◌∷◌, ◌++◌}
use Rattle.ath_sorts.specs.Signature.{Signature}
use Rattle.ath_trees.specs.Tree.{Sent}
use Rattle.ath_calculus.specs.Derives.{Derives}
use Rattle.ath_calculus.specs.Theory.{theory_of}
use Rattle.ath_print.specs.Events.{Role, an_assertion, a_theorem, role_of, Event}
use Rattle.ath_session.specs.Said.{Said}

-- an asserted sentence joins those asserted before
abbrev pub asserted_by : List Sent → Role → List Sent
asserted_by ps (an_assertion p) = ps ++ p ∷ []
asserted_by ps _ = ps

abbrev pub asserted_after : List Sent → Event → List Sent
asserted_after ps e = asserted_by ps (role_of e)

-- a theorem is derivable under no hypotheses; other events claim nothing
abbrev pub IsJustifiedRole : Signature → List Sent → Role → Type 0
IsJustifiedRole sig ps (a_theorem p) = Derives (theory_of sig) ps [] p
IsJustifiedRole sig ps _ = Unit {0}

abbrev pub IsJustified : Signature → List Sent → Event → Type 0
IsJustified sig ps e = IsJustifiedRole sig ps (role_of e)

-- each theorem is derivable from exactly the sentences asserted before it, in the signature that is declared by then
abbrev pub AreJustified : List Sent → List Said → Type 0
AreJustified ps [] = Unit {0}
AreJustified ps (s ∷ ss) = IsJustified s.signature ps s.event × AreJustified (asserted_after ps s.event) ss
