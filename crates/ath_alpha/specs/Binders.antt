-- The variables of binders on either side, the innermost first, and how two variables under binders meet.
use Rattle.std.specs.Prelude.{◌==◌, List, [], ◌∷◌, if◌then◌else◌}
use Rattle.ath_trees.specs.declared.node.Var.{Var}
use Rattle.ath_trees.specs.Nameless.{NTerm, nfree, nbound}
use Rattle.ath_alpha.specs.declared.binders.Binders.{Binders, fold-Binders}
use Rattle.ath_alpha.specs.declared.binders.Binders.TheOpen.{Binders-F}
use Rattle.ath_alpha.specs.declared.binders.Meeting.{Meeting}
use Rattle.ath_alpha.specs.declared.binders.Meeting.TheVariants.{Bound, Free, Apart}

abbrev pub left_step : Binders-F (List Var) → List Var
left_step Binders-F.Outside = []
left_step (Binders-F.Under v w outer) = v.now ∷ outer.now

abbrev pub right_step : Binders-F (List Var) → List Var
right_step Binders-F.Outside = []
right_step (Binders-F.Under v w outer) = w.now ∷ outer.now

abbrev pub lefts_of : Binders → List Var
lefts_of = fold-Binders (List Var) left_step

abbrev pub rights_of : Binders → List Var
rights_of = fold-Binders (List Var) right_step

-- both are bound at one place, or both are free
abbrev pub meeting : NTerm → NTerm → Meeting
meeting (nfree v) (nfree w) = Free
meeting (nbound i) (nbound j) = if i == j then Bound else Apart
meeting t u = Apart
