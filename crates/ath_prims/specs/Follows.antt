-- What a method concludes is derivable where its arguments are that hold.
use Rattle.std.specs.Prelude.{◌≡◌, Bool, true, List, [], ◌∷◌, Option, Some, None}
use Rattle.std.specs.List.{AllByRecursion}
use Rattle.ath_trees.specs.Tree.{Sent}
use Rattle.ath_trees.specs.WellSorted.{IsWellSorted, AreWellSorted}
use Rattle.ath_calculus.specs.Derives.{Derives}
use Rattle.ath_calculus.specs.Theory.{Theory}
use Rattle.ath_prims.specs.declared.method.Method.{Method}
use Rattle.ath_prims.specs.Applied.{Argument, applied, concludes}
use Rattle.ath_prims.specs.Stands.{HasConstants}

-- a sentence is well-sorted, and derivable where it holds
pub record IsSound (th : Theory) (asserted hyps : List Sent) (x : Argument) : Type 0 where
  pub sorted : (p : Sent) → x.sentence ≡ Some p → IsWellSorted th.signature p
  pub derived : (p : Sent) → x.sentence ≡ Some p → x.holds ≡ true → Derives th asserted hyps p

abbrev pub Follows : List Argument → Sent → Type 0
Follows xs q =
    (th : Theory) (asserted hyps : List Sent) → AreWellSorted th.signature hyps → HasConstants th.signature
    → AllByRecursion (IsSound th asserted hyps) xs → Derives th asserted hyps q

abbrev pub AnswersFollow : Type 0
AnswersFollow = (m : Method) (xs : List Argument) (q : Sent) → applied m xs ≡ concludes q → Follows xs q
