-- Fuel never rises, the counters never fall, more fuel changes only what is left, and a step takes few fresh names.
use Rattle.std.proofs.Common.{ℕ, ◌+◌, arith}
use Rattle.ath_syntax.specs.Tree.{Phrase}
use Rattle.ath_terms.specs.declared.fresh.Fresh.{Fresh}
use Rattle.ath_eval.specs.Outcomes.{Context, Environment, left_of}
use Rattle.ath_eval.specs.Evaluation.{evaluated}
use Rattle.ath_eval.specs.Laws.{MoreFuel, FuelNeverRises, StepsTakeFew}
use Rattle.ath_eval.specs.Room.{charged}
use Rattle.ath_eval.proofs.Regular.{IsKept, IsRegular, wider, evaluated-regular}

anything : (c : Context) → IsKept c (λ v. Unit {0}) (λ p. Unit {0})
anything c = record {
  shown = λ p h. tt;
  named = λ x v e. tt;
  unsorted = λ x k n. tt;
  sorted = λ x k text s e. tt;
  ascribes = λ v t x text s h is e b. tt;
  applies = λ f d vs ts n x is h l e b. tt;
  equates = λ v w s t x h k e f b. tt;
  connects = λ k vs xs x h e b. tt;
  quantifies = λ q vs w xs y x h p e f b. tt;
  renames = λ p q e h. tt;
  detaches = λ p q h k. tt;
}

regular : (c : Context) (env : Environment) (levels : ℕ) (x : Phrase) (fresh : Fresh) → IsRegular c.theory.signature (λ v. Unit {0}) (λ p. Unit {0}) 0 fresh (λ n. evaluated c levels env x (left_of n fresh))
regular c env levels x fresh = evaluated-regular c (λ v. Unit {0}) (λ p. Unit {0}) (anything c) levels env (λ p i. tt) x fresh

pub more-fuel : MoreFuel
more-fuel = λ c env levels x k left s. (regular c env levels x left.fresh).kept left.fuel k s

pub never-rises : FuelNeverRises
never-rises = λ c env levels x left. (regular c env levels x left.fresh).moves left.fuel

pub take-few : StepsTakeFew
take-few = λ c env levels x left bound w h.
    wider (charged (left.fuel + 0) left.fresh) bound (evaluated c levels env x left) (omega (arith, h.0), omega (arith, h.1))
    ((regular c env levels x left.fresh).room w left.fuel)
