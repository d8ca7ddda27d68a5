-- What modus ponens answers.
use Rattle.std.specs.Prelude.{is_some}
use Rattle.std.proofs.lemmas.Grind.{common_steps}
use Rattle.std.proofs.Common.{◌≡◌, ◌==◌, ℕ, Bool, true, false, List, Option, Some, None, refl, sym, ◌∙◌, subst, arith}
use Rattle.ath_syntax.specs.declared.place.Pos.{Pos}
use Rattle.ath_trees.specs.declared.node.Binary.TheVariants.{If}
use Rattle.ath_trees.specs.Tree.{Sent, joined}
use Rattle.ath_terms.specs.Trees.{Trees}
use Rattle.ath_terms.specs.declared.fresh.Fresh.{Fresh}
use Rattle.ath_trees.specs.Instance.{is_alpha_equal}
use Rattle.ath_eval.specs.declared.world.Outcome as code
use Rattle.ath_env.specs.Values.{Value}
use Rattle.ath_base.specs.Base.{Entry, holds}
use Rattle.ath_eval.specs.Methods.{if_held, detached, from_implication, modus_ponens, wrong_shape, not_in_base, claimed, ponens, by_method}
use Rattle.ath_eval.specs.Outcomes.{Environment, Left, Outcome, concludes}
use Rattle.ath_eval.specs.World.{IsAnswer, IsSteady}

-- a sentence that the base holds, and one that it doesn't
pub held : (o : Option Entry) (p : Sent) (go : Left → Outcome) (at : Pos) → is_some o ≡ true → if_held o p go at ≡ go
held (Some e) p go at h = refl
held None p go at h = cc

pub not_held : (o : Option Entry) (p : Sent) (go : Left → Outcome) (at : Pos) → is_some o ≡ false → if_held o p go at ≡ not_in_base p at
not_held None p go at h = refl
not_held (Some e) p go at h = cc

module _ (base : List Entry) (p a b q : Sent) (at : Pos) (t : Bool) (same : t ≡ is_alpha_equal q a) where
  pub other_premise : t ≡ false → detached base p a b q at ≡ wrong_shape 2 at
  other_premise e = let f : is_alpha_equal q a ≡ false = sym same ∙ e in rw f refl

  module _ (e : t ≡ true) where
    same-premise : detached base p a b q at ≡ if_held (holds base p) p (if_held (holds base q) q (concludes b) at) at
    same-premise = let f : is_alpha_equal q a ≡ true = sym same ∙ e in rw f refl

    pub no_implication : is_some (holds base p) ≡ false → detached base p a b q at ≡ not_in_base p at
    no_implication h = same-premise ∙ not_held (holds base p) p (if_held (holds base q) q (concludes b) at) at h

    both : is_some (holds base p) ≡ true → detached base p a b q at ≡ if_held (holds base q) q (concludes b) at
    both h = same-premise ∙ held (holds base p) p (if_held (holds base q) q (concludes b) at) at h

    pub no_premise : is_some (holds base p) ≡ true → is_some (holds base q) ≡ false → detached base p a b q at ≡ not_in_base q at
    no_premise h k = both h ∙ not_held (holds base q) q (concludes b) at k

    pub conclusion : is_some (holds base p) ≡ true → is_some (holds base q) ≡ true → detached base p a b q at ≡ concludes b
    conclusion h k = both h ∙ held (holds base q) q (concludes b) at k

pub of_implication : (base : List Entry) (p a b : Sent) (q : Option Sent) → p ≡ joined If a b → modus_ponens base p q ≡ from_implication base p a b q
of_implication base p a b q e = rw e refl

-- `claim` is the method 0
pub first_method : (env : Environment) (n : ℕ) (vs : List Value) (at : Pos) → n ≡ 0 → by_method env n vs at ≡ claimed env.base vs at
first_method env n vs at e = rw e refl

pub other_method : (env : Environment) (n : ℕ) (vs : List Value) (at : Pos) → (n ≡ 0 → ⊥) → by_method env n vs at ≡ ponens env.base vs at
other_method env n vs at h = let q : (n == 0) ≡ false = grind (arith, common_steps) in rw q refl

pub same_answer : (s : Trees) (o : code.Outcome) (f g : Left → Outcome) → f ≡ g → IsSteady s o g → IsSteady s o f
same_answer s o f g e h = subst (λ (x : Left → Outcome). IsSteady s o x) (sym e) h

pub same_moving : (s : Trees) (fresh made : Fresh) (o : code.Outcome) (f g : Left → Outcome) → f ≡ g → IsAnswer s fresh made o g → IsAnswer s fresh made o f
same_moving s fresh made o f g e h = subst (λ (x : Left → Outcome). IsAnswer s fresh made o x) (sym e) h
