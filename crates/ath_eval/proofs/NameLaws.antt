-- Names, variables and ascriptions.
use Rattle.std.proofs.Common.{◌≡◌, ℕ, true, List, Option, Some, None, Result, Ok, Err, refl, sym, ◌∙◌, ap, subst}
use Rattle.ath_sorts.specs.declared.signature.SigError.{SigError}
use Rattle.ath_sorts.specs.declared.signature.SigError.TheVariants.{Memory, UnknownSort, Arity, Redeclared, TooWide, SortTooLarge, LooseParam}
use Rattle.ath_sorts.specs.declared.sorts.Sort.{Sort}
use Rattle.ath_sorts.specs.declared.sorts.Sym.{Sym}
use Rattle.ath_sorts.specs.Signature.{Signature}
use Rattle.ath_syntax.specs.declared.node.SortText.{SortText}
use Rattle.ath_syntax.specs.declared.place.Pos.{Pos}
use Rattle.ath_declarations.specs.Texts.{meaning, written_in}
use Rattle.ath_declarations.proofs.Keeping.{meant_sort}
use Rattle.ath_terms.specs.declared.fresh.Fresh.{Fresh}
use Rattle.ath_trees.specs.WellSorted.{is_valid_sort}
use Rattle.ath_terms.specs.Trees.{Trees}
use Rattle.ath_trees.proofs.ValidSorts.{use_valid}
use Rattle.ath_env.specs.declared.value.Value as value
use Rattle.ath_env.specs.LookUp.{looked_up}
use Rattle.ath_env.specs.Values.{Value}
use Rattle.ath_env.specs.Stands.{value_at, IsFound}
use Rattle.ath_env.proofs.ValueLaws.{found-some, found-none}
use Rattle.ath_eval.specs.declared.world.Outcome as outcome
use Rattle.ath_eval.specs.Stands.{IsMeant, AreMeant}
use Rattle.ath_eval.specs.Applying.{value_named}
use Rattle.ath_eval.specs.Evaluation.{found, with_sort, sort_refusal}
use Rattle.ath_eval.specs.Outcomes.{Left, Context, Outcome, fails}
use Rattle.ath_eval.specs.World.{IsAnswer, IsSteady}

-- ---- what a name finds
module _ (s t : Trees) (o : outcome.Outcome) (names : List (List ℕ)) (sig : Signature) (x : Sym) (at : Pos) (r : Option value.Value) (is : IsFound s r (looked_up names sig x)) (c : Context) where
  pub named : (v : value.Value) (fresh made : Fresh) → r ≡ Some v → IsAnswer t fresh made o (value_named c (value_at s v) at) → IsAnswer t fresh made o (found c x at (looked_up names sig x))
  named v fresh made e h =
      let k = found-some s r (looked_up names sig x) v is e in
      subst (λ (y : Option Value). IsAnswer t fresh made o (found c x at y)) (sym (k.1 ∙ ap Some (sym k.2.1))) h

  pub unnamed : (fresh : Fresh) → r ≡ None → IsAnswer t fresh fresh o (found c x at None) → IsAnswer t fresh fresh o (found c x at (looked_up names sig x))
  unnamed fresh e h = subst (λ (y : Option Value). IsAnswer t fresh fresh o (found c x at y)) (sym (found-none s r (looked_up names sig x) is e)) h

-- ---- the sort of a text
err_is : (x y : SigError) → ◌≡◌ {A = Result Sort SigError} (Err x) (Err y) → x ≡ y
err_is x y e = cc

pub meant : (sig : Signature) (text : SortText) (r : Result Sort SigError) (sort : Sort) → IsMeant sig text r → r ≡ Ok sort → meaning sig text ≡ Ok sort
meant sig text (Ok q) sort h e = h ∙ e
meant sig text (Err q) sort h e = absurd (cc)

pub valid_meaning : (sig : Signature) (text : SortText) (r : Result Sort SigError) (sort : Sort) → IsMeant sig text r → r ≡ Ok sort → is_valid_sort sig sort ≡ true
valid_meaning sig text r sort h e = use_valid sig (written_in sort) sort (meant_sort sig text sort (meant sig text r sort h e)).there

pub not_meant : (sig : Signature) (text : SortText) (r : Result Sort SigError) (e : SigError) → IsMeant sig text r → r ≡ Err e → (e ≡ Memory → ⊥) → meaning sig text ≡ Err e
not_meant sig text (Ok q) e h k n = absurd (cc)
not_meant sig text (Err Memory) e h k n = absurd (n (err_is e Memory (sym k)))
not_meant sig text (Err (UnknownSort a)) e h k n = h ∙ k
not_meant sig text (Err (Arity a)) e h k n = h ∙ k
not_meant sig text (Err (Redeclared a)) e h k n = h ∙ k
not_meant sig text (Err (TooWide a)) e h k n = h ∙ k
not_meant sig text (Err (LooseParam a)) e h k n = h ∙ k
not_meant sig text (Err SortTooLarge) e h k n = h ∙ k

module _ (sig : Signature) (text : SortText) (r : Result Sort SigError) (m : IsMeant sig text r) (t : Trees) (o : outcome.Outcome) (at : Pos) where
  pub sorted_by : (sort : Sort) (go : Sort → Pos → Left → Outcome) → r ≡ Ok sort → IsSteady t o (go sort at) → IsSteady t o (with_sort (meaning sig text) go at)
  sorted_by sort go e h = subst (λ (x : Result Sort SigError). IsSteady t o (with_sort x go at)) (sym (meant sig text r sort m e)) h

  pub sorted_not : (e : SigError) (go : Sort → Pos → Left → Outcome) → r ≡ Err e → (e ≡ Memory → ⊥) → IsSteady t o (fails at (sort_refusal e)) → IsSteady t o (with_sort (meaning sig text) go at)
  sorted_not e go k n h = subst (λ (x : Result Sort SigError). IsSteady t o (with_sort x go at)) (sym (not_meant sig text r e m k n)) h

-- ---- the sort of a variable, where one is written
pub none_written : (sig : Signature) (text : Option SortText) (r : Option (Result Sort SigError)) → AreMeant sig text r → r ≡ None → text ≡ None
none_written sig None None h e = refl
none_written sig (Some text) None h e = absurd h
none_written sig text (Some q) h e = absurd (cc)

pub some_written : (sig : Signature) (text : Option SortText) (r : Option (Result Sort SigError)) (q : Result Sort SigError) → AreMeant sig text r → r ≡ Some q → (one : SortText) × (text ≡ Some one) × IsMeant sig one q
some_written sig None (Some p) q h e = absurd h
some_written sig (Some one) (Some p) q h e = let k : p ≡ q = cc in (one, refl, rw k at h)
some_written sig text None q h e = absurd (cc)
