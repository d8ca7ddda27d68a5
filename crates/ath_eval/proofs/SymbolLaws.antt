-- Applications of symbols.
use Rattle.std.proofs.Common.{◌≡◌, ◌==◌, ℕ, ◌+◌, Bool, true, cond, List, [], ◌∷◌, length, map, Option, Some, None, Result, refl, sym, ◌∙◌, ap, subst, arith}
use Rattle.std.specs.Prelude.{option_map}
use Rattle.std.proofs.lemmas.Grind.{common_steps}
use Rattle.ath_sorts.specs.declared.signature.Symbol.{Symbol}
use Rattle.ath_sorts.specs.Signature.{Signature}
use Rattle.ath_syntax.specs.declared.place.Pos.{Pos}
use Rattle.ath_terms.specs.declared.fresh.Fresh.{Fresh}
use Rattle.ath_terms.specs.declared.measure.BuildError.{BuildError}
use Rattle.ath_trees.specs.declared.node.SentId.{SentId}
use Rattle.ath_trees.specs.declared.node.TermId.{TermId}
use Rattle.ath_construction.specs.Construction.{Built, made_app, made_equation}
use Rattle.ath_construction.specs.Answers.{IsTermBuilt, IsSentBuilt}
use Rattle.ath_trees.specs.Tree.{Term, Sent}
use Rattle.ath_terms.specs.Trees.{Trees, term_at}
use Rattle.ath_env.specs.declared.value.Value as value
use Rattle.ath_env.specs.declared.value.Value.TheVariants as code
use Rattle.ath_env.specs.Values.{term_of}
use Rattle.ath_env.specs.Stands.{value_at}
use Rattle.ath_print.specs.declared.fault.FaultKind.TheVariants.{WrongKind}
use Rattle.ath_print.specs.Events.{number_named}
use Rattle.ath_eval.specs.declared.world.Outcome as outcome
use Rattle.ath_eval.specs.Applying.{Kinds, all_are, wrong_at, kinds_of, gives_term, gives_sentence, after_params, symbol_to, symbol_applied, equation_to, wrong_kind}
use Rattle.ath_eval.specs.Arguments.{values_at, wanted_by}
use Rattle.ath_eval.specs.Outcomes.{Left, Outcome, fails, refusal}
use Rattle.ath_eval.specs.World.{IsAnswer, IsSteady}
use Rattle.ath_eval.proofs.KindLaws.{kinds_terms, length_map}

pub same_count : (m n : ℕ) → m ≡ n → (m == n) ≡ true
same_count m n e = grind (arith, common_steps)

pub some_is : {A : Type 0} (x y : A) → ◌≡◌ {A = Option A} (Some x) (Some y) → x ≡ y
some_is x y e = cc

-- the arguments of a symbol that is declared
pub declared_with : (o : Option Symbol) (n m : ℕ) → wanted_by o ≡ Some n → n ≡ m → (d : Symbol) × (o ≡ Some d) × (length d.args ≡ m)
declared_with (Some d) n m e h = (d, refl, some_is (length d.args) n e ∙ h)
declared_with None n m e h = absurd (cc)

pub as_wanted : (o : Option Symbol) (d e : Symbol) (n : ℕ) → o ≡ Some d → length d.args ≡ n → o ≡ Some e → length e.args ≡ n
as_wanted o d e n p h q = let k : d ≡ e = some_is d e (sym p ∙ q) in ap (λ (x : Symbol). length x.args) (sym k) ∙ h

module _ (sig : Signature) (s : Trees) (vs : List value.Value) (at : Pos) (o : outcome.Outcome) where
  module _ (d : Symbol) (many : length d.args ≡ length vs) where
    applied_is : (k : Kinds Term) → kinds_of term_of 1 (values_at s vs) ≡ k → symbol_applied sig d (values_at s vs) ≡ symbol_to sig d k
    applied_is k e =
        let t : (length d.args == length (values_at s vs)) ≡ true = same_count (length d.args) (length (values_at s vs)) (many ∙ sym (length_map (value_at s) vs)) in
        rw t (ap (symbol_to sig d) e)

    pub declared_wrong : (i : ℕ) (t : Trees) (fresh : Fresh) → kinds_of term_of 1 (values_at s vs) ≡ wrong_at i → IsSteady t o (fails at (refusal WrongKind (number_named i ∷ []))) → IsAnswer t fresh fresh o (symbol_applied sig d (values_at s vs) at)
    declared_wrong i t fresh e h = subst (λ (f : Pos → Left → Outcome). IsAnswer t fresh fresh o (f at)) (sym (applied_is (wrong_at i) e)) (h fresh)

    pub declared_made : (ids : List TermId) (t : Trees) (fresh made : Fresh) (r : Result TermId BuildError) → vs ≡ map (λ i. code.Term i) ids
        → made ≡ record { var = fresh.var; sort = cond (length d.args == length ids) (fresh.sort + length d.params) fresh.sort }
        → IsTermBuilt sig t (made_app sig fresh.sort d (map (λ i. term_at s.terms i.0) ids)) r
        → ((b : Built Term) → IsTermBuilt sig t b r → IsSteady t o (gives_term sig b at))
        → IsAnswer t fresh made o (symbol_applied sig d (values_at s vs) at)
    declared_made ids t fresh made r are counted h f =
        let ts = map (λ (i : TermId). term_at s.terms i.0) ids in
        let n : length d.args ≡ length ids = many ∙ ap length are ∙ length_map (λ (i : TermId). code.Term i) ids in
        let c : made ≡ after_params d fresh = counted ∙ ap (λ (b : Bool). record { var = fresh.var; sort = cond b (fresh.sort + length d.params) fresh.sort }) (same_count (length d.args) (length ids) n) in
        let g : IsSteady t o (gives_term sig (made_app sig fresh.sort d ts) at) = f (made_app sig fresh.sort d ts) h in
        let k : IsAnswer t fresh (after_params d fresh) o (symbol_to sig d (all_are ts) at) = g (after_params d fresh) in
        subst (λ (q : Fresh). IsAnswer t fresh q o (symbol_applied sig d (values_at s vs) at)) (sym c)
        (subst (λ (f : Pos → Left → Outcome). IsAnswer t fresh (after_params d fresh) o (f at)) (sym (applied_is (all_are ts) (kinds_terms s vs ids are))) k)

-- ---- an equation of two values
pub equation_here : (sig : Signature) (s t : Trees) (v w : value.Value) (i j : TermId) (o u : Option TermId) (r : Result SentId BuildError) (out : outcome.Outcome) (at : Pos) → o ≡ Some i → u ≡ Some j
    → term_of (value_at s v) ≡ option_map (λ t. term_at s.terms t.0) o → term_of (value_at s w) ≡ option_map (λ t. term_at s.terms t.0) u
    → IsSentBuilt t (made_equation sig (term_at s.terms i.0) (term_at s.terms j.0)) r → ((b : Built Sent) → IsSentBuilt t b r → IsSteady t out (gives_sentence b at)) → IsSteady t out (equation_to sig (term_of (value_at s v)) (term_of (value_at s w)) at)
equation_here sig s t v w i j o u r out at e f p q h go =
    let l : term_of (value_at s v) ≡ Some (term_at s.terms i.0) = p ∙ ap (λ (x : Option TermId). option_map (λ (t : TermId). term_at s.terms t.0) x) e in
    let m : term_of (value_at s w) ≡ Some (term_at s.terms j.0) = q ∙ ap (λ (x : Option TermId). option_map (λ (t : TermId). term_at s.terms t.0) x) f in
    rw (l, m) (go (made_equation sig (term_at s.terms i.0) (term_at s.terms j.0)) h)

-- one side is no term
pub no_left : (sig : Signature) (s t : Trees) (v : value.Value) (x : Option Term) (o : Option TermId) (out : outcome.Outcome) (at : Pos) → o ≡ None → term_of (value_at s v) ≡ option_map (λ t. term_at s.terms t.0) o → IsSteady t out (wrong_kind 1 at) → IsSteady t out (equation_to sig (term_of (value_at s v)) x at)
no_left sig s t v x o out at e p h = let l : term_of (value_at s v) ≡ None = p ∙ ap (λ (y : Option TermId). option_map (λ (t : TermId). term_at s.terms t.0) y) e in rw l h

pub no_right : (sig : Signature) (s t : Trees) (v w : value.Value) (i : TermId) (o u : Option TermId) (out : outcome.Outcome) (at : Pos) → o ≡ Some i → u ≡ None
    → term_of (value_at s v) ≡ option_map (λ t. term_at s.terms t.0) o → term_of (value_at s w) ≡ option_map (λ t. term_at s.terms t.0) u → IsSteady t out (wrong_kind 2 at) → IsSteady t out (equation_to sig (term_of (value_at s v)) (term_of (value_at s w)) at)
no_right sig s t v w i o u out at e f p q h =
    let l : term_of (value_at s v) ≡ Some (term_at s.terms i.0) = p ∙ ap (λ (x : Option TermId). option_map (λ (t : TermId). term_at s.terms t.0) x) e in
    let m : term_of (value_at s w) ≡ None = q ∙ ap (λ (x : Option TermId). option_map (λ (t : TermId). term_at s.terms t.0) x) f in
    rw (l, m) h
