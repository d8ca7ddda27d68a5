-- The outcomes of constructions.
use Rattle.std.proofs.Common.{◌≡◌, Result, Ok, Err, refl, sym, ap, subst}
use Rattle.ath_sorts.specs.Signature.{Signature}
use Rattle.ath_syntax.specs.declared.place.Pos.{Pos}
use Rattle.ath_construction.specs.Answers.{IsRefused, IsTermBuilt, IsSentBuilt}
use Rattle.ath_construction.specs.Construction.{Unbuilt, counts, clash, sort_above, nodes_above, levels_above, Built, refuses}
use Rattle.ath_terms.specs.declared.measure.BuildError.{BuildError}
use Rattle.ath_terms.specs.declared.measure.BuildError.TheVariants.{SortClash, ArgCount, NotBoolean, TooLarge, TooDeep, SortTooLarge, Memory}
use Rattle.ath_trees.specs.declared.node.SentId.{SentId}
use Rattle.ath_trees.specs.declared.node.TermId.{TermId}
use Rattle.ath_trees.specs.Tree.{Term, Sent}
use Rattle.ath_terms.specs.Trees.{Trees}
use Rattle.ath_env.specs.declared.value.Value.TheVariants as code
use Rattle.ath_env.specs.Values.{a_term, a_sentence}
use Rattle.ath_eval.specs.declared.world.Outcome as outcome
use Rattle.ath_eval.specs.declared.world.Outcome.TheVariants as ends
use Rattle.ath_eval.specs.Applying.{gives_term, gives_sentence}
use Rattle.ath_eval.specs.Building.{told}
use Rattle.ath_eval.specs.Stands.{IsWhy}
use Rattle.ath_eval.specs.Outcomes.{fails}
use Rattle.ath_eval.specs.World.{IsSteady}

-- the refusal that an error is
pub refused_why : {T : Type 0} (s : Trees) (b : Built T) (e : BuildError) → (e ≡ Memory → ⊥) → IsRefused s b e → (why : Unbuilt) × (b ≡ refuses why) × IsWhy s e why
refused_why s b (SortClash l r) n h = (clash (l, r), h, refl)
refused_why s b (ArgCount want given) n h = (counts want given, h, refl)
refused_why s b (NotBoolean t) n (x, h, is) = (_, h, (x, refl, is))
refused_why s b (TooLarge k) n h = (nodes_above k, h, refl)
refused_why s b (TooDeep k) n h = (levels_above k, h, refl)
refused_why s b SortTooLarge n h = (sort_above, h, refl)
refused_why s b Memory n h = absurd (n refl)

module _ (s : Trees) (at : Pos) where
  module _ (sig : Signature) (b : Built Term) (r : Result TermId BuildError) where
    pub term_answer : (t : TermId) → r ≡ Ok t → IsTermBuilt sig s b r → IsSteady s (ends.Value (code.Term t)) (gives_term sig b at)
    term_answer t e h =
        let k : IsTermBuilt sig s b (Ok t) = subst (λ (q : Result TermId BuildError). IsTermBuilt sig s b q) e h in
        subst (λ (c : Built Term). IsSteady s (ends.Value (code.Term t)) (gives_term sig c at)) (sym k.1)
        (λ fresh fuel. ((k.2.0.0, λ i. a_term (k.2.0.1 i) (k.2.1 i)), refl, refl))

    pub term_refused : (e : BuildError) (o : outcome.Outcome) → r ≡ Err e → IsTermBuilt sig s b r → (e ≡ Memory → ⊥) → ((why : Unbuilt) → IsWhy s e why → IsSteady s o (fails at (told why))) → IsSteady s o (gives_term sig b at)
    term_refused e o q h n f =
        let k : IsTermBuilt sig s b (Err e) = subst (λ (x : Result TermId BuildError). IsTermBuilt sig s b x) q h in
        let w = refused_why s b e n k in
        subst (λ (c : Built Term). IsSteady s o (gives_term sig c at)) (sym w.1) (f w.0 w.2)

  module _ (b : Built Sent) (r : Result SentId BuildError) where
    pub sent_answer : (p : SentId) → r ≡ Ok p → IsSentBuilt s b r → IsSteady s (ends.Value (code.Sent p)) (gives_sentence b at)
    sent_answer p e h =
        let k : IsSentBuilt s b (Ok p) = subst (λ (q : Result SentId BuildError). IsSentBuilt s b q) e h in
        subst (λ (c : Built Sent). IsSteady s (ends.Value (code.Sent p)) (gives_sentence c at)) (sym k.1)
        (λ fresh fuel. ((k.2.0, ap a_sentence k.2.1), refl, refl))

    pub sent_refused : (e : BuildError) (o : outcome.Outcome) → r ≡ Err e → IsSentBuilt s b r → (e ≡ Memory → ⊥) → ((why : Unbuilt) → IsWhy s e why → IsSteady s o (fails at (told why))) → IsSteady s o (gives_sentence b at)
    sent_refused e o q h n f =
        let k : IsSentBuilt s b (Err e) = subst (λ (x : Result SentId BuildError). IsSentBuilt s b x) q h in
        let w = refused_why s b e n k in
        subst (λ (c : Built Sent). IsSteady s o (gives_sentence c at)) (sym w.1) (f w.0 w.2)
