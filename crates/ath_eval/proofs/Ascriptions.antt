-- The node of an ascription.
use Rattle.std.proofs.Common.{◌≡◌, Some, sym, ◌∙◌, subst}
use Rattle.std.specs.Prelude.{slice_get}
use Rattle.ath_syntax.specs.declared.node.Form.{Form}
use Rattle.ath_syntax.specs.declared.node.Form.TheVariants.{Ascribe}
use Rattle.ath_syntax.specs.declared.node.Node.{Node}
use Rattle.ath_syntax.specs.declared.node.PhraseId.{PhraseId}
use Rattle.ath_syntax.specs.declared.node.SortText.{SortText}
use Rattle.ath_syntax.specs.declared.place.Pos.{Pos}
use Rattle.ath_syntax.specs.Nodes.{Nodes}
use Rattle.ath_syntax.specs.Stands.{IsPhrase}
use Rattle.ath_syntax.specs.Tree.{Phrase, ascribe_at}
use Rattle.ath_terms.specs.Trees.{Trees}
use Rattle.ath_env.specs.Values.{Value}
use Rattle.ath_eval.specs.declared.world.Outcome as code
use Rattle.ath_eval.specs.Evaluation.{ascribed}
use Rattle.ath_eval.specs.Outcomes.{Context}
use Rattle.ath_eval.specs.World.{IsSteady}
use Rattle.ath_eval.proofs.Shapes.{form_here, ascription_form}

text_is : (j k : PhraseId) (s t : SortText) → ◌≡◌ {A = Form} (Ascribe j s) (Ascribe k t) → s ≡ t
text_is j k s t e = cc

module _ (nodes : Nodes) where
  pub ascribed_here : (c : Context) (i : PhraseId) (n : Node) (p : Pos) (x : Phrase) (text : SortText) → IsPhrase nodes i (ascribe_at p x text) → slice_get nodes.phrases i.0 ≡ Some n → (j : PhraseId) (s : SortText) → n.form ≡ Ascribe j s → (t : Trees) (o : code.Outcome) (v : Value) → IsSteady t o (ascribed c s v n.pos) → IsSteady t o (ascribed c text v p)
  ascribed_here c i n p x text isp at j s e t o v h =
      let k = ascription_form nodes n.pos p n.form x text (form_here nodes i n (ascribe_at p x text) isp at) in
      let same : s ≡ text = text_is j k.0 s text (sym e ∙ k.1) in
      subst (λ (y : SortText). IsSteady t o (ascribed c y v p)) same (subst (λ (q : Pos). IsSteady t o (ascribed c s v q)) k.2 h)

  pub ascribed_elsewhere : {A : Type 0} (i : PhraseId) (n : Node) (p : Pos) (x : Phrase) (text : SortText) → IsPhrase nodes i (ascribe_at p x text) → slice_get nodes.phrases i.0 ≡ Some n → ((j : PhraseId) (s : SortText) → n.form ≡ Ascribe j s → ⊥) → A
  ascribed_elsewhere i n p x text isp at h =
      let k = ascription_form nodes n.pos p n.form x text (form_here nodes i n (ascribe_at p x text) isp at) in
      absurd (h k.0 text k.1)
