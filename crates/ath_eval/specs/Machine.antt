-- The machine that evaluates: what waits for a part's outcome, and what a stack of that gives.
use Rattle.std.specs.Prelude.{◌≡◌, ℕ, ◌+◌, ◌*◌, ◌<◌, ◌≤◌, List, [], ◌∷◌, ◌++◌, length, drop, Option, Some, None, slice_get}
use Rattle.ath_syntax.specs.declared.node.PhraseId.{PhraseId}
use Rattle.ath_syntax.specs.declared.node.Form.{Form}
use Rattle.ath_syntax.specs.declared.node.Form.TheVariants.{Apply, Call}
use Rattle.ath_syntax.specs.declared.node.Node.{Node}
use Rattle.ath_syntax.specs.Fits.{most}
use Rattle.ath_syntax.specs.Nodes.{Nodes}
use Rattle.ath_syntax.specs.Stands.{IsPhrase, ArePhrases}
use Rattle.ath_syntax.specs.Tree.{Phrase, ascribe_at, apply_at, call_at, Phrases}
use Rattle.ath_syntax.specs.declared.place.Pos.{Pos}
use Rattle.ath_syntax.specs.declared.node.SortText.{SortText}
use Rattle.ath_terms.specs.declared.fresh.Fresh.{Fresh}
use Rattle.ath_terms.specs.Trees.{Trees, Grows}
use Rattle.ath_base.specs.declared.base.Node.{Node as BaseNode}
use Rattle.ath_base.specs.declared.base.ScopeId.{ScopeId}
use Rattle.ath_base.specs.Base.{Entry}
use Rattle.ath_base.specs.Stands.{IsScope}
use Rattle.ath_env.specs.declared.value.Value as value
use Rattle.ath_env.specs.Values.{Value}
use Rattle.ath_env.specs.Stands.{IsValue, AreValues}
use Rattle.ath_eval.specs.declared.frame.Frame.{Frame}
use Rattle.ath_eval.specs.declared.frame.Frame.TheVariants.{Head, Argument, Ascription}
use Rattle.ath_eval.specs.declared.frame.State.{State}
use Rattle.ath_eval.specs.declared.frame.Use.{Use}
use Rattle.ath_eval.specs.declared.frame.Use.TheVariants as uses
use Rattle.ath_eval.specs.declared.frame.State.TheVariants.{Enter, Done}
use Rattle.ath_eval.specs.declared.world.Outcome as code
use Rattle.ath_eval.specs.declared.world.Outcome.TheVariants as ends
use Rattle.ath_eval.specs.Outcomes.{Context, Environment, Left, left_of, Outcome, and_then, then_in, each}
use Rattle.ath_eval.specs.Applying.{applied}
use Rattle.ath_eval.specs.Methods.{called}
use Rattle.ath_eval.specs.Evaluation.{evaluated, form, ascribed}
use Rattle.ath_eval.specs.World.{with_base, IsOutcome}

-- what an evaluation reads: the nodes of its assumption bases, and the scope in which it stands
pub record Reading : Type 0 where
  pub context : Context
  pub base : List BaseNode
  pub scope : ScopeId

-- of a phrase whose step is taken
abbrev pub forms : Context → ℕ → Environment → Phrase → Left → Outcome
forms c levels env = form c (evaluated c levels) env

-- an application or a call of a head with arguments
abbrev pub used : Use → Pos → Phrase → Phrases → Phrase
used uses.Apply p f xs = apply_at p f xs
used uses.Call p f xs = call_at p f xs

-- what becomes of the head and the arguments, in the environment that the arguments leave
abbrev pub acts : Context → ℕ → Use → Pos → Value → Environment → List Value → Left → Outcome
acts c levels uses.Apply p v env vs = applied c (evaluated c levels) env v vs p
acts c levels uses.Call p v env vs = called c (evaluated c levels) env v vs p

-- the numbers of the arguments
abbrev pub form_arguments : Form → List PhraseId
form_arguments (Apply f is) = is
form_arguments (Call f is) = is
form_arguments x = []

abbrev pub node_arguments : Option Node → List PhraseId
node_arguments None = []
node_arguments (Some n) = form_arguments n.form

abbrev pub arguments_at : Nodes → PhraseId → List PhraseId
arguments_at nodes i = node_arguments (slice_get nodes.phrases i.0)

-- the frame makes this outcome of its part's outcome
abbrev pub Fills : Context → Nodes → List BaseNode → Trees → Frame → Outcome → Outcome → Type 0
Fills c nodes ns s (Head u i levels k) r out =
    (p : Pos) × (f : Phrase) × (xs : Phrases) × (es : List Entry) × IsPhrase nodes i (used u p f xs) × IsScope s ns k.0 es
    × (out ≡ and_then r (λ v. each (evaluated c levels) (with_base es) [] xs (acts c levels u p v)))
Fills c nodes ns s (Argument u i h done levels k) r out =
    (p : Pos) × (f : Phrase) × (xs : Phrases) × (v : Value) × (vs : List Value) × (rest : Phrases) × (es : List Entry) × IsPhrase nodes i (used u p f xs) × IsValue s h v × AreValues s done vs
    × (length done < most) × ArePhrases nodes (drop (length done + 1) (arguments_at nodes i)) rest × IsScope s ns k.0 es
    × (out ≡ then_in (with_base es) r (λ env w. each (evaluated c levels) env (vs ++ w ∷ []) rest (acts c levels u p v)))
Fills c nodes ns s (Ascription i) r out =
    (p : Pos) × (x : Phrase) × (text : SortText) × IsPhrase nodes i (ascribe_at p x text) × (out ≡ and_then r (λ v. ascribed c text v p))

-- the frames, of which the last is resumed first, make this outcome
abbrev pub Resumes : Context → Nodes → List BaseNode → Trees → List Frame → Outcome → Outcome → Type 0
Resumes c nodes ns s [] r out = out ≡ r
Resumes c nodes ns s (f ∷ fs) r out = (mid : Outcome) × Resumes c nodes ns s fs r mid × Fills c nodes ns s f mid out

-- from this state, with this fuel, the machine is to give this outcome
abbrev pub Means : Reading → Nodes → Trees → ℕ → Fresh → State → List Frame → Outcome → Type 0
Means c nodes s fuel fresh (Enter i levels) fs out =
    (x : Phrase) × (es : List Entry) × IsPhrase nodes i x × IsScope s c.base c.scope.0 es × Resumes c.context nodes c.base s fs (evaluated c.context levels (with_base es) x (left_of fuel fresh)) out
Means c nodes s fuel fresh (Done o) fs out =
    (r : Outcome) × IsOutcome s fuel fresh o r × Resumes c.context nodes c.base s fs r out

-- what is left to do
abbrev pub rank : State → ℕ
rank (Enter i levels) = 1
rank (Done (ends.Value v)) = 2
rank (Done (ends.Theorem p)) = 2
rank (Done (ends.Error why at)) = 2
rank (Done (ends.Exhausted at)) = 0

abbrev pub weight : ℕ → State → List Frame → ℕ
weight fuel st fs = 4 * fuel + 2 * length fs + rank st

-- a stretch of the machine's work, which keeps the outcomes that were to come
pub record Steps (nodes : Nodes) (old : Trees) (before : Outcome → Type 0) (bound : ℕ) (c : Reading) (new : Trees) (fuel : ℕ) (fresh : Fresh) (st : State) (fs : List Frame) : Type 0 where
  pub grows : Grows old new
  pub means : (out : Outcome) → before out → Means c nodes new fuel fresh st fs out
  pub falls : weight fuel st fs < bound

-- the phrase's step is taken, and its parts have this many levels
abbrev pub FormMeans : Reading → Nodes → Trees → ℕ → Fresh → PhraseId → ℕ → List Frame → Outcome → Type 0
FormMeans c nodes s fuel fresh i levels fs out =
    (x : Phrase) × (es : List Entry) × IsPhrase nodes i x × IsScope s c.base c.scope.0 es × Resumes c.context nodes c.base s fs (forms c.context levels (with_base es) x (left_of fuel fresh)) out

-- the head is known, and all the arguments
abbrev pub ActMeans : Reading → Nodes → Trees → ℕ → Fresh → Use → PhraseId → value.Value → List value.Value → ℕ → List Frame → Outcome → Type 0
ActMeans c nodes s fuel fresh u i h args levels fs out =
    (p : Pos) × (f : Phrase) × (xs : Phrases) × (v : Value) × (vs : List Value) × (es : List Entry) × IsPhrase nodes i (used u p f xs) × IsValue s h v × AreValues s args vs × IsScope s c.base c.scope.0 es
    × Resumes c.context nodes c.base s fs (acts c.context levels u p v (with_base es) vs (left_of fuel fresh)) out

-- the head is known, and these arguments
abbrev pub ArgumentsMean : Reading → Nodes → Trees → ℕ → Fresh → Use → PhraseId → value.Value → List value.Value → ℕ → List Frame → Outcome → Type 0
ArgumentsMean c nodes s fuel fresh u i h done levels fs out =
    (p : Pos) × (f : Phrase) × (xs : Phrases) × (v : Value) × (vs : List Value) × (rest : Phrases) × (es : List Entry) × IsPhrase nodes i (used u p f xs) × IsValue s h v × AreValues s done vs
    × (length done ≤ most) × ArePhrases nodes (drop (length done) (arguments_at nodes i)) rest × IsScope s c.base c.scope.0 es
    × Resumes c.context nodes c.base s fs (each (evaluated c.context levels) (with_base es) vs rest (acts c.context levels u p v) (left_of fuel fresh)) out

-- a frame has been taken off, and gets an outcome
abbrev pub FrameMeans : Reading → Nodes → Trees → ℕ → Fresh → code.Outcome → Frame → List Frame → Outcome → Type 0
FrameMeans c nodes s fuel fresh o f fs out =
    (r : Outcome) × (mid : Outcome) × IsOutcome s fuel fresh o r × Fills c.context nodes c.base s f r mid × Resumes c.context nodes c.base s fs mid out
