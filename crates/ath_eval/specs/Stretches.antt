-- What the machine's functions do, from one world to another.
use Rattle.std.specs.Prelude.{ℕ, ◌+◌, ◌*◌, ◌<◌, ◌≤◌, List, length}
use Rattle.ath_syntax.specs.declared.node.PhraseId.{PhraseId}
use Rattle.ath_syntax.specs.Nodes.{Nodes}
use Rattle.ath_trees.specs.declared.node.SentId.{SentId}
use Rattle.ath_terms.specs.Trees.{Trees, sent_at}
use Rattle.ath_base.specs.declared.base.Node.{Node as BaseNode}
use Rattle.ath_env.specs.declared.value.Value.{Value}
use Rattle.ath_env.specs.Values.{value_of}
use Rattle.ath_eval.specs.declared.frame.Frame.{Frame}
use Rattle.ath_eval.specs.declared.frame.Frame.TheVariants.{Head, Argument, Ascription}
use Rattle.ath_eval.specs.declared.frame.State.{State}
use Rattle.ath_eval.specs.declared.frame.Use.{Use}
use Rattle.ath_eval.specs.declared.frame.State.TheVariants.{Enter, Done}
use Rattle.ath_eval.specs.declared.world.Outcome as code
use Rattle.ath_eval.specs.declared.world.World.{World}
use Rattle.ath_eval.specs.Machine.{Reading, Means, FormMeans, ActMeans, ArgumentsMean, FrameMeans, Fills, Steps, weight, rank}
use Rattle.ath_eval.specs.Outcomes.{Context, Left, Outcome, gives, concludes}
use Rattle.ath_eval.specs.World.{context_of}

abbrev pub reading : World → Reading
reading w = record { context = context_of w; base = w.base.nodes.items; scope = w.scope }

-- what the later world reads, in the context of the earlier
abbrev pub reading_after : World → World → Reading
reading_after old new = record { context = context_of old; base = new.base.nodes.items; scope = new.scope }

-- a stretch of work, with this fuel, that begins in the one world and ends in the other
abbrev pub Leads : World → ℕ → (Outcome → Type 0) → ℕ → World → State → List Frame → Type 0
Leads old fuel before bound new st fs = Steps old.phrases old.store before bound (reading_after old new) new.store fuel new.fresh st fs

-- from the phrase with its fuel
abbrev pub Enters : World → PhraseId → ℕ → List Frame → World → State → List Frame → Type 0
Enters old i levels fs new st gs = Leads old new.fuel (Means (reading old) old.phrases old.store old.fuel old.fresh (Enter i levels) fs) (weight old.fuel (Enter i levels) fs) new st gs

-- from the phrase whose step is taken, with whatever fuel
abbrev pub EntersForm : World → PhraseId → ℕ → List Frame → World → State → List Frame → Type 0
EntersForm old i levels fs new st gs = (fuel : ℕ) → Leads old fuel (FormMeans (reading old) old.phrases old.store fuel old.fresh i levels fs) (4 * fuel + 2 * length fs + 4) new st gs

abbrev pub IsTaking : World → Use → PhraseId → Value → List Value → ℕ → List Frame → Type 0
IsTaking w u i h done levels fs = (fuel : ℕ) × (out : Outcome) × ArgumentsMean (reading w) w.phrases w.store fuel w.fresh u i h done levels fs out

abbrev pub TakesArguments : World → Use → PhraseId → Value → List Value → ℕ → List Frame → World → State → List Frame → Type 0
TakesArguments old u i h done levels fs new st gs = (fuel : ℕ) → Leads old fuel (ArgumentsMean (reading old) old.phrases old.store fuel old.fresh u i h done levels fs) (4 * fuel + 2 * length fs + 4) new st gs

abbrev pub IsResumed : World → code.Outcome → Frame → List Frame → Type 0
IsResumed w o f fs = (fuel : ℕ) × (out : Outcome) × FrameMeans (reading w) w.phrases w.store fuel w.fresh o f fs out

abbrev pub ResumesFrame : World → code.Outcome → Frame → List Frame → World → State → List Frame → Type 0
ResumesFrame old o f fs new st gs = (fuel : ℕ) → Leads old fuel (FrameMeans (reading old) old.phrases old.store fuel old.fresh o f fs) (4 * fuel + 2 * length fs + 2 + rank (Done o)) new st gs

-- the head and the arguments are known, with whatever fuel and levels
abbrev pub Acts : World → Use → PhraseId → Value → List Value → List Frame → World → State → Type 0
Acts old u i h args fs new st = (levels fuel : ℕ) → Leads old fuel (ActMeans (reading old) old.phrases old.store fuel old.fresh u i h args levels fs) (4 * fuel + 2 * length fs + 3) new st fs

-- a frame that waits for an argument has a scope that is there
abbrev pub IsWithin : List BaseNode → Frame → Type 0
IsWithin ns (Head u i levels k) = Unit {0}
IsWithin ns (Argument u i h done levels k) = k.0 ≤ length ns
IsWithin ns (Ascription i) = Unit {0}

-- the frame goes on from a conclusion as the other one does from its value
abbrev pub Concludes : List BaseNode → SentId → Frame → List BaseNode → Frame → Type 0
Concludes ns p f ms g =
    (c : Context) (nodes : Nodes) (s : Trees) (left : Left) (out : Outcome) → p.0 < length s.sents
    → Fills c nodes ns s f (concludes (sent_at s.sents p.0) left) out → Fills c nodes ms s g (gives (value_of (sent_at s.sents p.0)) left) out
