-- What becomes of what was read, by what the machine does with what comes next.
use Rattle.std.proofs.Common.{◌≡◌, ℕ, ◌<◌, List, Bool, true, false, Result, Ok, Err, inl, inr, sym, ap, ◌∙◌, subst}
use Rattle.ath_grammar.specs.declared.levels.Open.{Open}
use Rattle.ath_grammar.specs.Tokens.{class_of_lexeme}
use Rattle.ath_grammar.specs.Levels.{depth_of, take_class}
use Rattle.ath_grammar.specs.Machine.{Outcome, over, took, refused}
use Rattle.ath_grammar.specs.Trees.{Value, v1}
use Rattle.ath_tokens.specs.Cutting.{Cutting}
use Rattle.ath_numbering.specs.declared.tree.DirectiveTree as read
use Rattle.ath_numbering.specs.Trees.{directive_of}
use Rattle.ath_builder.specs.Values.{held, directive_in}
use Rattle.ath_reader.specs.declared.limits.TheConstants.{MOST_LEVELS}
use Rattle.ath_reader.specs.declared.machine.Machine.{Machine}
use Rattle.ath_reader.specs.declared.machine.Step.{Step}
use Rattle.ath_reader.specs.declared.machine.Step.TheVariants as step
use Rattle.ath_reader.specs.declared.reader.Begun.{Begun}
use Rattle.ath_reader.specs.declared.reader.Seen.{Seen}
use Rattle.ath_reader.specs.declared.reader.Seen.TheVariants.{Token, End, Fault}
use Rattle.ath_reader.specs.declared.reader.SyntaxError.{SyntaxError}
use Rattle.ath_reader.specs.declared.reader.SyntaxKind.{SyntaxKind}
use Rattle.ath_reader.specs.declared.reader.SyntaxKind.TheVariants.{Unexpected, KindMix, TooDeep}
use Rattle.ath_reader.specs.declared.reader.Taken.{Taken}
use Rattle.ath_reader.specs.declared.reader.Taken.TheVariants.{On, Whole}
use Rattle.ath_reader.specs.Runs.{left, shown}
use Rattle.ath_reader.specs.Steps.{outcome, IsNotOver, Rejects, Refusal, refusal_of, Deepens, Turns}
use Rattle.ath_reader.proofs.Carried.{not_over, refused_not_over, mixed_not_over, took_not_over}

refuses : (c : Cutting) (b : Begun) (seen : Seen) (o : Outcome (List Value)) (kind : SyntaxKind) (e : SyntaxError) → outcome b seen ≡ o → IsNotOver o → ((n : ℕ) → Rejects o n kind) → e ≡ refusal_of c seen kind → Refusal c b seen e
refuses c b (Token l p) o kind e f n r s = (
  ap (λ (x : SyntaxError). x.pos) s,
  subst (λ (x : SyntaxError). Rejects (outcome b (Token l p)) (depth_of (take_class (class_of_lexeme l) b.levels)) x.kind) (sym s) (subst (λ (q : Outcome (List Value)). Rejects q (depth_of (take_class (class_of_lexeme l) b.levels)) kind) (sym f) (r (depth_of (take_class (class_of_lexeme l) b.levels)))),
)
refuses c b End o kind e f n r s = (s, not_over f n)
refuses c b (Fault x) o kind e f n r s = (s, not_over f n)

module _ (c : Cutting) (b : Begun) (seen : Seen) (m : Machine) (s : Step) (e : shown s m ≡ outcome b seen) where
  is : (t : Step) → s ≡ t → outcome b seen ≡ shown t m
  is t f = sym e ∙ ap (λ (u : Step). shown u m) f

  pub turns_whole : (f : Bool) (d : read.DirectiveTree) → s ≡ step.Over f → f ≡ true → directive_of d ≡ directive_in (v1 (held m.values)) → Turns c b seen (Ok (Whole d))
  turns_whole f d g t h = (held m.values, is (step.Over f) g ∙ ap (λ (k : Bool). over k (held m.values)) t, h)

  pub turns_over : (f : Bool) (x : SyntaxError) → s ≡ step.Over f → f ≡ false → x ≡ refusal_of c seen Unexpected → Turns c b seen (Err x)
  turns_over f x g t h = inr (refuses c b seen (over false (held m.values)) Unexpected x (is (step.Over f) g ∙ ap (λ (k : Bool). over k (held m.values)) t) (mixed_not_over (held m.values)) (λ n. tt) h)

  pub turns_mixed : (f : Bool) (x : SyntaxError) → s ≡ step.Took f → f ≡ false → x ≡ refusal_of c seen KindMix → Turns c b seen (Err x)
  turns_mixed f x g t h = inr (refuses c b seen (took false (left m) (held m.values)) KindMix x (is (step.Took f) g ∙ ap (λ (k : Bool). took k (left m) (held m.values)) t) (took_not_over false (left m) (held m.values)) (λ n. tt) h)

  pub turns_refused : (x : SyntaxError) → s ≡ step.Refused → x ≡ refusal_of c seen Unexpected → Turns c b seen (Err x)
  turns_refused x g h = inr (refuses c b seen refused Unexpected x (is step.Refused g) refused_not_over (λ n. tt) h)

-- a token is taken: what is said of its levels says all
deepens : (c : Cutting) (b : Begun) (seen : Seen) (m : Machine) (os : List Open) (result : Result Taken SyntaxError) → os ≡ b.levels → outcome b seen ≡ took true (left m) (held m.values) → Deepens c (record { machine = m; levels = os }) seen result → Turns c b seen result
deepens c b (Token l p) m os (Ok (On new)) same o (g, low) = (
  o ∙ ap (λ (n : Begun). took true (left n.machine) (held n.machine.values)) (sym g),
  ap (λ (n : Begun). n.levels) g ∙ ap (λ (ks : List Open). take_class (class_of_lexeme l) ks) same,
  low,
)
deepens c b (Token l p) m os (Ok (Whole d)) same o h = absurd h
deepens c b (Token l p) m os (Err x) same o (inl h) = inl h
deepens c b (Token l p) m os (Err x) same o (inr (g, high)) = inr (
  ap (λ (y : SyntaxError). y.pos) g,
  subst (λ (y : SyntaxError). Rejects (outcome b (Token l p)) (depth_of (take_class (class_of_lexeme l) b.levels)) y.kind) (sym g)
      (subst (λ (q : Outcome (List Value)). Rejects q (depth_of (take_class (class_of_lexeme l) b.levels)) TooDeep) (sym o) (subst (λ (ks : List Open). MOST_LEVELS < depth_of (take_class (class_of_lexeme l) ks)) same high)),
)
deepens c b End m os (Ok t) same o h = absurd h
deepens c b End m os (Err x) same o (inl h) = inl h
deepens c b End m os (Err x) same o (inr g) = inr (g, not_over o (took_not_over true (left m) (held m.values)))
deepens c b (Fault y) m os (Ok t) same o h = absurd h
deepens c b (Fault y) m os (Err x) same o (inl h) = inl h
deepens c b (Fault y) m os (Err x) same o (inr g) = inr (g, not_over o (took_not_over true (left m) (held m.values)))

pub turns_deep : (c : Cutting) (b : Begun) (seen : Seen) (m : Machine) (s : Step) → shown s m ≡ outcome b seen → (f : Bool) (os : List Open) (result : Result Taken SyntaxError) → s ≡ step.Took f → f ≡ true → os ≡ b.levels → Deepens c (record { machine = m; levels = os }) seen result → Turns c b seen result
turns_deep c b seen m s e f os result g t same h = deepens c b seen m os result same (sym e ∙ ap (λ (u : Step). shown u m) g ∙ ap (λ (k : Bool). took k (left m) (held m.values)) t) h
