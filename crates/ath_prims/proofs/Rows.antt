-- What each row concludes is derivable where its arguments are that have to hold.
use Rattle.std.proofs.Common.{◌≡◌, ◌==◌, ℕ, Bool, true, false, List, [], ◌∷◌, length, Option, Some, None, inl, inr, refl, sym, ◌∙◌, ap, subst, if◌then◌else◌, arith}
use Rattle.std.specs.Prelude.{Ok}
use Rattle.std.specs.List.{AllByRecursion}
use Rattle.std.proofs.lemmas.Grind.{common_steps}
use Rattle.ath_trees.specs.declared.node.Binary.TheVariants.{If}
use Rattle.ath_trees.specs.declared.node.SentId.{SentId}
use Rattle.ath_trees.specs.Tree.{Sent, joined}
use Rattle.ath_trees.specs.WellSorted.{IsWellSorted, AreWellSorted}
use Rattle.ath_terms.specs.Trees.{Trees}
use Rattle.ath_calculus.specs.Derives.{Derives, hypothesis, true_intro, weaken, alpha, if_elim, and_intro, and_left, and_right, or_left, or_right, or_elim, not_elim, not_not_elim, iff_intro, iff_left, iff_right}
use Rattle.ath_calculus.specs.Theory.{Theory}
use Rattle.ath_calculus.proofs.AlphaSorted.{alpha-sorted}
use Rattle.ath_calculus.proofs.Grown.{all_sorted}
use Rattle.ath_prims.specs.declared.method.Method.{Method}
use Rattle.ath_prims.specs.declared.method.Method.TheVariants.{Claim, Mp, Both, LeftAnd, RightAnd, LeftEither, RightEither, Cd, Equiv, LeftIff, RightIff, Dn, Absurd, TrueIntro}
use Rattle.ath_prims.specs.declared.schema.Premise.{Premise}
use Rattle.ath_prims.specs.Schemata.{Row, row}
use Rattle.ath_prims.specs.Applied.{Argument, Parts, no_parts, Fitted, all_fit, no_sentence, no_shape, fitted, missing, concluded, Answer, miscounted, wrong_kind, wrong_shape, not_in_base, concludes, if_none_missing, answered, by_row, applied}
use Rattle.ath_prims.specs.Follows.{IsSound, Follows, AnswersFollow}
use Rattle.ath_prims.specs.Stands.{HasConstants, IsAnswer, sentence_at}
use Rattle.ath_prims.proofs.Matched.{shaped, IsMatched, AreMatched, all-matched, held-told}

module _ (th : Theory) (asserted hyps : List Sent) (sorted : AreWellSorted th.signature hyps) (constants : HasConstants th.signature) where
  abbrev Derivable : Sent → Type 0
  Derivable p = Derives th asserted hyps p

  -- at these parts the shape is well-sorted, and derivable where it has to hold
  abbrev IsMet : Parts → Premise → Type 0
  IsMet e r = IsWellSorted th.signature (shaped r.shape e) × (r.must_hold ≡ true → Derivable (shaped r.shape e))

  -- what follows under one hypothesis more, by the implication of it
  under : (p q : Sent) → IsWellSorted th.signature p → Derivable (joined If p q) → Derives th asserted (p ∷ hyps) q
  under p q w d = if_elim (weaken (w, sorted) (λ r i. inr i) d) (hypothesis (w, sorted) (inl refl))

  -- one line for each row
  row-sound : (m : Method) (e : Parts) → AllByRecursion (IsMet e) (row m).premises → Derivable (concluded (row m).conclusion e)
  row-sound Claim e h = h.0.1 refl
  row-sound Mp e h = if_elim (h.0.1 refl) (h.1.0.1 refl)
  row-sound Both e h = and_intro (h.0.1 refl) (h.1.0.1 refl)
  row-sound LeftAnd e h = and_left (h.0.1 refl)
  row-sound RightAnd e h = and_right (h.0.1 refl)
  row-sound LeftEither e h = or_left h.1.0.0 (h.0.1 refl)
  row-sound RightEither e h = or_right h.0.0 (h.1.0.1 refl)
  row-sound Cd e h = or_elim (h.0.1 refl) (under _ _ h.0.0.0 (h.1.0.1 refl)) (under _ _ h.0.0.1 (h.1.1.0.1 refl))
  row-sound Equiv e h = iff_intro (h.0.1 refl) (h.1.0.1 refl)
  row-sound LeftIff e h = iff_left (h.0.1 refl)
  row-sound RightIff e h = iff_right (h.0.1 refl)
  row-sound Dn e h = not_not_elim (h.0.1 refl)
  row-sound Absurd e h = not_elim constants.falsity (h.0.1 refl) (h.1.0.1 refl)
  row-sound TrueIntro e h = true_intro sorted constants.truth

  premise-met : (e : Parts) (r : Premise) (x : Argument) (p : Sent) → x.sentence ≡ Some p → IsSound th asserted hyps x → (r.must_hold ≡ true → x.holds ≡ true) → IsMatched e r x → IsMet e r
  premise-met e r x p is sound held matched =
      let q = matched.0 in
      (alpha-sorted th.signature q (shaped r.shape e) matched.1.1 (sound.sorted q matched.1.0), λ t. alpha matched.1.1 (sound.derived q matched.1.0 (held t)))

  all-met : (e : Parts) (rs : List Premise) (xs : List Argument) → length rs ≡ length xs → AllByRecursion (IsSound th asserted hyps) xs → missing rs xs ≡ None → AreMatched e rs xs → AllByRecursion (IsMet e) rs
  all-met e [] xs l sound held matched = tt
  all-met e (r ∷ rs) [] l sound held matched = absurd (omega (arith, l))
  all-met e (r ∷ rs) (x ∷ xs) l sound held matched =
      let k = held-told r x rs xs matched.0.0 matched.0.1.0 held in
      (premise-met e r x matched.0.0 matched.0.1.0 sound.0 k.0 matched.0, all-met e rs xs (omega (arith, l)) sound.1 k.1 matched.1)

  call-sound : (m : Method) (xs : List Argument) (q : Sent) → AllByRecursion (IsSound th asserted hyps) xs → applied m xs ≡ concludes q → Derivable q
  call-sound m xs q sound h = one (length (row m).premises == length xs) refl h
    where
      one : (b : Bool) → (length (row m).premises == length xs) ≡ b → (if b then answered (row m) xs (fitted 1 (row m).premises xs no_parts) else miscounted (length (row m).premises) (length xs)) ≡ concludes q → Derivable q
      one false l i = absurd (cc)
      one true l i = two (fitted 1 (row m).premises xs no_parts) refl i
        where
          many : length (row m).premises ≡ length xs
          many = grind (arith, common_steps)

          two : (f : Fitted) → fitted 1 (row m).premises xs no_parts ≡ f → answered (row m) xs f ≡ concludes q → Derivable q
          two (no_sentence k) a j = absurd (cc)
          two (no_shape k) a j = absurd (cc)
          two (all_fit e) a j = three (missing (row m).premises xs) refl j
            where
              three : (o : Option Sent) → missing (row m).premises xs ≡ o → if_none_missing o (concluded (row m).conclusion e) ≡ concludes q → Derivable q
              three (Some p) b k = absurd (cc)
              three None b k =
                  let c : concluded (row m).conclusion e ≡ q = cc in
                  subst Derivable c (row-sound m e (all-met e (row m).premises xs many sound b (all-matched 1 (row m).premises xs no_parts e a)))

pub answers-follow : AnswersFollow
answers-follow = λ m xs q is th asserted hyps sorted constants sound. call-sound th asserted hyps sorted constants m xs q sound is

-- an answer of the code that is a sentence
pub answer-follows : (m : Method) (xs : List Argument) (s : Trees) (p : SentId) (o : Answer) → o ≡ applied m xs → IsAnswer s o (Ok p) → Follows xs (sentence_at s p)
answer-follows m xs s p (concludes q) e h = subst (Follows xs) (sym h.1) (answers-follow m xs q (sym e))
answer-follows m xs s p (miscounted i j) e h = absurd h
answer-follows m xs s p (wrong_kind i) e h = absurd h
answer-follows m xs s p (wrong_shape i) e h = absurd h
answer-follows m xs s p (not_in_base q) e h = absurd h
