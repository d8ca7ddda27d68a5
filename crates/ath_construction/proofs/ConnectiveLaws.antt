-- Connectives: their measure, and what is built.
use Rattle.std.proofs.Common.{◌≡◌, ℕ, suc, ◌<◌, ◌≤◌, ◌==◌, ◌&&◌, nat_le, Bool, true, false, List, [], ◌∷◌, length, map, take, refl, sym, ◌∙◌, ap, subst, arith}
use Rattle.std.specs.Prelude.{Result, Ok, Err}
use Rattle.std.specs.List.{All, list_all}
use Rattle.std.proofs.lemmas.List.{take_all}
use Rattle.std.proofs.lemmas.Grind.{common_steps}
use Rattle.ath_sorts.specs.declared.sorts.SVar.{SVar}
use Rattle.ath_sorts.specs.declared.sorts.Sort.{Sort}
use Rattle.ath_sorts.specs.Signature.{Signature}
use Rattle.ath_sorts.specs.Sorts.{image}
use Rattle.ath_trees.specs.declared.node.Conn.{Conn}
use Rattle.ath_trees.specs.declared.node.Binary.{Binary}
use Rattle.ath_trees.specs.declared.node.Binary.TheVariants as binary
use Rattle.ath_trees.specs.declared.node.Conn.TheVariants.{Not, And, Or, If, Iff}
use Rattle.ath_trees.specs.declared.node.SentId.{SentId}
use Rattle.ath_terms.specs.declared.measure.BuildError.{BuildError}
use Rattle.ath_trees.specs.Measure.{sent_size, sent_depth}
use Rattle.ath_trees.specs.Tree.{Sent}
use Rattle.ath_terms.specs.Trees.{Trees, sent_at, IsSent}
use Rattle.ath_trees.specs.SortsIn.{sent_has_small_sorts}
use Rattle.ath_terms.specs.SortsIn.{IsSortedIn}
use Rattle.ath_trees.specs.SortUnder.{sent_at_sorts}
use Rattle.ath_trees.specs.Variables.{with_sents}
use Rattle.ath_trees.specs.WellSorted.{is_valid_sort, AreWellSorted}
use Rattle.ath_construction.specs.Construction.{takes, grouped, connected, connective_plan, variable_pairs, sent_measure, Built, constructed, made_connective}
use Rattle.ath_construction.specs.Steps.{MatchSolved}
use Rattle.ath_terms.specs.Limits.{MatchMeasured}
use Rattle.ath_construction.specs.Answers.{IsSentBuilt}
use Rattle.ath_construction.proofs.Planned.{MatchSent, sent_built}
use Rattle.ath_trees.proofs.SortUnderLaws.{at_sorts-size, at_sorts-depth}
use Rattle.ath_trees.proofs.SortUnderForms.{at_sorts-negated, at_sorts-joined}
use Rattle.ath_construction.proofs.UnifierValid.{unifier_valid}
use Rattle.ath_construction.proofs.ConstructionLaws.{measured-is, refused-solve, refused-measure, within-measure, sents_vars-valid, variable_pairs-valid}

abbrev pub sents_of : Trees → List SentId → List Sent
sents_of s ids = map (λ i. sent_at s.sents i.0) ids

-- a connective takes a part at least
one_of : (n : ℕ) → (n == 1) ≡ true → n ≡ 1
one_of n e = grind (arith, common_steps)

two_of : (n : ℕ) → (n == 2) ≡ true → n ≡ 2
two_of n e = grind (arith, common_steps)

more_of : (n : ℕ) → nat_le 2 n ≡ true → 2 ≤ n
more_of n e = grind (arith, common_steps)

pub takes-some : (c : Conn) (n : ℕ) → takes c n ≡ true → 0 < n
takes-some Not n e = let p = one_of n e in omega arith
takes-some And n e = let p = more_of n e in omega arith
takes-some Or n e = let p = more_of n e in omega arith
takes-some If n e = let p = two_of n e in omega arith
takes-some Iff n e = let p = two_of n e in omega arith

abbrev pub is_within : Signature → (SVar → Sort) → List Sent → SentId → Bool
is_within sig f ss i = sent_has_small_sorts sig (sent_at_sorts f (sent_at ss i.0))

pub within-whole : (p : SentId → Bool) (xs : List SentId) (i : ℕ) → length xs ≤ i → list_all p (take i xs) ≡ true → list_all p xs ≡ true
within-whole p xs i h e = ap (list_all p) (sym (take_all i xs h)) ∙ e

and-end : (b : Bool) → (b && true) ≡ b
and-end true = refl
and-end false = refl

module _ (sig : Signature) (f : SVar → Sort) (ss : List Sent) where
  small-grouped : (c : Binary) (ids : List SentId) → 0 < length ids → list_all (λ i. sent_has_small_sorts sig (sent_at_sorts f (sent_at ss i.0))) ids ≡ sent_has_small_sorts sig (sent_at_sorts f (grouped c (map (λ i. sent_at ss i.0) ids)))
  small-grouped c [] h = absurd (omega arith)
  small-grouped c (x ∷ []) h = and-end (sent_has_small_sorts sig (sent_at_sorts f (sent_at ss x.0)))
  small-grouped c (x ∷ y ∷ ids) h = ap (λ b. sent_has_small_sorts sig (sent_at_sorts f (sent_at ss x.0)) && b) (small-grouped c (y ∷ ids) (omega arith))
      ∙ ap (sent_has_small_sorts sig) (sym (at_sorts-joined f c (sent_at ss x.0) (grouped c (map (λ i. sent_at ss i.0) (y ∷ ids)))))

  small-negated : (ids : List SentId) → length ids ≡ 1 → list_all (λ i. sent_has_small_sorts sig (sent_at_sorts f (sent_at ss i.0))) ids ≡ sent_has_small_sorts sig (sent_at_sorts f (connected Not (map (λ i. sent_at ss i.0) ids)))
  small-negated [] h = absurd (omega arith)
  small-negated (x ∷ []) h = and-end (sent_has_small_sorts sig (sent_at_sorts f (sent_at ss x.0))) ∙ ap (sent_has_small_sorts sig) (sym (at_sorts-negated f (sent_at ss x.0)))
  small-negated (x ∷ y ∷ ids) h = absurd (omega arith)

  pub small-connected : (c : Conn) (ids : List SentId) → takes c (length ids) ≡ true → list_all (λ i. sent_has_small_sorts sig (sent_at_sorts f (sent_at ss i.0))) ids ≡ sent_has_small_sorts sig (sent_at_sorts f (connected c (map (λ i. sent_at ss i.0) ids)))
  small-connected Not ids e = small-negated ids (one_of (length ids) e)
  small-connected And ids e = small-grouped binary.And ids (takes-some And (length ids) e)
  small-connected Or ids e = small-grouped binary.Or ids (takes-some Or (length ids) e)
  small-connected If ids e = small-grouped binary.If ids (takes-some If (length ids) e)
  small-connected Iff ids e = small-grouped binary.Iff ids (takes-some Iff (length ids) e)

pub connective-measured : (sig : Signature) (f : SVar → Sort) (p : Sent) (small : Bool) (a c : ℕ) (r : Result (Unit {0}) BuildError) → small ≡ sent_has_small_sorts sig (sent_at_sorts f p)
    → a ≡ sent_size p → c ≡ sent_depth p → MatchMeasured (record { small = small; nodes = a; levels = c }) r → MatchMeasured (sent_measure sig (sent_at_sorts f p)) r
connective-measured sig f p small a c r e q v h =
    let q' = q ∙ sym (at_sorts-size f p) in
    let v' = v ∙ sym (at_sorts-depth f p) in
    measured-is (record { small = small; nodes = a; levels = c }) (sent_measure sig (sent_at_sorts f p)) r (λ i. record { small = e i; nodes = q' i; levels = v' i }) h

are-well : (sig : Signature) (s : Trees) (ids : List SentId) → IsSortedIn sig s → All (λ i. i.0 < length s.sents) ids → AreWellSorted sig (sents_of s ids)
are-well sig s [] h all = tt
are-well sig s (i ∷ ids) h all = (h.sents i.0 (all 0 i (omega arith)), are-well sig s ids h (λ k d l. all (suc k) d (omega arith)))

module _ (sig : Signature) (c : Conn) (ps : List Sent) (n : ℕ) (count : takes c n ≡ true) (many : length ps ≡ n) (pairs : List (Sort × Sort)) (are : pairs ≡ variable_pairs (with_sents [] ps)) where
  abbrev whole : Sent
  whole = connected c ps

  the_plan : made_connective sig c ps ≡ constructed (connective_plan ps whole) (sent_measure sig)
  the_plan = rw (ap (takes c) many ∙ count) refl

  the_whole : (new : Trees) (r : Result SentId BuildError) → MatchSent sig new (connective_plan ps whole) r → IsSentBuilt new (made_connective sig c ps) r
  the_whole new r h = subst (λ (b : Built Sent). IsSentBuilt new b r) (sym the_plan) (sent_built sig new (connective_plan ps whole) r h)

  pub connective-unsolved : (new : Trees) (e : BuildError) → MatchSolved pairs (Err e) → IsSentBuilt new (made_connective sig c ps) (Err e)
  connective-unsolved new e h = the_whole new (Err e) (refused-solve (variable_pairs (with_sents [] ps)) (λ f. sent_measure sig (sent_at_sorts f whole)) e (subst (λ (l : List (Sort × Sort)). MatchSolved l (Err e)) are h))

  module _ (u : List (SVar × Sort)) (solved : MatchSolved pairs (Ok u)) where
    solved_listed : MatchSolved (variable_pairs (with_sents [] ps)) (Ok u)
    solved_listed = subst (λ (l : List (Sort × Sort)). MatchSolved l (Ok u)) are solved

    pub connective-unmeasured : (new : Trees) (e : BuildError) → MatchMeasured (sent_measure sig (sent_at_sorts (image u) whole)) (Err e) → IsSentBuilt new (made_connective sig c ps) (Err e)
    connective-unmeasured new e h = the_whole new (Err e) (refused-measure (variable_pairs (with_sents [] ps)) (λ f. sent_measure sig (sent_at_sorts f whole)) u e solved_listed h)

    pub connective-built : (new : Trees) (r : SentId) (v : Unit {0}) → MatchMeasured (sent_measure sig (sent_at_sorts (image u) whole)) (Ok v) → IsSent new r.0 (sent_at_sorts (image u) whole) → IsSentBuilt new (made_connective sig c ps) (Ok r)
    connective-built new r v h is = the_whole new (Ok r) ((u, (within-measure (variable_pairs (with_sents [] ps)) (sent_measure sig (sent_at_sorts (image u) whole)) u v solved_listed h, is)))

    pub connective-valid : AreWellSorted sig ps → (v : SVar) → is_valid_sort sig (image u v) ≡ true
    connective-valid w = unifier_valid sig u (variable_pairs (with_sents [] ps)) solved_listed.0 (variable_pairs-valid sig (with_sents [] ps) (sents_vars-valid sig [] ps tt w))

pub parts-well : (sig : Signature) (s : Trees) (ids : List SentId) → IsSortedIn sig s → All (λ i. i.0 < length s.sents) ids → AreWellSorted sig (sents_of s ids)
parts-well sig s ids h all = are-well sig s ids h all

pub sents-counted : (s : Trees) (ids : List SentId) → length (sents_of s ids) ≡ length ids
sents-counted s [] = refl
sents-counted s (i ∷ ids) = ap suc (sents-counted s ids)
