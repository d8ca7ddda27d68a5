-- Where every node fits those before it, each number stands for a tree.
use Rattle.std.proofs.Common.{◌≡◌, ℕ, zero, suc, ◌<◌, List, [], ◌∷◌, length, take, map, Bool, true, false, Option, Some, None, arith}
use Rattle.std.specs.Prelude.{slice_get, All}
use Rattle.std.proofs.lemmas.List.Elements.{All-head, All-tail}
use Rattle.ath_sorts.specs.declared.sorts.Sym.{Sym}
use Rattle.ath_syntax.specs.declared.place.Pos.{Pos}
use Rattle.ath_syntax.specs.declared.node.PhraseId.{PhraseId}
use Rattle.ath_syntax.specs.declared.node.PatId.{PatId}
use Rattle.ath_syntax.specs.declared.node.Form.{Form}
use Rattle.ath_syntax.specs.declared.node.Form.TheVariants.{Name, Var, Str, List as Listed, Ascribe, Apply, Call, Lambda, Method, Let, LetRec, Match, Check, Try, Seq, Assume, Absurd, PickAny, PickWitness, Induct, Cases, Conclude}
use Rattle.ath_syntax.specs.declared.node.PatNode.{PatNode}
use Rattle.ath_syntax.specs.declared.node.PatNode.TheVariants.{Any, Name as PatName, Str as PatStr, List as PatList, ListOf, App, Some as SomeOf}
use Rattle.ath_syntax.specs.Nodes.{Nodes, KeepsNodes}
use Rattle.ath_syntax.specs.Tree.{Pattern, any_pattern, name_pattern, string_pattern, list_pattern, list_of_pattern, app_pattern, some_pattern, Patterns, no_patterns, more_patterns, Phrase, name_at, variable_at, string_at, list_at, ascribe_at, apply_at, call_at, lambda_at, method_at, let_at, letrec_at, match_at, check_at, try_at, seq_at, assume_at, absurd_at, pick_any_at, pick_witness_at, induct_at, cases_at, conclude_at, Phrases, no_phrases, more_phrases, Bindings, no_bindings, more_bindings, Clauses, no_clauses, more_clauses, Branches, no_branches, more_branches, Otherwise, no_else, else_phrase}
use Rattle.ath_syntax.specs.Stands.{IsPattern, is_pattern, IsPatternNode, pattern_is_any, pattern_is_name, pattern_is_string, pattern_is_list, pattern_is_list_of, pattern_is_app, pattern_is_some, ArePatterns, patterns_none, patterns_more, IsPhrase, is_phrase, IsForm, is_name, is_variable, is_string, is_list, is_ascribe, is_apply, is_call, is_lambda, is_method, is_let, is_letrec, is_match, is_check, is_try, is_seq, is_assume, is_absurd, is_pick_any, is_pick_witness, is_induct, is_cases, is_conclude, ArePhrases, phrases_none, phrases_more, AreBindings, bindings_none, bindings_more, AreClauses, clauses_none, clauses_more, AreBranches, branches_none, branches_more, IsOtherwise, otherwise_none, otherwise_some}
use Rattle.ath_syntax.specs.Fits.{IsPart, IsKind, IsBound, IsClosure, OtherwiseFits, FitsForm, IsPatternPart, PatternFits, NodesFit, before}
use Rattle.ath_syntax.proofs.Growth.{slice_get-front, slice_get_there, part_of_kind, part_of_closure}
use Rattle.ath_syntax.proofs.NodeLaws.{node_of_form}
use Rattle.std.proofs.Common.{drop, subst}
use Rattle.std.proofs.lemmas.List.{take-append-drop, length-take}
use Rattle.std.proofs.lemmas.Option.{slice_get_within}
use Rattle.ath_syntax.proofs.Kept.{fits_kept}

slice_get_take : {A : Type 0} (xs : List A) (i j : ℕ) (x : A) → slice_get (take i xs) j ≡ Some x → slice_get xs j ≡ Some x
slice_get_take xs i j x h = subst (λ ys. slice_get ys j ≡ Some x) (take-append-drop i xs) (slice_get-front (take i xs) (drop i xs) j x h)

below_take : {A : Type 0} (xs : List A) (i j : ℕ) → j < length (take i xs) → (j < i) × (j < length xs)
below_take xs i j lt = omega (arith, lt, length-take i xs)

module _ (nodes : List PatNode) (k : ℕ) (ih : (j : PatId) → IsPatternPart (take k nodes) j → (t : Pattern) × IsPattern nodes j t) where
  patterns_exist : (is : List PatId) → All (IsPatternPart (take k nodes)) is → (ts : Patterns) × ArePatterns nodes is ts
  patterns_exist [] h = (no_patterns, patterns_none)
  patterns_exist (i ∷ is) h =
      let a = ih i (All-head (IsPatternPart (take k nodes)) i is h) in
      let b = patterns_exist is (All-tail (IsPatternPart (take k nodes)) i is h) in
      (more_patterns a.0 b.0, patterns_more a.1 b.1)

  pattern_node_exists : (n : PatNode) → PatternFits (take k nodes) n → (t : Pattern) × IsPatternNode nodes n t
  pattern_node_exists Any h = (any_pattern, pattern_is_any)
  pattern_node_exists (PatName x) h = (name_pattern x, pattern_is_name)
  pattern_node_exists (PatStr b) h = (string_pattern b, pattern_is_string)
  pattern_node_exists (PatList is) h = let a = patterns_exist is h in (list_pattern a.0, pattern_is_list a.1)
  pattern_node_exists (ListOf i j) h = let a = ih i h.0 in let b = ih j h.1 in (list_of_pattern a.0 b.0, pattern_is_list_of a.1 b.1)
  pattern_node_exists (App x is) h = let a = patterns_exist is h in (app_pattern x a.0, pattern_is_app a.1)
  pattern_node_exists (SomeOf k x) h = (some_pattern k x, pattern_is_some)

pattern_exists_below : (s : Nodes) → NodesFit s → (k : ℕ) (i : PatId) → i.0 < k → IsPatternPart s.patterns i → (t : Pattern) × IsPattern s.patterns i t
pattern_exists_below s sound zero i lt part = absurd (omega (arith, lt))
pattern_exists_below s sound (suc k) i lt part =
    let n = slice_get_there s.patterns i.0 part in
    let f = pattern_node_exists s.patterns i.0 (λ j h. let b = below_take s.patterns i.0 j.0 h in pattern_exists_below s sound k j (omega (arith, lt, b.0)) b.1) n.0 (sound.pattern i.0 n.0 n.1) in
    (f.0, is_pattern n.1 f.1)

-- every pattern's number stands for a tree
pub pattern_exists : (s : Nodes) → NodesFit s → (i : PatId) → IsPatternPart s.patterns i → (t : Pattern) × IsPattern s.patterns i t
pattern_exists s sound i part = pattern_exists_below s sound (suc i.0) i (omega arith) part

module _ (s : Nodes) (k : ℕ) (ih : (j : PhraseId) → IsPart (before s k) j → (t : Phrase) × IsPhrase s j t) where
  of_kind : (d : Bool) (i : PhraseId) → IsKind (before s k) d i → (t : Phrase) × IsPhrase s i t
  of_kind d i h = let n = part_of_kind (before s k) d i h in ih i (slice_get_within (take k s.phrases) i.0 n.0 n.1)

  of_closure : (i : PhraseId) → IsClosure (before s k) i → (t : Phrase) × IsPhrase s i t
  of_closure i h = let n = part_of_closure (before s k) i h in ih i (slice_get_within (take k s.phrases) i.0 n.0 n.1)

  of_bound : (d : Bool) (i : PhraseId) → IsBound (before s k) d i → (t : Phrase) × IsPhrase s i t
  of_bound true i h = ih i h
  of_bound false i h = of_kind false i h

  phrases_exist : (P : PhraseId → Type 0) → ((i : PhraseId) → P i → (t : Phrase) × IsPhrase s i t) → (is : List PhraseId) → All P is → (ts : Phrases) × ArePhrases s is ts
  phrases_exist P of [] h = (no_phrases, phrases_none)
  phrases_exist P of (i ∷ is) h = let a = of i (All-head P i is h) in let b = phrases_exist P of is (All-tail P i is h) in (more_phrases a.0 b.0, phrases_more a.1 b.1)

  bindings_exist : (P : PhraseId → Type 0) → ((i : PhraseId) → P i → (t : Phrase) × IsPhrase s i t) → (is : List (Sym × PhraseId)) → All (λ b. P b.1) is → (ts : Bindings) × AreBindings s is ts
  bindings_exist P of [] h = (no_bindings, bindings_none)
  bindings_exist P of ((x, i) ∷ is) h =
      let a = of i (All-head (λ (b : Sym × PhraseId). P b.1) (x, i) is h) in
      let b = bindings_exist P of is (All-tail (λ (b : Sym × PhraseId). P b.1) (x, i) is h) in
      (more_bindings x a.0 b.0, bindings_more a.1 b.1)

  clauses_exist : (d : Bool) (is : List (PatId × PhraseId)) (qs : Patterns) → ArePatterns s.patterns (map (λ c. c.0) is) qs → All (λ c. IsKind (before s k) d c.1) is → (ts : Clauses) × AreClauses s is ts
  clauses_exist d [] qs p h = (no_clauses, clauses_none)
  clauses_exist d ((q, i) ∷ is) qs (patterns_more {t = c} {ts = cs} p ps) h =
      let a = of_kind d i (All-head (λ (b : PatId × PhraseId). IsKind (before s k) d b.1) (q, i) is h) in
      let b = clauses_exist d is cs ps (All-tail (λ (b : PatId × PhraseId). IsKind (before s k) d b.1) (q, i) is h) in
      (more_clauses c a.0 b.0, clauses_more p a.1 b.1)

  branches_exist : (d : Bool) (is : List (PhraseId × PhraseId)) → All (λ b. IsKind (before s k) false b.0 × IsKind (before s k) d b.1) is → (ts : Branches) × AreBranches s is ts
  branches_exist d [] h = (no_branches, branches_none)
  branches_exist d ((i, j) ∷ is) h =
      let one = All-head (λ (b : PhraseId × PhraseId). IsKind (before s k) false b.0 × IsKind (before s k) d b.1) (i, j) is h in
      let a = of_kind false i one.0 in
      let b = of_kind d j one.1 in
      let c = branches_exist d is (All-tail (λ (b : PhraseId × PhraseId). IsKind (before s k) false b.0 × IsKind (before s k) d b.1) (i, j) is h) in
      (more_branches a.0 b.0 c.0, branches_more a.1 b.1 c.1)

  otherwise_exists : (d : Bool) (o : Option PhraseId) → OtherwiseFits (before s k) d o → (t : Otherwise) × IsOtherwise s o t
  otherwise_exists d None h = (no_else, otherwise_none)
  otherwise_exists d (Some i) h = let a = of_kind d i h in (else_phrase a.0, otherwise_some a.1)

  form_exists : (d : Bool) (p : Pos) (f : Form) → FitsForm (before s k) d f → (t : Phrase) × IsForm s p f t
  form_exists d p (Name x) h = (name_at p x, is_name)
  form_exists d p (Var x m o) h = (variable_at p x m o, is_variable)
  form_exists d p (Str b) h = (string_at p b, is_string)
  form_exists d p (Listed is) h = let a = phrases_exist (IsKind (before s k) false) (of_kind false) is h.1 in (list_at p a.0, is_list a.1)
  form_exists d p (Ascribe i o) h = let a = of_kind false i h.1 in (ascribe_at p a.0 o, is_ascribe a.1)
  form_exists d p (Apply i is) h = let a = of_kind false i h.1 in let b = phrases_exist (IsKind (before s k) false) (of_kind false) is h.2 in (apply_at p a.0 b.0, is_apply a.1 b.1)
  form_exists d p (Call i is) h = let a = of_kind false i h.1 in let b = phrases_exist (IsPart (before s k)) ih is h.2 in (call_at p a.0 b.0, is_call a.1 b.1)
  form_exists d p (Lambda xs i) h = let a = of_kind false i h.2 in (lambda_at p xs a.0, is_lambda a.1)
  form_exists d p (Method xs i) h = let a = of_kind true i h.2 in (method_at p xs a.0, is_method a.1)
  form_exists d p (Let bs i) h = let a = bindings_exist (IsBound (before s k) d) (of_bound d) bs h.2 in let b = of_kind d i h.0 in (let_at p a.0 b.0, is_let a.1 b.1)
  form_exists d p (LetRec bs i) h = let a = bindings_exist (IsClosure (before s k)) of_closure bs h.2 in let b = of_kind d i h.0 in (letrec_at p a.0 b.0, is_letrec a.1 b.1)
  form_exists d p (Match i cs) h = let a = of_kind false i h.0 in let b = clauses_exist d cs h.1.trees h.1.patterns h.1.kind in (match_at p a.0 b.0, is_match a.1 b.1)
  form_exists d p (Check bs o) h = let a = branches_exist d bs h.1 in let b = otherwise_exists d o h.2 in (check_at p a.0 b.0, is_check a.1 b.1)
  form_exists d p (Try is) h = let a = phrases_exist (IsKind (before s k) d) (of_kind d) is h.1 in (try_at p a.0, is_try a.1)
  form_exists d p (Seq is) h = let a = phrases_exist (IsKind (before s k) true) (of_kind true) is h.2 in (seq_at p a.0, is_seq a.1)
  form_exists d p (Assume x i j) h = let a = of_kind false i h.1 in let b = of_kind true j h.2 in (assume_at p x a.0 b.0, is_assume a.1 b.1)
  form_exists d p (Absurd x i j) h = let a = of_kind false i h.1 in let b = of_kind true j h.2 in (absurd_at p x a.0 b.0, is_absurd a.1 b.1)
  form_exists d p (PickAny xs i) h = let a = of_kind true i h.1 in (pick_any_at p xs a.0, is_pick_any a.1)
  form_exists d p (PickWitness x i j) h = let a = ih i h.1 in let b = of_kind true j h.2 in (pick_witness_at p x a.0 b.0, is_pick_witness a.1 b.1)
  form_exists d p (Induct i cs) h = let a = of_kind false i h.1 in let b = clauses_exist true cs h.2.trees h.2.patterns h.2.kind in (induct_at p a.0 b.0, is_induct a.1 b.1)
  form_exists d p (Cases i cs) h = let a = of_kind false i h.1 in let b = clauses_exist true cs h.2.trees h.2.patterns h.2.kind in (cases_at p a.0 b.0, is_cases a.1 b.1)
  form_exists d p (Conclude x i j) h = let a = of_kind false i h.1 in let b = of_kind true j h.2 in (conclude_at p x a.0 b.0, is_conclude a.1 b.1)

-- the nodes before a number, and all
KeepsNodes-before : (s : Nodes) (i : ℕ) → KeepsNodes (before s i) s
KeepsNodes-before s i = record { phrase = λ j n h. slice_get_take s.phrases i j n h; pattern = λ j n h. h }

phrase_exists_below : (s : Nodes) → NodesFit s → (k : ℕ) (i : PhraseId) → i.0 < k → IsPart s i → (t : Phrase) × IsPhrase s i t
phrase_exists_below s sound zero i lt part = absurd (omega (arith, lt))
phrase_exists_below s sound (suc k) i lt part =
    let n = slice_get_there s.phrases i.0 part in
    let fits = sound.phrase i.0 n.0 n.1 in
    let f = form_exists s i.0 (λ j h. let b = below_take s.phrases i.0 j.0 h in phrase_exists_below s sound k j (omega (arith, lt, b.0)) b.1) n.0.deduction n.0.pos n.0.form fits in
    (f.0, is_phrase n.1 (node_of_form s n.0 f.0 (fits_kept (before s i.0) s (KeepsNodes-before s i.0) n.0 fits) f.1))

-- every phrase's number stands for a tree
pub phrase_exists : (s : Nodes) → NodesFit s → (i : PhraseId) → IsPart s i → (t : Phrase) × IsPhrase s i t
phrase_exists s sound i part = phrase_exists_below s sound (suc i.0) i (omega arith) part
