-- The form of a proper phrase may stand in a node of the phrase's kind.
use Rattle.std.proofs.Common.{◌≡◌, ◌+◌, ◌<◌, ◌≤◌, List, ◌∷◌, length, map, Bool, true, false, Option, Some, refl, sym, ap, ◌∙◌, subst, arith}
use Rattle.std.specs.Prelude.{All}
use Rattle.std.specs.List.{IsDistinct}
use Rattle.std.proofs.lemmas.List.Elements.{All-nil, All-cons}
use Rattle.ath_sorts.specs.declared.sorts.Sym.{Sym}
use Rattle.ath_numbering.specs.declared.tree.PhraseTree.{PhraseTree}
use Rattle.ath_numbering.specs.Trees.{phrase_of}
use Rattle.ath_syntax.specs.declared.place.Pos.{Pos}
use Rattle.ath_syntax.specs.declared.node.PatId.{PatId}
use Rattle.ath_syntax.specs.declared.node.PhraseId.{PhraseId}
use Rattle.ath_syntax.specs.declared.node.Form.{Form}
use Rattle.ath_syntax.specs.Nodes.{Nodes}
use Rattle.ath_syntax.specs.Fits.{IsPart, IsKind, IsBound, IsClosure, is_closure_form, ClausesFit, OtherwiseFits, otherwise_size, FitsForm, most}
use Rattle.ath_syntax.specs.Fits.{is_closure as is_closure_node}
use Rattle.ath_syntax.specs.Size.{patterns_size}
use Rattle.ath_syntax.specs.Tree.{Phrase, Phrases, Bindings, Clauses, Branches, Otherwise, is_deduction, clauses_deduce, branches_deduce, phrases_deduce, same_name, bound_names}
use Rattle.ath_syntax.specs.Stands.{IsForm, is_name, is_variable, is_string, is_list, is_ascribe, is_apply, is_call, is_lambda, is_method, is_let, is_letrec, is_match, is_check, is_try, is_seq, is_assume, is_absurd, is_pick_any, is_pick_witness, is_induct, is_cases, is_conclude, is_node, IsPhrase, is_phrase, ArePatterns, patterns_none, patterns_more, ArePhrases, phrases_none, phrases_more, AreBindings, bindings_none, bindings_more, AreClauses, clauses_none, clauses_more, AreBranches, branches_none, branches_more, IsOtherwise, otherwise_none, otherwise_some}
use Rattle.ath_syntax.proofs.NodeLaws.{part_of, kind_of}
use Rattle.ath_syntax.specs.Proper.{Proper, ProperPhrases, ProperBindings, ProperClosures, ProperClauses, ProperBranches, ProperOtherwise, phrases_count, bindings_count, clauses_count, branches_count, otherwise_count, clauses_patterns, bound_kind, is_closure, IsOfKind}

module _ (s : Nodes) where
  kind_is : (d : Bool) (i : PhraseId) (t : Phrase) → IsPhrase s i t → is_deduction t ≡ d → IsKind s d i
  kind_is d i t h e = kind_of s i t h ∙ ap Some e

  parts : (is : List PhraseId) (ts : Phrases) → ArePhrases s is ts → All (IsPart s) is
  parts is ts phrases_none = All-nil (IsPart s)
  parts is ts (phrases_more {i = i} {is = rest} {t = t} {ts = us} h k) = All-cons (IsPart s) i rest (part_of s i t h) (parts rest us k)

  kinds : (d : Bool) (is : List PhraseId) (ts : Phrases) → ArePhrases s is ts → ProperPhrases (Some d) ts → All (IsKind s d) is
  kinds d is ts phrases_none p = All-nil (IsKind s d)
  kinds d is ts (phrases_more {i = i} {is = rest} {t = t} {ts = us} h k) p = All-cons (IsKind s d) i rest (kind_is d i t h p.0) (kinds d rest us k p.2)

  phrases_length : (is : List PhraseId) (ts : Phrases) → ArePhrases s is ts → length is ≡ phrases_count ts
  phrases_length is ts phrases_none = refl
  phrases_length is ts (phrases_more {is = rest} {ts = us} h k) = let e : length rest ≡ phrases_count us = phrases_length rest us k in omega (arith, e)

  bound : (d : Bool) (i : PhraseId) (t : Phrase) → IsPhrase s i t → IsOfKind (bound_kind d) t → IsBound s d i
  bound true i t h p = part_of s i t h
  bound false i t h p = kind_is false i t h p

  bounds : (d : Bool) (is : List (Sym × PhraseId)) (bs : Bindings) → AreBindings s is bs → ProperBindings (bound_kind d) bs → All (λ b. IsBound s d b.1) is
  bounds d is bs bindings_none p = All-nil (λ b. IsBound s d b.1)
  bounds d is bs (bindings_more {x = n} {i = i} {is = rest} {t = t} {bs = cs} h k) p = All-cons (λ (b : Sym × PhraseId). IsBound s d b.1) (n, i) rest (bound d i t h p.0) (bounds d rest cs k p.2)

  closed : (p : Pos) (f : Form) (t : Phrase) → IsForm s p f t → is_closure_form f ≡ is_closure t
  closed p f t (is_lambda a) = refl
  closed p f t h = refl

  closure : (i : PhraseId) (t : Phrase) → IsPhrase s i t → is_closure t ≡ true → IsClosure s i
  closure i t (is_phrase {n = n} g (is_node d f)) e = ap is_closure_node g ∙ closed n.pos n.form t f ∙ e

  closures : (is : List (Sym × PhraseId)) (bs : Bindings) → AreBindings s is bs → ProperClosures bs → All (λ b. IsClosure s b.1) is
  closures is bs bindings_none p = All-nil (λ b. IsClosure s b.1)
  closures is bs (bindings_more {x = n} {i = i} {is = rest} {t = t} {bs = cs} h k) p = All-cons (λ (b : Sym × PhraseId). IsClosure s b.1) (n, i) rest (closure i t h p.0) (closures rest cs k p.2)

  bindings_length : (is : List (Sym × PhraseId)) (bs : Bindings) → AreBindings s is bs → length is ≡ bindings_count bs
  bindings_length is bs bindings_none = refl
  bindings_length is bs (bindings_more {is = rest} {bs = cs} h k) = let e : length rest ≡ bindings_count cs = bindings_length rest cs k in omega (arith, e)

  names : (is : List (Sym × PhraseId)) (bs : Bindings) → AreBindings s is bs → bound_names bs ≡ map (λ b. b.0) is
  names is bs bindings_none = refl
  names is bs (bindings_more {x = n} {is = rest} {bs = cs} h k) = ap (λ ns. n ∷ ns) (names rest cs k)

  clause_kinds : (d : Bool) (is : List (PatId × PhraseId)) (cs : Clauses) → AreClauses s is cs → ProperClauses d cs → All (λ c. IsKind s d c.1) is
  clause_kinds d is cs clauses_none p = All-nil (λ c. IsKind s d c.1)
  clause_kinds d is cs (clauses_more {q = q} {i = i} {is = rest} {t = t} {cs = ds} g h k) p = All-cons (λ (c : PatId × PhraseId). IsKind s d c.1) (q, i) rest (kind_is d i t h p.1) (clause_kinds d rest ds k p.3)

  clauses_length : (is : List (PatId × PhraseId)) (cs : Clauses) → AreClauses s is cs → length is ≡ clauses_count cs
  clauses_length is cs clauses_none = refl
  clauses_length is cs (clauses_more {is = rest} {cs = ds} g h k) = let e : length rest ≡ clauses_count ds = clauses_length rest ds k in omega (arith, e)

  patterns : (is : List (PatId × PhraseId)) (cs : Clauses) → AreClauses s is cs → ArePatterns s.patterns (map (λ c. c.0) is) (clauses_patterns cs)
  patterns is cs clauses_none = patterns_none
  patterns is cs (clauses_more {is = rest} {cs = ds} g h k) = patterns_more g (patterns rest ds k)

  clauses_fit : (d : Bool) (is : List (PatId × PhraseId)) (cs : Clauses) → AreClauses s is cs → 0 < clauses_count cs → ProperClauses d cs → 1 + clauses_count cs + patterns_size (clauses_patterns cs) ≤ most → ClausesFit s d is
  clauses_fit d is cs h lt p small =
      let e : length is ≡ clauses_count cs = clauses_length is cs h in
      record {
        some = omega (arith, e, lt);
        kind = clause_kinds d is cs h p;
        trees = clauses_patterns cs;
        patterns = patterns is cs h;
        size = omega (arith, e, small);
      }

  branch_kinds : (d : Bool) (is : List (PhraseId × PhraseId)) (bs : Branches) → AreBranches s is bs → ProperBranches d bs → All (λ b. IsKind s false b.0 × IsKind s d b.1) is
  branch_kinds d is bs branches_none p = All-nil (λ b. IsKind s false b.0 × IsKind s d b.1)
  branch_kinds d is bs (branches_more {i = i} {j = j} {is = rest} {t = t} {u = u} {bs = cs} g h k) p = All-cons (λ (b : PhraseId × PhraseId). IsKind s false b.0 × IsKind s d b.1) (i, j) rest (kind_is false i t g p.0, kind_is d j u h p.2) (branch_kinds d rest cs k p.4)

  branches_length : (is : List (PhraseId × PhraseId)) (bs : Branches) → AreBranches s is bs → length is ≡ branches_count bs
  branches_length is bs branches_none = refl
  branches_length is bs (branches_more {is = rest} {bs = cs} g h k) = let e : length rest ≡ branches_count cs = branches_length rest cs k in omega (arith, e)

  otherwise_fits : (d : Bool) (o : Option PhraseId) (l : Otherwise) → IsOtherwise s o l → ProperOtherwise d l → OtherwiseFits s d o
  otherwise_fits d o l otherwise_none p = tt
  otherwise_fits d o l (otherwise_some {i = i} {t = t} h) p = kind_is d i t h p.0

  otherwise_length : (o : Option PhraseId) (l : Otherwise) → IsOtherwise s o l → otherwise_size o ≡ otherwise_count l
  otherwise_length o l otherwise_none = refl
  otherwise_length o l (otherwise_some h) = refl

  form_fits : (p : Pos) (f : Form) (t : Phrase) → IsForm s p f t → Proper t → FitsForm s (is_deduction t) f
  form_fits p f t is_name q = refl
  form_fits p f t is_variable q = refl
  form_fits p f t is_string q = refl
  form_fits p f t (is_list {is = is} {ts = ts} a) q = let e = phrases_length is ts a in (refl, kinds false is ts a q.0, omega (arith, e, q.1))
  form_fits p f t (is_ascribe {i = i} {t = x} a) q = (refl, kind_is false i x a q.0)
  form_fits p f t (is_apply {i = i} {is = is} {t = x} {ts = ts} a b) q = let e = phrases_length is ts b in (refl, kind_is false i x a q.0, kinds false is ts b q.2, omega (arith, e, q.3))
  form_fits p f t (is_call {i = i} {is = is} {t = x} {ts = ts} a b) q = let e = phrases_length is ts b in (refl, kind_is false i x a q.0, parts is ts b, omega (arith, e, q.3))
  form_fits p f t (is_lambda {i = i} {t = x} a) q = (refl, q.0, kind_is false i x a q.1, q.3)
  form_fits p f t (is_method {i = i} {t = x} a) q = (refl, q.0, kind_is true i x a q.1, q.3)
  form_fits p f t (is_let {is = is} {i = i} {bs = bs} {t = x} a b) q = let e = bindings_length is bs a in (kind_of s i x b, omega (arith, e, q.1), bounds (is_deduction x) is bs a q.2, omega (arith, e, q.3))
  form_fits p f t (is_letrec {is = is} {i = i} {bs = bs} {t = x} a b) q = let e = bindings_length is bs a in (kind_of s i x b, omega (arith, e, q.1), closures is bs a q.2, subst (IsDistinct same_name) (names is bs a) q.3, omega (arith, e, q.4))
  form_fits p f t (is_match {i = i} {is = is} {t = x} {cs = cs} a b) q = (kind_is false i x a q.0, clauses_fit (clauses_deduce cs) is cs b q.2 q.3 q.4)
  form_fits p f t (is_check {is = is} {o = o} {bs = bs} {l = l} a b) q = let e = branches_length is bs a in let g = otherwise_length o l b in (omega (arith, e, q.0), branch_kinds (branches_deduce bs) is bs a q.1, otherwise_fits (branches_deduce bs) o l b q.2, omega (arith, e, g, q.3))
  form_fits p f t (is_try {is = is} {ts = ts} a) q = let e = phrases_length is ts a in (omega (arith, e, q.0), kinds (phrases_deduce ts) is ts a q.1, omega (arith, e, q.2))
  form_fits p f t (is_seq {is = is} {ts = ts} a) q = let e = phrases_length is ts a in (refl, omega (arith, e, q.0), kinds true is ts a q.1, omega (arith, e, q.2))
  form_fits p f t (is_assume {i = i} {j = j} {t = x} {u = y} a b) q = (refl, kind_is false i x a q.0, kind_is true j y b q.2)
  form_fits p f t (is_absurd {i = i} {j = j} {t = x} {u = y} a b) q = (refl, kind_is false i x a q.0, kind_is true j y b q.2)
  form_fits p f t (is_pick_any {i = i} {t = x} a) q = (refl, kind_is true i x a q.0, q.2)
  form_fits p f t (is_pick_witness {i = i} {j = j} {t = x} {u = y} a b) q = (refl, part_of s i x a, kind_is true j y b q.1)
  form_fits p f t (is_induct {i = i} {is = is} {t = x} {cs = cs} a b) q = (refl, kind_is false i x a q.0, clauses_fit true is cs b q.2 q.3 q.4)
  form_fits p f t (is_cases {i = i} {is = is} {t = x} {cs = cs} a b) q = (refl, kind_is false i x a q.0, clauses_fit true is cs b q.2 q.3 q.4)
  form_fits p f t (is_conclude {i = i} {j = j} {t = x} {u = y} a b) q = (refl, kind_is false i x a q.0, kind_is true j y b q.2)

  pub new_fits : (p : Pos) (d : Bool) (f : Form) (tree : PhraseTree) → d ≡ is_deduction (phrase_of tree) → IsForm s p f (phrase_of tree) → Proper (phrase_of tree) → FitsForm s d f
  new_fits p d f tree e h q = subst (λ (b : Bool). FitsForm s b f) (sym e) (form_fits p f (phrase_of tree) h q)
