-- A number keeps the tree that it stands for, and a node that fits fits where there are more.
use Rattle.std.proofs.Common.{◌≡◌, ℕ, List, Bool, true, false, Option, Some, None}
use Rattle.std.specs.Prelude.{slice_get, All}
use Rattle.std.proofs.lemmas.List.Elements.{All-weaker}
use Rattle.ath_syntax.specs.declared.place.Pos.{Pos}
use Rattle.ath_syntax.specs.declared.node.PhraseId.{PhraseId}
use Rattle.ath_syntax.specs.declared.node.PatId.{PatId}
use Rattle.ath_syntax.specs.declared.node.Form.{Form}
use Rattle.ath_syntax.specs.declared.node.Form.TheVariants.{Name, Var, Str, List as Listed, Ascribe, Apply, Call, Lambda, Method, Let, LetRec, Match, Check, Try, Seq, Assume, Absurd, PickAny, PickWitness, Induct, Cases, Conclude}
use Rattle.ath_syntax.specs.declared.node.Node.{Node}
use Rattle.ath_syntax.specs.declared.node.PatNode.{PatNode}
use Rattle.ath_syntax.specs.declared.directive.What.{What}
use Rattle.ath_syntax.specs.declared.directive.Directive.{Directive}
use Rattle.ath_sorts.specs.declared.sorts.Sym.{Sym}
use Rattle.ath_syntax.specs.Nodes.{Nodes, KeepsNodes}
use Rattle.ath_syntax.specs.Tree.{Pattern, Patterns, Phrase, Phrases, Bindings, Clauses, Branches, Otherwise, Statement, DirectiveTree}
use Rattle.ath_syntax.specs.Stands.{IsPattern, is_pattern, IsPatternNode, pattern_is_any, pattern_is_name, pattern_is_string, pattern_is_list, pattern_is_list_of, pattern_is_app, pattern_is_some, ArePatterns, patterns_none, patterns_more, IsPhrase, is_phrase, IsNode, is_node, IsForm, is_name, is_variable, is_string, is_list, is_ascribe, is_apply, is_call, is_lambda, is_method, is_let, is_letrec, is_match, is_check, is_try, is_seq, is_assume, is_absurd, is_pick_any, is_pick_witness, is_induct, is_cases, is_conclude, ArePhrases, phrases_none, phrases_more, AreBindings, bindings_none, bindings_more, AreClauses, clauses_none, clauses_more, AreBranches, branches_none, branches_more, IsOtherwise, otherwise_none, otherwise_some, IsStatement, says_domain, says_datatype, says_declare, says_define, says_define_fun, says_assert, says_load, says_phrase, IsDirective, is_directive}
use Rattle.ath_syntax.specs.Fits.{IsPart, IsKind, IsBound, IsClosure, ClausesFit, OtherwiseFits, Fits, FitsForm}
use Rattle.ath_syntax.proofs.Growth.{part_kept, kind_kept, closure_kept}

module _ (old new : List PatNode) (more : (i : ℕ) (n : PatNode) → slice_get old i ≡ Some n → slice_get new i ≡ Some n) where
  mutual
    pub keep_pattern : (i : PatId) (t : Pattern) → IsPattern old i t → IsPattern new i t
    keep_pattern i t (is_pattern g h) = is_pattern (more _ _ g) (keep_pattern_node _ t h)

    pub keep_pattern_node : (n : PatNode) (t : Pattern) → IsPatternNode old n t → IsPatternNode new n t
    keep_pattern_node n t pattern_is_any = pattern_is_any
    keep_pattern_node n t pattern_is_name = pattern_is_name
    keep_pattern_node n t pattern_is_string = pattern_is_string
    keep_pattern_node n t (pattern_is_list a) = pattern_is_list (keep_patterns _ _ a)
    keep_pattern_node n t (pattern_is_list_of a b) = pattern_is_list_of (keep_pattern _ _ a) (keep_pattern _ _ b)
    keep_pattern_node n t (pattern_is_app a) = pattern_is_app (keep_patterns _ _ a)
    keep_pattern_node n t pattern_is_some = pattern_is_some

    pub keep_patterns : (is : List PatId) (ts : Patterns) → ArePatterns old is ts → ArePatterns new is ts
    keep_patterns is ts patterns_none = patterns_none
    keep_patterns is ts (patterns_more a b) = patterns_more (keep_pattern _ _ a) (keep_patterns _ _ b)

pub keep_pattern_number : (old new : Nodes) → KeepsNodes old new → (i : PatId) (t : Pattern) → IsPattern old.patterns i t → IsPattern new.patterns i t
keep_pattern_number old new g = keep_pattern old.patterns new.patterns g.pattern

module _ (old new : Nodes) (g : KeepsNodes old new) where
  mutual
    pub keep_phrase : (i : PhraseId) (t : Phrase) → IsPhrase old i t → IsPhrase new i t
    keep_phrase i t (is_phrase a b) = is_phrase (g.phrase _ _ a) (keep_node _ t b)

    pub keep_node : (n : Node) (t : Phrase) → IsNode old n t → IsNode new n t
    keep_node n t (is_node d a) = is_node d (keep_form _ _ t a)

    keep_form : (p : Pos) (f : Form) (t : Phrase) → IsForm old p f t → IsForm new p f t
    keep_form p f t is_name = is_name
    keep_form p f t is_variable = is_variable
    keep_form p f t is_string = is_string
    keep_form p f t (is_list a) = is_list (keep_phrases _ _ a)
    keep_form p f t (is_ascribe a) = is_ascribe (keep_phrase _ _ a)
    keep_form p f t (is_apply a b) = is_apply (keep_phrase _ _ a) (keep_phrases _ _ b)
    keep_form p f t (is_call a b) = is_call (keep_phrase _ _ a) (keep_phrases _ _ b)
    keep_form p f t (is_lambda a) = is_lambda (keep_phrase _ _ a)
    keep_form p f t (is_method a) = is_method (keep_phrase _ _ a)
    keep_form p f t (is_let a b) = is_let (keep_bindings _ _ a) (keep_phrase _ _ b)
    keep_form p f t (is_letrec a b) = is_letrec (keep_bindings _ _ a) (keep_phrase _ _ b)
    keep_form p f t (is_match a b) = is_match (keep_phrase _ _ a) (keep_clauses _ _ b)
    keep_form p f t (is_check a b) = is_check (keep_branches _ _ a) (keep_otherwise _ _ b)
    keep_form p f t (is_try a) = is_try (keep_phrases _ _ a)
    keep_form p f t (is_seq a) = is_seq (keep_phrases _ _ a)
    keep_form p f t (is_assume a b) = is_assume (keep_phrase _ _ a) (keep_phrase _ _ b)
    keep_form p f t (is_absurd a b) = is_absurd (keep_phrase _ _ a) (keep_phrase _ _ b)
    keep_form p f t (is_pick_any a) = is_pick_any (keep_phrase _ _ a)
    keep_form p f t (is_pick_witness a b) = is_pick_witness (keep_phrase _ _ a) (keep_phrase _ _ b)
    keep_form p f t (is_induct a b) = is_induct (keep_phrase _ _ a) (keep_clauses _ _ b)
    keep_form p f t (is_cases a b) = is_cases (keep_phrase _ _ a) (keep_clauses _ _ b)
    keep_form p f t (is_conclude a b) = is_conclude (keep_phrase _ _ a) (keep_phrase _ _ b)

    pub keep_phrases : (is : List PhraseId) (ts : Phrases) → ArePhrases old is ts → ArePhrases new is ts
    keep_phrases is ts phrases_none = phrases_none
    keep_phrases is ts (phrases_more a b) = phrases_more (keep_phrase _ _ a) (keep_phrases _ _ b)

    pub keep_bindings : (is : List (Sym × PhraseId)) (ts : Bindings) → AreBindings old is ts → AreBindings new is ts
    keep_bindings is ts bindings_none = bindings_none
    keep_bindings is ts (bindings_more a b) = bindings_more (keep_phrase _ _ a) (keep_bindings _ _ b)

    pub keep_clauses : (is : List (PatId × PhraseId)) (ts : Clauses) → AreClauses old is ts → AreClauses new is ts
    keep_clauses is ts clauses_none = clauses_none
    keep_clauses is ts (clauses_more a b c) = clauses_more (keep_pattern old.patterns new.patterns g.pattern _ _ a) (keep_phrase _ _ b) (keep_clauses _ _ c)

    pub keep_branches : (is : List (PhraseId × PhraseId)) (ts : Branches) → AreBranches old is ts → AreBranches new is ts
    keep_branches is ts branches_none = branches_none
    keep_branches is ts (branches_more a b c) = branches_more (keep_phrase _ _ a) (keep_phrase _ _ b) (keep_branches _ _ c)

    pub keep_otherwise : (o : Option PhraseId) (t : Otherwise) → IsOtherwise old o t → IsOtherwise new o t
    keep_otherwise o t otherwise_none = otherwise_none
    keep_otherwise o t (otherwise_some a) = otherwise_some (keep_phrase _ _ a)

  pub keep_statement : (w : What) (t : Statement) → IsStatement old w t → IsStatement new w t
  keep_statement w t says_domain = says_domain
  keep_statement w t says_datatype = says_datatype
  keep_statement w t says_declare = says_declare
  keep_statement w t (says_define a) = says_define (keep_phrase _ _ a)
  keep_statement w t (says_define_fun a) = says_define_fun (keep_phrase _ _ a)
  keep_statement w t (says_assert a) = says_assert (keep_phrase _ _ a)
  keep_statement w t says_load = says_load
  keep_statement w t (says_phrase a) = says_phrase (keep_phrase _ _ a)

  pub keep_directive : (d : Directive) (t : DirectiveTree) → IsDirective old d t → IsDirective new d t
  keep_directive d t (is_directive a) = is_directive (keep_statement _ _ a)

  pub bound_kept : (d : Bool) (i : PhraseId) → IsBound old d i → IsBound new d i
  bound_kept true i h = part_kept old new g i h
  bound_kept false i h = kind_kept old new g false i h

  pub clauses_kept : (d : Bool) (cs : List (PatId × PhraseId)) → ClausesFit old d cs → ClausesFit new d cs
  clauses_kept d cs h = record {
    some = h.some;
    kind = All-weaker (λ c. IsKind old d c.1) (λ c. IsKind new d c.1) (λ c k. kind_kept old new g d c.1 k) cs h.kind;
    trees = h.trees;
    patterns = keep_patterns old.patterns new.patterns g.pattern _ _ h.patterns;
    size = h.size;
  }

  pub otherwise_kept : (d : Bool) (o : Option PhraseId) → OtherwiseFits old d o → OtherwiseFits new d o
  otherwise_kept d None h = tt
  otherwise_kept d (Some i) h = kind_kept old new g d i h

  pub kinds_kept : (d : Bool) (is : List PhraseId) → All (IsKind old d) is → All (IsKind new d) is
  kinds_kept d is h = All-weaker (IsKind old d) (IsKind new d) (λ i k. kind_kept old new g d i k) is h

  pub form_kept : (d : Bool) (f : Form) → FitsForm old d f → FitsForm new d f
  form_kept d (Name x) h = h
  form_kept d (Var x k o) h = h
  form_kept d (Str b) h = h
  form_kept d (Listed is) h = (h.0, kinds_kept false is h.1, h.2)
  form_kept d (Ascribe i o) h = (h.0, kind_kept old new g false i h.1)
  form_kept d (Apply i is) h = (h.0, kind_kept old new g false i h.1, kinds_kept false is h.2, h.3)
  form_kept d (Call i is) h = (h.0, kind_kept old new g false i h.1, All-weaker (IsPart old) (IsPart new) (λ j k. part_kept old new g j k) is h.2, h.3)
  form_kept d (Lambda xs i) h = (h.0, h.1, kind_kept old new g false i h.2, h.3)
  form_kept d (Method xs i) h = (h.0, h.1, kind_kept old new g true i h.2, h.3)
  form_kept d (Let bs i) h = (kind_kept old new g d i h.0, h.1, All-weaker (λ b. IsBound old d b.1) (λ b. IsBound new d b.1) (λ b k. bound_kept d b.1 k) bs h.2, h.3)
  form_kept d (LetRec bs i) h = (kind_kept old new g d i h.0, h.1, All-weaker (λ b. IsClosure old b.1) (λ b. IsClosure new b.1) (λ b k. closure_kept old new g b.1 k) bs h.2, h.3, h.4)
  form_kept d (Match i cs) h = (kind_kept old new g false i h.0, clauses_kept d cs h.1)
  form_kept d (Check bs o) h = (h.0, All-weaker (λ b. IsKind old false b.0 × IsKind old d b.1) (λ b. IsKind new false b.0 × IsKind new d b.1) (λ b k. (kind_kept old new g false b.0 k.0, kind_kept old new g d b.1 k.1)) bs h.1, otherwise_kept d o h.2, h.3)
  form_kept d (Try is) h = (h.0, kinds_kept d is h.1, h.2)
  form_kept d (Seq is) h = (h.0, h.1, kinds_kept true is h.2, h.3)
  form_kept d (Assume x i j) h = (h.0, kind_kept old new g false i h.1, kind_kept old new g true j h.2)
  form_kept d (Absurd x i j) h = (h.0, kind_kept old new g false i h.1, kind_kept old new g true j h.2)
  form_kept d (PickAny xs i) h = (h.0, kind_kept old new g true i h.1, h.2)
  form_kept d (PickWitness x i j) h = (h.0, part_kept old new g i h.1, kind_kept old new g true j h.2)
  form_kept d (Induct i cs) h = (h.0, kind_kept old new g false i h.1, clauses_kept true cs h.2)
  form_kept d (Cases i cs) h = (h.0, kind_kept old new g false i h.1, clauses_kept true cs h.2)
  form_kept d (Conclude x i j) h = (h.0, kind_kept old new g false i h.1, kind_kept old new g true j h.2)

  pub fits_kept : (n : Node) → Fits old n → Fits new n
  fits_kept n h = form_kept n.deduction n.form h
