-- A number stands for one tree at most.
use Rattle.std.proofs.Common.{◌≡◌, List, Option, refl, ap}
use Rattle.ath_sorts.specs.declared.sorts.Sym.{Sym}
use Rattle.ath_syntax.specs.declared.place.Pos.{Pos}
use Rattle.ath_syntax.specs.declared.node.PhraseId.{PhraseId}
use Rattle.ath_syntax.specs.declared.node.PatId.{PatId}
use Rattle.ath_syntax.specs.declared.node.Form.{Form}
use Rattle.ath_syntax.specs.declared.node.Node.{Node}
use Rattle.ath_syntax.specs.declared.node.PatNode.{PatNode}
use Rattle.ath_syntax.specs.Nodes.{Nodes}
use Rattle.ath_syntax.specs.declared.directive.What.{What}
use Rattle.ath_syntax.specs.declared.directive.Directive.{Directive}
use Rattle.ath_syntax.specs.Tree.{Pattern, Patterns, Phrase, Phrases, Bindings, Clauses, Branches, Otherwise, Statement, DirectiveTree, directive_at}
use Rattle.ath_syntax.specs.Stands.{IsPattern, is_pattern, IsPatternNode, pattern_is_any, pattern_is_name, pattern_is_string, pattern_is_list, pattern_is_list_of, pattern_is_app, pattern_is_some, ArePatterns, patterns_none, patterns_more, IsPhrase, is_phrase, IsNode, is_node, IsForm, is_name, is_variable, is_string, is_list, is_ascribe, is_apply, is_call, is_lambda, is_method, is_let, is_letrec, is_match, is_check, is_try, is_seq, is_assume, is_absurd, is_pick_any, is_pick_witness, is_induct, is_cases, is_conclude, ArePhrases, phrases_none, phrases_more, AreBindings, bindings_none, bindings_more, AreClauses, clauses_none, clauses_more, AreBranches, branches_none, branches_more, IsOtherwise, otherwise_none, otherwise_some, IsStatement, says_domain, says_datatype, says_declare, says_define, says_define_fun, says_assert, says_load, says_phrase, IsDirective, is_directive}
use Rattle.ath_syntax.proofs.NodeLaws.{node_at, pattern_node_at}

module _ (nodes : List PatNode) where
  mutual
    pub one_pattern : (i : PatId) (t u : Pattern) → IsPattern nodes i t → IsPattern nodes i u → t ≡ u
    one_pattern i t u (is_pattern {n = n} g h) k = one_pattern_node n t u h (pattern_node_at nodes i n u k g)

    one_pattern_node : (n : PatNode) (t u : Pattern) → IsPatternNode nodes n t → IsPatternNode nodes n u → t ≡ u
    one_pattern_node n t u pattern_is_any pattern_is_any = refl
    one_pattern_node n t u pattern_is_name pattern_is_name = refl
    one_pattern_node n t u pattern_is_string pattern_is_string = refl
    one_pattern_node n t u (pattern_is_list a) (pattern_is_list b) = let e = one_patterns _ _ _ a b in cc
    one_pattern_node n t u (pattern_is_list_of a b) (pattern_is_list_of c d) = let e = one_pattern _ _ _ a c in let f = one_pattern _ _ _ b d in cc
    one_pattern_node n t u (pattern_is_app a) (pattern_is_app b) = let e = one_patterns _ _ _ a b in cc
    one_pattern_node n t u pattern_is_some pattern_is_some = refl

    one_patterns : (is : List PatId) (t u : Patterns) → ArePatterns nodes is t → ArePatterns nodes is u → t ≡ u
    one_patterns is t u patterns_none patterns_none = refl
    one_patterns is t u (patterns_more a b) (patterns_more c d) = let e = one_pattern _ _ _ a c in let f = one_patterns _ _ _ b d in cc

module _ (s : Nodes) where
  mutual
    pub one_phrase : (i : PhraseId) (t u : Phrase) → IsPhrase s i t → IsPhrase s i u → t ≡ u
    one_phrase i t u (is_phrase {n = n} g h) k = one_node n t u h (node_at s i n u k g)

    one_node : (n : Node) (t u : Phrase) → IsNode s n t → IsNode s n u → t ≡ u
    one_node n t u (is_node d f) (is_node e h) = one_form n.pos n.form t u f h

    one_form : (p : Pos) (f : Form) (t u : Phrase) → IsForm s p f t → IsForm s p f u → t ≡ u
    one_form p f t u is_name is_name = refl
    one_form p f t u is_variable is_variable = refl
    one_form p f t u is_string is_string = refl
    one_form p f t u (is_list a) (is_list c) = let e = one_phrases _ _ _ a c in cc
    one_form p f t u (is_ascribe a) (is_ascribe c) = let e = one_phrase _ _ _ a c in cc
    one_form p f t u (is_apply a b) (is_apply c d) = let e = one_phrase _ _ _ a c in let h = one_phrases _ _ _ b d in cc
    one_form p f t u (is_call a b) (is_call c d) = let e = one_phrase _ _ _ a c in let h = one_phrases _ _ _ b d in cc
    one_form p f t u (is_lambda a) (is_lambda c) = let e = one_phrase _ _ _ a c in cc
    one_form p f t u (is_method a) (is_method c) = let e = one_phrase _ _ _ a c in cc
    one_form p f t u (is_let a b) (is_let c d) = let e = one_bindings _ _ _ a c in let h = one_phrase _ _ _ b d in cc
    one_form p f t u (is_letrec a b) (is_letrec c d) = let e = one_bindings _ _ _ a c in let h = one_phrase _ _ _ b d in cc
    one_form p f t u (is_match a b) (is_match c d) = let e = one_phrase _ _ _ a c in let h = one_clauses _ _ _ b d in cc
    one_form p f t u (is_check a b) (is_check c d) = let e = one_branches _ _ _ a c in let h = one_otherwise _ _ _ b d in cc
    one_form p f t u (is_try a) (is_try c) = let e = one_phrases _ _ _ a c in cc
    one_form p f t u (is_seq a) (is_seq c) = let e = one_phrases _ _ _ a c in cc
    one_form p f t u (is_assume a b) (is_assume c d) = let e = one_phrase _ _ _ a c in let h = one_phrase _ _ _ b d in cc
    one_form p f t u (is_absurd a b) (is_absurd c d) = let e = one_phrase _ _ _ a c in let h = one_phrase _ _ _ b d in cc
    one_form p f t u (is_pick_any a) (is_pick_any c) = let e = one_phrase _ _ _ a c in cc
    one_form p f t u (is_pick_witness a b) (is_pick_witness c d) = let e = one_phrase _ _ _ a c in let h = one_phrase _ _ _ b d in cc
    one_form p f t u (is_induct a b) (is_induct c d) = let e = one_phrase _ _ _ a c in let h = one_clauses _ _ _ b d in cc
    one_form p f t u (is_cases a b) (is_cases c d) = let e = one_phrase _ _ _ a c in let h = one_clauses _ _ _ b d in cc
    one_form p f t u (is_conclude a b) (is_conclude c d) = let e = one_phrase _ _ _ a c in let h = one_phrase _ _ _ b d in cc

    one_phrases : (is : List PhraseId) (t u : Phrases) → ArePhrases s is t → ArePhrases s is u → t ≡ u
    one_phrases is t u phrases_none phrases_none = refl
    one_phrases is t u (phrases_more a b) (phrases_more c d) = let e = one_phrase _ _ _ a c in let f = one_phrases _ _ _ b d in cc

    one_bindings : (is : List (Sym × PhraseId)) (t u : Bindings) → AreBindings s is t → AreBindings s is u → t ≡ u
    one_bindings is t u bindings_none bindings_none = refl
    one_bindings is t u (bindings_more a b) (bindings_more c d) = let e = one_phrase _ _ _ a c in let f = one_bindings _ _ _ b d in cc

    one_clauses : (is : List (PatId × PhraseId)) (t u : Clauses) → AreClauses s is t → AreClauses s is u → t ≡ u
    one_clauses is t u clauses_none clauses_none = refl
    one_clauses is t u (clauses_more q a b) (clauses_more r c d) = let g = one_pattern s.patterns _ _ _ q r in let e = one_phrase _ _ _ a c in let f = one_clauses _ _ _ b d in cc

    one_branches : (is : List (PhraseId × PhraseId)) (t u : Branches) → AreBranches s is t → AreBranches s is u → t ≡ u
    one_branches is t u branches_none branches_none = refl
    one_branches is t u (branches_more q a b) (branches_more r c d) = let g = one_phrase _ _ _ q r in let e = one_phrase _ _ _ a c in let f = one_branches _ _ _ b d in cc

    one_otherwise : (o : Option PhraseId) (t u : Otherwise) → IsOtherwise s o t → IsOtherwise s o u → t ≡ u
    one_otherwise o t u otherwise_none otherwise_none = refl
    one_otherwise o t u (otherwise_some a) (otherwise_some b) = let e = one_phrase _ _ _ a b in cc

  one_statement : (w : What) (t u : Statement) → IsStatement s w t → IsStatement s w u → t ≡ u
  one_statement w t u says_domain says_domain = refl
  one_statement w t u says_datatype says_datatype = refl
  one_statement w t u says_declare says_declare = refl
  one_statement w t u (says_define a) (says_define b) = let e = one_phrase _ _ _ a b in cc
  one_statement w t u (says_define_fun a) (says_define_fun b) = let e = one_phrase _ _ _ a b in cc
  one_statement w t u (says_assert a) (says_assert b) = let e = one_phrase _ _ _ a b in cc
  one_statement w t u says_load says_load = refl
  one_statement w t u (says_phrase a) (says_phrase b) = let e = one_phrase _ _ _ a b in cc

  pub one_directive : (d : Directive) (t u : DirectiveTree) → IsDirective s d t → IsDirective s d u → t ≡ u
  one_directive d t u (is_directive a) (is_directive b) = ap (directive_at d.pos) (one_statement d.what _ _ a b)
