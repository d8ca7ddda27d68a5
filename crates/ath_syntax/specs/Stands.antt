-- Which tree a number stands for, and which a directive.
use Rattle.std.specs.Prelude.{◌≡◌, ℕ, List, [], ◌∷◌, Bool, Option, Some, None, slice_get}
use Rattle.ath_sorts.specs.declared.sorts.Sym.{Sym}
use Rattle.ath_syntax.specs.declared.place.Pos.{Pos}
use Rattle.ath_syntax.specs.declared.node.PhraseId.{PhraseId}
use Rattle.ath_syntax.specs.declared.node.PatId.{PatId}
use Rattle.ath_syntax.specs.declared.node.SortText.{SortText}
use Rattle.ath_syntax.specs.declared.node.Form.{Form}
use Rattle.ath_syntax.specs.declared.node.Form.TheVariants.{Name, Var, Str, List as Listed, Ascribe, Apply, Call, Lambda, Method, Let, LetRec, Match, Check, Try, Seq, Assume, Absurd, PickAny, PickWitness, Induct, Cases, Conclude}
use Rattle.ath_syntax.specs.declared.node.Node.{Node}
use Rattle.ath_syntax.specs.declared.node.PatNode.{PatNode}
use Rattle.ath_syntax.specs.declared.node.PatNode.TheVariants.{Any, Name as PatName, Str as PatStr, List as PatList, ListOf, App, Some as SomeOf}
use Rattle.ath_syntax.specs.declared.directive.What.{What}
use Rattle.ath_syntax.specs.declared.directive.What.TheVariants.{Domain, Datatype, Declare, Define, DefineFun, Assert, Load, Phrase as Plain}
use Rattle.ath_syntax.specs.declared.directive.Directive.{Directive}
use Rattle.ath_syntax.specs.Nodes.{Nodes}
use Rattle.ath_syntax.specs.Tree.{Pattern, any_pattern, name_pattern, string_pattern, list_pattern, list_of_pattern, app_pattern, some_pattern, Patterns, no_patterns, more_patterns, Binder, Phrase, name_at, variable_at, string_at, list_at, ascribe_at, apply_at, call_at, lambda_at, method_at, let_at, letrec_at, match_at, check_at, try_at, seq_at, assume_at, absurd_at, pick_any_at, pick_witness_at, induct_at, cases_at, conclude_at, Phrases, no_phrases, more_phrases, Bindings, no_bindings, more_bindings, Clauses, no_clauses, more_clauses, Branches, no_branches, more_branches, Otherwise, no_else, else_phrase, is_deduction, Statement, domain_is, datatype_is, declare_is, define_is, define_fun_is, assert_is, load_is, phrase_is, DirectiveTree, directive_at}

mutual
  pub data IsPattern (nodes : List PatNode) : PatId → Pattern → Type 0 where
    is_pattern : {i : PatId} {n : PatNode} {t : Pattern} → slice_get nodes i.0 ≡ Some n → IsPatternNode nodes n t → IsPattern nodes i t

  pub data IsPatternNode (nodes : List PatNode) : PatNode → Pattern → Type 0 where
    pattern_is_any : IsPatternNode nodes Any any_pattern
    pattern_is_name : {x : Sym} → IsPatternNode nodes (PatName x) (name_pattern x)
    pattern_is_string : {b : List ℕ} → IsPatternNode nodes (PatStr b) (string_pattern b)
    pattern_is_list : {is : List PatId} {ts : Patterns} → ArePatterns nodes is ts → IsPatternNode nodes (PatList is) (list_pattern ts)
    pattern_is_list_of : {i j : PatId} {t u : Pattern} → IsPattern nodes i t → IsPattern nodes j u → IsPatternNode nodes (ListOf i j) (list_of_pattern t u)
    pattern_is_app : {x : Sym} {is : List PatId} {ts : Patterns} → ArePatterns nodes is ts → IsPatternNode nodes (App x is) (app_pattern x ts)
    pattern_is_some : {k x : Sym} → IsPatternNode nodes (SomeOf k x) (some_pattern k x)

  pub data ArePatterns (nodes : List PatNode) : List PatId → Patterns → Type 0 where
    patterns_none : ArePatterns nodes [] no_patterns
    patterns_more : {i : PatId} {is : List PatId} {t : Pattern} {ts : Patterns} → IsPattern nodes i t → ArePatterns nodes is ts → ArePatterns nodes (i ∷ is) (more_patterns t ts)

mutual
  pub data IsPhrase (s : Nodes) : PhraseId → Phrase → Type 0 where
    is_phrase : {i : PhraseId} {n : Node} {t : Phrase} → slice_get s.phrases i.0 ≡ Some n → IsNode s n t → IsPhrase s i t

  -- the node has the tree's place, kind and form
  pub data IsNode (s : Nodes) : Node → Phrase → Type 0 where
    is_node : {n : Node} {t : Phrase} → n.deduction ≡ is_deduction t → IsForm s n.pos n.form t → IsNode s n t

  pub data IsForm (s : Nodes) : Pos → Form → Phrase → Type 0 where
    is_name : {p : Pos} {x : Sym} → IsForm s p (Name x) (name_at p x)
    is_variable : {p : Pos} {x : Sym} {k : ℕ} {o : Option SortText} → IsForm s p (Var x k o) (variable_at p x k o)
    is_string : {p : Pos} {b : List ℕ} → IsForm s p (Str b) (string_at p b)
    is_list : {p : Pos} {is : List PhraseId} {ts : Phrases} → ArePhrases s is ts → IsForm s p (Listed is) (list_at p ts)
    is_ascribe : {p : Pos} {i : PhraseId} {o : SortText} {t : Phrase} → IsPhrase s i t → IsForm s p (Ascribe i o) (ascribe_at p t o)
    is_apply : {p : Pos} {i : PhraseId} {is : List PhraseId} {t : Phrase} {ts : Phrases} → IsPhrase s i t → ArePhrases s is ts → IsForm s p (Apply i is) (apply_at p t ts)
    is_call : {p : Pos} {i : PhraseId} {is : List PhraseId} {t : Phrase} {ts : Phrases} → IsPhrase s i t → ArePhrases s is ts → IsForm s p (Call i is) (call_at p t ts)
    is_lambda : {p : Pos} {xs : List Sym} {i : PhraseId} {t : Phrase} → IsPhrase s i t → IsForm s p (Lambda xs i) (lambda_at p xs t)
    is_method : {p : Pos} {xs : List Sym} {i : PhraseId} {t : Phrase} → IsPhrase s i t → IsForm s p (Method xs i) (method_at p xs t)
    is_let : {p : Pos} {is : List (Sym × PhraseId)} {i : PhraseId} {bs : Bindings} {t : Phrase} → AreBindings s is bs → IsPhrase s i t → IsForm s p (Let is i) (let_at p bs t)
    is_letrec : {p : Pos} {is : List (Sym × PhraseId)} {i : PhraseId} {bs : Bindings} {t : Phrase} → AreBindings s is bs → IsPhrase s i t → IsForm s p (LetRec is i) (letrec_at p bs t)
    is_match : {p : Pos} {i : PhraseId} {is : List (PatId × PhraseId)} {t : Phrase} {cs : Clauses} → IsPhrase s i t → AreClauses s is cs → IsForm s p (Match i is) (match_at p t cs)
    is_check : {p : Pos} {is : List (PhraseId × PhraseId)} {o : Option PhraseId} {bs : Branches} {l : Otherwise} → AreBranches s is bs → IsOtherwise s o l → IsForm s p (Check is o) (check_at p bs l)
    is_try : {p : Pos} {is : List PhraseId} {ts : Phrases} → ArePhrases s is ts → IsForm s p (Try is) (try_at p ts)
    is_seq : {p : Pos} {is : List PhraseId} {ts : Phrases} → ArePhrases s is ts → IsForm s p (Seq is) (seq_at p ts)
    is_assume : {p : Pos} {x : Option Sym} {i j : PhraseId} {t u : Phrase} → IsPhrase s i t → IsPhrase s j u → IsForm s p (Assume x i j) (assume_at p x t u)
    is_absurd : {p : Pos} {x : Option Sym} {i j : PhraseId} {t u : Phrase} → IsPhrase s i t → IsPhrase s j u → IsForm s p (Absurd x i j) (absurd_at p x t u)
    is_pick_any : {p : Pos} {xs : List Binder} {i : PhraseId} {t : Phrase} → IsPhrase s i t → IsForm s p (PickAny xs i) (pick_any_at p xs t)
    is_pick_witness : {p : Pos} {x : Sym} {i j : PhraseId} {t u : Phrase} → IsPhrase s i t → IsPhrase s j u → IsForm s p (PickWitness x i j) (pick_witness_at p x t u)
    is_induct : {p : Pos} {i : PhraseId} {is : List (PatId × PhraseId)} {t : Phrase} {cs : Clauses} → IsPhrase s i t → AreClauses s is cs → IsForm s p (Induct i is) (induct_at p t cs)
    is_cases : {p : Pos} {i : PhraseId} {is : List (PatId × PhraseId)} {t : Phrase} {cs : Clauses} → IsPhrase s i t → AreClauses s is cs → IsForm s p (Cases i is) (cases_at p t cs)
    is_conclude : {p : Pos} {x : Option Sym} {i j : PhraseId} {t u : Phrase} → IsPhrase s i t → IsPhrase s j u → IsForm s p (Conclude x i j) (conclude_at p x t u)

  pub data ArePhrases (s : Nodes) : List PhraseId → Phrases → Type 0 where
    phrases_none : ArePhrases s [] no_phrases
    phrases_more : {i : PhraseId} {is : List PhraseId} {t : Phrase} {ts : Phrases} → IsPhrase s i t → ArePhrases s is ts → ArePhrases s (i ∷ is) (more_phrases t ts)

  pub data AreBindings (s : Nodes) : List (Sym × PhraseId) → Bindings → Type 0 where
    bindings_none : AreBindings s [] no_bindings
    bindings_more : {x : Sym} {i : PhraseId} {is : List (Sym × PhraseId)} {t : Phrase} {bs : Bindings} → IsPhrase s i t → AreBindings s is bs → AreBindings s ((x, i) ∷ is) (more_bindings x t bs)

  pub data AreClauses (s : Nodes) : List (PatId × PhraseId) → Clauses → Type 0 where
    clauses_none : AreClauses s [] no_clauses
    clauses_more : {q : PatId} {i : PhraseId} {is : List (PatId × PhraseId)} {c : Pattern} {t : Phrase} {cs : Clauses} → IsPattern s.patterns q c → IsPhrase s i t → AreClauses s is cs → AreClauses s ((q, i) ∷ is) (more_clauses c t cs)

  pub data AreBranches (s : Nodes) : List (PhraseId × PhraseId) → Branches → Type 0 where
    branches_none : AreBranches s [] no_branches
    branches_more : {i j : PhraseId} {is : List (PhraseId × PhraseId)} {t u : Phrase} {bs : Branches} → IsPhrase s i t → IsPhrase s j u → AreBranches s is bs → AreBranches s ((i, j) ∷ is) (more_branches t u bs)

  pub data IsOtherwise (s : Nodes) : Option PhraseId → Otherwise → Type 0 where
    otherwise_none : IsOtherwise s None no_else
    otherwise_some : {i : PhraseId} {t : Phrase} → IsPhrase s i t → IsOtherwise s (Some i) (else_phrase t)

pub data IsStatement (s : Nodes) : What → Statement → Type 0 where
  says_domain : {x : Sym} {vs : List Sym} → IsStatement s (Domain x vs) (domain_is x vs)
  says_datatype : {x : Sym} {vs : List Sym} {cs : List (Sym × List SortText)} → IsStatement s (Datatype x vs cs) (datatype_is x vs cs)
  says_declare : {xs : List Sym} {vs : Option (List Sym)} {os : List SortText} {o : SortText} → IsStatement s (Declare xs vs os o) (declare_is xs vs os o)
  says_define : {x : Sym} {i : PhraseId} {t : Phrase} → IsPhrase s i t → IsStatement s (Define x i) (define_is x t)
  says_define_fun : {x : Sym} {xs : List Sym} {i : PhraseId} {t : Phrase} → IsPhrase s i t → IsStatement s (DefineFun x xs i) (define_fun_is x xs t)
  says_assert : {x : Option Sym} {closed : Bool} {i : PhraseId} {t : Phrase} → IsPhrase s i t → IsStatement s (Assert x closed i) (assert_is x closed t)
  says_load : {b : List ℕ} → IsStatement s (Load b) (load_is b)
  says_phrase : {i : PhraseId} {t : Phrase} → IsPhrase s i t → IsStatement s (Plain i) (phrase_is t)

pub data IsDirective (s : Nodes) : Directive → DirectiveTree → Type 0 where
  is_directive : {d : Directive} {t : Statement} → IsStatement s d.what t → IsDirective s d (directive_at d.pos t)
