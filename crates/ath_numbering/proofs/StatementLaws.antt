-- Directives whose phrases are numbered.
use Rattle.std.proofs.Common.{◌≡◌, ℕ, List, Bool, Option, sym, subst}
use Rattle.ath_sorts.specs.declared.sorts.Sym.{Sym}
use Rattle.ath_numbering.specs.declared.tree.PhraseTree.{PhraseTree}
use Rattle.ath_numbering.specs.declared.tree.StatementTree.{StatementTree}
use Rattle.ath_numbering.specs.declared.tree.StatementTree.TheVariants as says
use Rattle.ath_numbering.specs.declared.tree.DirectiveTree.{DirectiveTree}
use Rattle.ath_numbering.specs.Trees.{phrase_of, statement_of, directive_of}
use Rattle.ath_syntax.specs.declared.node.PhraseId.{PhraseId}
use Rattle.ath_syntax.specs.declared.node.SortText.{SortText}
use Rattle.ath_syntax.specs.declared.directive.What.{What}
use Rattle.ath_syntax.specs.declared.directive.What.TheVariants as what
use Rattle.ath_syntax.specs.Nodes.{Nodes}
use Rattle.ath_syntax.specs.Stands.{IsPhrase, IsStatement, says_domain, says_datatype, says_declare, says_define, says_define_fun, says_assert, says_load, says_phrase, IsDirective, is_directive}

module _ (s : Nodes) (tree : StatementTree) where
  by : (w : What) (made : StatementTree) → tree ≡ made → IsStatement s w (statement_of made) → IsStatement s w (statement_of tree)
  by w made e h = subst (λ (t : StatementTree). IsStatement s w (statement_of t)) (sym e) h

  pub domain_stands : (x : Sym) (vs : List Sym) → tree ≡ says.Domain x vs → IsStatement s (what.Domain x vs) (statement_of tree)
  domain_stands x vs e = by _ _ e says_domain

  pub datatype_stands : (x : Sym) (vs : List Sym) (cs : List (Sym × List SortText)) → tree ≡ says.Datatype x vs cs → IsStatement s (what.Datatype x vs cs) (statement_of tree)
  datatype_stands x vs cs e = by _ _ e says_datatype

  pub declare_stands : (xs : List Sym) (vs : Option (List Sym)) (os : List SortText) (o : SortText) → tree ≡ says.Declare xs vs os o → IsStatement s (what.Declare xs vs os o) (statement_of tree)
  declare_stands xs vs os o e = by _ _ e says_declare

  pub define_stands : (x : Sym) (i : PhraseId) (t : PhraseTree) → tree ≡ says.Define x t → IsPhrase s i (phrase_of t) → IsStatement s (what.Define x i) (statement_of tree)
  define_stands x i t e h = by _ _ e (says_define h)

  pub define_fun_stands : (x : Sym) (xs : List Sym) (i : PhraseId) (t : PhraseTree) → tree ≡ says.DefineFun x xs t → IsPhrase s i (phrase_of t) → IsStatement s (what.DefineFun x xs i) (statement_of tree)
  define_fun_stands x xs i t e h = by _ _ e (says_define_fun h)

  pub assert_stands : (x : Option Sym) (closed : Bool) (i : PhraseId) (t : PhraseTree) → tree ≡ says.Assert x closed t → IsPhrase s i (phrase_of t) → IsStatement s (what.Assert x closed i) (statement_of tree)
  assert_stands x closed i t e h = by _ _ e (says_assert h)

  pub load_stands : (b : List ℕ) → tree ≡ says.Load b → IsStatement s (what.Load b) (statement_of tree)
  load_stands b e = by _ _ e says_load

  pub phrase_stands : (i : PhraseId) (t : PhraseTree) → tree ≡ says.Phrase t → IsPhrase s i (phrase_of t) → IsStatement s (what.Phrase i) (statement_of tree)
  phrase_stands i t e h = by _ _ e (says_phrase h)

pub ruleset statement_stands = (domain_stands, datatype_stands, declare_stands, define_stands, define_fun_stands, assert_stands, load_stands, phrase_stands)

pub directive_stands : (s : Nodes) (tree : DirectiveTree) (w : What) → IsStatement s w (statement_of tree.statement) → IsDirective s (record { pos = tree.pos; what = w }) (directive_of tree)
directive_stands s tree w h = is_directive h
