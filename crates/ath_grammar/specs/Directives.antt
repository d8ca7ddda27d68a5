-- Directives: which tokens spell which, and which begin one.
use Rattle.std.specs.Prelude.{List, [], ◌∷◌, ◌++◌, Bool}
use Rattle.ath_syntax.specs.Tree.{DirectiveTree}
use Rattle.ath_grammar.specs.declared.symbol.Symbol.TheVariants.{Directive}
use Rattle.ath_grammar.specs.declared.item.Want.TheVariants.{Any}
use Rattle.ath_grammar.specs.declared.item.Attr.TheVariants.{Is}
use Rattle.ath_grammar.specs.declared.item.Item.{Item}
use Rattle.ath_grammar.specs.declared.item.Item.TheVariants as I
use Rattle.ath_grammar.specs.Tokens.{Placed}
use Rattle.ath_grammar.specs.Spells.{Spells}
use Rattle.ath_grammar.specs.Grammar.{grammar}
use Rattle.ath_grammar.specs.Trees.{a_directive, trees}

abbrev pub directive_items : List Item
directive_items = I.Symbol Directive (Is Any) ∷ []

-- these tokens begin with this directive, and those are left; the Bool says whether kinds of phrases are told apart
abbrev pub SpellsDirective : Bool → List Placed → DirectiveTree → List Placed → Type 0
SpellsDirective apart ts d r = Spells trees grammar apart directive_items [] ts (a_directive d ∷ []) r

-- some list of further tokens completes these to a directive
abbrev pub Begins : Bool → List Placed → Type 0
Begins apart front = (more : List Placed) × (d : DirectiveTree) × SpellsDirective apart (front ++ more) d []
