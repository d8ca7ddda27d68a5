-- What the laws of the grammar say.
use Rattle.std.specs.Prelude.{◌↔◌, List, [], ◌++◌, Bool, Option, Some}
use Rattle.ath_grammar.specs.declared.item.Item.{Item}
use Rattle.ath_grammar.specs.Tokens.{Placed}
use Rattle.ath_grammar.specs.Spells.{Spells}
use Rattle.ath_grammar.specs.Machine.{run}
use Rattle.ath_grammar.specs.Directives.{directive_items}
use Rattle.ath_grammar.specs.Grammar.{grammar}
use Rattle.ath_grammar.specs.Trees.{Value, trees}

-- these items spell the first of the tokens, and those the others
abbrev pub InParts : Bool → List Item → List Item → List Value → List Placed → List Value → List Placed → Type 0
InParts apart is js vs ts ws r = (us : List Value) × (mid : List Placed) × Spells trees grammar apart is vs ts us mid × Spells trees grammar apart js us mid ws r

abbrev pub SpelledInParts : Type 0
SpelledInParts = (apart : Bool) (is js : List Item) (vs : List Value) (ts : List Placed) (ws : List Value) (r : List Placed) → Spells trees grammar apart (is ++ js) vs ts ws r ↔ InParts apart is js vs ts ws r

-- what is still to be read behind tokens that begin a directive, and the values of what was read
abbrev pub after : List Placed → Option (List Item × List Value)
after ts = run trees grammar (Some (directive_items, [])) ts
