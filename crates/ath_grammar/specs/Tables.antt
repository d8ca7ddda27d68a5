-- Grammars as tables: a row for each symbol and class of the next token.
use Rattle.std.specs.Prelude.{ℕ, zero, suc, List, [], ◌∷◌, ◌++◌, Bool, true, false}
use Rattle.ath_grammar.specs.declared.class.Class.{Class}
use Rattle.ath_grammar.specs.declared.symbol.Symbol.{Symbol}
use Rattle.ath_grammar.specs.declared.action.Action.{Action}
use Rattle.ath_grammar.specs.declared.action.Guard.{Guard}
use Rattle.ath_grammar.specs.declared.item.Want.{Want}
use Rattle.ath_grammar.specs.declared.item.Want.TheVariants.{Any, Only}
use Rattle.ath_grammar.specs.declared.item.Rule.{Rule}
use Rattle.ath_grammar.specs.declared.item.Rule.TheVariants.{Same, AsTop, Bound, After}
use Rattle.ath_grammar.specs.declared.item.Attr.{Attr}
use Rattle.ath_grammar.specs.declared.item.Attr.TheVariants.{Is, Given}
use Rattle.ath_grammar.specs.declared.item.Item.{Item}
use Rattle.ath_grammar.specs.declared.item.Item.TheVariants as I
use Rattle.ath_grammar.specs.Tokens.{Placed}

-- How a symbol goes on: by the next token, which has to fit a guard, and then by these items; by nothing, and these
-- actions; or as another symbol begins by a token of its own, and then by these items. The want says of which kind a phrase
-- is that goes on so.
pub data Row : Type 0 where
  none : Row
  take : Want → Guard → List Item → Row
  skip : Want → List Action → Row
  begin_as : Want → Symbol → Attr → List Item → Row

abbrev pub Table : Type 0
Table = Symbol → Class → Row

abbrev pub both : Bool → Bool → Bool
both true b = b
both false b = false

abbrev pub same_kind : Bool → Bool → Bool
same_kind true k = k
same_kind false true = false
same_kind false false = true

-- whether a phrase that is this may stand where that is wanted
abbrev pub fits : Want → Want → Bool
fits Any m = true
fits (Only j) Any = true
fits (Only j) (Only k) = same_kind j k

-- what a `let` that is wanted so may bind: a deduction only where it may be one itself
abbrev pub bound : Want → Want
bound Any = Any
bound (Only false) = Only false
bound (Only true) = Any

-- what a `let` that is wanted so may be behind a binding of this kind
abbrev pub after : Want → Bool → Want
after w false = w
after w true = Only true

-- by a rule, where this was told, and the phrase that was read last is of this kind
abbrev pub ruled : Rule → Want → Bool → Want
ruled Same w k = w
ruled AsTop w k = Only k
ruled Bound w k = bound w
ruled After w k = after w k

abbrev pub want_of : Attr → Bool → Want
want_of (Is w) k = w
want_of (Given r w) k = ruled r w k

-- the items of a production whose symbol is told this
abbrev pub told : Want → Attr → Attr
told w (Is v) = Is v
told w (Given r v) = Given r w

abbrev pub told_item : Want → Item → Item
told_item w (I.Token c) = I.Token c
told_item w (I.Symbol s x) = I.Symbol s (told w x)
told_item w (I.Act x) = I.Act x

abbrev pub told_all : Want → List Item → List Item
told_all w [] = []
told_all w (i ∷ is) = told_item w i ∷ told_all w is

-- What a row comes to: nothing begins; the token is taken, and these items are read behind it; or it is left, and these
-- actions are done. The Bool says whether the kinds fit.
pub data Start : Type 0 where
  no_start : Start
  begin : Bool → Guard → List Item → Start
  pass : Bool → List Action → Start

abbrev pub behind : Bool → List Item → Start → Start
behind f js no_start = no_start
behind f js (begin h g is) = begin (both f h) g (is ++ js)
behind f js (pass h xs) = no_start

-- By a token, at this class of it, where this is wanted, and the phrase that was read last is of this kind. A symbol may
-- begin as another, and that as another, so many times.
abbrev pub by_token : ℕ → Table → Class → Bool → Want → Row → Start
by_token n row c k w none = no_start
by_token n row c k w (take m g is) = begin (fits w m) g (told_all w is)
by_token n row c k w (skip m xs) = no_start
by_token zero row c k w (begin_as m s x is) = no_start
by_token (suc n) row c k w (begin_as m s x is) = behind (fits w m) (told_all w is) (by_token n row c k (want_of (told w x) k) (row s c))

abbrev pub start : Table → Class → Bool → Want → Row → Start
start row c k w (skip m xs) = pass (fits w m) xs
start row c k w R = by_token 2 row c k w R

-- What is known of what was read, and what is done with it.
pub record Algebra : Type 1 where
  pub State : Type 0
  pub save : Placed → State → State
  pub act : Action → State → State
  -- the kind of the phrase that was read last
  pub kind : State → Bool
  pub allows : Guard → Placed → State → Bool

abbrev pub acts : (M : Algebra) → List Action → M.State → M.State
acts M [] vs = vs
acts M (x ∷ xs) vs = acts M xs (M.act x vs)
