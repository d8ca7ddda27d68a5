-- Which tokens these items spell, by a table: the values and the tokens before, and those after.
use Rattle.std.specs.Prelude.{◌≡◌, List, [], ◌∷◌, ◌++◌, Bool, true, false}
use Rattle.ath_grammar.specs.declared.class.Class.{Class}
use Rattle.ath_grammar.specs.declared.symbol.Symbol.{Symbol}
use Rattle.ath_grammar.specs.declared.action.Action.{Action}
use Rattle.ath_grammar.specs.declared.action.Guard.{Guard}
use Rattle.ath_grammar.specs.declared.item.Attr.{Attr}
use Rattle.ath_grammar.specs.declared.item.Item.{Item}
use Rattle.ath_grammar.specs.declared.item.Item.TheVariants as I
use Rattle.ath_grammar.specs.Tokens.{Placed, class_of, next_class}
use Rattle.ath_grammar.specs.Tables.{Table, Start, begin, pass, start, want_of, Algebra, acts}

-- kinds have to fit where they are told apart
abbrev pub admits : Bool → Bool → Bool
admits true f = f
admits false f = true

-- what a symbol begins with, before these tokens
abbrev pub starts : (M : Algebra) → Table → Symbol → Attr → M.State → List Placed → Start
starts M row s x vs ts = start row (next_class ts) (M.kind vs) (want_of x (M.kind vs)) (row s (next_class ts))

mutual
  pub data Spells (M : Algebra) (row : Table) (apart : Bool) : List Item → M.State → List Placed → M.State → List Placed → Type 0 where
    spelled : {vs : M.State} {r : List Placed} → Spells M row apart [] vs r vs r
    a_token : {c : Class} {is : List Item} {vs ws : M.State} {t : Placed} {ts r : List Placed} → c ≡ class_of t → Spells M row apart is (M.save t vs) ts ws r → Spells M row apart (I.Token c ∷ is) vs (t ∷ ts) ws r
    a_symbol : {s : Symbol} {x : Attr} {is : List Item} {vs ws : M.State} {ts r : List Placed} → Starts M row apart (starts M row s x vs ts) is vs ts ws r → Spells M row apart (I.Symbol s x ∷ is) vs ts ws r
    an_act : {x : Action} {is : List Item} {vs ws : M.State} {ts r : List Placed} → Spells M row apart is (M.act x vs) ts ws r → Spells M row apart (I.Act x ∷ is) vs ts ws r

  pub data Starts (M : Algebra) (row : Table) (apart : Bool) : Start → List Item → M.State → List Placed → M.State → List Placed → Type 0 where
    begun : {f : Bool} {g : Guard} {js is : List Item} {vs ws : M.State} {t : Placed} {ts r : List Placed}
        → admits apart f ≡ true → M.allows g t vs ≡ true → Spells M row apart (js ++ is) (M.save t vs) ts ws r → Starts M row apart (begin f g js) is vs (t ∷ ts) ws r
    passed : {f : Bool} {xs : List Action} {is : List Item} {vs ws : M.State} {ts r : List Placed} → admits apart f ≡ true → Spells M row apart is (acts M xs vs) ts ws r → Starts M row apart (pass f xs) is vs ts ws r
