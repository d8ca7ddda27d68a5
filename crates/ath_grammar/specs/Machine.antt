-- A reader of one token at a time, by a table: the items that are still to be read, and the values of what was.
use Rattle.std.specs.Prelude.{List, [], ◌∷◌, ◌++◌, Bool, true, false, Option, Some, None}
use Rattle.ath_grammar.specs.declared.item.Item.{Item}
use Rattle.ath_grammar.specs.declared.item.Item.TheVariants as I
use Rattle.ath_grammar.specs.Tokens.{Placed}
use Rattle.ath_grammar.specs.Codes.{is_class}
use Rattle.ath_grammar.specs.Tables.{Table, Start, no_start, begin, pass, both, Algebra, acts}
use Rattle.ath_grammar.specs.Spells.{starts}

-- What a token leads to: all was read before it; it is taken, and this is left; or it is refused. The Bool says whether the
-- kinds fit.
pub data Outcome (V : Type 0) : Type 0 where
  over : Bool → V → Outcome V
  took : Bool → List Item → V → Outcome V
  refused : Outcome V

-- what comes next: a token, or the end of the text
abbrev pub first : List Placed → Option Placed
first [] = None
first (t ∷ ts) = Some t

abbrev pub tokens_of : Option Placed → List Placed
tokens_of None = []
tokens_of (Some t) = t ∷ []

abbrev pub if_taken : {V : Type 0} → Bool → Outcome V → Outcome V
if_taken true o = o
if_taken false o = refused

abbrev pub where_token : {V : Type 0} → Option Placed → (Placed → Outcome V) → Outcome V
where_token None go = refused
where_token (Some t) go = go t

-- what a symbol does with what comes next; `over` where it is nothing
abbrev pub opens : (M : Algebra) → Option Placed → List Item → M.State → Start → Outcome M.State
opens M o is vs no_start = refused
opens M o is vs (begin f g js) = where_token o (λ t. if_taken (M.allows g t vs) (took f (js ++ is) (M.save t vs)))
opens M o is vs (pass f xs) = over f (acts M xs vs)

-- with kinds before it that fit, or don't
abbrev pub also : {V : Type 0} → Bool → Outcome V → Outcome V
also f (over g us) = over (both f g) us
also f (took g is us) = took (both f g) is us
also f refused = refused

abbrev pub on_over : {V : Type 0} → Outcome V → (V → Outcome V) → Outcome V
on_over (over f us) go = also f (go us)
on_over (took f is us) go = took f is us
on_over refused go = refused

abbrev pub advance : (M : Algebra) → Table → Option Placed → List Item → M.State → Outcome M.State
advance M row o [] vs = over true vs
advance M row o (I.Token c ∷ is) vs = where_token o (λ t. if_taken (is_class c t) (took true is (M.save t vs)))
advance M row o (I.Act x ∷ is) vs = advance M row o is (M.act x vs)
advance M row o (I.Symbol s x ∷ is) vs = on_over (opens M o is vs (starts M row s x vs (tokens_of o))) (λ us. advance M row o is us)

-- what needs no token, at once
abbrev pub settle : (M : Algebra) → List Item → M.State → List Item × M.State
settle M (I.Act x ∷ is) vs = settle M is (M.act x vs)
settle M is vs = (is, vs)

-- the items that are left and the values behind a token, where it is taken and kinds fit
abbrev pub taken : (M : Algebra) → Outcome M.State → Option (List Item × M.State)
taken M (took true is vs) = Some (settle M is vs)
taken M (took false is vs) = None
taken M (over f vs) = None
taken M refused = None

abbrev pub step : (M : Algebra) → Table → Option (List Item × M.State) → Placed → Option (List Item × M.State)
step M row None t = None
step M row (Some s) t = taken M (advance M row (Some t) s.0 s.1)

abbrev pub run : (M : Algebra) → Table → Option (List Item × M.State) → List Placed → Option (List Item × M.State)
run M row o [] = o
run M row o (t ∷ ts) = run M row (step M row o t) ts
