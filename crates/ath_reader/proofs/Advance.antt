-- A directive takes a token or more, so that a byte or more is passed.
use Rattle.std.proofs.Common.{◌≡◌, ℕ, ◌<◌, ◌≤◌, List, [], ◌∷◌, ◌++◌, length, Bool, true, false, Option, Some, None, refl, subst}
use Rattle.ath_syntax.specs.Tree.{DirectiveTree}
use Rattle.ath_grammar.specs.declared.class.Class.{Class}
use Rattle.ath_grammar.specs.declared.class.Class.TheVariants as C
use Rattle.ath_grammar.specs.declared.class.Opener.TheVariants as O
use Rattle.ath_grammar.specs.declared.class.DirectiveWord.TheVariants as D
use Rattle.ath_grammar.specs.declared.symbol.Symbol.TheVariants as S
use Rattle.ath_grammar.specs.Tokens.{Placed, next_class}
use Rattle.ath_grammar.specs.declared.item.Item.{Item}
use Rattle.ath_grammar.specs.declared.item.Want.{Want}
use Rattle.ath_grammar.specs.declared.item.Want.TheVariants.{Any}
use Rattle.ath_grammar.specs.declared.item.Attr.TheVariants.{Is}
use Rattle.ath_grammar.specs.Tables.{Row, none, take, skip, begin_as, fits, told, told_all, want_of, Start, no_start, begin, pass, behind, by_token, start}
use Rattle.ath_grammar.specs.Grammar.{grammar}
use Rattle.ath_grammar.specs.Trees.{Value, a_directive, trees}
use Rattle.ath_grammar.specs.Machine.{Outcome, over, took, refused, if_taken, opens, on_over, advance, first, tokens_of}
use Rattle.ath_grammar.specs.Spells.{starts}
use Rattle.ath_grammar.specs.Directives.{SpellsDirective, directive_items}
use Rattle.ath_grammar.proofs.Readings.{cut}
use Rattle.ath_reader.specs.Ahead.{Ahead, a_token, the_end, a_fault, Reads, follows_token, follows_end, follows_fault}
use Rattle.ath_reader.specs.Reading.{Reading, IsWhole}
use Rattle.ath_reader.specs.Next.{Spelled}
use Rattle.ath_reader.proofs.KnownTokens.{reads_rise}

-- a row that takes a token, or none
abbrev Takes : Row → Type 0
Takes none = Unit {0}
Takes (take m g is) = Unit {0}
Takes (skip m xs) = ⊥
Takes (begin_as m s x is) = Unit {0}

directive_takes : (c : Class) → Takes (grammar S.Directive c)
directive_takes (C.Opener O.Open) = tt
directive_takes (C.Opener o) = tt
directive_takes (C.Directive D.Domain) = tt
directive_takes (C.Directive d) = tt
directive_takes c = tt

abbrev NoPass : Start → Type 0
NoPass no_start = Unit {0}
NoPass (begin f g is) = Unit {0}
NoPass (pass f xs) = ⊥

behind_takes : (f : Bool) (js : List Item) (s : Start) → NoPass (behind f js s)
behind_takes f js no_start = tt
behind_takes f js (begin g h is) = tt
behind_takes f js (pass g xs) = tt

row_takes : (c : Class) (k : Bool) (w : Want) (r : Row) → Takes r → NoPass (start grammar c k w r)
row_takes c k w none h = tt
row_takes c k w (take m g is) h = tt
row_takes c k w (skip m xs) h = absurd h
row_takes c k w (begin_as m s x is) h = behind_takes (fits w m) (told_all w is) (by_token 1 grammar c k (want_of (told w x) k) (grammar s c))

-- a token is taken or refused
abbrev Lands : Outcome (List Value) → Type 0
Lands refused = Unit {0}
Lands (took f is us) = Unit {0}
Lands (over f us) = ⊥

tested_lands : (b : Bool) (o : Outcome (List Value)) → Lands o → Lands (if_taken b o)
tested_lands true o h = h
tested_lands false o h = tt

opens_lands : (o : Option Placed) (s : Start) → NoPass s → Lands (opens trees o [] [] s)
opens_lands o no_start h = tt
opens_lands None (begin f g is) h = tt
opens_lands (Some t) (begin f g is) h = tested_lands (trees.allows g t []) (took f (is ++ []) (trees.save t [])) tt
opens_lands o (pass f xs) h = absurd h

abbrev begins_with : Option Placed → Start
begins_with o = starts trees grammar S.Directive (Is Any) [] (tokens_of o)

-- no directive ends before its first token
never : (o : Option Placed) (us : List Value) → advance trees grammar o directive_items [] ≡ over true us → ⊥
never o us e = by (opens trees o [] [] (begins_with o)) (opens_lands o (begins_with o) (row_takes (next_class (tokens_of o)) (trees.kind []) Any (grammar S.Directive (next_class (tokens_of o))) (directive_takes (next_class (tokens_of o))))) e
  where
    by : (p : Outcome (List Value)) → Lands p → on_over p (λ vs. advance trees grammar o [] vs) ≡ over true us → ⊥
    by refused h q = cc
    by (took f is vs) h q = cc
    by (over f vs) h q = h

none_spelled : (more : List Placed) (d : DirectiveTree) → SpellsDirective true more d more → ⊥
none_spelled more d h = never (first more) (a_directive d ∷ []) (cut [] directive_items [] refl more d h)

pub none_whole : (next : Ahead) (d : DirectiveTree) → IsWhole [] next d → ⊥
none_whole (a_token t known to) d w = none_spelled (t ∷ []) d (w (t ∷ []) follows_token)
none_whole the_end d w = none_spelled [] d (w [] follows_end)
none_whole (a_fault kind byte) d w = none_spelled [] d (w [] follows_fault)

-- a directive takes a byte or more of the text
pub advances : (r : Reading) (names : List (List ℕ)) (from : ℕ) (d : DirectiveTree) (to : ℕ) (names' : List (List ℕ)) → Spelled r names from d to names' → (from < to) × (to ≤ length r.text)
advances r names from d to names' s = subst (λ (n : ℕ). (from < n) × (n ≤ length r.text)) s.end (by s.front.tokens s.front.read s.whole)
  where
    by : (ts : List Placed) → Reads r.file r.text names from ts s.front.known s.front.to → IsWhole ts s.front.next d → (from < s.front.to) × (s.front.to ≤ length r.text)
    by [] read w = absurd (none_whole s.front.next d w)
    by (t ∷ ts) read w = reads_rise r.file r.text names from t ts s.front.known s.front.to read
