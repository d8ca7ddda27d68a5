-- What the grammar spells is proper, where kinds are told apart.
use Rattle.std.proofs.Common.{◌≡◌, ◌≤◌, List, [], ◌∷◌, length, Bool, true, false, ◌⊎◌, inl, inr, refl, subst, arith, if◌then◌else◌}
use Rattle.ath_sorts.specs.declared.sorts.Sym.{Sym}
use Rattle.ath_syntax.specs.declared.place.Pos.{Pos}
use Rattle.ath_syntax.specs.Fits.{most}
use Rattle.ath_syntax.specs.Proper.{ProperDirective}
use Rattle.ath_syntax.specs.Tree.{DirectiveTree}
use Rattle.ath_grammar.specs.declared.class.Class.{Class}
use Rattle.ath_grammar.specs.declared.class.Class.TheVariants as C
use Rattle.ath_grammar.specs.declared.class.Opener.TheVariants as O
use Rattle.ath_grammar.specs.declared.lexeme.Lexeme.TheVariants as L
use Rattle.ath_grammar.specs.declared.symbol.Symbol.TheVariants as S
use Rattle.ath_grammar.specs.declared.action.Action.TheVariants as A
use Rattle.ath_grammar.specs.declared.item.Want.TheVariants.{Any}
use Rattle.ath_grammar.specs.declared.item.Attr.TheVariants.{Is}
use Rattle.ath_grammar.specs.declared.item.Item.TheVariants as I
use Rattle.ath_grammar.specs.Known.{Known}
use Rattle.ath_grammar.specs.Tokens.{Placed, at, next_class}
use Rattle.ath_grammar.specs.Spells.{a_symbol, an_act, begun}
use Rattle.ath_grammar.specs.Grammar.{grammar}
use Rattle.ath_grammar.specs.Trees.{a_place, a_directive, act_on}
use Rattle.ath_grammar.specs.Directives.{SpellsDirective}
use Rattle.ath_grammar.proofs.Classes.{holds_of_all, every}
use Rattle.ath_grammar.proofs.ProperTypes.{thing, a_directive as a_directive_type, keeps}
use Rattle.ath_grammar.proofs.ProperRuns.{leads_goes, start_goes, sound, sound_start}

abbrev is_open : Class → Bool
is_open (C.Opener O.Open) = true
is_open c = false

abbrev keeps_or_opens : Class → Bool
keeps_or_opens c = if is_open c then true else keeps S.Directive Any c (grammar S.Directive c)

directive_keeps : holds_of_all keeps_or_opens ≡ true
directive_keeps = refl

other_keeps : (c : Class) → is_open c ≡ false → keeps S.Directive Any c (grammar S.Directive c) ≡ true
other_keeps c e = subst (λ (b : Bool). (if b then true else keeps S.Directive Any c (grammar S.Directive c)) ≡ true) e (every keeps_or_opens directive_keeps c)

-- whether a bracket comes first
bracket_first : (ts : List Placed) → (is_open (next_class ts) ≡ false) ⊎ ((p : Pos) × (more : List Placed) × (ts ≡ at p (L.Opener O.Open) ∷ more))
bracket_first [] = inl refl
bracket_first (at p (L.Opener O.Open) ∷ more) = inr (p, more, refl)
bracket_first _ = inl refl

module _ (w₀ : Sym) where
  behind_bracket : (p : Pos) (ts : List Placed) (d : DirectiveTree) (r : List Placed) → SpellsDirective true (at p (L.Opener O.Open) ∷ ts) d r → length (at p (L.Opener O.Open) ∷ ts) ≤ most → Known w₀ ts → ProperDirective d
  behind_bracket p ts d r (a_symbol (begun e l (an_act k))) h n =
      (sound w₀ _ (act_on A.Again (a_place p ∷ [])) ts (a_directive d ∷ []) r k (thing ∷ thing ∷ []) (a_directive_type ∷ []) []
      (leads_goes w₀ (I.Symbol S.DirectiveInside (Is Any) ∷ []) (thing ∷ thing ∷ []) (a_directive_type ∷ []) refl) (omega arith, (omega arith, tt)) (record { known_all = n; count = omega (arith, h) })).0

  otherwise : (ts : List Placed) (d : DirectiveTree) (r : List Placed) → is_open (next_class ts) ≡ false → SpellsDirective true ts d r → length ts ≤ most → Known w₀ ts → ProperDirective d
  otherwise ts d r e (a_symbol k) h n =
      (sound_start w₀ _ [] [] ts (a_directive d ∷ []) r k S.Directive Any
      (start_goes w₀ (next_class ts) false S.Directive Any (grammar S.Directive (next_class ts)) (other_keeps (next_class ts) e))
      [] (a_directive_type ∷ []) (a_directive_type ∷ []) [] (λ τ vs q. q) tt (λ γ us q. q) (record { known_all = n; count = omega (arith, h) })).0

pub spelled_is_proper : (ts : List Placed) (d : DirectiveTree) (r : List Placed) → SpellsDirective true ts d r → length ts ≤ most → (wild : Sym) → Known wild ts → ProperDirective d
spelled_is_proper ts d r h n wild k = go (bracket_first ts) h n k
  where
    go : (is_open (next_class ts) ≡ false) ⊎ ((p : Pos) × (more : List Placed) × (ts ≡ at p (L.Opener O.Open) ∷ more)) → SpellsDirective true ts d r → length ts ≤ most → Known wild ts → ProperDirective d
    go (inl e) h n k = otherwise wild ts d r e h n k
    go (inr q) h n k =
        behind_bracket wild q.0 q.1 d r (subst (λ (us : List Placed). SpellsDirective true us d r) q.2 h) (subst (λ (us : List Placed). length us ≤ most) q.2 n) (subst (λ (us : List Placed). Known wild us) q.2 k).1
