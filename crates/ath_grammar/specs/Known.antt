-- Tokens with the numbers of their words: each `_` has one number, and each `some-..` that of one of the four.
use Rattle.std.specs.Prelude.{◌≡◌, List}
use Rattle.std.specs.List.{AllByRecursion}
use Rattle.ath_sorts.specs.declared.sorts.Sym.{Sym}
use Rattle.ath_syntax.specs.Fits.{IsSomeWord}
use Rattle.ath_grammar.specs.declared.lexeme.Lexeme.TheVariants.{Wild, SomeOf}
use Rattle.ath_grammar.specs.Tokens.{Placed, at}

abbrev pub IsKnown : Sym → Placed → Type 0
IsKnown wild (at p (Wild n)) = n.0 ≡ wild.0
IsKnown wild (at p (SomeOf k)) = IsSomeWord k
IsKnown wild t = Unit {0}

abbrev pub Known : Sym → List Placed → Type 0
Known wild ts = AllByRecursion (IsKnown wild) ts
