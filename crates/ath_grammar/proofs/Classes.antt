-- All classes: what holds of each in a list holds of every one, and they are told apart by their codes.
use Rattle.std.proofs.Common.{◌≡◌, ℕ, zero, suc, List, [], ◌∷◌, Bool, true, refl, sym, ap, ◌∙◌, subst}
use Rattle.std.proofs.lemmas.Bool.{eq-eqb, eqb-true}
use Rattle.ath_grammar.specs.declared.class.WordClass.TheVariants as W
use Rattle.ath_grammar.specs.declared.class.Opener.TheVariants as O
use Rattle.ath_grammar.specs.declared.class.DirectiveWord.TheVariants as D
use Rattle.ath_grammar.specs.declared.class.Mark.TheVariants as M
use Rattle.ath_grammar.specs.declared.class.Class.{Class}
use Rattle.ath_grammar.specs.declared.class.Class.TheVariants as C
use Rattle.ath_grammar.specs.Tokens.{Placed, class_of}
use Rattle.ath_grammar.specs.Codes.{code, is_class}
use Rattle.ath_grammar.specs.Tables.{both}
use Rattle.ath_grammar.proofs.Completes.{both_left, both_right}

-- in the order of their codes
abbrev classes : List Class
classes =
    C.Word W.Plain ∷ C.Word W.Dotted ∷ C.Word W.Logical ∷ C.Word W.Infix ∷ C.Word W.Tilde ∷ C.Word W.Back
    ∷ C.Wild ∷ C.SomeOf ∷ C.Variable ∷ C.SortVariable ∷ C.Text ∷ C.Opener O.Open ∷ C.Opener O.OpenBracket
    ∷ C.Opener O.OpenBrace ∷ C.Opener O.Lambda ∷ C.Opener O.Method ∷ C.Opener O.Let ∷ C.Opener O.LetDeduction
    ∷ C.Opener O.LetRec ∷ C.Opener O.Match ∷ C.Opener O.MatchDeduction ∷ C.Opener O.Induct ∷ C.Opener O.Cases
    ∷ C.Opener O.Check ∷ C.Opener O.Try ∷ C.Opener O.Begin ∷ C.Opener O.Assume ∷ C.Opener O.Absurd
    ∷ C.Opener O.Conclude ∷ C.Opener O.PickAny ∷ C.Opener O.PickWitness ∷ C.Directive D.Domain
    ∷ C.Directive D.Datatype ∷ C.Directive D.Declare ∷ C.Directive D.Define ∷ C.Directive D.Assert
    ∷ C.Directive D.AssertClosed ∷ C.Directive D.Load ∷ C.Mark M.Close ∷ C.Mark M.CloseBracket ∷ C.Mark M.CloseBrace
    ∷ C.Mark M.Bar ∷ C.Mark M.Comma ∷ C.Mark M.Semicolon ∷ C.Mark M.Bang ∷ C.Mark M.Colon ∷ C.Mark M.Dot
    ∷ C.Mark M.Becomes ∷ C.Mark M.Arrow ∷ C.Mark M.To ∷ C.Mark M.Unequal ∷ C.Mark M.Else ∷ C.Mark M.ListOf
    ∷ C.Mark M.Other ∷ []

abbrev at_code : List Class → ℕ → Class
at_code [] n = C.Wild
at_code (c ∷ cs) zero = c
at_code (c ∷ cs) (suc n) = at_code cs n

decoded : (c : Class) → at_code classes (code c) ≡ c
decoded (C.Word W.Plain) = refl
decoded (C.Opener O.Open) = refl
decoded (C.Directive D.Domain) = refl
decoded (C.Mark M.Close) = refl
decoded _ = refl

pub same_class : (c : Class) (t : Placed) → is_class c t ≡ true → c ≡ class_of t
same_class c t e = sym (decoded c) ∙ ap (λ (n : ℕ). at_code classes n) (eqb-true (code c) (code (class_of t)) e) ∙ decoded (class_of t)

pub own_class : (c : Class) (t : Placed) → c ≡ class_of t → is_class c t ≡ true
own_class c t e = eq-eqb (code c) (code (class_of t)) (ap (λ (d : Class). code d) e)

abbrev pub holds : (Class → Bool) → List Class → Bool
holds p [] = p C.Wild
holds p (c ∷ cs) = both (p c) (holds p cs)

at_each : (p : Class → Bool) (cs : List Class) (n : ℕ) → holds p cs ≡ true → p (at_code cs n) ≡ true
at_each p [] n e = e
at_each p (c ∷ cs) zero e = both_left (p c) (holds p cs) e
at_each p (c ∷ cs) (suc n) e = at_each p cs n (both_right (p c) (holds p cs) e)

abbrev pub holds_of_all : (Class → Bool) → Bool
holds_of_all p = holds p classes

pub every : (p : Class → Bool) → holds_of_all p ≡ true → (c : Class) → p c ≡ true
every p e c = subst (λ (d : Class). p d ≡ true) (decoded c) (at_each p classes (code c) e)
