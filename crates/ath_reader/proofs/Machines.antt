-- The machine's stack, and kinds that fit, one after another.
use Rattle.std.proofs.Common.{◌≡◌, ℕ, zero, suc, ◌-◌, ◌<◌, List, [], ◌∷◌, ◌++◌, Bool, true, false, Option, Some, None, refl, ap, append_assoc, arith}
use Rattle.ath_grammar.specs.declared.item.Item.{Item}
use Rattle.ath_grammar.specs.declared.item.Item.TheVariants as I
use Rattle.ath_grammar.specs.declared.item.Attr.{Attr}
use Rattle.ath_grammar.specs.declared.item.Want.{Want}
use Rattle.ath_grammar.specs.declared.symbol.Symbol.{Symbol}
use Rattle.ath_grammar.specs.declared.class.Class.{Class}
use Rattle.ath_grammar.specs.Tokens.{Placed}
use Rattle.ath_grammar.specs.Codes.{is_class}
use Rattle.ath_grammar.specs.Grammar.{grammar}
use Rattle.ath_grammar.specs.Trees.{Value, trees}
use Rattle.ath_grammar.specs.Tables.{Table, Start, no_start, begin, pass, both, fits, told, told_all, want_of, behind, by_token, begin_as, Algebra}
use Rattle.ath_grammar.specs.Machine.{Outcome, over, took, refused, if_taken, where_token, also, opens, advance}
use Rattle.ath_reader.specs.declared.machine.Step.{Step}
use Rattle.ath_reader.specs.declared.machine.Step.TheVariants as step
use Rattle.ath_reader.specs.Runs.{turned, fitting, OnOver}

pub turned_last : {A : Type 0} → (ys xs : List A) (x : A) → turned ys (xs ++ x ∷ []) ≡ x ∷ turned ys xs
turned_last ys [] x = refl
turned_last ys (z ∷ xs) x = turned_last (z ∷ ys) xs x

both_assoc : (f g h : Bool) → both (both f g) h ≡ both f (both g h)
both_assoc true g h = refl
both_assoc false g h = refl

pub also_true : {V : Type 0} → (o : Outcome V) → also true o ≡ o
also_true (over h v) = refl
also_true (took h is v) = refl
also_true refused = refl

pub also_both : {V : Type 0} → (f g : Bool) (o : Outcome V) → also f (also g o) ≡ also (both f g) o
also_both true g o = also_true (also g o)
also_both false g (over h v) = refl
also_both false g (took h is v) = refl
also_both false g refused = refl

fitting_behind : (f : Bool) (js : List Item) (s : Start) → fitting true (behind f js s) ≡ behind f js s
fitting_behind f js no_start = refl
fitting_behind f js (begin h g is) = refl
fitting_behind f js (pass h xs) = refl

pub begins_true : (row : Table) (c : Class) (k : Bool) (w m : Want) (s : Symbol) (x : Attr) (is : List Item) → fitting true (by_token 2 row c k w (begin_as m s x is)) ≡ by_token 2 row c k w (begin_as m s x is)
begins_true row c k w m s x is = fitting_behind (fits w m) (told_all w is) (by_token 1 row c k (want_of (told w x) k) (row s c))

module _ (n : ℕ) (row : Table) (c : Class) (k : Bool) (w m : Want) (s : Symbol) (x : Attr) (is : List Item) where
  pub begins_not : n ≡ 0 → by_token n row c k w (begin_as m s x is) ≡ no_start
  begins_not e = ap (λ (j : ℕ). by_token j row c k w (begin_as m s x is)) e

pub begins_as : (n : ℕ) (row : Table) (c : Class) (k : Bool) (w m : Want) (s : Symbol) (x : Attr) (is : List Item) → 0 < n → by_token n row c k w (begin_as m s x is) ≡ behind (fits w m) (told_all w is) (by_token (n - 1) row c k (want_of (told w x) k) (row s c))
begins_as zero row c k w m s x is l = absurd (omega arith)
begins_as (suc n) row c k w m s x is l = ap (λ (j : ℕ). behind (fits w m) (told_all w is) (by_token j row c k (want_of (told w x) k) (row s c))) e
  where
    e : n ≡ suc n - 1
    e = omega arith

append_nil : {A : Type 0} → (xs : List A) → xs ++ [] ≡ xs
append_nil [] = refl
append_nil (x ∷ xs) = ap (λ ys. x ∷ ys) (append_nil xs)

-- items put on the stack at once, or when the token is taken
pub opens_behind : (M : Algebra) (o : Option Placed) (js is : List Item) (vs : M.State) (f g : Bool) (s : Start) → opens M o (js ++ is) vs (fitting (both f g) s) ≡ opens M o is vs (fitting f (behind g js s))
opens_behind M o js is vs f g no_start = refl
opens_behind M None js is vs f g (begin h u ks) = refl
opens_behind M (Some t) js is vs f g (begin h u ks) = grind (arith, append_assoc ks js is, both_assoc f g h)
opens_behind M o js is vs f g (pass h xs) = refl

both_true : (f : Bool) → both f true ≡ f
both_true true = refl
both_true false = refl

-- nothing is left
pub also_none : (f : Bool) (o : Option Placed) (vs : List Value) → also f (advance trees grammar o [] vs) ≡ over f vs
also_none f o vs = ap (λ (g : Bool). over g vs) (both_true f)

-- a token of a class
pub also_token : (f : Bool) (o : Option Placed) (c : Class) (is : List Item) (vs : List Value) → also f (advance trees grammar o (I.Token c ∷ is) vs) ≡ where_token o (λ t. if_taken (is_class c t) (took f is (trees.save t vs)))
also_token f None c is vs = refl
also_token f (Some t) c is vs = by (is_class c t)
  where
    by : (b : Bool) → also f (if_taken b (took true is (trees.save t vs))) ≡ if_taken b (took f is (trees.save t vs))
    by true = ap (λ (g : Bool). took g is (trees.save t vs)) (both_true f)
    by false = refl

-- what is never over, is over only where anything holds
pub over_never : (P : Type 0) (s : Step) → OnOver s ⊥ → OnOver s P
over_never P (step.Over f) h = absurd h
over_never P (step.Took f) h = tt
over_never P step.Refused h = tt
