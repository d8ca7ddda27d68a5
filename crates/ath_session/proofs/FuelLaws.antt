-- The words spell no more than the most fuel.
use Rattle.std.proofs.Common.{◌≡◌, ℕ, ◌≤◌, ◌&&◌, Bool, true, false, cond, List, [], ◌∷◌, Option, Some, None, refl, sym, subst, arith}
use Rattle.std.specs.Prelude.{nat_le, option_map, option_and_then}
use Rattle.std.proofs.lemmas.Bool.Decides.{nat_tests}
use Rattle.ath_sorts.proofs.Bools.{and_parts}
use Rattle.std.specs.Str.Parse.{digits_value}
use Rattle.ath_words.specs.Words.{Asked, Choices, is_number, fuel_of, asked_by, said_by, any, run_of}
use Rattle.ath_words.specs.declared.limits.TheConstants.{MOST_FUEL}

fuel_bounded : (t : Option (List ℕ)) (n : ℕ) → fuel_of t ≡ Some n → n ≤ MOST_FUEL
fuel_bounded None n e = let same : 10000000 ≡ n = cc in omega (arith, same)
fuel_bounded (Some text) n e = by (is_number text && nat_le (digits_value 10 text) MOST_FUEL) refl e
  where
    by : (b : Bool) → (is_number text && nat_le (digits_value 10 text) MOST_FUEL) ≡ b → cond b (Some (digits_value 10 text)) None ≡ Some n → n ≤ MOST_FUEL
    by true f e =
        let p = and_parts (is_number text) (nat_le (digits_value 10 text) MOST_FUEL) f in
        let le : digits_value 10 text ≤ MOST_FUEL = grind (arith, nat_tests, p.1) in
        let same : digits_value 10 text ≡ n = cc in
        subst (λ (k : ℕ). k ≤ MOST_FUEL) same le
    by false f e = absurd (cc)

asked_bounded : (said : Choices) (a : Asked) → asked_by said ≡ Some a → a.fuel ≤ MOST_FUEL
asked_bounded (given, []) a e = absurd (cc)
asked_bounded (given, file ∷ files) a e = by (fuel_of given) refl e
  where
    by : (o : Option ℕ) → fuel_of given ≡ o → option_map (λ n. record { fuel = n; files = file ∷ files }) o ≡ Some a → a.fuel ≤ MOST_FUEL
    by (Some n) f e =
        let same : ◌≡◌ {A = Asked} (record { fuel = n; files = file ∷ files }) a = cc in
        subst (λ (b : Asked). b.fuel ≤ MOST_FUEL) same (fuel_bounded given n f)
    by None f e = absurd (cc)

pub run_bounded : (words : List (List ℕ)) (a : Asked) → Some a ≡ run_of words → a.fuel ≤ MOST_FUEL
run_bounded words a e = by (said_by any None words) (sym e)
  where
    by : (o : Option Choices) → option_and_then asked_by o ≡ Some a → a.fuel ≤ MOST_FUEL
    by (Some said) e = asked_bounded said a e
    by None e = absurd (cc)
