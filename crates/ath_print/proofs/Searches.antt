-- Lists that are searched element by element, and a list that grows at its end and shrinks again.
use Rattle.std.proofs.Common.{◌≡◌, ℕ, ◌+◌, ◌-◌, ◌<◌, Bool, true, false, ◌||◌, List, [], ◌∷◌, ◌++◌, length, map, take, drop, get_or, length-append, sym, ◌∙◌, ap, arith}
use Rattle.std.specs.List.{list_any}
use Rattle.std.proofs.lemmas.List.{drop_more, length-map, map-append, take-map}
use Rattle.std.proofs.lemmas.Grind.{common_steps}

module _ {X : Type 0} (test : X → Bool) (xs : List X) (i : ℕ) (d : X) (lt : i < length xs) (before : list_any test xs ≡ list_any test (drop i xs)) where
  at_first : list_any test xs ≡ (test (get_or xs i d) || list_any test (drop (i + 1) xs))
  at_first = before ∙ ap (list_any test) (drop_more xs i d lt)

  pub any_hit : test (get_or xs i d) ≡ true → true ≡ list_any test xs
  any_hit h = sym (at_first ∙ ap (λ b. b || list_any test (drop (i + 1) xs)) h)

  pub any_miss : test (get_or xs i d) ≡ false → list_any test xs ≡ list_any test (drop (i + 1) xs)
  any_miss h = at_first ∙ ap (λ b. b || list_any test (drop (i + 1) xs)) h

take-front : {Y : Type 0} (xs ys : List Y) → take (length xs) (xs ++ ys) ≡ xs
take-front xs ys = grind (arith, common_steps)

pub last_off : {X Y : Type 0} (f : X → Y) (old pushed within new : List X) (v : X) (n : ℕ) → pushed ≡ old ++ v ∷ [] → map f within ≡ map f pushed → n ≡ length within → new ≡ take (n - 1) within → map f new ≡ map f old
last_off f old pushed within new v n p w l off =
    let whole : map f within ≡ map f old ++ f v ∷ [] = w ∙ ap (map f) p ∙ map-append f old (v ∷ []) in
    let count : n - 1 ≡ length (map f old) = omega (arith, length-map within f, ap length whole, length-append (map f old) (f v ∷ [])) in
    ap (map f) off ∙ sym (take-map f (n - 1) within) ∙ ap (take (n - 1)) whole ∙ ap (λ k. take k (map f old ++ f v ∷ [])) count ∙ take-front (map f old) (f v ∷ [])
