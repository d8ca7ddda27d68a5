-- Which move a file of the command line and a directive make.
use Rattle.std.proofs.Common.{◌≡◌, ℕ, suc, ◌+◌, ◌<◌, ◌≤◌, true, false, List, [], ◌∷◌, length, map, drop, get_or, refl, sym, ◌∙◌, ap, arith, add-one, drop-cons, nat_lt}
use Rattle.std.proofs.lemmas.List.{drop-map}
use Rattle.std.proofs.lemmas.Bool.Decides.{nat_tests}
use Rattle.ath_syntax.specs.declared.place.Pos.{Pos}
use Rattle.ath_print.specs.Events.{Event, refused}
use Rattle.ath_print.specs.declared.fault.FaultKind.TheVariants.{TooManyLoads}
use Rattle.ath_eval.specs.Outcomes.{refusal}
use Rattle.ath_session.specs.Directives.{Continuation, goes_on, loads, ends, Effect}
use Rattle.ath_session.specs.declared.limits.TheConstants.{MOST_LOADS}
use Rattle.ath_session.specs.Run.{Configuration, goes, halts, out_of_fuel, said, tell_all, asking, next_file, following}

pub next_waiting : {X : Type 0} (f : X → List ℕ) (xs : List X) (n : ℕ) (x : X) → n < length xs → get_or xs n x ≡ x → drop n (map f xs) ≡ f x ∷ drop (n + 1) (map f xs)
next_waiting f xs n x h is =
    drop-map f n xs
    ∙ ap (map f) (drop-cons xs n x h ∙ ap (λ y. y ∷ drop (suc n) xs) is)
    ∙ ap (λ (ys : List (List ℕ)). f x ∷ ys) (sym (drop-map f (suc n) xs))
    ∙ ap (λ (k : ℕ). f x ∷ drop k (map f xs)) (sym (add-one n))

pub next_is : (texts : List (List ℕ × List ℕ)) (c : Configuration) (file : ℕ) (name : List ℕ) (names : List (List ℕ)) → c.waiting ≡ name ∷ names → file ≡ length c.files → next_file texts c c.waiting ≡ asking texts (record c { waiting = names }) (record { file = file; line = 1; col = 1 }) name
next_is texts c file name names waits is = ap (next_file texts c) waits ∙ ap (λ (k : ℕ). asking texts (record c { waiting = names }) (record { file = k; line = 1; col = 1 }) name) (sym is)

-- what goes on after a directive with this effect
module _ (texts : List (List ℕ × List ℕ)) (c d : Configuration) (outer : ℕ) (at : Pos) (e : Effect) (state : d ≡ record c { state = e.state }) where
  there : (next : Continuation) → next ≡ e.next → following texts (record c { state = e.state }) outer at e.events e.next ≡ following texts d outer at e.events next
  there next is = ap (λ (n : Continuation). following texts (record c { state = e.state }) outer at e.events n) (sym is) ∙ ap (λ (k : Configuration). following texts k outer at e.events next) (sym state)

  pub goes_is : (es : List Event) → es ≡ e.events → goes_on ≡ e.next → following texts (record c { state = e.state }) outer at e.events e.next ≡ goes (tell_all d es) d
  goes_is es same is = there goes_on is ∙ ap (λ (xs : List Event). goes (tell_all d xs) d) (sym same)

  pub ends_is : (es : List Event) → es ≡ e.events → ends ≡ e.next → following texts (record c { state = e.state }) outer at e.events e.next ≡ halts (tell_all d es) out_of_fuel
  ends_is es same is = there ends is ∙ ap (λ (xs : List Event). halts (tell_all d xs) out_of_fuel) (sym same)

  pub loads_is : (name : List ℕ) → loads name ≡ e.next → outer < 16 → following texts (record c { state = e.state }) outer at e.events e.next ≡ asking texts d at name
  loads_is name is few =
      let test : nat_lt outer MOST_LOADS ≡ true = grind (arith, nat_tests) in
      there (loads name) is ∙ rw test refl

  pub no_load_is : (name : List ℕ) → loads name ≡ e.next → 16 ≤ outer → following texts (record c { state = e.state }) outer at e.events e.next ≡ goes (said d (refused at (refusal TooManyLoads [])) ∷ []) d
  no_load_is name is many =
      let test : nat_lt outer MOST_LOADS ≡ false = grind (arith, nat_tests) in
      there (loads name) is ∙ rw test refl
