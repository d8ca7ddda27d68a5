-- What is begun can be completed, for any table for which a witness computes. Some symbols end by no token of their own: they
-- are left where none of some classes follows, and nothing else waits for a token of these.
use Rattle.std.proofs.Common.{◌≡◌, ℕ, zero, suc, List, [], ◌∷◌, ◌++◌, Bool, true, false, not, ◌||◌, Option, Some, None, refl, sym, subst}
use Rattle.ath_grammar.specs.declared.class.Class.{Class}
use Rattle.ath_grammar.specs.declared.symbol.Symbol.{Symbol}
use Rattle.ath_grammar.specs.declared.action.Action.{Action}
use Rattle.ath_grammar.specs.declared.action.Guard.{Guard}
use Rattle.ath_grammar.specs.declared.action.Guard.TheVariants.{Free}
use Rattle.ath_grammar.specs.declared.item.Want.{Want}
use Rattle.ath_grammar.specs.declared.item.Want.TheVariants.{Any, Only}
use Rattle.ath_grammar.specs.declared.item.Attr.{Attr}
use Rattle.ath_grammar.specs.declared.item.Attr.TheVariants.{Is, Given}
use Rattle.ath_grammar.specs.declared.item.Item.{Item}
use Rattle.ath_grammar.specs.declared.item.Item.TheVariants as I
use Rattle.ath_grammar.specs.Tokens.{Placed, class_of, next_class}
use Rattle.ath_grammar.specs.Tables.{Row, skip, Table, Start, no_start, begin, pass, start, both, fits, ruled, want_of, Algebra, acts}
use Rattle.ath_grammar.specs.Spells.{admits, Spells, spelled, a_token, a_symbol, an_act, Starts, begun, passed}

-- a token of each class that a guard lets stand behind these values
pub record Witness (M : Algebra) : Type 0 where
  pub suits : Guard → Class → Bool
  pub token : Guard → Class → M.State → Placed
  pub of_class : (g : Guard) (c : Class) (vs : M.State) → class_of (token g c vs) ≡ c
  pub stands : (g : Guard) (c : Class) (vs : M.State) → suits g c ≡ true → M.allows g (token g c vs) vs ≡ true

-- classes that a completion doesn't begin with, and what the symbols do that any other class ends
pub record Ends (row : Table) : Type 0 where
  pub avoids : Class → Bool
  pub actions : Symbol → Option (List Action)
  pub by_skip : (s : Symbol) (xs : List Action) → actions s ≡ Some xs → (c : Class) → avoids c ≡ false → row s c ≡ skip Any xs
  pub at_end : avoids (next_class []) ≡ false

-- no item waits for a token of these classes
abbrev pub clean : (Class → Bool) → List Item → Bool
clean avoids [] = true
clean avoids (I.Token c ∷ is) = both (not (avoids c)) (clean avoids is)
clean avoids (I.Act x ∷ is) = clean avoids is
clean avoids (I.Symbol s x ∷ is) = clean avoids is

pub both_left : (b c : Bool) → both b c ≡ true → b ≡ true
both_left true c e = refl
both_left false c e = cc

pub both_right : (b c : Bool) → both b c ≡ true → c ≡ true
both_right true c e = e
both_right false c e = cc

-- whether a symbol that is told this can be spelled, beginning with the class of the witness, by productions no deeper than this
abbrev ready_at : (Symbol → Want → Bool) → Symbol → Attr → Bool
ready_at r s (Is w) = r s w
ready_at r s (Given q w) = both (r s (ruled q w false)) (r s (ruled q w true))

abbrev ready_all : (Symbol → Want → Bool) → List Item → Bool
ready_all r [] = true
ready_all r (I.Token c ∷ is) = ready_all r is
ready_all r (I.Act x ∷ is) = ready_all r is
ready_all r (I.Symbol s x ∷ is) = both (ready_at r s x) (ready_all r is)

-- the classes that guards suit, and that completions avoid
abbrev ready_start : (Guard → Class → Bool) → (Class → Bool) → Class → (Symbol → Want → Bool) → Start → Bool
ready_start suits avoids c r no_start = false
ready_start suits avoids c r (pass f xs) = false
ready_start suits avoids c r (begin f g is) = both f (both (suits g c) (both (clean avoids is) (ready_all r is)))

abbrev ready_by : (Guard → Class → Bool) → (Class → Bool) → Table → Class → (Symbol → Want → Bool) → Symbol → Want → Bool → Bool
ready_by suits avoids row c r s w k = both (not (avoids c)) (ready_start suits avoids c r (start row c k w (row s c)))

abbrev is_ending : Option (List Action) → Bool
is_ending None = false
is_ending (Some xs) = true

abbrev pub ready : (Guard → Class → Bool) → (row : Table) → Ends row → (Symbol → Want → Class) → ℕ → Symbol → Want → Bool
ready suits row E easy zero s w = is_ending (E.actions s)
ready suits row E easy (suc n) s w = is_ending (E.actions s) || both (ready_by suits E.avoids row (easy s w) (λ s₁ w₁. ready suits row E easy n s₁ w₁) s w false) (ready_by suits E.avoids row (easy s w) (λ s₁ w₁. ready suits row E easy n s₁ w₁) s w true)

module _ (M : Algebra) (W : Witness M) (free : (c : Class) → W.suits Free c ≡ true) (row : Table) (E : Ends row) (easy : Symbol → Want → Class) (a : Bool) where
  abbrev pub Completes : List Item → Type 0
  Completes is = (vs : M.State) → (more : List Placed) × (ws : M.State) × Spells M row a is vs more ws [] × (E.avoids (next_class more) ≡ false)

  abbrev StartCompletes : Symbol → Want → Type 0
  StartCompletes s w = (k : Bool) (is : List Item) → Completes is → (vs : M.State) → (more : List Placed) × (ws : M.State) × Starts M row a (start row (next_class more) k w (row s (next_class more))) is vs more ws [] × (E.avoids (next_class more) ≡ false)

  at_want : (r : Symbol → Want → Bool) (s : Symbol) (x : Attr) (k : Bool) → ready_at r s x ≡ true → r s (want_of x k) ≡ true
  at_want r s (Is w) k e = e
  at_want r s (Given q w) false e = both_left (r s (ruled q w false)) (r s (ruled q w true)) e
  at_want r s (Given q w) true e = both_right (r s (ruled q w false)) (r s (ruled q w true)) e

  not_false : (b : Bool) → not b ≡ true → b ≡ false
  not_false true e = cc
  not_false false e = refl

  avoided : (c : Class) (t : Placed) → class_of t ≡ c → not (E.avoids c) ≡ true → E.avoids (class_of t) ≡ false
  avoided c t e h = subst (λ (d : Class). E.avoids d ≡ false) (sym e) (not_false (E.avoids c) h)

  one_item : (s : Symbol) (x : Attr) (is : List Item) → ((k : Bool) → StartCompletes s (want_of x k)) → Completes is → Completes (I.Symbol s x ∷ is)
  one_item s x is h k vs = let m = h (M.kind vs) (M.kind vs) is k vs in (m.0, m.1, a_symbol m.2, m.3)

  one_token : (c : Class) (is : List Item) → not (E.avoids c) ≡ true → Completes is → Completes (I.Token c ∷ is)
  one_token c is e k vs = let m = k (M.save (W.token Free c vs) vs) in (W.token Free c vs ∷ m.0, m.1, a_token (sym (W.of_class Free c vs)) m.2, avoided c (W.token Free c vs) (W.of_class Free c vs) e)

  one_act : (x : Action) (is : List Item) → Completes is → Completes (I.Act x ∷ is)
  one_act x is k vs = let m = k (M.act x vs) in (m.0, m.1, an_act m.2, m.3)

  all_items : (r : Symbol → Want → Bool) → ((s : Symbol) (w : Want) → r s w ≡ true → StartCompletes s w) → (js is : List Item) → clean E.avoids js ≡ true → ready_all r js ≡ true → Completes is → Completes (js ++ is)
  all_items r h [] is q e k = k
  all_items r h (I.Token c ∷ js) is q e k = one_token c (js ++ is) (both_left (not (E.avoids c)) (clean E.avoids js) q) (all_items r h js is (both_right (not (E.avoids c)) (clean E.avoids js) q) e k)
  all_items r h (I.Act x ∷ js) is q e k = one_act x (js ++ is) (all_items r h js is q e k)
  all_items r h (I.Symbol s x ∷ js) is q e k = one_item s x (js ++ is) (λ kd. h s (want_of x kd) (at_want r s x kd (both_left (ready_at r s x) (ready_all r js) e))) (all_items r h js is q (both_right (ready_at r s x) (ready_all r js) e) k)

  admitted : (b f : Bool) → f ≡ true → admits b f ≡ true
  admitted true f e = e
  admitted false f e = refl

  module _ (r : Symbol → Want → Bool) (h : (s : Symbol) (w : Want) → r s w ≡ true → StartCompletes s w) where
    by_class : (c : Class) (S : Start) → ready_start W.suits E.avoids c r S ≡ true → (is : List Item) → Completes is → (vs : M.State)
        → (t : Placed) × (class_of t ≡ c) × (more : List Placed) × (ws : M.State) × Starts M row a S is vs (t ∷ more) ws []
    by_class c no_start e is k vs = cc
    by_class c (pass f xs) e is k vs = cc
    by_class c (begin f g js) e is k vs =
        let e₂ = both_right f (both (W.suits g c) (both (clean E.avoids js) (ready_all r js))) e in
        let e₃ = both_right (W.suits g c) (both (clean E.avoids js) (ready_all r js)) e₂ in
        let m = all_items r h js is (both_left (clean E.avoids js) (ready_all r js) e₃) (both_right (clean E.avoids js) (ready_all r js) e₃) k (M.save (W.token g c vs) vs) in
        (W.token g c vs, W.of_class g c vs, m.0, m.1, begun (admitted a f (both_left f (both (W.suits g c) (both (clean E.avoids js) (ready_all r js))) e)) (W.stands g c vs (both_left (W.suits g c) (both (clean E.avoids js) (ready_all r js)) e₂)) m.2)

    module _ (s : Symbol) (w : Want) where
      by_want : (k : Bool) → ready_by W.suits E.avoids row (easy s w) r s w k ≡ true → (is : List Item) → Completes is → (vs : M.State)
          → (more : List Placed) × (ws : M.State) × Starts M row a (start row (next_class more) k w (row s (next_class more))) is vs more ws [] × (E.avoids (next_class more) ≡ false)
      by_want k e is g vs =
          let c = easy s w in
          let m = by_class c (start row c k w (row s c)) (both_right (not (E.avoids c)) (ready_start W.suits E.avoids c r (start row c k w (row s c))) e) is g vs in
          (m.0 ∷ m.2, m.3, subst (λ (d : Class). Starts M row a (start row d k w (row s d)) is vs (m.0 ∷ m.2) m.3 []) (sym m.1) m.4, avoided c m.0 m.1 (both_left (not (E.avoids c)) (ready_start W.suits E.avoids c r (start row c k w (row s c))) e))

      ready_now : both (ready_by W.suits E.avoids row (easy s w) r s w false) (ready_by W.suits E.avoids row (easy s w) r s w true) ≡ true → StartCompletes s w
      ready_now e false is g vs = by_want false (both_left (ready_by W.suits E.avoids row (easy s w) r s w false) (ready_by W.suits E.avoids row (easy s w) r s w true) e) is g vs
      ready_now e true is g vs = by_want true (both_right (ready_by W.suits E.avoids row (easy s w) r s w false) (ready_by W.suits E.avoids row (easy s w) r s w true) e) is g vs

  fits_any : (w : Want) → fits w Any ≡ true
  fits_any Any = refl
  fits_any (Only k) = refl

  -- a symbol that ends by what follows
  left_out : (s : Symbol) (w : Want) (xs : List Action) → E.actions s ≡ Some xs → StartCompletes s w
  left_out s w xs e k is g vs =
      let m = g (acts M xs vs) in
      (m.0, m.1, subst (λ (R : Row). Starts M row a (start row (next_class m.0) k w R) is vs m.0 m.1 []) (sym (E.by_skip s xs e (next_class m.0) m.3)) (passed (admitted a (fits w Any) (fits_any w)) m.2), m.3)

  either_way : (s : Symbol) (w : Want) (o : Option (List Action)) → E.actions s ≡ o → (b : Bool) → (is_ending o || b) ≡ true → (b ≡ true → StartCompletes s w) → StartCompletes s w
  either_way s w (Some xs) e b q h = left_out s w xs e
  either_way s w None e b q h = h q

  nothing_left : (s : Symbol) (w : Want) (o : Option (List Action)) → E.actions s ≡ o → is_ending o ≡ true → StartCompletes s w
  nothing_left s w (Some xs) e q = left_out s w xs e
  nothing_left s w None e q = cc

  start_completes : (n : ℕ) (s : Symbol) (w : Want) → ready W.suits row E easy n s w ≡ true → StartCompletes s w
  start_completes zero s w e = nothing_left s w (E.actions s) refl e
  start_completes (suc n) s w e = either_way s w (E.actions s) refl _ e (λ q. ready_now (λ s₁ w₁. ready W.suits row E easy n s₁ w₁) (λ s₁ w₁ q₁. start_completes n s₁ w₁ q₁) s w q)

  -- a clean stack can be completed, if each symbol can
  module _ (n : ℕ) (all_ready : (s : Symbol) (w : Want) → ready W.suits row E easy n s w ≡ true) where
    pub completes : (is : List Item) → clean E.avoids is ≡ true → Completes is
    completes [] e = λ vs. ([], vs, spelled, E.at_end)
    completes (I.Token c ∷ is) e = one_token c is (both_left (not (E.avoids c)) (clean E.avoids is) e) (completes is (both_right (not (E.avoids c)) (clean E.avoids is) e))
    completes (I.Act x ∷ is) e = one_act x is (completes is e)
    completes (I.Symbol s x ∷ is) e = one_item s x is (λ k. start_completes n s (want_of x k) (all_ready s (want_of x k))) (completes is e)
