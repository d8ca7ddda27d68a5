-- A step of the machine is what the table says, for any table and any values: by a token, and at the end of the text.
use Rattle.std.proofs.Common.{◌≡◌, List, [], ◌∷◌, ◌++◌, length, ◌≤◌, Bool, true, false, Some, refl, arith}
use Rattle.ath_grammar.specs.declared.class.Class.{Class}
use Rattle.ath_grammar.specs.declared.action.Guard.{Guard}
use Rattle.ath_grammar.specs.declared.item.Item.{Item}
use Rattle.ath_grammar.specs.declared.item.Item.TheVariants as I
use Rattle.ath_grammar.specs.Tokens.{Placed}
use Rattle.ath_grammar.specs.Codes.{is_class}
use Rattle.ath_grammar.specs.Tables.{Table, Start, no_start, begin, pass, both, Algebra, acts}
use Rattle.ath_grammar.specs.Spells.{admits, starts, Spells, spelled, a_token, a_symbol, an_act, Starts, begun, passed}
use Rattle.ath_grammar.proofs.Classes.{same_class, own_class}
use Rattle.ath_grammar.specs.Machine.{Outcome, over, took, refused, first, if_taken, where_token, opens, also, on_over, advance, settle}

-- nothing more is read, and these values are left
pub data Ended {V : Type 0} : V → List Placed → V → List Placed → Type 0 where
  ended : {vs : V} {r : List Placed} → Ended vs r vs r

pub admits_true : (a : Bool) → admits a true ≡ true
admits_true true = refl
admits_true false = refl

pub admits_both : (a f g : Bool) → admits a f ≡ true → admits a g ≡ true → admits a (both f g) ≡ true
admits_both true true g e h = h
admits_both true false g e h = cc
admits_both false f g e h = refl

pub admits_first : (a f g : Bool) → admits a (both f g) ≡ true → admits a f ≡ true
admits_first true true g e = refl
admits_first true false g e = cc
admits_first false f g e = refl

pub admits_second : (a f g : Bool) → admits a (both f g) ≡ true → admits a g ≡ true
admits_second true true g e = e
admits_second true false g e = cc
admits_second false f g e = refl

module _ (M : Algebra) (row : Table) (a : Bool) where
  abbrev pub Took : List Placed → M.State → List Placed → Bool → List Item → M.State → Type 0
  Took [] ws r f is vs = ⊥
  Took (t ∷ ts) ws r f is vs = (admits a f ≡ true) × Spells M row a is vs ts ws r

  -- what a step's outcome says of the tokens from the next on
  abbrev pub Meant : List Placed → M.State → List Placed → Outcome M.State → Type 0
  Meant ts ws r (over f vs) = (admits a f ≡ true) × Ended vs ts ws r
  Meant ts ws r (took f is vs) = Took ts ws r f is vs
  Meant ts ws r refused = ⊥

  at_end : (vs : M.State) (us : List Placed) (ws : M.State) (r : List Placed) → Ended vs us ws r → Spells M row a [] vs us ws r
  at_end vs us ws r ended = spelled

  took_also : (ts : List Placed) (ws : M.State) (r : List Placed) (f g : Bool) (is : List Item) (vs : M.State) → admits a f ≡ true → Took ts ws r g is vs → Took ts ws r (both f g) is vs
  took_also [] ws r f g is vs e h = absurd h
  took_also (t ∷ ts) ws r f g is vs e h = (admits_both a f g e h.0, h.1)

  took_alone : (ts : List Placed) (ws : M.State) (r : List Placed) (f g : Bool) (is : List Item) (vs : M.State) → Took ts ws r (both f g) is vs → (admits a f ≡ true) × Took ts ws r g is vs
  took_alone [] ws r f g is vs h = absurd h
  took_alone (t ∷ ts) ws r f g is vs h = (admits_first a f g h.0, (admits_second a f g h.0, h.1))

  also_in : (ts : List Placed) (ws : M.State) (r : List Placed) (f : Bool) (o : Outcome M.State) → admits a f ≡ true → Meant ts ws r o → Meant ts ws r (also f o)
  also_in ts ws r f (over g us) e h = (admits_both a f g e h.0, h.1)
  also_in ts ws r f (took g is us) e h = took_also ts ws r f g is us e h
  also_in ts ws r f refused e h = absurd h

  also_out : (ts : List Placed) (ws : M.State) (r : List Placed) (f : Bool) (o : Outcome M.State) → Meant ts ws r (also f o) → (admits a f ≡ true) × Meant ts ws r o
  also_out ts ws r f (over g us) h = (admits_first a f g h.0, (admits_second a f g h.0, h.1))
  also_out ts ws r f (took g is us) h = took_alone ts ws r f g is us h
  also_out ts ws r f refused h = absurd h

  token_sound : (ts : List Placed) (ws : M.State) (r : List Placed) (c : Class) (is : List Item) (vs : M.State) → Meant ts ws r (where_token (first ts) (λ t. if_taken (is_class c t) (took true is (M.save t vs)))) → Spells M row a (I.Token c ∷ is) vs ts ws r
  token_sound [] ws r c is vs h = absurd h
  token_sound (t ∷ ts) ws r c is vs h = go (is_class c t) refl h
    where
      go : (b : Bool) → is_class c t ≡ b → Meant (t ∷ ts) ws r (if_taken b (took true is (M.save t vs))) → Spells M row a (I.Token c ∷ is) vs (t ∷ ts) ws r
      go true e h = a_token (same_class c t e) h.1
      go false e h = absurd h

  begin_sound : (ts : List Placed) (ws : M.State) (r : List Placed) (f : Bool) (g : Guard) (js is : List Item) (vs : M.State) (k : M.State → Outcome M.State) → Meant ts ws r (on_over (opens M (first ts) is vs (begin f g js)) k) → Starts M row a (begin f g js) is vs ts ws r
  begin_sound [] ws r f g js is vs k h = absurd h
  begin_sound (t ∷ ts) ws r f g js is vs k h = go (M.allows g t vs) refl h
    where
      go : (b : Bool) → M.allows g t vs ≡ b → Meant (t ∷ ts) ws r (on_over (if_taken b (took f (js ++ is) (M.save t vs))) k) → Starts M row a (begin f g js) is vs (t ∷ ts) ws r
      go true e h = begun h.0 e h.1
      go false e h = absurd h

  starts_sound : (ts : List Placed) (ws : M.State) (r : List Placed) (S : Start) (is : List Item) (vs : M.State) → ((us : M.State) → Meant ts ws r (advance M row (first ts) is us) → Spells M row a is us ts ws r)
      → Meant ts ws r (on_over (opens M (first ts) is vs S) (λ us. advance M row (first ts) is us)) → Starts M row a S is vs ts ws r
  starts_sound ts ws r no_start is vs ih h = absurd h
  starts_sound ts ws r (begin f g js) is vs ih h = begin_sound ts ws r f g js is vs (λ us. advance M row (first ts) is us) h
  starts_sound ts ws r (pass f xs) is vs ih h = let k = also_out ts ws r f (advance M row (first ts) is (acts M xs vs)) h in passed k.0 (ih (acts M xs vs) k.1)

  pub sound : (ts : List Placed) (ws : M.State) (r : List Placed) (is : List Item) (vs : M.State) → Meant ts ws r (advance M row (first ts) is vs) → Spells M row a is vs ts ws r
  sound ts ws r [] vs h = at_end vs ts ws r h.1
  sound ts ws r (I.Token c ∷ is) vs h = token_sound ts ws r c is vs h
  sound ts ws r (I.Act x ∷ is) vs h = an_act (sound ts ws r is (M.act x vs) h)
  sound [] ws r (I.Symbol s x ∷ is) vs h = a_symbol (starts_sound [] ws r (starts M row s x vs []) is vs (λ us. sound [] ws r is us) h)
  sound (t ∷ ts) ws r (I.Symbol s x ∷ is) vs h = a_symbol (starts_sound (t ∷ ts) ws r (starts M row s x vs (t ∷ ts)) is vs (λ us. sound (t ∷ ts) ws r is us) h)

  taken_in : (t : Placed) (ts : List Placed) (ws : M.State) (r : List Placed) (b : Bool) (o : Outcome M.State) → b ≡ true → Meant (t ∷ ts) ws r o → Meant (t ∷ ts) ws r (if_taken b o)
  taken_in t ts ws r true o e h = h
  taken_in t ts ws r false o e h = cc

  starts_complete : (S : Start) (is : List Item) (vs : M.State) (ts : List Placed) (ws : M.State) (r : List Placed)
      → ((us : M.State) → Spells M row a is us ts ws r → Meant ts ws r (advance M row (first ts) is us))
      → Starts M row a S is vs ts ws r → Meant ts ws r (on_over (opens M (first ts) is vs S) (λ us. advance M row (first ts) is us))
  starts_complete S is vs ts ws r ih (begun {f = f} {g = g} {js = js} {t = t} {ts = more} e l k) = go (M.allows g t vs) l
    where
      go : (b : Bool) → b ≡ true → Meant (t ∷ more) ws r (on_over (if_taken b (took f (js ++ is) (M.save t vs))) (λ us. advance M row (Some t) is us))
      go true q = (e, k)
      go false q = cc
  starts_complete S is vs ts ws r ih (passed {f = f} {xs = xs} e k) = also_in ts ws r f (advance M row (first ts) is (acts M xs vs)) e (ih (acts M xs vs) k)

  pub complete : (is : List Item) (vs : M.State) (ts : List Placed) (ws : M.State) (r : List Placed) → Spells M row a is vs ts ws r → Meant ts ws r (advance M row (first ts) is vs)
  complete [] vs ts ws r spelled = (admits_true a, ended)
  complete (I.Token c ∷ is) vs ts ws r (a_token {t = t} {ts = more} e k) = taken_in t more ws r (is_class c t) (took true is (M.save t vs)) (own_class c t e) (admits_true a, k)
  complete (I.Act x ∷ is) vs ts ws r (an_act k) = complete is (M.act x vs) ts ws r k
  complete (I.Symbol s x ∷ is) vs [] ws r (a_symbol k) = starts_complete (starts M row s x vs []) is vs [] ws r (λ us. complete is us [] ws r) k
  complete (I.Symbol s x ∷ is) vs (t ∷ ts) ws r (a_symbol k) = starts_complete (starts M row s x vs (t ∷ ts)) is vs (t ∷ ts) ws r (λ us. complete is us (t ∷ ts) ws r) k

  -- no two readings
  one_end : (vs : M.State) (ts : List Placed) (ws : M.State) (r : List Placed) → Spells M row a [] vs ts ws r → (vs ≡ ws) × (ts ≡ r)
  one_end vs ts ws r spelled = (refl, refl)

  mutual
    pub one : (is : List Item) (vs : M.State) (ts : List Placed) (ws : M.State) (r : List Placed) (ws₂ : M.State) (r₂ : List Placed)
        → Spells M row a is vs ts ws r → Spells M row a is vs ts ws₂ r₂ → (ws ≡ ws₂) × (r ≡ r₂)
    one is vs ts ws r ws₂ r₂ spelled k = one_end vs ts ws₂ r₂ k
    one is vs ts ws r ws₂ r₂ (a_token e h) (a_token d k) = one _ _ _ _ _ _ _ h k
    one is vs ts ws r ws₂ r₂ (a_symbol h) (a_symbol k) = one_start _ _ _ _ _ _ _ _ h k
    one is vs ts ws r ws₂ r₂ (an_act h) (an_act k) = one _ _ _ _ _ _ _ h k

    one_start : (S : Start) (is : List Item) (vs : M.State) (ts : List Placed) (ws : M.State) (r : List Placed) (ws₂ : M.State) (r₂ : List Placed)
        → Starts M row a S is vs ts ws r → Starts M row a S is vs ts ws₂ r₂ → (ws ≡ ws₂) × (r ≡ r₂)
    one_start S is vs ts ws r ws₂ r₂ (begun e l h) (begun d m k) = one _ _ _ _ _ _ _ h k
    one_start S is vs ts ws r ws₂ r₂ (passed d h) (passed e k) = one _ _ _ _ _ _ _ h k

  -- what is left is no longer than what there was
  mutual
    pub shorter : (is : List Item) (vs : M.State) (ts : List Placed) (ws : M.State) (r : List Placed) → Spells M row a is vs ts ws r → length r ≤ length ts
    shorter is vs ts ws r spelled = omega arith
    shorter is vs ts ws r (a_token e h) = omega (arith, shorter _ _ _ _ _ h)
    shorter is vs ts ws r (a_symbol h) = shorter_start _ _ _ _ _ _ h
    shorter is vs ts ws r (an_act h) = shorter _ _ _ _ _ h

    shorter_start : (S : Start) (is : List Item) (vs : M.State) (ts : List Placed) (ws : M.State) (r : List Placed) → Starts M row a S is vs ts ws r → length r ≤ length ts
    shorter_start S is vs ts ws r (begun e l h) = omega (arith, shorter _ _ _ _ _ h)
    shorter_start S is vs ts ws r (passed e h) = shorter _ _ _ _ _ h

  -- what needs no token can be done at once
  pub settle_sound : (is : List Item) (vs : M.State) (ts : List Placed) (ws : M.State) (r : List Placed) → Spells M row a (settle M is vs).0 (settle M is vs).1 ts ws r → Spells M row a is vs ts ws r
  settle_sound [] vs ts ws r k = k
  settle_sound (I.Token c ∷ is) vs ts ws r k = k
  settle_sound (I.Act x ∷ is) vs ts ws r k = an_act (settle_sound is (M.act x vs) ts ws r k)
  settle_sound (I.Symbol s x ∷ is) vs ts ws r k = k

  pub settle_complete : (is : List Item) (vs : M.State) (ts : List Placed) (ws : M.State) (r : List Placed) → Spells M row a is vs ts ws r → Spells M row a (settle M is vs).0 (settle M is vs).1 ts ws r
  settle_complete [] vs ts ws r k = k
  settle_complete (I.Token c ∷ is) vs ts ws r k = k
  settle_complete (I.Act x ∷ is) vs ts ws r (an_act k) = settle_complete is (M.act x vs) ts ws r k
  settle_complete (I.Symbol s x ∷ is) vs ts ws r k = k
