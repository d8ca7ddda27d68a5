-- What the removal of differences comes to.
use Rattle.std.proofs.Common.{◌≡◌, ℕ, zero, suc, ◌+◌, ◌<◌, ◌≤◌, Bool, true, false, cond, List, [], ◌∷◌, length, take, Some, Result, Ok, Err, refl, sym, ◌∙◌, ap, subst, arith, ◌⊎◌, inl, inr}
use Rattle.std.proofs.lemmas.Grind.{common_steps}
use Rattle.ath_sorts.specs.declared.sorts.SVar.{SVar}
use Rattle.ath_sorts.specs.declared.sorts.Sort.{Sort, Var}
use Rattle.ath_sorts.specs.Sorts.{same_svar, image, apply_to, occurs, after}
use Rattle.ath_sorts.specs.Substitutions.{entry_of}
use Rattle.ath_unifiers.specs.Unifiers.{Unifies, HasUnifier, IsClash, MovesAll}
use Rattle.ath_sorts.proofs.Bools.{true-not-false}
use Rattle.ath_sorts.proofs.Gets.{length-map', some-inj, some-not-none}
use Rattle.ath_sorts.proofs.SortLaws.{apply-var, occurs-var, Var-inj, same_svar-true, same_svar-refl}
use Rattle.ath_sorts.proofs.SubstitutionLaws.{apply-apply, apply-same, image-after, var-from}
use Rattle.ath_unifiers.specs.Differences.{Difference, none, binds, apart, search, replaced, with_binding, solve_step, solve}
use Rattle.ath_unifiers.proofs.Reading.{is_in, IsRead, removed, removed_in, shorter, put_same, unifies_to, unifies_from, unifies_all, unifies_back, unifies_first, read_from}
use Rattle.ath_unifiers.proofs.Searching.{IsFound, unifies_shorter, unifies_take, search_finds}

-- a most general unifier that maps variables only to such as stand first
pub record IsSolved (first : SVar → SVar → Bool) (pairs : List (Sort × Sort)) (s : List (SVar × Sort)) : Type 0 where
  pub unifies : Unifies (image s) pairs
  pub absorbs : (f : SVar → Sort) → Unifies f pairs → (v : SVar) → f v ≡ apply_to f (image s v)
  pub least : (v w : SVar) → image s v ≡ Var w → (v ≡ w) ⊎ (first w v ≡ true)
  pub moves : MovesAll s

abbrev pub MatchSolved : (SVar → SVar → Bool) → List (Sort × Sort) → Result (List (SVar × Sort)) ℕ → Type 0
MatchSolved first pairs (Ok s) = IsSolved first pairs s
MatchSolved first pairs (Err at) = IsClash pairs at

-- an order of the variables that were read
pub record IsOrder (first : SVar → SVar → Bool) (read : List SVar) : Type 0 where
  pub then : (a b c : SVar) → first a b ≡ true → first b c ≡ true → first a c ≡ true
  pub once : (a b : SVar) → first a b ≡ true → first b a ≡ true → ⊥
  pub total : (a b : SVar) → is_in read a ≡ true → is_in read b ≡ true → (a ≡ b → ⊥) → first a b ≡ false → first b a ≡ true

next_is : (at : ℕ) → at + 1 ≡ suc at
next_is at = omega arith

solved_none : (first : SVar → SVar → Bool) (pairs : List (Sort × Sort)) → ((f : SVar → Sort) → Unifies f pairs) → IsSolved first pairs []
solved_none first pairs all = record {
  unifies = all (image []);
  absorbs = λ f u v. sym (apply-var f v);
  least = λ v w e. inl (Var-inj v w e);
  moves = λ v e. some-not-none (Var v) (sym e);
}

clash_found : (first : SVar → SVar → Bool) (pairs : List (Sort × Sort)) (at : ℕ) → IsFound first pairs at apart → IsClash pairs at
clash_found first pairs at h =
    (h.place, (λ v. Var v, h.before at (omega arith) (λ v. Var v)), λ u. h.says u.0 (subst (λ (k : ℕ). Unifies u.0 (take k pairs)) (next_is at) u.1))

module _ (first : SVar → SVar → Bool) (read : List SVar) (order : IsOrder first read) (pairs : List (Sort × Sort)) (at : ℕ) (v : SVar) (t : Sort) (found : IsFound first pairs at (binds v t)) (among : (u : SVar) → IsRead u pairs → is_in read u ≡ true) where
  -- a variable that is put for v stands before it
  stands_first : (w : SVar) → t ≡ Var w → (w ≡ v → ⊥) × (first w v ≡ true)
  stands_first w e =
      let there : occurs w t ≡ true = ap (occurs w) e ∙ occurs-var w w ∙ same_svar-refl w in
      let differ : w ≡ v → ⊥ = λ p. true-not-false (sym (ap (λ x. occurs x t) (sym p) ∙ there) ∙ found.says.absent) in (
        differ,
        elim (found.says.ordered w e) [
          | inl p ↦ p
          | inr p ↦ order.total v w (among v found.says.inside) (among w (found.says.within w there)) (λ q. differ (sym q)) p
        ],
      )

  forced : (f : SVar → Sort) → Unifies f pairs → f v ≡ apply_to f t
  forced f u = found.says.forced f (unifies_take f (suc at) pairs u)

  module _ (s : List (SVar × Sort)) (h : IsSolved first (replaced v t pairs) s) where
    at_image : (w : SVar) → image (after s ((v, t) ∷ [])) w ≡ apply_to (image s) (image ((v, t) ∷ []) w)
    at_image w = image-after s ((v, t) ∷ []) w

    unifies_now : Unifies (image (after s ((v, t) ∷ []))) pairs
    unifies_now = subst (λ (g : SVar → Sort). Unifies g pairs) (λ i w. sym (at_image w) i) (unifies_back v t (image s) pairs h.unifies)

    absorbs_now : (f : SVar → Sort) → Unifies f pairs → (w : SVar) → f w ≡ apply_to f (image (after s ((v, t) ∷ [])) w)
    absorbs_now f u w =
        let a = h.absorbs f (unifies_all v t f pairs (forced f u) u) in
        let p = image ((v, t) ∷ []) w in
        sym (put_same v t f (forced f u) w)
        ∙ apply-same f (λ x. apply_to f (image s x)) p a
        ∙ sym (apply-apply f (image s) p)
        ∙ ap (apply_to f) (sym (at_image w))

    -- where t becomes a variable, that stands before v
    through : (x : SVar) → apply_to (image s) t ≡ Var x → (x ≡ v → ⊥) × (first x v ≡ true)
    through x e =
        let r = var-from (image s) t x e in
        let u = r.0 in
        let k = stands_first u r.1.0 in
        elim (h.least u x r.1.1) [
          | inl q ↦ (λ p. k.0 (q ∙ p), ap (λ y. first y v) (sym q) ∙ k.1)
          | inr q ↦ let z = order.then x u v q k.1 in (λ p. order.once x v z (ap (first v) p ∙ sym (ap (λ y. first y v) p) ∙ z), z)
        ]

    least_now : (w x : SVar) → image (after s ((v, t) ∷ [])) w ≡ Var x → (w ≡ x) ⊎ (first x w ≡ true)
    least_now w x = by (same_svar v w) refl
      where
        by : (b : Bool) → same_svar v w ≡ b → cond b (apply_to (image s) t) (image s w) ≡ Var x → (w ≡ x) ⊎ (first x w ≡ true)
        by true e k = inr (ap (first x) (sym (same_svar-true v w e)) ∙ (through x k).1)
        by false e k = h.least w x k

    moves_now : MovesAll (after s ((v, t) ∷ []))
    moves_now w = by (same_svar v w) refl
      where
        by : (b : Bool) → same_svar v w ≡ b → cond b (Some (apply_to (image s) t)) (entry_of s w) ≡ Some (Var w) → ⊥
        by true e k = (through w (some-inj (apply_to (image s) t) (Var w) k)).0 (sym (same_svar-true v w e))
        by false e k = h.moves w k

    solved_now : IsSolved first pairs (after s ((v, t) ∷ []))
    solved_now = record {
      unifies = unifies_now;
      absorbs = absorbs_now;
      least = least_now;
      moves = moves_now;
    }

  in_reach : (i j : ℕ) → (j < i) ⊎ (i ≤ j)
  in_reach i j = grind (arith, common_steps)

  -- who unifies a first part of the pairs unifies as long a part of what is made of them, or else some map does
  part_unified : (k : ℕ) → HasUnifier (take k pairs) → HasUnifier (take k (replaced v t pairs))
  part_unified k u = elim (in_reach k at) [
    | inl l ↦ (u.0, unifies_first v t u.0 k pairs (found.says.forced u.0 (unifies_shorter u.0 (suc at) k pairs (omega arith) u.1)) u.1)
    | inr l ↦ (u.0, unifies_to v t u.0 k pairs (found.before k l (λ w. apply_to u.0 (image ((v, t) ∷ []) w))))
  ]

  clash_now : (i : ℕ) → IsClash (replaced v t pairs) i → IsClash pairs i
  clash_now i h = (
    subst (λ (n : ℕ). i < n) (length-map' (λ p. (apply_to (image ((v, t) ∷ [])) p.0, apply_to (image ((v, t) ∷ [])) p.1)) pairs) h.0,
    ((λ w. apply_to h.1.0 (image ((v, t) ∷ []) w)), unifies_from v t h.1.0 i pairs h.1.1),
    λ u. h.2 (part_unified (i + 1) u),
  )

  pub bound : (r : Result (List (SVar × Sort)) ℕ) → MatchSolved first (replaced v t pairs) r → MatchSolved first pairs (with_binding v t r)
  bound (Ok s) h = solved_now s h
  bound (Err i) h = clash_now i h

  pub still_read : (u : SVar) → IsRead u (replaced v t pairs) → IsRead u pairs × (same_svar v u ≡ false)
  still_read u k =
      let r = read_from v t found.says.absent u pairs k in
      (elim r.0 [ inl p ↦ found.says.within u p | inr p ↦ p ], r.1)

module _ (first : SVar → SVar → Bool) (read : List SVar) (order : IsOrder first read) where
  step : (pairs : List (Sort × Sort)) (go : SVar → Sort → Result (List (SVar × Sort)) ℕ) (r : ℕ × Difference) → IsFound first pairs r.0 r.1 → ((at : ℕ) (v : SVar) (t : Sort) → IsFound first pairs at (binds v t) → MatchSolved first pairs (go v t)) → MatchSolved first pairs (solve_step go r)
  step pairs go (at, none) h next = solved_none first pairs h.says
  step pairs go (at, binds v t) h next = next at v t h
  step pairs go (at, apart) h next = clash_found first pairs at h

  empty : (vs : List SVar) (u : SVar) → length vs ≤ 0 → is_in vs u ≡ true → ⊥
  empty [] u l e = true-not-false (sym e)
  empty (w ∷ vs) u l e = omega arith

  -- the variables read are among n others
  pub solve_is : (n : ℕ) (vs : List SVar) (pairs : List (Sort × Sort)) → length vs ≤ n → ((u : SVar) → IsRead u pairs → is_in vs u ≡ true) → ((u : SVar) → IsRead u pairs → is_in read u ≡ true) → MatchSolved first pairs (solve first n pairs)
  solve_is zero vs pairs l few among = step pairs (λ v t. Err 0) (search first pairs) (search_finds first pairs)
      (λ at v t found. absurd (empty vs v l (few v found.says.inside)))
  solve_is (suc n) vs pairs l few among = step pairs (λ v t. with_binding v t (solve first n (replaced v t pairs))) (search first pairs) (search_finds first pairs)
      (λ at v t found.
      let fewer = shorter v vs (few v found.says.inside) in
      bound first read order pairs at v t found among (solve first n (replaced v t pairs))
      (solve_is n (removed v vs) (replaced v t pairs) (omega arith)
      (λ u k. let r = still_read first read order pairs at v t found among u k in removed_in v u vs r.1 (few u r.0))
      (λ u k. among u (still_read first read order pairs at v t found among u k).0)))
