-- What the first difference of two sorts says of the maps that make them equal.
use Rattle.std.proofs.Common.{◌≡◌, ℕ, ◌≤◌, Bool, true, false, ◌==◌, cond, List, [], ◌∷◌, map, sum, refl, sym, ◌∙◌, ap, subst, arith, ◌⊎◌, inl, inr}
use Rattle.std.proofs.lemmas.Grind.{common_steps}
use Rattle.std.specs.List.{AllByRecursion, list_any}
use Rattle.ath_sorts.specs.declared.sorts.SVar.{SVar}
use Rattle.ath_sorts.specs.declared.sorts.Sym.{Sym}
use Rattle.ath_sorts.specs.declared.sorts.Sort.{Sort, Var, Con, out-Sort}
use Rattle.ath_sorts.specs.declared.sorts.Sort.TheOpen as one
use Rattle.ath_sorts.specs.declared.sorts.Sort.TheVariants.{rolls-Var, rolls-Con, outs-Var, outs-Con}
use Rattle.ath_sorts.specs.declared.sorts.Sort.TheFolds.{fold-roll-Sort}
use Rattle.ath_sorts.specs.Sorts.{same_svar, apply_to, size_of, occurs}
use Rattle.ath_sorts.proofs.Bools.{bool_cases, either_of, either_to, true-not-false, same_num, num_same}
use Rattle.ath_sorts.proofs.Gets.{cons-head, cons-tail}
use Rattle.ath_sorts.proofs.SortLaws.{sort_induction, apply-var, apply-con, size-con, occurs-var, occurs-con, Con-inj, Var-inj, Var-not-Con, same_svar-true, same_svar-refl}
use Rattle.ath_sorts.proofs.SubstitutionLaws.{sort_cases}
use Rattle.ath_unifiers.specs.Differences.{Difference, none, binds, apart, Compared, first_of, first_among, binding, between, compare_step, whole, compared, difference}

pub same_turned : (v w : SVar) → same_svar v w ≡ false → same_svar w v ≡ false
same_turned v w e = elim (bool_cases (same_svar w v)) [
  | inl p ↦ absurd (true-not-false (sym (ap (same_svar v) (same_svar-true w v p) ∙ same_svar-refl v) ∙ e))
  | inr p ↦ p
]

-- a variable in a sort with a constructor can't be made equal to it
module _ (f : SVar → Sort) (v : SVar) where
  abbrev IsPart : Sort → Type 0
  IsPart s = occurs v s ≡ true → size_of (f v) ≤ size_of (apply_to f s)

  parts : (args : List Sort) → AllByRecursion IsPart args → list_any (occurs v) args ≡ true → size_of (f v) ≤ sum (map size_of (map (apply_to f) args))
  parts [] h e = absurd (cc)
  parts (s ∷ ss) h e = elim (either_of (occurs v s) (list_any (occurs v) ss) e) [
    | inl p ↦ let l = h.0 p in left (size_of (f v)) (size_of (apply_to f s)) (map size_of (map (apply_to f) ss)) l
    | inr p ↦ let l = parts ss h.1 p in right (size_of (f v)) (size_of (apply_to f s)) (map size_of (map (apply_to f) ss)) l
  ]
    where
      left : (n m : ℕ) (ms : List ℕ) → n ≤ m → n ≤ sum (m ∷ ms)
      left n m ms l = grind (arith, common_steps)

      right : (n m : ℕ) (ms : List ℕ) → n ≤ sum ms → n ≤ sum (m ∷ ms)
      right n m ms l = grind (arith, common_steps)

  part : (s : Sort) → IsPart s
  part = sort_induction IsPart
      (λ w e.
      let same = same_svar-true v w (sym (occurs-var v w) ∙ e) in
      let q = ap size_of (ap f same ∙ sym (apply-var f w)) in
      omega arith)
      (λ c args h e.
      let l = parts args h (sym (occurs-con v c args) ∙ e) in
      let q = ap size_of (apply-con f c args) ∙ size-con c (map (apply_to f) args) in
      omega arith)

  pub no_cycle : (c : Sym) (args : List Sort) → occurs v (Con c args) ≡ true → f v ≡ apply_to f (Con c args) → ⊥
  no_cycle c args e p =
      let all : (ss : List Sort) → AllByRecursion IsPart ss = all_parts in
      let l = parts args (all args) (sym (occurs-con v c args) ∙ e) in
      let q = ap size_of (p ∙ apply-con f c args) ∙ size-con c (map (apply_to f) args) in
      omega arith
    where
      all_parts : (ss : List Sort) → AllByRecursion IsPart ss
      all_parts [] = tt
      all_parts (s ∷ ss) = (part s, all_parts ss)

-- what is known of a binding: who makes equal what is compared makes the variable that sort, and all variables are of what is compared
pub record IsBinding (first : SVar → SVar → Bool) (E : (SVar → Sort) → Type 0) (H : SVar → Type 0) (v : SVar) (t : Sort) : Type 0 where
  pub forced : (f : SVar → Sort) → E f → f v ≡ apply_to f t
  pub absent : occurs v t ≡ false
  pub inside : H v
  pub within : (u : SVar) → occurs u t ≡ true → H u
  pub ordered : (w : SVar) → t ≡ Var w → (first w v ≡ true) ⊎ (first v w ≡ false)

-- S says that the things compared are equal, E f that f makes them equal, H u that u is in them
abbrev pub MatchDifference : (SVar → SVar → Bool) → Type 0 → ((SVar → Sort) → Type 0) → (SVar → Type 0) → Difference → Type 0
MatchDifference first S E H none = S
MatchDifference first S E H (binds v t) = IsBinding first E H v t
MatchDifference first S E H apart = (f : SVar → Sort) → E f → ⊥

module _ (first : SVar → SVar → Bool) where
  pub rebound : (E E' : (SVar → Sort) → Type 0) (H H' : SVar → Type 0) (v : SVar) (t : Sort) → ((f : SVar → Sort) → E' f → E f) → ((u : SVar) → H u → H' u) → IsBinding first E H v t → IsBinding first E' H' v t
  rebound E E' H H' v t e h b = record {
    forced = λ f k. b.forced f (e f k);
    absent = b.absent;
    inside = h v b.inside;
    within = λ u k. h u (b.within u k);
    ordered = b.ordered;
  }

  pub weaker : (S S' : Type 0) (E E' : (SVar → Sort) → Type 0) (H H' : SVar → Type 0) → (S → S') → ((f : SVar → Sort) → E' f → E f) → ((u : SVar) → H u → H' u) → (d : Difference) → MatchDifference first S E H d → MatchDifference first S' E' H' d
  weaker S S' E E' H H' s e h none m = s m
  weaker S S' E E' H H' s e h (binds v t) m = rebound E E' H H' v t e h m
  weaker S S' E E' H H' s e h apart m = λ f k. m f (e f k)

  in_turn : (S T U : Type 0) (E F G : (SVar → Sort) → Type 0) (H I J : SVar → Type 0) → (S → T → U) → ((f : SVar → Sort) → G f → E f) → ((f : SVar → Sort) → G f → F f) → ((u : SVar) → H u → J u) → ((u : SVar) → I u → J u) → (d r : Difference) → MatchDifference first S E H d → MatchDifference first T F I r → MatchDifference first U G J (first_of d r)
  in_turn S T U E F G H I J both e f h i none r m n = weaker T U F G I J (both m) f i r n
  in_turn S T U E F G H I J both e f h i (binds v t) r m n = rebound E G H J v t e h m
  in_turn S T U E F G H I J both e f h i apart r m n = λ k p. m k (e k p)

  -- how the first difference is computed
  abbrev step : one.Sort-F Compared → Compared
  step x = (whole x, λ t. compare_step first x (out-Sort t))

  compared-var : (v : SVar) → compared first (Var v) ≡ step (one.Var v)
  compared-var v = ap (compared first) (sym (rolls-Var v)) ∙ fold-roll-Sort Compared step (one.Var v)

  compared-con : (c : Sym) (args : List Sort) → compared first (Con c args) ≡ step (one.Con c (map (compared first) args))
  compared-con c args = ap (compared first) (sym (rolls-Con c args)) ∙ fold-roll-Sort Compared step (one.Con c args)

  all_rebuilt : (args : List Sort) → AllByRecursion (λ s. (compared first s).0 ≡ s) args → map (λ p. p.0) (map (compared first) args) ≡ args
  all_rebuilt [] h = refl
  all_rebuilt (s ∷ ss) h = λ i. h.0 i ∷ all_rebuilt ss h.1 i

  rebuilt : (s : Sort) → (compared first s).0 ≡ s
  rebuilt =
      let P : Sort → Type 0 = λ s. (compared first s).0 ≡ s in
      sort_induction P (λ v. ap (λ p. p.0) (compared-var v)) (λ c args h. ap (λ p. p.0) (compared-con c args) ∙ ap (Con c) (all_rebuilt args h))

  args_rebuilt : (args : List Sort) → map (λ p. p.0) (map (compared first) args) ≡ args
  args_rebuilt [] = refl
  args_rebuilt (s ∷ ss) = λ i. rebuilt s i ∷ args_rebuilt ss i

  tests : (args : List Sort) → map (λ p. p.1) (map (compared first) args) ≡ map (difference first) args
  tests [] = refl
  tests (s ∷ ss) = ap (λ r. difference first s ∷ r) (tests ss)

  difference-var : (v : SVar) (t : Sort) → difference first (Var v) t ≡ compare_step first (one.Var v) (out-Sort t)
  difference-var v t = ap (λ p. p.1 t) (compared-var v)

  difference-con : (c : Sym) (args : List Sort) (t : Sort) → difference first (Con c args) t ≡ compare_step first (one.Con c (map (compared first) args)) (out-Sort t)
  difference-con c args t = ap (λ p. p.1 t) (compared-con c args)

  var-var : (v w : SVar) → difference first (Var v) (Var w) ≡ between first v w
  var-var v w = difference-var v (Var w) ∙ ap (compare_step first (one.Var v)) (outs-Var w)

  var-con : (v : SVar) (d : Sym) (args : List Sort) → difference first (Var v) (Con d args) ≡ binding v (Con d args)
  var-con v d args = difference-var v (Con d args) ∙ ap (compare_step first (one.Var v)) (outs-Con d args)

  con-var : (c : Sym) (args : List Sort) (w : SVar) → difference first (Con c args) (Var w) ≡ binding w (Con c args)
  con-var c args w = difference-con c args (Var w) ∙ ap (compare_step first (one.Con c (map (compared first) args))) (outs-Var w) ∙ ap (λ ss. binding w (Con c ss)) (args_rebuilt args)

  con-con : (c : Sym) (args : List Sort) (d : Sym) (others : List Sort) → difference first (Con c args) (Con d others) ≡ cond (c.0 == d.0) (first_among (map (difference first) args) others) apart
  con-con c args d others = difference-con c args (Con d others) ∙ ap (compare_step first (one.Con c (map (compared first) args))) (outs-Con d others) ∙ ap (λ ds. cond (c.0 == d.0) (first_among ds others) apart) (tests args)

  -- what it says
  abbrev pub IsInside : Sort → Sort → SVar → Type 0
  IsInside s t u = (occurs u s ≡ true) ⊎ (occurs u t ≡ true)

  abbrev pub IsDifference : Sort → Sort → Difference → Type 0
  IsDifference s t d = MatchDifference first (s ≡ t) (λ f. apply_to f s ≡ apply_to f t) (IsInside s t) d

  occurs-own : (v : SVar) → occurs v (Var v) ≡ true
  occurs-own v = occurs-var v v ∙ same_svar-refl v

  between_is : (v w : SVar) → IsDifference (Var v) (Var w) (between first v w)
  between_is v w = by (same_svar v w) refl (first v w) refl
    where
      by : (b : Bool) → same_svar v w ≡ b → (c : Bool) → first v w ≡ c → IsDifference (Var v) (Var w) (cond b none (cond c (binds w (Var v)) (binds v (Var w))))
      by true e c h = ap Var (same_svar-true v w e)
      by false e true h = record {
        forced = λ f p. sym (apply-var f w) ∙ sym p;
        absent = occurs-var w v ∙ same_turned v w e;
        inside = inr (occurs-own w);
        within = λ u k. inl k;
        ordered = λ x p. inl (ap (λ y. first y w) (sym (Var-inj v x p)) ∙ h);
      }
      by false e false h = record {
        forced = λ f p. sym (apply-var f v) ∙ p;
        absent = occurs-var v w ∙ e;
        inside = inl (occurs-own v);
        within = λ u k. inr k;
        ordered = λ x p. inr (ap (first v) (sym (Var-inj w x p)) ∙ h);
      }

  binding_is : (S : Type 0) (E : (SVar → Sort) → Type 0) (H : SVar → Type 0) (v : SVar) (c : Sym) (args : List Sort) → ((f : SVar → Sort) → E f → f v ≡ apply_to f (Con c args)) → H v → ((u : SVar) → occurs u (Con c args) ≡ true → H u) → MatchDifference first S E H (binding v (Con c args))
  binding_is S E H v c args forced inside within = by (occurs v (Con c args)) refl
    where
      by : (b : Bool) → occurs v (Con c args) ≡ b → MatchDifference first S E H (cond b apart (binds v (Con c args)))
      by true e = λ f p. no_cycle f v c args e (forced f p)
      by false e = record {
        forced = forced;
        absent = e;
        inside = inside;
        within = within;
        ordered = λ w p. absurd (Var-not-Con w c args (sym p));
      }

  abbrev AreInside : List Sort → List Sort → SVar → Type 0
  AreInside ss ts u = (list_any (occurs u) ss ≡ true) ⊎ (list_any (occurs u) ts ≡ true)

  head_inside : (s t : Sort) (ss ts : List Sort) (u : SVar) → IsInside s t u → AreInside (s ∷ ss) (t ∷ ts) u
  head_inside s t ss ts u h = elim h [
    | inl p ↦ inl (either_to (occurs u s) (list_any (occurs u) ss) (inl p))
    | inr p ↦ inr (either_to (occurs u t) (list_any (occurs u) ts) (inl p))
  ]

  tail_inside : (s t : Sort) (ss ts : List Sort) (u : SVar) → AreInside ss ts u → AreInside (s ∷ ss) (t ∷ ts) u
  tail_inside s t ss ts u h = elim h [
    | inl p ↦ inl (either_to (occurs u s) (list_any (occurs u) ss) (inr p))
    | inr p ↦ inr (either_to (occurs u t) (list_any (occurs u) ts) (inr p))
  ]

  among_is : (ss ts : List Sort) → AllByRecursion (λ s. (t : Sort) → IsDifference s t (difference first s t)) ss → MatchDifference first (ss ≡ ts) (λ f. map (apply_to f) ss ≡ map (apply_to f) ts) (AreInside ss ts) (first_among (map (difference first) ss) ts)
  among_is [] [] h = refl
  among_is [] (t ∷ ts) h = λ f e. cc
  among_is (s ∷ ss) [] h = λ f e. cc
  among_is (s ∷ ss) (t ∷ ts) h =
      in_turn (s ≡ t) (ss ≡ ts) (s ∷ ss ≡ t ∷ ts)
      (λ f. apply_to f s ≡ apply_to f t) (λ f. map (apply_to f) ss ≡ map (apply_to f) ts) (λ f. map (apply_to f) (s ∷ ss) ≡ map (apply_to f) (t ∷ ts))
      (IsInside s t) (AreInside ss ts) (AreInside (s ∷ ss) (t ∷ ts))
      (λ p q i. p i ∷ q i)
      (λ f e. cons-head (apply_to f s) (apply_to f t) (map (apply_to f) ss) (map (apply_to f) ts) e)
      (λ f e. cons-tail (apply_to f s) (apply_to f t) (map (apply_to f) ss) (map (apply_to f) ts) e)
      (head_inside s t ss ts) (tail_inside s t ss ts)
      (difference first s t) (first_among (map (difference first) ss) ts) (h.0 t) (among_is ss ts h.1)

  args_equal : (f : SVar → Sort) (c d : Sym) (ss ts : List Sort) → apply_to f (Con c ss) ≡ apply_to f (Con d ts) → (c ≡ d) × (map (apply_to f) ss ≡ map (apply_to f) ts)
  args_equal f c d ss ts e = Con-inj c d (map (apply_to f) ss) (map (apply_to f) ts) (sym (apply-con f c ss) ∙ e ∙ apply-con f d ts)

  con_is : (c : Sym) (ss : List Sort) (d : Sym) (ts : List Sort) → AllByRecursion (λ s. (t : Sort) → IsDifference s t (difference first s t)) ss → IsDifference (Con c ss) (Con d ts) (cond (c.0 == d.0) (first_among (map (difference first) ss) ts) apart)
  con_is c ss d ts h = by (c.0 == d.0) refl
    where
      up : (u : SVar) → AreInside ss ts u → IsInside (Con c ss) (Con d ts) u
      up u k = elim k [ inl p ↦ inl (occurs-con u c ss ∙ p) | inr p ↦ inr (occurs-con u d ts ∙ p) ]

      by : (b : Bool) → (c.0 == d.0) ≡ b → IsDifference (Con c ss) (Con d ts) (cond b (first_among (map (difference first) ss) ts) apart)
      by true e =
          weaker (ss ≡ ts) (Con c ss ≡ Con d ts)
          (λ f. map (apply_to f) ss ≡ map (apply_to f) ts) (λ f. apply_to f (Con c ss) ≡ apply_to f (Con d ts))
          (AreInside ss ts) (IsInside (Con c ss) (Con d ts))
          (λ p i. Con (record { 0 = same_num c.0 d.0 e i }) (p i))
          (λ f p. (args_equal f c d ss ts p).1) up
          (first_among (map (difference first) ss) ts) (among_is ss ts h)
      by false e = λ f p. true-not-false (sym (ap (λ (n : ℕ). c.0 == n) (sym (ap (λ z. z.0) (args_equal f c d ss ts p).0)) ∙ num_same c.0) ∙ e)

  -- the first difference, where it is computed as d
  by_sides : (s s' t t' : Sort) (d : Difference) → s ≡ s' → t ≡ t' → difference first s' t' ≡ d → IsDifference s' t' d → IsDifference s t (difference first s t)
  by_sides s s' t t' d p q e h =
      let Q : Sort → Sort → Type 0 = λ x y. IsDifference x y (difference first x y) in
      subst (λ x. Q x t) (sym p) (subst (λ y. Q s' y) (sym q) (subst (IsDifference s' t') (sym e) h))

  pub difference_is : (s t : Sort) → IsDifference s t (difference first s t)
  difference_is =
      let P : Sort → Type 0 = λ s. (t : Sort) → IsDifference s t (difference first s t) in
      sort_induction P
      (λ v t. elim (sort_cases t) [
        | inl h ↦ by_sides (Var v) (Var v) t (Var h.0) (between first v h.0) refl h.1 (var-var v h.0) (between_is v h.0)
        | inr h ↦ by_sides (Var v) (Var v) t (Con h.0 h.1.0) (binding v (Con h.0 h.1.0)) refl h.1.1 (var-con v h.0 h.1.0) (var_con_is v h.0 h.1.0)
      ])
      (λ c ss h t. elim (sort_cases t) [
        | inl k ↦ by_sides (Con c ss) (Con c ss) t (Var k.0) (binding k.0 (Con c ss)) refl k.1 (con-var c ss k.0) (con_var_is c ss k.0)
        | inr k ↦ by_sides (Con c ss) (Con c ss) t (Con k.0 k.1.0) (cond (c.0 == k.0.0) (first_among (map (difference first) ss) k.1.0) apart) refl k.1.1 (con-con c ss k.0 k.1.0) (con_is c ss k.0 k.1.0 h)
      ])
    where
      var_con_is : (v : SVar) (d : Sym) (ts : List Sort) → IsDifference (Var v) (Con d ts) (binding v (Con d ts))
      var_con_is v d ts = binding_is (Var v ≡ Con d ts) (λ f. apply_to f (Var v) ≡ apply_to f (Con d ts)) (IsInside (Var v) (Con d ts)) v d ts (λ f p. sym (apply-var f v) ∙ p) (inl (occurs-own v)) (λ u k. inr k)

      con_var_is : (c : Sym) (ss : List Sort) (w : SVar) → IsDifference (Con c ss) (Var w) (binding w (Con c ss))
      con_var_is c ss w = binding_is (Con c ss ≡ Var w) (λ f. apply_to f (Con c ss) ≡ apply_to f (Var w)) (IsInside (Con c ss) (Var w)) w c ss (λ f p. sym (apply-var f w) ∙ sym p) (inr (occurs-own w)) (λ u k. inl k)
