-- The least unifier of valid sorts maps to valid sorts. Where an image had a part that isn't valid, it could be replaced by a
-- variable, and the unifier that this gives isn't the least one and then another substitution.
use Rattle.std.proofs.Common.{◌≡◌, Bool, true, false, cond, List, [], ◌∷◌, length, map, refl, sym, ◌∙◌, ap, arith}
use Rattle.std.specs.List.{list_all, AllByRecursion}
use Rattle.ath_sorts.specs.declared.sorts.Sym.{Sym}
use Rattle.ath_sorts.specs.declared.sorts.SVar.{SVar}
use Rattle.ath_sorts.specs.declared.sorts.SVar.TheVariants.{Made}
use Rattle.ath_sorts.specs.declared.sorts.Sort.{Sort, Var, Con}
use Rattle.ath_sorts.specs.declared.sorts.Sort.TheOpen as one
use Rattle.ath_sorts.specs.declared.sorts.Sort.TheVariants.{rolls-Var, rolls-Con}
use Rattle.ath_sorts.specs.declared.sorts.Sort.TheFolds.{fold-Sort, fold-roll-Sort}
use Rattle.ath_sorts.specs.Signature.{Signature, arity_of}
use Rattle.ath_sorts.specs.Sorts.{image, apply_to}
use Rattle.ath_unifiers.specs.Unifiers.{Unifies, IsLeastUnifier}
use Rattle.ath_sorts.proofs.SortLaws.{sort_induction, apply-var, apply-con}
use Rattle.ath_sorts.proofs.Bools.{and_parts}
use Rattle.ath_trees.specs.WellSorted.{has_arity, is_valid_sort}
use Rattle.ath_trees.proofs.ValidSorts.{both_true, valid-var, valid-con, valid_back}

abbrev clean_step : Signature → one.Sort-F Sort → Sort
clean_step sig (one.Var v) = Var v
clean_step sig (one.Con c args) = cond (has_arity (arity_of sig c) (length args)) (Con c args) (Var (Made 0))

abbrev clean : Signature → Sort → Sort
clean sig = fold-Sort Sort (clean_step sig)

clean-var : (sig : Signature) (v : SVar) → clean sig (Var v) ≡ Var v
clean-var sig v = ap (clean sig) (sym (rolls-Var v)) ∙ fold-roll-Sort Sort (clean_step sig) (one.Var v)

clean-con : (sig : Signature) (c : Sym) (args : List Sort) → clean sig (Con c args) ≡ cond (has_arity (arity_of sig c) (length (map (clean sig) args))) (Con c (map (clean sig) args)) (Var (Made 0))
clean-con sig c args = ap (clean sig) (sym (rolls-Con c args)) ∙ fold-roll-Sort Sort (clean_step sig) (one.Con c args)

map-length : (f : Sort → Sort) (xs : List Sort) → length (map f xs) ≡ length xs
map-length f [] = refl
map-length f (x ∷ xs) = let e = map-length f xs in omega arith

all_clean : (sig : Signature) (args : List Sort) → AllByRecursion (λ s. is_valid_sort sig (clean sig s) ≡ true) args → list_all (is_valid_sort sig) (map (clean sig) args) ≡ true
all_clean sig [] h = refl
all_clean sig (s ∷ ss) h = both_true (is_valid_sort sig (clean sig s)) (list_all (is_valid_sort sig) (map (clean sig) ss)) h.0 (all_clean sig ss h.1)

clean-valid : (sig : Signature) (s : Sort) → is_valid_sort sig (clean sig s) ≡ true
clean-valid sig =
    let P : Sort → Type 0 = λ s. is_valid_sort sig (clean sig s) ≡ true in
    sort_induction P
    (λ v. ap (is_valid_sort sig) (clean-var sig v) ∙ valid-var sig v)
    (λ c args h. ap (is_valid_sort sig) (clean-con sig c args) ∙ by c args h (has_arity (arity_of sig c) (length (map (clean sig) args))) refl)
  where
    by : (c : Sym) (args : List Sort) → AllByRecursion (λ s. is_valid_sort sig (clean sig s) ≡ true) args → (b : Bool) → has_arity (arity_of sig c) (length (map (clean sig) args)) ≡ b → is_valid_sort sig (cond b (Con c (map (clean sig) args)) (Var (Made 0))) ≡ true
    by c args h true e = valid-con sig c (map (clean sig) args) ∙ both_true (has_arity (arity_of sig c) (length (map (clean sig) args))) (list_all (is_valid_sort sig) (map (clean sig) args)) e (all_clean sig args h)
    by c args h false e = valid-var sig (Made 0)

module _ (sig : Signature) (f : SVar → Sort) where
  all_through : (args : List Sort) → AllByRecursion (λ s. is_valid_sort sig s ≡ true → clean sig (apply_to f s) ≡ apply_to (λ v. clean sig (f v)) s) args → list_all (is_valid_sort sig) args ≡ true → map (clean sig) (map (apply_to f) args) ≡ map (apply_to (λ v. clean sig (f v))) args
  all_through [] h e = refl
  all_through (s ∷ ss) h e =
      let p = and_parts (is_valid_sort sig s) (list_all (is_valid_sort sig) ss) e in
      let x = h.0 p.0 in
      let y = all_through ss h.1 p.1 in
      λ i. x i ∷ y i

  clean-under : (s : Sort) → is_valid_sort sig s ≡ true → clean sig (apply_to f s) ≡ apply_to (λ v. clean sig (f v)) s
  clean-under =
      let P : Sort → Type 0 = λ s. is_valid_sort sig s ≡ true → clean sig (apply_to f s) ≡ apply_to (λ v. clean sig (f v)) s in
      let g : SVar → Sort = λ v. clean sig (f v) in
      sort_induction P
      (λ v e. ap (clean sig) (apply-var f v) ∙ sym (apply-var g v))
      (λ c args h e.
      let p = and_parts (has_arity (arity_of sig c) (length args)) (list_all (is_valid_sort sig) args) (sym (valid-con sig c args) ∙ e) in
      let l = map-length (clean sig) (map (apply_to f) args) ∙ map-length (apply_to f) args in
      let a : has_arity (arity_of sig c) (length (map (clean sig) (map (apply_to f) args))) ≡ true = ap (has_arity (arity_of sig c)) l ∙ p.0 in
      ap (clean sig) (apply-con f c args) ∙ clean-con sig c (map (apply_to f) args)
      ∙ ap (λ b. cond b (Con c (map (clean sig) (map (apply_to f) args))) (Var (Made 0))) a
      ∙ ap (Con c) (all_through args h p.1) ∙ sym (apply-con g c args))

abbrev pub AreValid : Signature → List (Sort × Sort) → Type 0
AreValid sig pairs = AllByRecursion (λ p. (is_valid_sort sig p.0 ≡ true) × (is_valid_sort sig p.1 ≡ true)) pairs

clean_unifies : (sig : Signature) (f : SVar → Sort) (pairs : List (Sort × Sort)) → AreValid sig pairs → Unifies f pairs → Unifies (λ v. clean sig (f v)) pairs
clean_unifies sig f [] h u = tt
clean_unifies sig f (p ∷ ps) h u = (sym (clean-under sig f p.0 h.0.0) ∙ ap (clean sig) u.0 ∙ clean-under sig f p.1 h.0.1, clean_unifies sig f ps h.1 u.1)

pub unifier_valid : (sig : Signature) (u : List (SVar × Sort)) (pairs : List (Sort × Sort)) → IsLeastUnifier u pairs → AreValid sig pairs → (v : SVar) → is_valid_sort sig (image u v) ≡ true
unifier_valid sig u pairs h a v =
    let r = h.most_general (λ w. clean sig (image u w)) (clean_unifies sig (image u) pairs a h.unifies) in
    valid_back sig r.0 (image u v) (ap (is_valid_sort sig) (sym (r.1 v)) ∙ clean-valid sig (image u v))
