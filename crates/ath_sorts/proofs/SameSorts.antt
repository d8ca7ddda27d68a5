-- When two sorts are one.
use Rattle.std.proofs.Common.{◌≡◌, Bool, true, ◌&&◌, ◌==◌, List, [], ◌∷◌, map, refl, sym, ◌∙◌, ap, inl, inr}
use Rattle.std.specs.List.{AllByRecursion}
use Rattle.ath_sorts.specs.declared.sorts.Sym.{Sym}
use Rattle.ath_sorts.specs.declared.sorts.SVar.{SVar}
use Rattle.ath_sorts.specs.declared.sorts.Sort.{Sort, Var, Con, out-Sort}
use Rattle.ath_sorts.specs.declared.sorts.Sort.TheOpen as one
use Rattle.ath_sorts.specs.declared.sorts.Sort.TheVariants.{rolls-Var, rolls-Con, outs-Var, outs-Con}
use Rattle.ath_sorts.specs.declared.sorts.Sort.TheFolds.{fold-roll-Sort}
use Rattle.ath_sorts.specs.Equality.{all_pass, same_step, same_sort}
use Rattle.ath_sorts.proofs.SortLaws.{sort_induction, same_svar-true, same_svar-refl}
use Rattle.ath_sorts.proofs.SubstitutionLaws.{sort_cases}
use Rattle.ath_sorts.proofs.Bools.{and_parts, same_num, num_same}

same-var : (v : SVar) (t : Sort) → same_sort (Var v) t ≡ same_step (one.Var v) (out-Sort t)
same-var v t = ap (λ s. same_sort s t) (sym (rolls-Var v)) ∙ ap (λ (k : Sort → Bool). k t) (fold-roll-Sort (Sort → Bool) (λ x t. same_step x (out-Sort t)) (one.Var v))

same-con : (c : Sym) (args : List Sort) (t : Sort) → same_sort (Con c args) t ≡ same_step (one.Con c (map same_sort args)) (out-Sort t)
same-con c args t = ap (λ s. same_sort s t) (sym (rolls-Con c args)) ∙ ap (λ (k : Sort → Bool). k t) (fold-roll-Sort (Sort → Bool) (λ x t. same_step x (out-Sort t)) (one.Con c args))

and_true : (a b : Bool) → a ≡ true → b ≡ true → (a && b) ≡ true
and_true a b p q = rw (p, q) refl

pass-same : (args : List Sort) → AllByRecursion (λ s. same_sort s s ≡ true) args → all_pass (map same_sort args) args ≡ true
pass-same [] h = refl
pass-same (s ∷ ss) h = and_true (same_sort s s) (all_pass (map same_sort ss) ss) h.0 (pass-same ss h.1)

pub same_sort-refl : (s : Sort) → same_sort s s ≡ true
same_sort-refl =
    let P : Sort → Type 0 = λ s. same_sort s s ≡ true in
    sort_induction P
    (λ v. same-var v (Var v) ∙ ap (same_step (one.Var v)) (outs-Var v) ∙ same_svar-refl v)
    (λ c args h. same-con c args (Con c args) ∙ ap (same_step (one.Con c (map same_sort args))) (outs-Con c args) ∙ and_true (c.0 == c.0) (all_pass (map same_sort args) args) (num_same c.0) (pass-same args h))

same-pass : (args others : List Sort) → AllByRecursion (λ s. (t : Sort) → same_sort s t ≡ true → s ≡ t) args → all_pass (map same_sort args) others ≡ true → args ≡ others
same-pass [] [] h e = refl
same-pass [] (t ∷ ts) h e = absurd (cc)
same-pass (s ∷ ss) [] h e = absurd (cc)
same-pass (s ∷ ss) (t ∷ ts) h e =
    let p = and_parts (same_sort s t) (all_pass (map same_sort ss) ts) e in
    λ i. h.0 t p.0 i ∷ same-pass ss ts h.1 p.1 i

pub same_sort-true : (s t : Sort) → same_sort s t ≡ true → s ≡ t
same_sort-true =
    let P : Sort → Type 0 = λ s. (t : Sort) → same_sort s t ≡ true → s ≡ t in
    sort_induction P
    (λ v t e. elim (sort_cases t) [
      | inl h ↦ ap Var (same_svar-true v h.0 (sym (same-var v t ∙ ap (same_step (one.Var v)) (ap out-Sort h.1 ∙ outs-Var h.0)) ∙ e)) ∙ sym h.1
      | inr h ↦ absurd (let z = sym (same-var v t ∙ ap (same_step (one.Var v)) (ap out-Sort h.1.1 ∙ outs-Con h.0 h.1.0)) ∙ e in cc)
    ])
    (λ c args h t e. elim (sort_cases t) [
      | inl k ↦ absurd (let z = sym (same-con c args t ∙ ap (same_step (one.Con c (map same_sort args))) (ap out-Sort k.1 ∙ outs-Var k.0)) ∙ e in cc)
      | inr k ↦
          let z = and_parts (c.0 == k.0.0) (all_pass (map same_sort args) k.1.0) (sym (same-con c args t ∙ ap (same_step (one.Con c (map same_sort args))) (ap out-Sort k.1.1 ∙ outs-Con k.0 k.1.0)) ∙ e) in
          (λ i. Con (record { 0 = same_num c.0 k.0.0 z.0 i }) (same-pass args k.1.0 h z.1 i)) ∙ sym k.1.1
    ])
