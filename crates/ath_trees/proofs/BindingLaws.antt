-- A pattern becomes a target by one binding alone.
use Rattle.std.proofs.Common.{◌≡◌, Bool, true, false, List, [], ◌∷◌, map, refl, sym, ◌∙◌, ap, inl, inr}
use Rattle.ath_sorts.specs.declared.sorts.SVar.{SVar}
use Rattle.ath_sorts.specs.declared.sorts.Sort.{Sort}
use Rattle.ath_sorts.specs.Signature.{Signature}
use Rattle.ath_sorts.specs.Sorts.{apply_to}
use Rattle.ath_sorts.proofs.Bools.{either_of}
use Rattle.ath_trees.specs.declared.node.Var.{Var}
use Rattle.ath_trees.specs.Tree.{Term, Terms, var, app, none, more, Sent, atom, equal, negated, joined, bound}
use Rattle.ath_trees.specs.Variables.{same_var, with_terms, term_vars, free_vars}
use Rattle.ath_trees.specs.Occurrences.{is_among}
use Rattle.ath_trees.specs.Nameless.{NTerm, nameless_term, nameless_terms, nameless_under, term_instance, terms_instance, sent_instance}
use Rattle.ath_trees.specs.Binding.{binding, IsBinding}
use Rattle.ath_trees.proofs.Forms.{free-inj, app-inj, more-inj, atom-inj, equal-inj, negated-inj, joined-inj, quant-inj}
use Rattle.ath_trees.proofs.Occurring.{same_var-true, same_var-sym, among-more, among-equal, among-joined, among-of_bound}
use Rattle.ath_trees.proofs.SubstLaws.{placed-outside}

-- ---- terms without binders are as their nameless forms
mutual
  named : (s t : Term) → nameless_term [] s ≡ nameless_term [] t → s ≡ t
  named (var v) (var w) e = ap var (free-inj v w e)
  named (app f ss ts) (app g us vs) e =
      let p : f ≡ g = cc in
      let r = (app-inj f g ss us (nameless_terms [] ts) (nameless_terms [] vs) e).1 in
      let b = all_named ts vs r.1 in
      λ i. app (p i) (r.0 i) (b i)
  named (var v) (app g us vs) e = absurd (cc)
  named (app f ss ts) (var w) e = absurd (cc)

  all_named : (ss ts : Terms) → nameless_terms [] ss ≡ nameless_terms [] ts → ss ≡ ts
  all_named none none e = refl
  all_named (more s ss) (more t ts) e =
      let p = more-inj (nameless_term [] s) (nameless_term [] t) (nameless_terms [] ss) (nameless_terms [] ts) e in
      let a = named s t p.0 in
      let b = all_named ss ts p.1 in
      λ i. more (a i) (b i)
  all_named none (more t ts) e = absurd (cc)
  all_named (more s ss) none e = absurd (cc)

-- ---- what is made of a free variable
module _ (σ τ : Var → NTerm) (f g : SVar → Sort) (v : Var) where
  mutual
    term-agrees : (c : List Var) (t : Term) → is_among v c ≡ false → is_among v (term_vars t) ≡ true → term_instance σ f (nameless_term c t) ≡ term_instance τ g (nameless_term c t) → σ v ≡ τ v
    term-agrees c (var w) o h e = elim (either_of (same_var v w) false h) [
      | inl s ↦
          let p = placed-outside c 0 v o in
          let q = same_var-true v w s in
          ap (term_instance σ f) (sym p) ∙ ap (λ (u : Var). term_instance σ f (nameless_term c (var u))) q ∙ e ∙ ap (λ (u : Var). term_instance τ g (nameless_term c (var u))) (sym q) ∙ ap (term_instance τ g) p
      | inr s ↦ absurd (cc)
    ]
    term-agrees c (app k ss ts) o h e = terms-agree c ts o h (app-inj k k (map (apply_to f) ss) (map (apply_to g) ss) (terms_instance σ f (nameless_terms c ts)) (terms_instance τ g (nameless_terms c ts)) e).1.1

    terms-agree : (c : List Var) (ts : Terms) → is_among v c ≡ false → is_among v (with_terms [] ts) ≡ true → terms_instance σ f (nameless_terms c ts) ≡ terms_instance τ g (nameless_terms c ts) → σ v ≡ τ v
    terms-agree c none o h e = absurd (cc)
    terms-agree c (more t ts) o h e =
        let p = more-inj (term_instance σ f (nameless_term c t)) (term_instance τ g (nameless_term c t)) (terms_instance σ f (nameless_terms c ts)) (terms_instance τ g (nameless_terms c ts)) e in
        elim (either_of (is_among v (term_vars t)) (is_among v (with_terms [] ts)) (sym (among-more v t ts) ∙ h)) [
          | inl k ↦ term-agrees c t o k p.0
          | inr k ↦ terms-agree c ts o k p.1
        ]

  sent-agrees : (c : List Var) (p : Sent) → is_among v c ≡ false → is_among v (free_vars p) ≡ true → sent_instance σ f (nameless_under c p) ≡ sent_instance τ g (nameless_under c p) → σ v ≡ τ v
  sent-agrees c (atom t) o h e = term-agrees c t o h (atom-inj (term_instance σ f (nameless_term c t)) (term_instance τ g (nameless_term c t)) e)
  sent-agrees c (equal s t) o h e =
      let p = equal-inj (term_instance σ f (nameless_term c s)) (term_instance σ f (nameless_term c t)) (term_instance τ g (nameless_term c s)) (term_instance τ g (nameless_term c t)) e in
      elim (either_of (is_among v (term_vars s)) (is_among v (term_vars t)) (sym (among-equal v s t) ∙ h)) [
        | inl k ↦ term-agrees c s o k p.0
        | inr k ↦ term-agrees c t o k p.1
      ]
  sent-agrees c (negated p) o h e = sent-agrees c p o h (negated-inj (sent_instance σ f (nameless_under c p)) (sent_instance τ g (nameless_under c p)) e)
  sent-agrees c (joined k p q) o h e =
      let r = (joined-inj k k (sent_instance σ f (nameless_under c p)) (sent_instance σ f (nameless_under c q)) (sent_instance τ g (nameless_under c p)) (sent_instance τ g (nameless_under c q)) e).1 in
      elim (either_of (is_among v (free_vars p)) (is_among v (free_vars q)) (sym (among-joined v k p q) ∙ h)) [
        | inl l ↦ sent-agrees c p o l r.0
        | inr l ↦ sent-agrees c q o l r.1
      ]
  sent-agrees c (bound k u p) o h e =
      let m = among-of_bound v k u p h in
      let r = (quant-inj k k (apply_to f u.sort) (apply_to g u.sort) (sent_instance σ f (nameless_under (u ∷ c) p)) (sent_instance τ g (nameless_under (u ∷ c) p)) e).1.1 in
      sent-agrees (u ∷ c) p (rw (same_var-sym u v m.0) o) m.1 r

pub bindings-agree : (sig : Signature) (vars : List Var) (rigid : SVar → Bool) (σ τ : Var → Term) (f g : SVar → Sort) (p q : Sent) → IsBinding sig vars rigid σ f p q → IsBinding sig vars rigid τ g p q → (v : Var) → is_among v vars ≡ true → is_among v (free_vars p) ≡ true → σ v ≡ τ v
bindings-agree sig vars rigid σ τ f g p q h k v listed free =
    let e = sent-agrees (binding vars σ f) (binding vars τ g) f g v [] p refl free (h.becomes ∙ sym k.becomes) in
    named (σ v) (τ v) (rw listed at e)
