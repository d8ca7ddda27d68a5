-- What grows with a theory.
use Rattle.std.proofs.Common.{◌≡◌, ℕ, suc, Bool, true, false, ◌&&◌, List, [], ◌∷◌, length, map, Option, Some, None, inl, inr, refl, sym, ◌∙◌, ap, subst}
use Rattle.std.specs.List.{list_all, AllByRecursion}
use Rattle.ath_sorts.specs.declared.sorts.Sym.{Sym}
use Rattle.ath_sorts.specs.declared.sorts.SVar.{SVar}
use Rattle.ath_sorts.specs.declared.sorts.Sort.{Sort, Var, Con}
use Rattle.ath_sorts.specs.declared.sorts.Sort.TheOpen as one
use Rattle.ath_sorts.specs.declared.sorts.Sort.TheVariants.{rolls-Var, rolls-Con}
use Rattle.ath_sorts.specs.declared.sorts.Sort.TheFolds.{fold-roll-Sort}
use Rattle.ath_sorts.proofs.SortLaws.{sort_induction}
use Rattle.ath_sorts.specs.Signature.{Signature, arity_of}
use Rattle.ath_trees.specs.Tree.{Term, Terms, Sent, atom, equal, negated, joined, bound}
use Rattle.ath_trees.specs.WellSorted.{has_arity, valid_step, is_valid_sort, HasSort, var_has, app_has, HaveSorts, none_has, more_has, IsWellSorted, AreWellSorted}
use Rattle.ath_calculus.specs.Derives.{Derives, IsAmong, AreAmong, truth, falsity, axiom_of, hypothesis, true_intro, weaken, alpha, if_intro, if_elim, and_intro, and_left, and_right, or_left, or_right, or_elim, not_intro, not_elim, not_not_elim, iff_intro, iff_left, iff_right}
use Rattle.ath_calculus.specs.Laws.{Extends}
use Rattle.ath_calculus.specs.Theory.{Theory}
use Rattle.ath_calculus.proofs.AlphaSorted.{alpha-sorted}

both : (a b : Bool) → a && b ≡ true → (a ≡ true) × (b ≡ true)
both true b e = (refl, e)
both false b e = absurd (cc)

and_true : (a b : Bool) → a ≡ true → b ≡ true → a && b ≡ true
and_true a b e f = rw (e, f) refl

length-map : {A B : Type 0} (f : A → B) (xs : List A) → length (map f xs) ≡ length xs
length-map f [] = refl
length-map f (x ∷ xs) = ap suc (length-map f xs)

valid-var : (sig : Signature) (v : SVar) → is_valid_sort sig (Var v) ≡ true
valid-var sig v = ap (is_valid_sort sig) (sym (rolls-Var v)) ∙ fold-roll-Sort Bool (valid_step sig) (one.Var v)

valid-con : (sig : Signature) (c : Sym) (args : List Sort) → is_valid_sort sig (Con c args) ≡ has_arity (arity_of sig c) (length args) && list_all (λ b. b) (map (is_valid_sort sig) args)
valid-con sig c args = ap (is_valid_sort sig) (sym (rolls-Con c args)) ∙ fold-roll-Sort Bool (valid_step sig) (one.Con c args) ∙ ap (λ (n : ℕ). has_arity (arity_of sig c) n && list_all (λ b. b) (map (is_valid_sort sig) args)) (length-map (is_valid_sort sig) args)

module _ (old new : Theory) (grown : Extends old new) where
  arity_grown : (c : Sym) (n : ℕ) → has_arity (arity_of old.signature c) n ≡ true → has_arity (arity_of new.signature c) n ≡ true
  arity_grown c n h = go (arity_of old.signature c) refl h
    where
      go : (o : Option ℕ) → arity_of old.signature c ≡ o → has_arity o n ≡ true → has_arity (arity_of new.signature c) n ≡ true
      go (Some k) e f = rw (grown.sorts c k e) f
      go None e f = absurd (cc)

  abbrev Kept : Sort → Type 0
  Kept s = is_valid_sort old.signature s ≡ true → is_valid_sort new.signature s ≡ true

  all_kept : (args : List Sort) → AllByRecursion Kept args → list_all (λ b. b) (map (is_valid_sort old.signature) args) ≡ true → list_all (λ b. b) (map (is_valid_sort new.signature) args) ≡ true
  all_kept [] h e = refl
  all_kept (s ∷ ss) h e = let p = both (is_valid_sort old.signature s) _ e in and_true (is_valid_sort new.signature s) _ (h.0 p.0) (all_kept ss h.1 p.1)

  pub sort_kept : (s : Sort) → Kept s
  sort_kept = sort_induction Kept
      (λ v e. valid-var new.signature v)
      (λ c args h e.
      let p = both (has_arity (arity_of old.signature c) (length args)) _ (sym (valid-con old.signature c args) ∙ e) in
      valid-con new.signature c args ∙ and_true _ _ (arity_grown c (length args) p.0) (all_kept args h p.1))

  sorts_kept : (ss : List Sort) → list_all (is_valid_sort old.signature) ss ≡ true → list_all (is_valid_sort new.signature) ss ≡ true
  sorts_kept [] e = refl
  sorts_kept (s ∷ ss) e = let p = both (is_valid_sort old.signature s) _ e in and_true (is_valid_sort new.signature s) _ (sort_kept s p.0) (sorts_kept ss p.1)

  mutual
    pub term_kept : {t : Term} {s : Sort} → HasSort old.signature t s → HasSort new.signature t s
    term_kept (var_has {v} e f) = var_has (sort_kept v.sort e) f
    term_kept (app_has {f} {sorts} {args} d e l v ts r) = app_has d (grown.symbols f d e) l (sorts_kept sorts v) (terms_kept ts) r

    pub terms_kept : {ts : Terms} {ss : List Sort} → HaveSorts old.signature ts ss → HaveSorts new.signature ts ss
    terms_kept none_has = none_has
    terms_kept (more_has t ts) = more_has (term_kept t) (terms_kept ts)

  pub sent_kept : (p : Sent) → IsWellSorted old.signature p → IsWellSorted new.signature p
  sent_kept (atom t) h = term_kept h
  sent_kept (equal s t) h = (h.0, (term_kept h.1.0, term_kept h.1.1))
  sent_kept (negated p) h = sent_kept p h
  sent_kept (joined c p q) h = (sent_kept p h.0, sent_kept q h.1)
  sent_kept (bound q v p) h = (sort_kept v.sort h.0, sent_kept p h.1)

  pub sents_kept : (ps : List Sent) → AreWellSorted old.signature ps → AreWellSorted new.signature ps
  sents_kept [] h = tt
  sents_kept (p ∷ ps) h = (sent_kept p h.0, sents_kept ps h.1)

  pub derivation_kept : (fewer others : List Sent) → AreAmong fewer others → {hyps : List Sent} {p : Sent} → Derives old fewer hyps p → Derives new others hyps p
  derivation_kept fewer others among (axiom_of {hyps} {p} h w i) = axiom_of (sents_kept hyps h) (sent_kept p w) (among p i)
  derivation_kept fewer others among (hypothesis {hyps} h i) = hypothesis (sents_kept hyps h) i
  derivation_kept fewer others among (true_intro {hyps} h w) = true_intro (sents_kept hyps h) (sent_kept truth w)
  derivation_kept fewer others among (weaken {some} {hyps} h i d) = weaken (sents_kept hyps h) i (derivation_kept fewer others among d)
  derivation_kept fewer others among (alpha e d) = alpha e (derivation_kept fewer others among d)
  derivation_kept fewer others among (if_intro d) = if_intro (derivation_kept fewer others among d)
  derivation_kept fewer others among (if_elim d e) = if_elim (derivation_kept fewer others among d) (derivation_kept fewer others among e)
  derivation_kept fewer others among (and_intro d e) = and_intro (derivation_kept fewer others among d) (derivation_kept fewer others among e)
  derivation_kept fewer others among (and_left d) = and_left (derivation_kept fewer others among d)
  derivation_kept fewer others among (and_right d) = and_right (derivation_kept fewer others among d)
  derivation_kept fewer others among (or_left {hyps} {p} {q} w d) = or_left (sent_kept q w) (derivation_kept fewer others among d)
  derivation_kept fewer others among (or_right {hyps} {p} {q} w d) = or_right (sent_kept p w) (derivation_kept fewer others among d)
  derivation_kept fewer others among (or_elim d e f) = or_elim (derivation_kept fewer others among d) (derivation_kept fewer others among e) (derivation_kept fewer others among f)
  derivation_kept fewer others among (not_intro d) = not_intro (derivation_kept fewer others among d)
  derivation_kept fewer others among (not_elim w d e) = not_elim (sent_kept falsity w) (derivation_kept fewer others among d) (derivation_kept fewer others among e)
  derivation_kept fewer others among (not_not_elim d) = not_not_elim (derivation_kept fewer others among d)
  derivation_kept fewer others among (iff_intro d e) = iff_intro (derivation_kept fewer others among d) (derivation_kept fewer others among e)
  derivation_kept fewer others among (iff_left d) = iff_left (derivation_kept fewer others among d)
  derivation_kept fewer others among (iff_right d) = iff_right (derivation_kept fewer others among d)

member_sorted : (sig : Signature) (ps : List Sent) (p : Sent) → AreWellSorted sig ps → IsAmong p ps → IsWellSorted sig p
member_sorted sig [] p h i = absurd i
member_sorted sig (q ∷ ps) p h (inl e) = subst (IsWellSorted sig) (sym e) h.0
member_sorted sig (q ∷ ps) p h (inr i) = member_sorted sig ps p h.1 i

-- hypotheses and conclusion
pub all_sorted : {th : Theory} {asserted hyps : List Sent} {p : Sent} → Derives th asserted hyps p → AreWellSorted th.signature hyps × IsWellSorted th.signature p
all_sorted (axiom_of h w i) = (h, w)
all_sorted {th} (hypothesis {hyps} {p} h i) = (h, member_sorted th.signature hyps p h i)
all_sorted (true_intro h w) = (h, w)
all_sorted (weaken h i d) = (h, (all_sorted d).1)
all_sorted {th} (alpha {hyps} {p} {q} e d) = let s = all_sorted d in (s.0, alpha-sorted th.signature p q e s.1)
all_sorted (if_intro d) = let s = all_sorted d in (s.0.1, (s.0.0, s.1))
all_sorted (if_elim d e) = let s = all_sorted d in (s.0, s.1.1)
all_sorted (and_intro d e) = let s = all_sorted d in (s.0, (s.1, (all_sorted e).1))
all_sorted (and_left d) = let s = all_sorted d in (s.0, s.1.0)
all_sorted (and_right d) = let s = all_sorted d in (s.0, s.1.1)
all_sorted (or_left w d) = let s = all_sorted d in (s.0, (s.1, w))
all_sorted (or_right w d) = let s = all_sorted d in (s.0, (w, s.1))
all_sorted (or_elim d e f) = ((all_sorted d).0, (all_sorted e).1)
all_sorted (not_intro d) = let s = all_sorted d in (s.0.1, s.0.0)
all_sorted (not_elim w d e) = ((all_sorted d).0, w)
all_sorted (not_not_elim d) = all_sorted d
all_sorted (iff_intro d e) = all_sorted d
all_sorted (iff_left d) = all_sorted d
all_sorted (iff_right d) = let s = all_sorted d in (s.0, (s.1.1, s.1.0))

pub well_sorted : {th : Theory} {asserted hyps : List Sent} {p : Sent} → Derives th asserted hyps p → IsWellSorted th.signature p
well_sorted d = (all_sorted d).1
