-- The places of variables under binders, and how two of them meet.
use Rattle.std.proofs.Common.{rules, Bor, ◌≡◌, ℕ, ◌+◌, ◌<◌, ◌==◌, Bool, true, false, List, [], ◌∷◌, IsTrue, ◌↔◌, None, ◌⊎◌, inl, inr, refl, sym, ap, subst, arith}
use Rattle.ath_sorts.specs.declared.sorts.Sym.{Sym}
use Rattle.ath_sorts.specs.declared.sorts.SVar.{SVar}
use Rattle.ath_sorts.specs.declared.sorts.Sort.{Sort}
use Rattle.ath_sorts.proofs.Bools.{same_num, num_same}
use Rattle.ath_trees.specs.declared.node.Var.{Var}
use Rattle.ath_trees.specs.Variables.{same_var}
use Rattle.ath_trees.specs.Nameless.{NTerm, NTerms, nfree, nbound, napp, placed}
use Rattle.ath_trees.specs.Instance.{match_term}
use Rattle.ath_trees.proofs.Occurring.{by_cases, not_true}
use Rattle.ath_trees.proofs.Forms.{free-inj}
use Rattle.ath_alpha.specs.declared.binders.Binders.{Binders, Under, Outside, the_lemmas}
use Rattle.ath_alpha.specs.declared.binders.Meeting.{Meeting}
use Rattle.ath_alpha.specs.declared.binders.Meeting.TheVariants.{Bound, Free, Apart}
use Rattle.ath_alpha.specs.Binders.{lefts_of, rights_of, meeting}
use Rattle.ath_alpha.specs.Seen.{var_seen, term_seen}

pub lefts-under : (v w : Bor Var) (outer : Bor Binders) → lefts_of (Under v w outer) ≡ v.now ∷ lefts_of outer.now
lefts-under v w outer = search (rules, the_lemmas)

pub rights-under : (v w : Bor Var) (outer : Bor Binders) → rights_of (Under v w outer) ≡ w.now ∷ rights_of outer.now
rights-under v w outer = search (rules, the_lemmas)

pub lefts-outside : lefts_of Outside ≡ []
lefts-outside = search (rules, the_lemmas)

pub rights-outside : rights_of Outside ≡ []
rights-outside = search (rules, the_lemmas)

-- ---- one place
abbrev Place : Var → ℕ → NTerm → Type 0
Place v i t = (t ≡ nfree v) ⊎ ((j : ℕ) × ((i < j + 1) × (t ≡ nbound j)))

-- a variable is free, or its place is outside of the binders that are counted
place : (ws : List Var) (i : ℕ) (v : Var) → Place v i (placed ws i v)
place [] i v = inl refl
place (w ∷ ws) i v = by_cases (same_var w v)
    (λ e. rw e (inr (i, (omega arith, refl))))
    (λ e. rw e (elim (place ws (i + 1) v) [ inl p ↦ inl p | inr p ↦ inr (p.0, (let h = p.1.0 in omega arith, p.1.1)) ]))

other_num : (i j : ℕ) → (i ≡ j → ⊥) → (i == j) ≡ false
other_num i j h = not_true (i == j) (λ e. h (same_num i j e))

-- ---- where one of two variables is bound by the innermost binder
module _ (v : Var) (ws : List Var) (i j : ℕ) (inside : i < j) where
  pub apart-left : meeting (nbound i) (placed ws j v) ≡ Apart
  apart-left = elim (place ws j v) [
    | inl p ↦ rw p refl
    | inr p ↦ let h = p.1.0 in let e = other_num i p.0 (λ k. absurd (omega arith)) in rw (p.1.1, e) refl
  ]

  pub apart-right : meeting (placed ws j v) (nbound i) ≡ Apart
  apart-right = elim (place ws j v) [
    | inl p ↦ rw p refl
    | inr p ↦ let h = p.1.0 in let e = other_num p.0 i (λ k. absurd (omega arith)) in rw (p.1.1, e) refl
  ]

-- the innermost binders of both
module _ (ws vs : List Var) (i : ℕ) (a v b w : Var) where
  pub both-here : same_var a v ≡ true → same_var b w ≡ true → Bound ≡ meeting (placed (a ∷ ws) i v) (placed (b ∷ vs) i w)
  both-here h k = rw (h, k, num_same i) refl

  pub left-here : same_var a v ≡ true → same_var b w ≡ false → Apart ≡ meeting (placed (a ∷ ws) i v) (placed (b ∷ vs) i w)
  left-here h k = rw (h, k) (sym (apart-left w vs i (i + 1) (omega arith)))

  pub right-here : same_var a v ≡ false → same_var b w ≡ true → Apart ≡ meeting (placed (a ∷ ws) i v) (placed (b ∷ vs) i w)
  right-here h k = rw (h, k) (sym (apart-right v ws i (i + 1) (omega arith)))

-- ---- what a meeting says
pub record AreApart (x y : NTerm) : Type 0 where
  pub unlike : (told : Bool) → term_seen told x ≡ term_seen told y → ⊥
  pub unmatched : (rigid : SVar → Bool) (s : List (SVar × Sort)) → match_term rigid x y s ≡ None

abbrev pub Met : Var → Var → NTerm → NTerm → Meeting → Type 0
Met v w x y Bound = (j : ℕ) × ((x ≡ nbound j) × (y ≡ nbound j))
Met v w x y Free = (x ≡ nfree v) × (y ≡ nfree w)
Met v w x y Apart = AreApart x y

numbers-meet : (v w : Var) (i j : ℕ) → Met v w (nbound i) (nbound j) (meeting (nbound i) (nbound j))
numbers-meet v w i j = by_cases (i == j)
    (λ e. rw e (i, (refl, ap nbound (sym (same_num i j e)))))
    (λ e. rw e (record {
      unlike = λ told k. let p : i ≡ j = cc in let q = rw p at e in let r = num_same j in cc;
      unmatched = λ rigid s. rw e refl;
    }))

forms-meet : (v w : Var) (i j : ℕ) (x y : NTerm) → Place v i x → Place w j y → Met v w x y (meeting x y)
forms-meet v w i j x y (inl p) (inl q) = rw (p, q) (refl, refl)
forms-meet v w i j x y (inl p) (inr q) = rw (p, q.1.1) (record { unlike = λ told k. cc; unmatched = λ rigid s. refl })
forms-meet v w i j x y (inr p) (inl q) = rw (p.1.1, q) (record { unlike = λ told k. cc; unmatched = λ rigid s. refl })
forms-meet v w i j x y (inr p) (inr q) = rw (p.1.1, q.1.1) (numbers-meet v w p.0 q.0)

pub met : (ws vs : List Var) (v w : Var) (m : Meeting) → m ≡ meeting (placed ws 0 v) (placed vs 0 w) → Met v w (placed ws 0 v) (placed vs 0 w) m
met ws vs v w m e = subst (Met v w (placed ws 0 v) (placed vs 0 w)) (sym e) (forms-meet v w 0 0 (placed ws 0 v) (placed vs 0 w) (place ws 0 v) (place vs 0 w))

-- a variable is no application
pub record IsNoApp (x : NTerm) : Type 0 where
  pub unlike : (told : Bool) (f : Sym) (ss : List Sort) (ts : NTerms) → term_seen told x ≡ napp f ss ts → ⊥
  pub unmatched : (rigid : SVar → Bool) (f : Sym) (ss : List Sort) (ts : NTerms) (s : List (SVar × Sort)) → match_term rigid x (napp f ss ts) s ≡ None
  pub unmatching : (rigid : SVar → Bool) (f : Sym) (ss : List Sort) (ts : NTerms) (s : List (SVar × Sort)) → match_term rigid (napp f ss ts) x s ≡ None

pub no_app : (ws : List Var) (v : Var) → IsNoApp (placed ws 0 v)
no_app ws v = elim (place ws 0 v) [
  | inl p ↦ rw p (record { unlike = λ told f ss ts e. cc; unmatched = λ rigid f ss ts s. refl; unmatching = λ rigid f ss ts s. refl })
  | inr p ↦ rw p.1.1 (record { unlike = λ told f ss ts e. cc; unmatched = λ rigid f ss ts s. refl; unmatching = λ rigid f ss ts s. refl })
]

pub free-alike : (told : Bool) (v w : Var) (b : Bool) → IsTrue b ↔ (var_seen told v ≡ var_seen told w) → IsTrue b ↔ (term_seen told (nfree v) ≡ term_seen told (nfree w))
free-alike told v w b h = (λ e. ap nfree (h.0 e), λ e. h.1 (free-inj (var_seen told v) (var_seen told w) e))
