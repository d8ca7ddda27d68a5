-- Each name once, and whether one is there.
use Rattle.std.proofs.Common.{◌≡◌, List, [], ◌∷◌, ◌++◌, Bool, true, false, ◌||◌, ◌==◌, if◌then◌else◌, ℕ, refl, sym, ap, ◌∙◌, subst}
use Rattle.std.proofs.lemmas.Bool.{eqb-true}
use Rattle.std.specs.List.{list_any}
use Rattle.ath_sorts.specs.declared.sorts.Sym.{Sym}
use Rattle.ath_builder.specs.Names.{is_listed, noted}

pub noted_more : (ks ns : List Sym) (n : Sym) → noted ks (ns ++ n ∷ []) ≡ (if is_listed n (noted ks ns) then noted ks ns else noted ks ns ++ n ∷ [])
noted_more ks [] n = refl
noted_more ks (m ∷ ns) n = noted_more (if is_listed m ks then ks else ks ++ m ∷ []) ns n

or_assoc : (a b c : Bool) → ((a || b) || c) ≡ (a || (b || c))
or_assoc true b c = refl
or_assoc false b c = refl

or_none : (a : Bool) → (a || false) ≡ a
or_none true = refl
or_none false = refl

listed_last : (n m : Sym) (ks : List Sym) → is_listed n (ks ++ m ∷ []) ≡ (is_listed n ks || (n.0 == m.0))
listed_last n m [] = or_none (n.0 == m.0)
listed_last n m (k ∷ ks) = ap (λ (b : Bool). (n.0 == k.0) || b) (listed_last n m ks) ∙ sym (or_assoc (n.0 == k.0) (is_listed n ks) (n.0 == m.0))

same_listed : (n m : Sym) (ks : List Sym) → (n.0 == m.0) ≡ true → is_listed m ks ≡ true → is_listed n ks ≡ true
same_listed n m ks e h = subst (λ (k : ℕ). list_any (λ (j : Sym). k == j.0) ks ≡ true) (sym (eqb-true n.0 m.0 e)) h

noted_has : (n : Sym) (ks ns : List Sym) → is_listed n (noted ks ns) ≡ (is_listed n ks || is_listed n ns)
noted_has n ks [] = sym (or_none (is_listed n ks))
noted_has n ks (m ∷ ns) = by (is_listed m ks) refl (λ ls. noted_has n ls ns)
  where
    met : (b : Bool) → (n.0 == m.0) ≡ b → is_listed m ks ≡ true → (is_listed n ks || is_listed n ns) ≡ (is_listed n ks || (b || is_listed n ns))
    met false e h = refl
    met true e h = subst (λ (a : Bool). (a || is_listed n ns) ≡ (a || true)) (sym (same_listed n m ks e h)) refl

    by : (b : Bool) → is_listed m ks ≡ b → ((ls : List Sym) → is_listed n (noted ls ns) ≡ (is_listed n ls || is_listed n ns)) → is_listed n (noted (if b then ks else ks ++ m ∷ []) ns) ≡ (is_listed n ks || ((n.0 == m.0) || is_listed n ns))
    by true e ih = ih ks ∙ met (n.0 == m.0) refl e
    by false e ih = ih (ks ++ m ∷ []) ∙ ap (λ (a : Bool). a || is_listed n ns) (listed_last n m ks) ∙ or_assoc (is_listed n ks) (n.0 == m.0) (is_listed n ns)

pub seen_is_listed : (n : Sym) (keys ns : List Sym) → keys ≡ noted [] ns → is_listed n keys ≡ is_listed n ns
seen_is_listed n keys ns e = ap (is_listed n) e ∙ noted_has n [] ns

pub noted_with : (keys more ns ms : List Sym) (n : Sym) → keys ≡ noted [] ns → ms ≡ ns ++ n ∷ [] → more ≡ (if is_listed n keys then keys else keys ++ n ∷ []) → more ≡ noted [] ms
noted_with keys more ns ms n e m h =
    h ∙ ap (λ (ks : List Sym). if is_listed n ks then ks else ks ++ n ∷ []) e ∙ sym (noted_more [] ns n) ∙ ap (noted []) (sym m)
