-- Lists of names: each once.
use Rattle.std.proofs.Common.{◌≡◌, ◌==◌, ◌||◌, not, Bool, true, false, cond, List, [], ◌∷◌, ◌++◌, refl, sym, ◌∙◌, ap, append_assoc}
use Rattle.std.specs.List.{filter}
use Rattle.std.proofs.lemmas.List.Elements.{filter-append}
use Rattle.ath_sorts.specs.declared.sorts.Sym.{Sym}
use Rattle.ath_sorts.specs.Validity.{is_name_of, AreDistinct}
use Rattle.ath_sorts.proofs.Bools.{turned, or_parts, or_false, same_num}
use Rattle.ath_sorts.proofs.Gets.{append-none}
use Rattle.ath_declarations.specs.Steps.{has_name, noting}
use Rattle.ath_declarations.specs.Texts.{firsts}

abbrev others : Sym → List Sym → List Sym
others n = filter (λ m. not (n.0 == m.0))

-- a name that differs is among the others where it was among all
has_other : (x n : Sym) → (n.0 == x.0) ≡ false → (ns : List Sym) → has_name (others x ns) n ≡ has_name ns n
has_other x n d [] = refl
has_other x n d (m ∷ ns) = by (x.0 == m.0) refl (has_other x n d ns)
  where
    by : (b : Bool) → (x.0 == m.0) ≡ b → has_name (others x ns) n ≡ has_name ns n → has_name (cond (not b) (m ∷ others x ns) (others x ns)) n ≡ (n.0 == m.0 || has_name ns n)
    by true e r = r ∙ sym (ap (λ b. b || has_name ns n) (ap (λ k. n.0 == k) (sym (same_num x.0 m.0 e)) ∙ d))
    by false e r = ap (λ b. n.0 == m.0 || b) r

pub has_firsts : (ns : List Sym) (n : Sym) → has_name (firsts ns) n ≡ has_name ns n
has_firsts [] n = refl
has_firsts (x ∷ ns) n = by (n.0 == x.0) refl (has_firsts ns n)
  where
    by : (b : Bool) → (n.0 == x.0) ≡ b → has_name (firsts ns) n ≡ has_name ns n → (b || has_name (others x (firsts ns)) n) ≡ (b || has_name ns n)
    by true e r = refl
    by false e r = has_other x n e (firsts ns) ∙ r

last_other : (x y : Sym) (ns : List Sym) (b : Bool) → (y.0 == x.0) ≡ b → others x (ns ++ y ∷ []) ≡ cond b (others x ns) (others x ns ++ y ∷ [])
last_other x y ns b e = filter-append (λ m. not (x.0 == m.0)) ns (y ∷ []) ∙ by b (turned x.0 y.0 ∙ e)
  where
    by : (b : Bool) → (x.0 == y.0) ≡ b → others x ns ++ others x (y ∷ []) ≡ cond b (others x ns) (others x ns ++ y ∷ [])
    by true e = ap (λ b. others x ns ++ cond (not b) (y ∷ []) []) e ∙ append-none (others x ns)
    by false e = ap (λ b. others x ns ++ cond (not b) (y ∷ []) []) e

firsts_last : (ns : List Sym) (y : Sym) → firsts (ns ++ y ∷ []) ≡ cond (has_name ns y) (firsts ns) (firsts ns ++ y ∷ [])
firsts_last [] y = refl
firsts_last (x ∷ ns) y = ap (λ ms. x ∷ others x ms) (firsts_last ns y) ∙ by (has_name ns y) (y.0 == x.0) refl
  where
    by : (h b : Bool) → (y.0 == x.0) ≡ b → x ∷ others x (cond h (firsts ns) (firsts ns ++ y ∷ [])) ≡ cond (b || h) (x ∷ others x (firsts ns)) (x ∷ (others x (firsts ns) ++ y ∷ []))
    by true true e = refl
    by true false e = refl
    by false true e = ap (λ ms. x ∷ ms) (last_other x y (firsts ns) true e)
    by false false e = ap (λ ms. x ∷ ms) (last_other x y (firsts ns) false e)

pub noting_firsts : (ns ms : List Sym) → noting (firsts ns) ms ≡ firsts (ns ++ ms)
noting_firsts ns [] = ap firsts (sym (append-none ns))
noting_firsts ns (m ∷ ms) =
    ap (λ b. noting (cond b (firsts ns) (firsts ns ++ m ∷ [])) ms) (has_firsts ns m)
    ∙ ap (λ ks. noting ks ms) (sym (firsts_last ns m))
    ∙ noting_firsts (ns ++ m ∷ []) ms
    ∙ ap firsts (append_assoc ns (m ∷ []) ms)

pub noting_both : (ks ns ms : List Sym) → noting ks (ns ++ ms) ≡ noting (noting ks ns) ms
noting_both ks [] ms = refl
noting_both ks (n ∷ ns) ms = noting_both (cond (has_name ks n) ks (ks ++ n ∷ [])) ns ms

-- ---- the first occurrences differ
not_other : (x : Sym) (ns : List Sym) → is_name_of x (others x ns) ≡ false
not_other x [] = refl
not_other x (m ∷ ns) = by (x.0 == m.0) refl (not_other x ns)
  where
    by : (b : Bool) → (x.0 == m.0) ≡ b → is_name_of x (others x ns) ≡ false → is_name_of x (cond (not b) (m ∷ others x ns) (others x ns)) ≡ false
    by true e r = r
    by false e r = or_false (m.0 == x.0) (is_name_of x (others x ns)) (turned m.0 x.0 ∙ e) r

not_among_others : (x n : Sym) (ns : List Sym) → is_name_of n ns ≡ false → is_name_of n (others x ns) ≡ false
not_among_others x n [] h = refl
not_among_others x n (m ∷ ns) h = let p = or_parts (m.0 == n.0) (is_name_of n ns) h in by (x.0 == m.0) p.0 (not_among_others x n ns p.1)
  where
    by : (b : Bool) → (m.0 == n.0) ≡ false → is_name_of n (others x ns) ≡ false → is_name_of n (cond (not b) (m ∷ others x ns) (others x ns)) ≡ false
    by true p r = r
    by false p r = or_false (m.0 == n.0) (is_name_of n (others x ns)) p r

distinct_others : (x : Sym) (ns : List Sym) → AreDistinct ns → AreDistinct (others x ns)
distinct_others x [] d = tt
distinct_others x (m ∷ ns) d = by (x.0 == m.0) (distinct_others x ns d.1)
  where
    by : (b : Bool) → AreDistinct (others x ns) → AreDistinct (cond (not b) (m ∷ others x ns) (others x ns))
    by true r = r
    by false r = (not_among_others x m ns d.0, r)

pub firsts_differ : (ns : List Sym) → AreDistinct (firsts ns)
firsts_differ [] = tt
firsts_differ (n ∷ ns) = (not_other n (firsts ns), distinct_others n (firsts ns) (firsts_differ ns))
