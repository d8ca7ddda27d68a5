-- Laws of lists that are built from nodes.
use Rattle.std.proofs.Common.{◌≡◌, ℕ, zero, suc, ◌+◌, ◌<◌, List, [], ◌∷◌, ◌++◌, length, get_or, refl, sym, ◌∙◌, arith, length-append}
use Rattle.std.proofs.lemmas.Grind.{common_steps}
use Rattle.ath_terms.specs.Built.{built, IsOrdered}

pub get_or-append-left : {T : Type 0} (d : T) (xs ys : List T) (k : ℕ) → k < length xs → get_or (xs ++ ys) k d ≡ get_or xs k d
get_or-append-left d xs ys k h = grind (arith, common_steps)

pub get_or-append-here : {T : Type 0} (d : T) (xs : List T) (y : T) → get_or (xs ++ y ∷ []) (length xs) d ≡ y
get_or-append-here d xs y = grind (arith, common_steps)

module _ {T N : Type 0} (step : List T → N → T) where
  pub built-push : (ts : List T) (ns : List N) (n : N) → built step ts (ns ++ n ∷ []) ≡ built step ts ns ++ step (built step ts ns) n ∷ []
  built-push ts [] n = refl
  built-push ts (m ∷ ns) n = built-push (ts ++ step ts m ∷ []) ns n

  pub built-length : (ts : List T) (ns : List N) → length (built step ts ns) ≡ length ts + length ns
  built-length ts [] = omega arith
  built-length ts (m ∷ ns) = omega (arith, built-length (ts ++ step ts m ∷ []) ns, length-append ts (step ts m ∷ []))

  pub built-keeps : (d : T) (ts : List T) (ns : List N) (k : ℕ) → k < length ts → get_or (built step ts ns) k d ≡ get_or ts k d
  built-keeps d ts [] k h = refl
  built-keeps d ts (m ∷ ns) k h =
      built-keeps d (ts ++ step ts m ∷ []) ns k (omega (arith, length-append ts (step ts m ∷ []))) ∙ get_or-append-left d ts (step ts m ∷ []) k h

module _ {N : Type 0} (IsBelow : ℕ → N → Type 0) where
  pub ordered-push : (k : ℕ) (ns : List N) (n : N) → IsOrdered IsBelow k ns → IsBelow (k + length ns) n → IsOrdered IsBelow k (ns ++ n ∷ [])
  ordered-push k [] n o b = (let e : k + 0 ≡ k = omega arith in rw e at b, tt)
  ordered-push k (m ∷ ns) n o b = (o.0, ordered-push (k + 1) ns n o.1 (let e : k + length (m ∷ ns) ≡ (k + 1) + length ns = omega arith in rw e at b))

  pub ordered-at : (k : ℕ) (ns : List N) (j : ℕ) (d : N) → IsOrdered IsBelow k ns → j < length ns → IsBelow (k + j) (get_or ns j d)
  ordered-at k [] j d o h = absurd (omega arith)
  ordered-at k (m ∷ ns) zero d o h = let e : k + 0 ≡ k = omega arith in rw e o.0
  ordered-at k (m ∷ ns) (suc j) d o h = let e : k + suc j ≡ (k + 1) + j = omega arith in rw e (ordered-at (k + 1) ns j d o.1 (omega arith))

-- the members stand for their nodes
pub record Respects (T N : Type 0) (step : List T → N → T) (IsBelow : ℕ → N → Type 0) (d : T) : Type 0 where
  pub agrees : (k : ℕ) (n : N) (us vs : List T) → IsBelow k n → ((j : ℕ) → j < k → get_or us j d ≡ get_or vs j d) → step us n ≡ step vs n

module _ {T N : Type 0} (step : List T → N → T) (IsBelow : ℕ → N → Type 0) (dt : T) (dn : N) (r : Respects T N step IsBelow dt) where
  pub built-at : (ts : List T) (ns : List N) (j : ℕ) → IsOrdered IsBelow (length ts) ns → j < length ns → get_or (built step ts ns) (length ts + j) dt ≡ step (built step ts ns) (get_or ns j dn)
  built-at ts [] j o h = absurd (omega arith)
  built-at ts (m ∷ ns) zero o h =
      let e : length ts + 0 ≡ length ts = omega arith in
      let more : length ts < length (ts ++ step ts m ∷ []) = omega (arith, length-append ts (step ts m ∷ [])) in
      rw e (built-keeps step dt (ts ++ step ts m ∷ []) ns (length ts) more ∙ get_or-append-here dt ts (step ts m)
      ∙ r.agrees (length ts) m ts (built step (ts ++ step ts m ∷ []) ns) o.0 (λ i l. sym (built-keeps step dt (ts ++ step ts m ∷ []) ns i (omega (arith, length-append ts (step ts m ∷ []))) ∙ get_or-append-left dt ts (step ts m ∷ []) i l)))
  built-at ts (m ∷ ns) (suc j) o h =
      let l : length (ts ++ step ts m ∷ []) ≡ length ts + 1 = omega (arith, length-append ts (step ts m ∷ [])) in
      let e : length ts + suc j ≡ length (ts ++ step ts m ∷ []) + j = omega arith in
      rw e (built-at (ts ++ step ts m ∷ []) ns j (rw l o.1) (omega arith))
