-- What types of values are left, for any table whose rows keep to what their symbols take and leave. A type is a number; a
-- stack of types has the newest first. A value of some types may stand where another is taken.
use Rattle.std.proofs.Common.{◌≡◌, ℕ, zero, suc, List, [], ◌∷◌, ◌++◌, Bool, true, false, Option, Some, None, refl, sym, ap, ◌∙◌, subst, append_assoc, if◌then◌else◌}
use Rattle.std.specs.Bool.{nat_eq}
use Rattle.std.proofs.lemmas.Bool.{eqb-true}
use Rattle.ath_grammar.specs.declared.class.Class.{Class}
use Rattle.ath_grammar.specs.declared.symbol.Symbol.{Symbol}
use Rattle.ath_grammar.specs.declared.action.Action.{Action}
use Rattle.ath_grammar.specs.declared.action.Guard.{Guard}
use Rattle.ath_grammar.specs.declared.action.Guard.TheVariants.{Free}
use Rattle.ath_grammar.specs.declared.item.Want.{Want}
use Rattle.ath_grammar.specs.declared.item.Item.{Item}
use Rattle.ath_grammar.specs.declared.item.Item.TheVariants as I
use Rattle.ath_grammar.specs.Tokens.{Placed, class_of, next_class}
use Rattle.ath_grammar.specs.Tables.{Row, none, take, skip, begin_as, Table, Start, no_start, begin, pass, both, fits, want_of, told, told_all, behind, by_token, start, Algebra, acts}
use Rattle.ath_grammar.specs.Spells.{Spells, spelled, a_token, a_symbol, an_act, Starts, begun, passed}
use Rattle.ath_grammar.proofs.Completes.{both_left, both_right}

abbrev pub Types : Type 0
Types = List ℕ

-- what is beneath these, where the newest may stand for them
abbrev pub strip : (ℕ → ℕ → Bool) → Types → Types → Option Types
strip ok [] σ = Some σ
strip ok (t ∷ ts) [] = None
strip ok (t ∷ ts) (u ∷ σ) = if ok t u then strip ok ts σ else None

abbrev pub on_some : Option Types → (Types → Option Types) → Option Types
on_some None go = None
on_some (Some σ) go = go σ

-- these are taken and those left, also beneath a newest value that stays, or by the type of the newest
pub data Effect : Type 0 where
  makes : Types → Types → Effect
  beneath : Types → Types → Effect
  by_newest : ℕ → Effect → Effect → Effect
  never : Effect

abbrev pub put : Types → Types → Option Types
put post σ = Some (post ++ σ)

abbrev pub made : (ℕ → ℕ → Bool) → Effect → Types → Option Types
made ok (makes pre post) σ = on_some (strip ok pre σ) (put post)
made ok (beneath pre post) [] = None
made ok (beneath pre post) (t ∷ σ) = on_some (strip ok pre σ) (λ ρ. Some (t ∷ (post ++ ρ)))
made ok (by_newest t f g) [] = None
made ok (by_newest t f g) (u ∷ σ) = if nat_eq t u then made ok f (u ∷ σ) else made ok g (u ∷ σ)
made ok never σ = None

abbrev pub same_types : Types → Types → Bool
same_types [] [] = true
same_types [] (u ∷ us) = false
same_types (t ∷ ts) [] = false
same_types (t ∷ ts) (u ∷ us) = both (nat_eq t u) (same_types ts us)

abbrev pub is_types : Types → Option Types → Bool
is_types ts None = false
is_types ts (Some us) = same_types us ts

same_is : (ts us : Types) → same_types ts us ≡ true → ts ≡ us
same_is [] [] e = refl
same_is [] (u ∷ us) e = cc
same_is (t ∷ ts) [] e = cc
same_is (t ∷ ts) (u ∷ us) e = let a = eqb-true t u (both_left (nat_eq t u) (same_types ts us) e) in let b = same_is ts us (both_right (nat_eq t u) (same_types ts us) e) in subst (λ (x : ℕ). t ∷ ts ≡ x ∷ us) a (ap (λ (xs : Types). t ∷ xs) b)

types_is : (ts : Types) (o : Option Types) → is_types ts o ≡ true → o ≡ Some ts
types_is ts None e = cc
types_is ts (Some us) e = ap (λ (xs : Types). Some xs) (same_is us ts e)

pub some_is : {a b : Types} → Some a ≡ Some b → a ≡ b
some_is {a} q = ap (λ (o : Option Types). elim o [ None ↦ a | Some x ↦ x ]) q

pub strip_is : (pre σ ρ : Types) → strip nat_eq pre σ ≡ Some ρ → σ ≡ pre ++ ρ
strip_is [] σ ρ e = some_is e
strip_is (t ∷ ts) [] ρ e = cc
strip_is (t ∷ ts) (u ∷ σ) ρ e = go (nat_eq t u) refl e (strip_is ts σ ρ)
  where
    go : (b : Bool) → nat_eq t u ≡ b → (if b then strip nat_eq ts σ else None) ≡ Some ρ → (strip nat_eq ts σ ≡ Some ρ → σ ≡ ts ++ ρ) → u ∷ σ ≡ t ∷ (ts ++ ρ)
    go true q h ih = subst (λ (x : ℕ). u ∷ σ ≡ x ∷ (ts ++ ρ)) (sym (eqb-true t u q)) (ap (λ (xs : Types). u ∷ xs) (ih h))
    go false q h ih = cc

pub chain : (o : Option Types) (go : Types → Option Types) (ρ : Types) → on_some o go ≡ Some ρ → (σ : Types) × (o ≡ Some σ) × (go σ ≡ Some ρ)
chain None go ρ e = cc
chain (Some σ) go ρ e = (σ, refl, e)

chained : (o : Option Types) (go : Types → Option Types) (σ : Types) → o ≡ Some σ → on_some o go ≡ go σ
chained o go σ e = ap (λ (p : Option Types). on_some p go) e

-- what is beneath all doesn't matter
module _ (ok : ℕ → ℕ → Bool) where
  strip_more : (pre σ ρ τ : Types) → strip ok pre σ ≡ Some ρ → strip ok pre (σ ++ τ) ≡ Some (ρ ++ τ)
  strip_more [] σ ρ τ e = ap (λ (x : Types). Some (x ++ τ)) (some_is e)
  strip_more (t ∷ ts) [] ρ τ e = cc
  strip_more (t ∷ ts) (u ∷ σ) ρ τ e = go (ok t u) e (strip_more ts σ ρ τ)
    where
      go : (b : Bool) → (if b then strip ok ts σ else None) ≡ Some ρ → (strip ok ts σ ≡ Some ρ → strip ok ts (σ ++ τ) ≡ Some (ρ ++ τ)) → (if b then strip ok ts (σ ++ τ) else None) ≡ Some (ρ ++ τ)
      go true h ih = ih h
      go false h ih = cc

  put_more : (keep pre post σ τ ρ : Types) → on_some (strip ok pre σ) (λ x. Some (keep ++ (post ++ x))) ≡ Some ρ → on_some (strip ok pre (σ ++ τ)) (λ x. Some (keep ++ (post ++ x))) ≡ Some (ρ ++ τ)
  put_more keep pre post σ τ ρ e =
      let k = chain (strip ok pre σ) (λ x. Some (keep ++ (post ++ x))) ρ e in
      ap (λ (o : Option Types). on_some o (λ x. Some (keep ++ (post ++ x)))) (strip_more pre σ k.0 τ k.1)
      ∙ ap (λ (x : Types). Some x) (ap (λ (x : Types). keep ++ x) (sym (append_assoc post k.0 τ)) ∙ sym (append_assoc keep (post ++ k.0) τ) ∙ ap (λ (x : Types). x ++ τ) (some_is k.2))

  made_more : (f : Effect) (σ τ ρ : Types) → made ok f σ ≡ Some ρ → made ok f (σ ++ τ) ≡ Some (ρ ++ τ)
  made_more (makes pre post) σ τ ρ e = put_more [] pre post σ τ ρ e
  made_more (beneath pre post) [] τ ρ e = cc
  made_more (beneath pre post) (t ∷ σ) τ ρ e = put_more (t ∷ []) pre post σ τ ρ e
  made_more never σ τ ρ e = cc
  made_more (by_newest t f g) [] τ ρ e = cc
  made_more (by_newest t f g) (u ∷ σ) τ ρ e = go (nat_eq t u) e (made_more f (u ∷ σ) τ ρ) (made_more g (u ∷ σ) τ ρ)
    where
      go : (b : Bool) → (if b then made ok f (u ∷ σ) else made ok g (u ∷ σ)) ≡ Some ρ → (made ok f (u ∷ σ) ≡ Some ρ → made ok f (u ∷ (σ ++ τ)) ≡ Some (ρ ++ τ)) → (made ok g (u ∷ σ) ≡ Some ρ → made ok g (u ∷ (σ ++ τ)) ≡ Some (ρ ++ τ))
          → (if b then made ok f (u ∷ (σ ++ τ)) else made ok g (u ∷ (σ ++ τ))) ≡ Some (ρ ++ τ)
      go true h i j = i h
      go false h i j = j h

-- what a symbol takes and leaves
pub record Signature : Type 0 where
  pub takes : Types
  pub leaves : Types

module _ (ok : ℕ → ℕ → Bool) (saved : Guard → Class → Types) (effect : Action → Effect) (sig : Symbol → Signature) where
  abbrev pub of_symbol : Symbol → Types → Option Types
  of_symbol s σ = made ok (makes (sig s).takes (sig s).leaves) σ

  abbrev pub outs : List Item → Types → Option Types
  outs [] σ = Some σ
  outs (I.Token c ∷ is) σ = outs is (saved Free c ++ σ)
  outs (I.Act x ∷ is) σ = on_some (made ok (effect x) σ) (λ ρ. outs is ρ)
  outs (I.Symbol s x ∷ is) σ = on_some (of_symbol s σ) (λ ρ. outs is ρ)

  abbrev pub acted : List Action → Types → Option Types
  acted [] σ = Some σ
  acted (x ∷ xs) σ = on_some (made ok (effect x) σ) (λ ρ. acted xs ρ)

  -- a row keeps to its symbol's signature
  abbrev pub keeps : Symbol → Class → Row → Bool
  keeps s c none = true
  keeps s c (take m g is) = is_types (sig s).leaves (outs is (saved g c ++ (sig s).takes))
  keeps s c (skip m xs) = is_types (sig s).leaves (acted xs (sig s).takes)
  keeps s c (begin_as m s₁ x is) = is_types (sig s).leaves (on_some (strip nat_eq (sig s₁).takes (sig s).takes) (λ ρ. outs is ((sig s₁).leaves ++ ρ)))

  outs_more : (is : List Item) (σ τ ρ : Types) → outs is σ ≡ Some ρ → outs is (σ ++ τ) ≡ Some (ρ ++ τ)
  outs_more [] σ τ ρ e = ap (λ (x : Types). Some (x ++ τ)) (some_is e)
  outs_more (I.Token c ∷ is) σ τ ρ e = subst (λ (x : Types). outs is x ≡ Some (ρ ++ τ)) (append_assoc (saved Free c) σ τ) (outs_more is (saved Free c ++ σ) τ ρ e)
  outs_more (I.Act x ∷ is) σ τ ρ e = let k = chain (made ok (effect x) σ) (λ α. outs is α) ρ e in chained (made ok (effect x) (σ ++ τ)) (λ α. outs is α) (k.0 ++ τ) (made_more ok (effect x) σ τ k.0 k.1) ∙ outs_more is k.0 τ ρ k.2
  outs_more (I.Symbol s x ∷ is) σ τ ρ e = let f = makes (sig s).takes (sig s).leaves in let k = chain (made ok f σ) (λ α. outs is α) ρ e in chained (made ok f (σ ++ τ)) (λ α. outs is α) (k.0 ++ τ) (made_more ok f σ τ k.0 k.1) ∙ outs_more is k.0 τ ρ k.2

  outs_append : (js is : List Item) (σ ρ : Types) → outs js σ ≡ Some ρ → outs (js ++ is) σ ≡ outs is ρ
  outs_append [] is σ ρ e = ap (λ (x : Types). outs is x) (some_is e)
  outs_append (I.Token c ∷ js) is σ ρ e = outs_append js is (saved Free c ++ σ) ρ e
  outs_append (I.Act x ∷ js) is σ ρ e = let k = chain (made ok (effect x) σ) (λ α. outs js α) ρ e in chained (made ok (effect x) σ) (λ α. outs (js ++ is) α) k.0 k.1 ∙ outs_append js is k.0 ρ k.2
  outs_append (I.Symbol s x ∷ js) is σ ρ e = let k = chain (of_symbol s σ) (λ α. outs js α) ρ e in chained (of_symbol s σ) (λ α. outs (js ++ is) α) k.0 k.1 ∙ outs_append js is k.0 ρ k.2

  outs_told : (w : Want) (js : List Item) (σ ρ : Types) → outs js σ ≡ Some ρ → outs (told_all w js) σ ≡ Some ρ
  outs_told w [] σ ρ e = e
  outs_told w (I.Token c ∷ js) σ ρ e = outs_told w js (saved Free c ++ σ) ρ e
  outs_told w (I.Act x ∷ js) σ ρ e = let k = chain (made ok (effect x) σ) (λ α. outs js α) ρ e in chained (made ok (effect x) σ) (λ α. outs (told_all w js) α) k.0 k.1 ∙ outs_told w js k.0 ρ k.2
  outs_told w (I.Symbol s x ∷ js) σ ρ e = let k = chain (of_symbol s σ) (λ α. outs js α) ρ e in chained (of_symbol s σ) (λ α. outs (told_all w js) α) k.0 k.1 ∙ outs_told w js k.0 ρ k.2

  abbrev StartKeeps : Symbol → Class → Start → Type 0
  StartKeeps s c no_start = Unit {0}
  StartKeeps s c (begin f g js) = outs js (saved g c ++ (sig s).takes) ≡ Some (sig s).leaves
  StartKeeps s c (pass f xs) = acted xs (sig s).takes ≡ Some (sig s).leaves

  module _ (w : Want) (js : List Item) (s s₁ : Symbol) (c : Class) (f : Bool) (h : on_some (strip nat_eq (sig s₁).takes (sig s).takes) (λ ρ. outs js ((sig s₁).leaves ++ ρ)) ≡ Some (sig s).leaves) where
    behind_keeps : (S : Start) → StartKeeps s₁ c S → StartKeeps s c (behind f (told_all w js) S)
    behind_keeps no_start k = tt
    behind_keeps (pass g xs) k = tt
    behind_keeps (begin d g is) k =
        let m = chain (strip nat_eq (sig s₁).takes (sig s).takes) (λ ρ. outs js ((sig s₁).leaves ++ ρ)) (sig s).leaves h in
        subst (λ (x : Types). outs (is ++ told_all w js) (saved g c ++ x) ≡ Some (sig s).leaves) (sym (strip_is (sig s₁).takes (sig s).takes m.0 m.1))
        (subst (λ (x : Types). outs (is ++ told_all w js) x ≡ Some (sig s).leaves) (append_assoc (saved g c) (sig s₁).takes m.0)
        (outs_append is (told_all w js) ((saved g c ++ (sig s₁).takes) ++ m.0) ((sig s₁).leaves ++ m.0) (outs_more is (saved g c ++ (sig s₁).takes) m.0 (sig s₁).leaves k)
        ∙ outs_told w js ((sig s₁).leaves ++ m.0) (sig s).leaves m.2))

  module _ (row : Table) (rows : (s : Symbol) (c : Class) → keeps s c (row s c) ≡ true) where
    by_keeps : (n : ℕ) (c : Class) (k : Bool) (w : Want) (s : Symbol) (R : Row) → keeps s c R ≡ true → StartKeeps s c (by_token n row c k w R)
    by_keeps n c k w s none e = tt
    by_keeps n c k w s (take m g is) e = outs_told w is (saved g c ++ (sig s).takes) (sig s).leaves (types_is (sig s).leaves (outs is (saved g c ++ (sig s).takes)) e)
    by_keeps n c k w s (skip m xs) e = tt
    by_keeps zero c k w s (begin_as m s₁ x is) e = tt
    by_keeps (suc n) c k w s (begin_as m s₁ x is) e = behind_keeps w is s s₁ c (fits w m) (types_is (sig s).leaves (on_some (strip nat_eq (sig s₁).takes (sig s).takes) (λ ρ. outs is ((sig s₁).leaves ++ ρ))) e) (by_token n row c k (want_of (told w x) k) (row s₁ c)) (by_keeps n c k (want_of (told w x) k) s₁ (row s₁ c) (rows s₁ c))

    start_keeps : (c : Class) (k : Bool) (w : Want) (s : Symbol) (R : Row) → keeps s c R ≡ true → StartKeeps s c (start row c k w R)
    start_keeps c k w s none e = tt
    start_keeps c k w s (take m g is) e = by_keeps 2 c k w s (take m g is) e
    start_keeps c k w s (skip m xs) e = types_is (sig s).leaves (acted xs (sig s).takes) e
    start_keeps c k w s (begin_as m s₁ x is) e = by_keeps 2 c k w s (begin_as m s₁ x is) e

    -- these values are of these types
    module _ (M : Algebra) (Fit : Types → M.State → Type 0) (free : (t : Placed) (vs : M.State) → M.allows Free t vs ≡ true)
        (saves : (g : Guard) (t : Placed) (vs : M.State) (τ : Types) → M.allows g t vs ≡ true → Fit τ vs → Fit (saved g (class_of t) ++ τ) (M.save t vs))
        (does : (x : Action) (vs : M.State) (σ ρ τ : Types) → Fit (σ ++ τ) vs → made ok (effect x) σ ≡ Some ρ → Fit (ρ ++ τ) (M.act x vs))
        (loosen : (vs : M.State) (pre σ ρ τ : Types) → Fit (σ ++ τ) vs → strip ok pre σ ≡ Some ρ → Fit (pre ++ (ρ ++ τ)) vs) (a : Bool) where
      does_all : (xs : List Action) (vs : M.State) (σ ρ τ : Types) → Fit (σ ++ τ) vs → acted xs σ ≡ Some ρ → Fit (ρ ++ τ) (acts M xs vs)
      does_all [] vs σ ρ τ h e = subst (λ (x : Types). Fit (x ++ τ) vs) (some_is e) h
      does_all (x ∷ xs) vs σ ρ τ h e = let k = chain (made ok (effect x) σ) (λ α. acted xs α) ρ e in does_all xs (M.act x vs) k.0 ρ τ (does x vs σ k.0 τ h k.1) k.2

      saves_on : (g : Guard) (t : Placed) (vs : M.State) (σ τ : Types) → M.allows g t vs ≡ true → Fit (σ ++ τ) vs → Fit ((saved g (class_of t) ++ σ) ++ τ) (M.save t vs)
      saves_on g t vs σ τ q h = subst (λ (x : Types). Fit x (M.save t vs)) (sym (append_assoc (saved g (class_of t)) σ τ)) (saves g t vs (σ ++ τ) q h)

      of_strip : (s : Symbol) (vs : M.State) (σ α τ : Types) → Fit (σ ++ τ) vs → of_symbol s σ ≡ Some α → (ρ : Types) × Fit (((sig s).takes ++ ρ) ++ τ) vs × ((sig s).leaves ++ ρ ≡ α)
      of_strip s vs σ α τ h e =
          let k = chain (strip ok (sig s).takes σ) (put (sig s).leaves) α e in
          (k.0, subst (λ (x : Types). Fit x vs) (sym (append_assoc (sig s).takes k.0 τ)) (loosen vs (sig s).takes σ k.0 τ h k.1), some_is k.2)

      mutual
        pub left : (is : List Item) (vs : M.State) (ts : List Placed) (ws : M.State) (r : List Placed) → Spells M row a is vs ts ws r → (σ ρ τ : Types) → Fit (σ ++ τ) vs → outs is σ ≡ Some ρ → Fit (ρ ++ τ) ws
        left is vs ts ws r spelled σ ρ τ h e = subst (λ (x : Types). Fit (x ++ τ) vs) (some_is e) h
        left is vs ts ws r (a_token {c = c} {is = js} {t = t} q k) σ ρ τ h e = left _ _ _ _ _ k (saved Free (class_of t) ++ σ) ρ τ (saves_on Free t vs σ τ (free t vs) h) (subst (λ (d : Class). outs js (saved Free d ++ σ) ≡ Some ρ) q e)
        left is vs ts ws r (an_act {x = x} {is = js} k) σ ρ τ h e = let m = chain (made ok (effect x) σ) (λ α. outs js α) ρ e in left _ _ _ _ _ k m.0 ρ τ (does x vs σ m.0 τ h m.1) m.2
        left is vs ts ws r (a_symbol {s = s} {x = x} {is = js} k) σ ρ τ h e =
            let m = chain (of_symbol s σ) (λ α. outs js α) ρ e in
            let q = of_strip s vs σ m.0 τ h m.1 in
            left_start _ _ _ _ _ _ k s (start_keeps (next_class ts) (M.kind vs) (want_of x (M.kind vs)) s (row s (next_class ts)) (rows s (next_class ts))) q.0 ρ τ
            q.1 (subst (λ (y : Types). outs js y ≡ Some ρ) (sym q.2) m.2)

        left_start : (S : Start) (is : List Item) (vs : M.State) (ts : List Placed) (ws : M.State) (r : List Placed) → Starts M row a S is vs ts ws r → (s : Symbol) → StartKeeps s (next_class ts) S → (β ρ τ : Types)
            → Fit (((sig s).takes ++ β) ++ τ) vs → outs is ((sig s).leaves ++ β) ≡ Some ρ → Fit (ρ ++ τ) ws
        left_start S is vs ts ws r (begun {g = g} {js = js} {t = t} p l k) s keep β ρ τ h e =
            left _ _ _ _ _ k (saved g (class_of t) ++ ((sig s).takes ++ β)) ρ τ (saves_on g t vs ((sig s).takes ++ β) τ l h)
            (subst (λ (y : Types). outs (js ++ is) y ≡ Some ρ) (append_assoc (saved g (class_of t)) (sig s).takes β) (outs_append js is ((saved g (class_of t) ++ (sig s).takes) ++ β) ((sig s).leaves ++ β) (outs_more js (saved g (class_of t) ++ (sig s).takes) β (sig s).leaves keep) ∙ e))
        left_start S is vs ts ws r (passed {xs = xs} p k) s keep β ρ τ h e =
            left _ _ _ _ _ k ((sig s).leaves ++ β) ρ τ (subst (λ (y : Types). Fit y (acts M xs vs)) (sym (append_assoc (sig s).leaves β τ)) (does_all xs vs (sig s).takes (sig s).leaves (β ++ τ) (subst (λ (y : Types). Fit y vs) (append_assoc (sig s).takes β τ) h) keep)) e
