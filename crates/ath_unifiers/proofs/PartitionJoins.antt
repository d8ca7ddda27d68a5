-- Two blocks become one.
use Rattle.std.proofs.Common.{◌≡◌, ℕ, zero, suc, ◌<◌, true, false, ◌==◌, List, [], ◌∷◌, ◌++◌, length, map, slice_get, slice_set, get_or, Result, Ok, Err, OnErr, Some, unwrap_or, refl, sym, ◌∙◌, ap, subst, arith, ◌⊎◌, inl, inr, length-set}
use Rattle.std.proofs.lemmas.Grind.{common_steps}
use Rattle.std.proofs.lemmas.List.Folds.{list_any-append}
use Rattle.ath_unifiers.specs.declared.partition.Block.{Block}
use Rattle.ath_unifiers.specs.Partitions.{class_at, rename, name_of, name_at, members_of, is_member, class_names, IsPartition}
use Rattle.ath_sorts.proofs.Bools.{either_to, num_cases}
use Rattle.ath_unifiers.proofs.Partitions.{set_there, set_elsewhere}
use Rattle.ath_sorts.proofs.Gets.{get-from-or, get-map, get-within, length-map', some-inj, some-not-none}

-- a block that takes the place of one with the same name, and has its members
pub record Keeps (old new : List Block) (at : ℕ) : Type 0 where
  pub others : (b : ℕ) → (b ≡ at → ⊥) → slice_get new b ≡ slice_get old b
  pub even : length new ≡ length old
  pub members : (i : ℕ) → is_member (members_of (slice_get old at)) i ≡ true → is_member (members_of (slice_get new at)) i ≡ true

members_kept : (old new : List Block) (at : ℕ) → Keeps old new at → (b i : ℕ) → is_member (members_of (slice_get old b)) i ≡ true → is_member (members_of (slice_get new b)) i ≡ true
members_kept old new at k b i h = elim (num_cases b at) [
  | inl e ↦ subst (λ c. is_member (members_of (slice_get new c)) i ≡ true) (sym e) (k.members i (ap (λ c. is_member (members_of (slice_get old c)) i) (sym e) ∙ h))
  | inr e ↦ ap (λ o. is_member (members_of o) i) (k.others b e) ∙ h
]

-- where only members were added
pub partition_kept : (block : List ℕ) (old new : List Block) (at : ℕ) → IsPartition block old → Keeps old new at → name_at new at ≡ name_at old at → IsPartition block new
partition_kept block old new at h k same_name =
    let name : (b : ℕ) → name_at new b ≡ name_at old b = λ b. elim (num_cases b at) [
      | inl e ↦ ap (name_at new) e ∙ same_name ∙ ap (name_at old) (sym e)
      | inr e ↦ ap (λ o. name_of o b) (k.others b e)
    ] in
    record {
      there = λ i b e. let p = h.there i b e in let l = k.even in omega arith;
      named = λ i b e. let p = h.named i b e in let q = name b in omega arith;
      members = λ i b e. members_kept old new at k b i (h.members i b e);
      apart = λ i j b c p q e. h.apart i j b c p q (sym (name b) ∙ e ∙ name c);
    }

pub more_members : (xs ys : List ℕ) (i : ℕ) → is_member xs i ≡ true → is_member (xs ++ ys) i ≡ true
more_members xs ys i h = list_any-append (λ m. m == i) xs ys ∙ either_to (is_member xs i) (is_member ys i) (inl h)

pub new_members : (xs ys : List ℕ) (i : ℕ) → is_member ys i ≡ true → is_member (xs ++ ys) i ≡ true
new_members xs ys i h = list_any-append (λ m. m == i) xs ys ∙ either_to (is_member xs i) (is_member ys i) (inr h)

rename-old : (x y c : ℕ) → c ≡ x → rename x y c ≡ y
rename-old x y c e = let q : (c == x) ≡ true = grind (arith, common_steps) in rw q refl

rename-kept : (x y c : ℕ) → (c ≡ x → ⊥) → rename x y c ≡ c
rename-kept x y c h = let q : (c == x) ≡ false = grind (arith, common_steps) in rw q refl

back_from_map : (f : ℕ → ℕ) (xs : List ℕ) (i y : ℕ) → slice_get (map f xs) i ≡ Some y → (x : ℕ) × ((slice_get xs i ≡ Some x) × (f x ≡ y))
back_from_map f [] i y h = absurd (some-not-none y (sym h))
back_from_map f (x ∷ xs) zero y h = (x, (refl, some-inj (f x) y h))
back_from_map f (x ∷ xs) (suc i) y h = back_from_map f xs i y h

-- the blocks of the two classes
pub name_there : (block : List ℕ) (blocks : List Block) (i b : ℕ) → slice_get block i ≡ Some b → class_at (class_names block blocks) i ≡ i → name_at blocks b ≡ i
name_there block blocks i b h e = ap (λ o. unwrap_or o i) (sym (get-map (name_at blocks) block i b h)) ∙ e

module _ (block : List ℕ) (old new : List Block) (from into kept gone : ℕ) (h : IsPartition block old) (k : Keeps old new into) (name : name_at new into ≡ kept) (kept_in : kept < length block)
    (from_name : (name_at old from ≡ kept) ⊎ (name_at old from ≡ gone)) (into_name : (name_at old into ≡ kept) ⊎ (name_at old into ≡ gone))
    (kept_block : (i b : ℕ) → slice_get block i ≡ Some b → name_at old b ≡ kept → (b ≡ from) ⊎ (b ≡ into))
    (gone_block : (i b : ℕ) → slice_get block i ≡ Some b → name_at old b ≡ gone → (b ≡ from) ⊎ (b ≡ into))
    (into_in : into < length old)
    (moved : (i : ℕ) → is_member (members_of (slice_get old from)) i ≡ true → is_member (members_of (slice_get new into)) i ≡ true) where
  either_name : (b : ℕ) → (name_at old b ≡ kept) ⊎ (name_at old b ≡ gone) → rename gone kept (name_at old b) ≡ kept
  either_name b e = elim (num_cases (name_at old b) gone) [
    | inl p ↦ rename-old gone kept (name_at old b) p
    | inr p ↦ elim e [ inl q ↦ rename-kept gone kept (name_at old b) p ∙ q | inr q ↦ absurd (p q) ]
  ]

  -- what the name of a block's class is now
  name_now : (i b : ℕ) → slice_get block i ≡ Some b → name_at new (rename from into b) ≡ rename gone kept (name_at old b)
  name_now i b e = elim (num_cases b from) [
    | inl p ↦ ap (name_at new) (rename-old from into b p) ∙ name ∙ sym (ap (λ c. rename gone kept (name_at old c)) p ∙ either_name from from_name)
    | inr p ↦ ap (name_at new) (rename-kept from into b p) ∙ elim (num_cases b into) [
      | inl q ↦ ap (name_at new) q ∙ name ∙ sym (ap (λ c. rename gone kept (name_at old c)) q ∙ either_name into into_name)
      | inr q ↦ ap (λ o. name_of o b) (k.others b q) ∙ sym (rename-kept gone kept (name_at old b) (λ n. elim (gone_block i b e n) [ inl s ↦ absurd (p s) | inr s ↦ absurd (q s) ]))
    ]
  ]

  names_now : (bs : List ℕ) → ((i b : ℕ) → slice_get bs i ≡ Some b → name_at new (rename from into b) ≡ rename gone kept (name_at old b)) → map (name_at new) (map (rename from into) bs) ≡ map (rename gone kept) (map (name_at old) bs)
  names_now [] t = refl
  names_now (b ∷ bs) t = λ i. t 0 b refl i ∷ names_now bs (λ i c e. t (suc i) c e) i

  pub joined_names : class_names (map (rename from into) block) new ≡ map (rename gone kept) (class_names block old)
  joined_names = names_now block name_now

  -- a block whose class has the name that was kept is the one that has it now
  kept_now : (i b : ℕ) → slice_get block i ≡ Some b → rename gone kept (name_at old b) ≡ kept → rename from into b ≡ into
  kept_now i b e n =
      let at : (b ≡ from) ⊎ (b ≡ into) = elim (num_cases (name_at old b) gone) [
        | inl p ↦ gone_block i b e p
        | inr p ↦ kept_block i b e (sym (rename-kept gone kept (name_at old b) p) ∙ n)
      ] in
      elim at [
        | inl p ↦ rename-old from into b p
        | inr p ↦ elim (num_cases b from) [ inl q ↦ rename-old from into b q | inr q ↦ rename-kept from into b q ∙ p ]
      ]

  apart_now : (i j b c : ℕ) → slice_get block i ≡ Some b → slice_get block j ≡ Some c → rename gone kept (name_at old b) ≡ rename gone kept (name_at old c) → rename from into b ≡ rename from into c
  apart_now i j b c p q e = elim (num_cases (rename gone kept (name_at old c)) kept) [
    | inl n ↦ kept_now i b p (e ∙ n) ∙ sym (kept_now j c q n)
    | inr n ↦
        let other : (d : ℕ) → (rename gone kept (name_at old d) ≡ kept → ⊥) → name_at old d ≡ rename gone kept (name_at old d) = λ d m. sym (rename-kept gone kept (name_at old d) (λ g. m (rename-old gone kept (name_at old d) g))) in
        ap (rename from into) (h.apart i j b c p q (other b (λ m. n (sym e ∙ m)) ∙ e ∙ sym (other c n)))
  ]

  pub joined_partition : IsPartition (map (rename from into) block) new
  joined_partition = record {
    there = λ i b e. let s = back_from_map (rename from into) block i b e in elim (num_cases s.0 from) [
      | inl p ↦ let r = rename-old from into s.0 p in let l = k.even in let z = s.1.1 in omega arith
      | inr p ↦ let r = rename-kept from into s.0 p in let l = k.even in let z = s.1.1 in let t = h.there i s.0 s.1.0 in omega arith
    ];
    named = λ i b e.
        let s = back_from_map (rename from into) block i b e in
        let n : name_at new b ≡ rename gone kept (name_at old s.0) = ap (name_at new) (sym s.1.1) ∙ name_now i s.0 s.1.0 in
        let l = length-map' (rename from into) block in
        elim (num_cases (name_at old s.0) gone) [
          | inl p ↦ let r = rename-old gone kept (name_at old s.0) p in omega arith
          | inr p ↦ let r = rename-kept gone kept (name_at old s.0) p in let t = h.named i s.0 s.1.0 in omega arith
        ];
    members = λ i b e.
        let s = back_from_map (rename from into) block i b e in
        let m = h.members i s.0 s.1.0 in
        elim (num_cases s.0 from) [
          | inl p ↦ subst (λ c. is_member (members_of (slice_get new c)) i ≡ true) (sym (rename-old from into s.0 p) ∙ s.1.1) (moved i (subst (λ c. is_member (members_of (slice_get old c)) i ≡ true) p m))
          | inr p ↦ subst (λ c. is_member (members_of (slice_get new c)) i ≡ true) (sym (rename-kept from into s.0 p) ∙ s.1.1) (members_kept old new into k s.0 i m)
        ];
    apart = λ i j b c p q e.
        let s = back_from_map (rename from into) block i b p in
        let t = back_from_map (rename from into) block j c q in
        sym s.1.1 ∙ apart_now i j s.0 t.0 s.1.0 t.1.0 (sym (name_now i s.0 s.1.0) ∙ ap (name_at new) s.1.1 ∙ e ∙ sym (ap (name_at new) t.1.1) ∙ name_now j t.0 t.1.0) ∙ t.1.1;
  }

-- ---- what the function that joins does

pub on_err : {T E P : Type 0} (r : Result T E) → P → OnErr r P
on_err (Ok x) p = tt
on_err (Err e) p = p

pub block_there : (blocks : List Block) (at : ℕ) (k : Block) → at < length blocks → k ≡ get_or blocks at k → slice_get blocks at ≡ Some k
block_there blocks at k l e = get-from-or blocks at k l ∙ ap Some (sym e)

module _ (old : List Block) (at : ℕ) (ob nb : Block) (here : slice_get old at ≡ Some ob) where
  name_set : name_at (slice_set old at nb) at ≡ nb.name
  name_set = ap (λ o. name_of o at) (set_there old at ob nb here)

  keeps_set : (ms : List ℕ) → nb.members ≡ ob.members ++ ms → Keeps old (slice_set old at nb) at
  keeps_set ms e = record {
    others = λ b apart. set_elsewhere old at b nb apart;
    even = length-set old at nb;
    members = λ i h.
        ap (λ o. is_member (members_of o) i) (set_there old at ob nb here) ∙ ap (λ xs. is_member xs i) e
        ∙ more_members ob.members ms i (sym (ap (λ o. is_member (members_of o) i) here) ∙ h);
  }

  -- a block of the same name with more members
  pub partition_grown : (block : List ℕ) → IsPartition block old → nb.name ≡ ob.name → (ms : List ℕ) × (nb.members ≡ ob.members ++ ms) → IsPartition block (slice_set old at nb)
  partition_grown block h e m = partition_kept block old (slice_set old at nb) at h (keeps_set m.0 m.1) (name_set ∙ e ∙ sym (ap (λ o. name_of o at) here))

module _ (block : List ℕ) (old : List Block) (h : IsPartition block old) (kept gone kept_block gone_block from into : ℕ)
    (kept_filed : slice_get block kept ≡ Some kept_block) (gone_filed : slice_get block gone ≡ Some gone_block)
    (kept_named : class_at (class_names block old) kept ≡ kept) (gone_named : class_at (class_names block old) gone ≡ gone)
    (order : ((from ≡ kept_block) × (into ≡ gone_block)) ⊎ ((from ≡ gone_block) × (into ≡ kept_block)))
    (ob nb : Block) (here : slice_get old into ≡ Some ob) (name : nb.name ≡ kept) (members : nb.members ≡ ob.members ++ members_of (slice_get old from)) where
  kept_name : name_at old kept_block ≡ kept
  kept_name = name_there block old kept kept_block kept_filed kept_named

  gone_name : name_at old gone_block ≡ gone
  gone_name = name_there block old gone gone_block gone_filed gone_named

  from_name : (name_at old from ≡ kept) ⊎ (name_at old from ≡ gone)
  from_name = elim order [ inl p ↦ inl (ap (name_at old) p.0 ∙ kept_name) | inr p ↦ inr (ap (name_at old) p.0 ∙ gone_name) ]

  into_name : (name_at old into ≡ kept) ⊎ (name_at old into ≡ gone)
  into_name = elim order [ inl p ↦ inr (ap (name_at old) p.1 ∙ gone_name) | inr p ↦ inl (ap (name_at old) p.1 ∙ kept_name) ]

  kept_is : (i b : ℕ) → slice_get block i ≡ Some b → name_at old b ≡ kept → (b ≡ from) ⊎ (b ≡ into)
  kept_is i b e n =
      let q = h.apart i kept b kept_block e kept_filed (n ∙ sym kept_name) in
      elim order [ inl p ↦ inl (q ∙ sym p.0) | inr p ↦ inr (q ∙ sym p.1) ]

  gone_is : (i b : ℕ) → slice_get block i ≡ Some b → name_at old b ≡ gone → (b ≡ from) ⊎ (b ≡ into)
  gone_is i b e n =
      let q = h.apart i gone b gone_block e gone_filed (n ∙ sym gone_name) in
      elim order [ inl p ↦ inr (q ∙ sym p.1) | inr p ↦ inl (q ∙ sym p.0) ]

  moved : (i : ℕ) → is_member (members_of (slice_get old from)) i ≡ true → is_member (members_of (slice_get (slice_set old into nb) into)) i ≡ true
  moved i m = ap (λ o. is_member (members_of o) i) (set_there old into ob nb here) ∙ ap (λ xs. is_member xs i) members ∙ new_members ob.members (members_of (slice_get old from)) i m

  keeps : Keeps old (slice_set old into nb) into
  keeps = keeps_set old into ob nb here (members_of (slice_get old from)) members

  pub partition_joined : IsPartition (map (rename from into) block) (slice_set old into nb)
  partition_joined = joined_partition block old (slice_set old into nb) from into kept gone h keeps (name_set old into ob nb here ∙ name) (get-within block kept kept_block kept_filed) from_name into_name kept_is gone_is (get-within old into ob here) moved

  pub names_joined : class_names (map (rename from into) block) (slice_set old into nb) ≡ map (rename gone kept) (class_names block old)
  names_joined = joined_names block old (slice_set old into nb) from into kept gone h keeps (name_set old into ob nb here ∙ name) (get-within block kept kept_block kept_filed) from_name into_name kept_is gone_is (get-within old into ob here) moved
