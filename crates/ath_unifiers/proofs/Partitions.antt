-- Blocks of nodes: one more node, and nodes that are filed under another block.
use Rattle.std.proofs.Common.{◌≡◌, ℕ, zero, suc, ◌+◌, ◌<◌, true, false, ◌==◌, List, [], ◌∷◌, ◌++◌, length, map, take, get_or, slice_get, slice_set, Option, Some, None, refl, sym, ◌∙◌, ap, subst, arith, ◌⊎◌, inl, inr}
use Rattle.std.proofs.lemmas.Grind.{common_steps}
use Rattle.std.proofs.lemmas.List.{take_more}
use Rattle.std.proofs.lemmas.List.Folds.{list_any-append}
use Rattle.ath_unifiers.specs.declared.partition.Block.{Block}
use Rattle.ath_unifiers.specs.Partitions.{rename, name_of, name_at, members_of, is_member, class_names, IsPartition}
use Rattle.ath_sorts.proofs.Bools.{either_of, either_to, num_cases, num_same, same_num, true-not-false}
use Rattle.ath_sorts.proofs.Gets.{get-last, get-left, get-map, get-seam, length-snoc, map-both, some-inj, some-not-none}

-- ---- one more node

name_left : (blocks : List Block) (k : Block) (b : ℕ) → b < length blocks → name_at (blocks ++ k ∷ []) b ≡ name_at blocks b
name_left blocks k b l = ap (λ o. name_of o b) (get-left blocks (k ∷ []) b l)

-- a block without members changes nothing
pub one_block_more : (block : List ℕ) (blocks : List Block) (k : Block) → IsPartition block blocks → IsPartition block (blocks ++ k ∷ [])
one_block_more block blocks k h = record {
  there = λ i b e. let p = h.there i b e in let l = length-snoc blocks k in omega arith;
  named = λ i b e. let p = h.named i b e in let q = name_left blocks k b (h.there i b e) in omega arith;
  members = λ i b e. ap (λ o. is_member (members_of o) i) (get-left blocks (k ∷ []) b (h.there i b e)) ∙ h.members i b e;
  apart = λ i j b c p q e. h.apart i j b c p q (sym (name_left blocks k b (h.there i b p)) ∙ e ∙ name_left blocks k c (h.there j c q));
}

module _ (block : List ℕ) (blocks : List Block) (k : Block) (h : IsPartition block blocks) (name : k.name ≡ length block) (own : is_member k.members (length block) ≡ true) where
  abbrev blocks' : List Block
  blocks' = blocks ++ k ∷ []

  name_new : name_at (blocks ++ k ∷ []) (length blocks) ≡ length block
  name_new = ap (λ o. name_of o (length blocks)) (get-seam blocks k []) ∙ name

  name_old : (i b : ℕ) → slice_get block i ≡ Some b → name_at (blocks ++ k ∷ []) b ≡ name_at blocks b
  name_old i b e = name_left blocks k b (h.there i b e)

  pub one_node_more : IsPartition (block ++ length blocks ∷ []) (blocks ++ k ∷ [])
  one_node_more = record {
    there = λ i b e. elim (get-last block (length blocks) i b e) [
      | inl p ↦ let t = h.there i b p.1 in let l = length-snoc blocks k in omega arith
      | inr p ↦ let q = p.1 in let l = length-snoc blocks k in omega arith
    ];
    named = λ i b e. elim (get-last block (length blocks) i b e) [
      | inl p ↦ let t = h.named i b p.1 in let q = name_old i b p.1 in let l = length-snoc block (length blocks) in omega arith
      | inr p ↦ let q = ap (name_at blocks') (sym p.1) ∙ name_new in let l = length-snoc block (length blocks) in omega arith
    ];
    members = λ i b e. elim (get-last block (length blocks) i b e) [
      | inl p ↦ ap (λ o. is_member (members_of o) i) (get-left blocks (k ∷ []) b (h.there i b p.1)) ∙ h.members i b p.1
      | inr p ↦ ap (λ c. is_member (members_of (slice_get blocks' c)) i) (sym p.1) ∙ ap (λ o. is_member (members_of o) i) (get-seam blocks k []) ∙ ap (is_member k.members) p.0 ∙ own
    ];
    apart = λ i j b c p q e. elim (get-last block (length blocks) i b p) [
      | inl s ↦ elim (get-last block (length blocks) j c q) [
        | inl t ↦ h.apart i j b c s.1 t.1 (sym (name_old i b s.1) ∙ e ∙ name_old j c t.1)
        | inr t ↦ absurd (let a = h.named i b s.1 in let x = sym (name_old i b s.1) ∙ e ∙ ap (name_at blocks') (sym t.1) ∙ name_new in omega arith)
      ]
      | inr s ↦ elim (get-last block (length blocks) j c q) [
        | inl t ↦ absurd (let a = h.named j c t.1 in let x = sym (name_old j c t.1) ∙ sym e ∙ ap (name_at blocks') (sym s.1) ∙ name_new in omega arith)
        | inr t ↦ sym s.1 ∙ t.1
      ]
    ];
  }

  names_kept : (bs : List ℕ) → ((i b : ℕ) → slice_get bs i ≡ Some b → b < length blocks) → map (name_at (blocks ++ k ∷ [])) bs ≡ map (name_at blocks) bs
  names_kept [] t = refl
  names_kept (b ∷ bs) t = λ i. name_left blocks k b (t 0 b refl) i ∷ names_kept bs (λ i c e. t (suc i) c e) i

  pub one_name_more : class_names (block ++ length blocks ∷ []) (blocks ++ k ∷ []) ≡ class_names block blocks ++ length block ∷ []
  one_name_more = map-both (name_at blocks') block (length blocks ∷ []) ∙ (λ i. names_kept block h.there i ++ name_new i ∷ [])

pub own_member : (members : List ℕ) (at n : ℕ) → members ≡ at ∷ [] → at ≡ n → is_member members n ≡ true
own_member members at n e is = ap (λ ms. is_member ms n) e ∙ either_to (at == n) false (inl (ap (λ m. m == n) is ∙ num_same n))

-- ---- nodes are filed under another block

pub same_items : {X : Type 0} (xs ys : List X) → ((i : ℕ) → slice_get xs i ≡ slice_get ys i) → xs ≡ ys
same_items [] [] h = refl
same_items [] (y ∷ ys) h = absurd (some-not-none y (sym (h 0)))
same_items (x ∷ xs) [] h = absurd (some-not-none x (h 0))
same_items (x ∷ xs) (y ∷ ys) h = λ i. some-inj x y (h 0) i ∷ same_items xs ys (λ i. h (suc i)) i

pub set_there : {X : Type 0} (xs : List X) (i : ℕ) (x y : X) → slice_get xs i ≡ Some x → slice_get (slice_set xs i y) i ≡ Some y
set_there [] i x y h = absurd (some-not-none x (sym h))
set_there (z ∷ xs) zero x y h = refl
set_there (z ∷ xs) (suc i) x y h = set_there xs i x y h

pub set_elsewhere : {X : Type 0} (xs : List X) (i j : ℕ) (y : X) → (j ≡ i → ⊥) → slice_get (slice_set xs i y) j ≡ slice_get xs j
set_elsewhere [] i j y d = refl
set_elsewhere (z ∷ xs) zero zero y d = absurd (d refl)
set_elsewhere (z ∷ xs) zero (suc j) y d = refl
set_elsewhere (z ∷ xs) (suc i) zero y d = refl
set_elsewhere (z ∷ xs) (suc i) (suc j) y d = set_elsewhere xs i j y (λ e. d (ap suc e))

-- the members so far are filed, and nothing else has changed
pub record Filed (from into : ℕ) (members first now : List ℕ) : Type 0 where
  pub others : (i : ℕ) → (slice_get now i ≡ slice_get first i) ⊎ ((slice_get first i ≡ Some from) × (slice_get now i ≡ Some into))
  pub done : (i : ℕ) → is_member members i ≡ true → slice_get first i ≡ Some from → slice_get now i ≡ Some into

pub filed_none : (from into : ℕ) (first : List ℕ) → Filed from into [] first first
filed_none from into first = record {
  others = λ i. inl refl;
  done = λ i h e. absurd (true-not-false (sym h));
}

member_last : (members : List ℕ) (m i : ℕ) → is_member (members ++ m ∷ []) i ≡ true → (is_member members i ≡ true) ⊎ (m ≡ i)
member_last members m i h = elim (either_of (is_member members i) (is_member (m ∷ []) i) (sym (list_any-append (λ x. x == i) members (m ∷ [])) ∙ h)) [
  | inl p ↦ inl p
  | inr p ↦ elim (either_of (m == i) false p) [ inl q ↦ inr (same_num m i q) | inr q ↦ absurd (true-not-false (sym q)) ]
]

module _ (from into : ℕ) (members first now : List ℕ) (m : ℕ) (h : Filed from into members first now) where
  -- a member that is filed elsewhere already
  pub filed_skip : (slice_get now m ≡ Some from → ⊥) → Filed from into (members ++ m ∷ []) first now
  filed_skip other = record {
    others = h.others;
    done = λ i k e. elim (member_last members m i k) [
      | inl p ↦ h.done i p e
      | inr p ↦ elim (h.others m) [
        | inl q ↦ absurd (other (q ∙ ap (slice_get first) p ∙ e))
        | inr q ↦ ap (slice_get now) (sym p) ∙ q.1
      ]
    ];
  }

  pub filed_move : slice_get now m ≡ Some from → Filed from into (members ++ m ∷ []) first (slice_set now m into)
  filed_move here = record {
    others = λ i. elim (num_cases i m) [
      | inl p ↦ inr (elim (h.others m) [ inl q ↦ ap (slice_get first) p ∙ sym q ∙ here | inr q ↦ ap (slice_get first) p ∙ q.0 ], ap (slice_get (slice_set now m into)) p ∙ set_there now m from into here)
      | inr p ↦ elim (h.others i) [
        | inl q ↦ inl (set_elsewhere now m i into p ∙ q)
        | inr q ↦ inr (q.0, set_elsewhere now m i into p ∙ q.1)
      ]
    ];
    done = λ i k e. elim (num_cases i m) [
      | inl p ↦ ap (slice_get (slice_set now m into)) p ∙ set_there now m from into here
      | inr p ↦ elim (member_last members m i k) [
        | inl q ↦ set_elsewhere now m i into p ∙ h.done i q e
        | inr q ↦ absurd (p (sym q))
      ]
    ];
  }

get-map-none : (f : ℕ → ℕ) (xs : List ℕ) (i : ℕ) → slice_get xs i ≡ None → slice_get (map f xs) i ≡ None
get-map-none f [] i h = refl
get-map-none f (x ∷ xs) zero h = absurd (some-not-none x h)
get-map-none f (x ∷ xs) (suc i) h = get-map-none f xs i h

opt_cases : (o : Option ℕ) → (o ≡ None) ⊎ ((x : ℕ) × (o ≡ Some x))
opt_cases None = inl refl
opt_cases (Some x) = inr (x, refl)

-- a turn of the loop that files
pub filed_turn : (from into : ℕ) (all first now next : List ℕ) (k : ℕ) → k < length all → Filed from into (take k all) first now
    → ((slice_get now (get_or all k 0) ≡ Some from) × (next ≡ slice_set now (get_or all k 0) into)) ⊎ ((slice_get now (get_or all k 0) ≡ Some from → ⊥) × (next ≡ now))
    → Filed from into (take (k + 1) all) first next
filed_turn from into all first now next k l h step =
    let m = get_or all k 0 in
    let e = take_more all k 0 l in
    let P : List ℕ → List ℕ → Type 0 = λ ms x. Filed from into ms first x in
    subst (λ ms. P ms next) (sym e) (elim step [
      | inl s ↦ subst (λ x. P (take k all ++ m ∷ []) x) (sym s.1) (filed_move from into (take k all) first now m h s.0)
      | inr s ↦ subst (λ x. P (take k all ++ m ∷ []) x) (sym s.1) (filed_skip from into (take k all) first now m h s.0)
    ])

-- once all members are filed
pub filed_all : (from into : ℕ) (members first now : List ℕ) → Filed from into members first now → ((i : ℕ) → slice_get first i ≡ Some from → is_member members i ≡ true) → now ≡ map (rename from into) first
filed_all from into members first now h covers = same_items now (map (rename from into) first) (λ i. elim (opt_cases (slice_get first i)) [
  | inl n ↦ elim (h.others i) [
    | inl p ↦ p ∙ n ∙ sym (get-map-none (rename from into) first i n)
    | inr p ↦ absurd (some-not-none from (sym p.0 ∙ n))
  ]
  | inr s ↦ elim (num_cases s.0 from) [
    | inl e ↦
        let f = s.1 ∙ ap Some e in
        h.done i (covers i f) f ∙ sym (get-map (rename from into) first i s.0 s.1 ∙ ap Some (renamed s.0 e))
    | inr e ↦ elim (h.others i) [
      | inl p ↦ p ∙ s.1 ∙ sym (get-map (rename from into) first i s.0 s.1 ∙ ap Some (not_renamed s.0 e))
      | inr p ↦ absurd (e (some-inj s.0 from (sym s.1 ∙ p.0)))
    ]
  ]
])
  where
    renamed : (c : ℕ) → c ≡ from → rename from into c ≡ into
    renamed c e = let q : (c == from) ≡ true = grind (arith, common_steps) in rw q refl

    not_renamed : (c : ℕ) → (c ≡ from → ⊥) → rename from into c ≡ c
    not_renamed c h = let q : (c == from) ≡ false = grind (arith, common_steps) in rw q refl
