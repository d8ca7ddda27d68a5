-- The entries of scopes.
use Rattle.std.proofs.Common.{◌≡◌, ◌==◌, ◌<◌, ◌≤◌, ◌+◌, ◌-◌, ℕ, zero, suc, Bool, true, false, List, [], ◌∷◌, ◌++◌, length, take, get_or, reverse, Option, Some, None, ◌⊎◌, inl, inr, if◌then◌else◌, refl, sym, ◌∙◌, ap, subst, arith}
use Rattle.std.specs.List.{All}
use Rattle.std.proofs.Math.Nat.{eq-or-lt_of_le}
use Rattle.std.proofs.Math.Seq.{take-suc}
use Rattle.std.proofs.lemmas.Grind.{common_steps}
use Rattle.std.proofs.lemmas.List.{get_or_append_left, get_or_push, length-append, length-reverse, reverse-append, take_all}
use Rattle.std.proofs.lemmas.List.Elements.{All-nil, All-head, All-tail, All-cons, All-push, All-weaker}
use Rattle.ath_terms.specs.Trees.{Trees, sent_at, Grows}
use Rattle.ath_trees.specs.Instance.{is_alpha_equal}
use Rattle.ath_trees.specs.Tree.{Sent}
use Rattle.ath_base.specs.declared.base.Node.{Node}
use Rattle.ath_base.specs.declared.entry.Entry as code
use Rattle.ath_base.specs.Base.{Entry, holds}
use Rattle.ath_base.specs.Stands.{entries_among, entries_in, entry_at, entries_of, IsStored, AreStored, AreOrdered, KeepsScopes, IsScope}

-- ---- a node more
equal_numbers : (m n : ℕ) → m ≡ n → (m == n) ≡ true
equal_numbers m n e = grind (arith, common_steps)

other_numbers : (m n : ℕ) → m < n → (m == n) ≡ false
other_numbers m n h = grind (arith, common_steps)

module _ (n : Node) (older : List Node) (k : ℕ) where
  newest_among : k ≡ suc (length older) → entries_among (n ∷ older) k ≡ n.entry ∷ entries_among older n.parent.0
  newest_among e = let q : (k == suc (length older)) ≡ true = equal_numbers k (suc (length older)) e in rw q refl

  older_among : k ≤ length older → entries_among (n ∷ older) k ≡ entries_among older k
  older_among h = let q : (k == suc (length older)) ≡ false = other_numbers k (suc (length older)) (omega (arith, h)) in rw q refl

module _ (ns : List Node) (n : Node) (k : ℕ) where
  turned : entries_in (ns ++ n ∷ []) k ≡ entries_among (n ∷ reverse ns) k
  turned = ap (λ (l : List Node). entries_among l k) (reverse-append ns (n ∷ []))

  pub newest_in : k ≡ length ns + 1 → entries_in (ns ++ n ∷ []) k ≡ n.entry ∷ entries_in ns n.parent.0
  newest_in e = turned ∙ newest_among n (reverse ns) k (omega (arith, e, length-reverse ns))

  pub older_in : k ≤ length ns → entries_in (ns ++ n ∷ []) k ≡ entries_in ns k
  older_in h = turned ∙ older_among n (reverse ns) k (omega (arith, h, length-reverse ns))

none_among : (ns : List Node) → entries_among ns 0 ≡ []
none_among [] = refl
none_among (n ∷ older) = older_among n older 0 (omega arith) ∙ none_among older

-- the scope without entries
pub none_in : (ns : List Node) → entries_in ns 0 ≡ []
none_in ns = none_among (reverse ns)

-- a scope is the same among the nodes that were there
front_in : (ns : List Node) (d : Node) (more m k : ℕ) → m + more ≡ length ns → k ≤ m → entries_in (take m ns) k ≡ entries_in ns k
front_in ns d zero m k e h = ap (λ (l : List Node). entries_in l k) (take_all m ns (omega (arith, e)))
front_in ns d (suc more) m k e h =
    let l : length (take m ns) ≡ m = grind (arith, common_steps, e) in
    sym (older_in (take m ns) (get_or ns m d) k (omega (arith, l, h)))
    ∙ ap (λ (l : List Node). entries_in l k) (sym (take-suc ns m d (omega (arith, e))))
    ∙ front_in ns d more (suc m) k (omega (arith, e)) (omega (arith, h))

-- the newest entry of a scope, and those before it
pub entries_step : (ns : List Node) (i : ℕ) (d : Node) → AreOrdered ns → i < length ns → entries_in ns (suc i) ≡ (get_or ns i d).entry ∷ entries_in ns (get_or ns i d).parent.0
entries_step ns i d ordered h =
    let n = get_or ns i d in
    let l : length (take i ns) ≡ i = grind (arith, common_steps, h) in
    sym (front_in ns d (length ns - suc i) (suc i) (suc i) (omega (arith, h)) (omega arith))
    ∙ ap (λ (l : List Node). entries_in l (suc i)) (take-suc ns i d h)
    ∙ newest_in (take i ns) n (suc i) (omega (arith, l))
    ∙ ap (λ (es : List code.Entry). n.entry ∷ es) (front_in ns d (length ns - i) i n.parent.0 (omega (arith, h)) (ordered i d h))

pub ordered_push : (ns : List Node) (n : Node) → AreOrdered ns → n.parent.0 ≤ length ns → AreOrdered (ns ++ n ∷ [])
ordered_push ns n ordered h = λ i d lt. go i d (eq-or-lt_of_le (omega (arith, lt, length-append ns (n ∷ []))))
  where
    go : (i : ℕ) (d : Node) → (i ≡ length ns) ⊎ (i < length ns) → (get_or (ns ++ n ∷ []) i d).parent.0 ≤ i
    go i d (inl e) = subst (λ (m : Node). m.parent.0 ≤ i) (sym (get_or_push ns n d i (sym e))) (omega (arith, e, h))
    go i d (inr lt) = subst (λ (m : Node). m.parent.0 ≤ i) (sym (get_or_append_left ns (n ∷ []) d i lt)) (ordered i d lt)

pub keeps-none : (ns : List Node) → KeepsScopes ns ns
keeps-none ns = record { many = omega arith; same = λ k h. refl }

pub keeps-then : (ns ms ls : List Node) → KeepsScopes ns ms → KeepsScopes ms ls → KeepsScopes ns ls
keeps-then ns ms ls h g = record { many = omega (arith, h.many, g.many); same = λ k l. g.same k (omega (arith, l, h.many)) ∙ h.same k l }

pub keeps-push : (ns : List Node) (n : Node) → KeepsScopes ns (ns ++ n ∷ [])
keeps-push ns n = record { many = omega (arith, length-append ns (n ∷ [])); same = λ k h. older_in ns n k h }

-- ---- numbers of the store
module _ (P : code.Entry → Type 0) where
  among_all : (ns : List Node) (k : ℕ) → All (λ n. P n.entry) ns → All P (entries_among ns k)
  among_all [] k h = All-nil P
  among_all (n ∷ older) k h =
      let rest = All-tail (λ (n : Node). P n.entry) n older h in
      go (k == suc (length older)) (All-cons P n.entry (entries_among older n.parent.0) (All-head (λ (n : Node). P n.entry) n older h) (among_all older n.parent.0 rest)) (among_all older k rest)
    where
      go : (b : Bool) → All P (n.entry ∷ entries_among older n.parent.0) → All P (entries_among older k) → All P (if b then n.entry ∷ entries_among older n.parent.0 else entries_among older k)
      go true here other = here
      go false here other = other

  turned_all : (ns : List Node) → All (λ n. P n.entry) ns → All (λ n. P n.entry) (reverse ns)
  turned_all [] h = h
  turned_all (n ∷ ns) h =
      subst (All (λ (n : Node). P n.entry)) (sym (reverse-append (n ∷ []) ns))
      (All-push (λ (n : Node). P n.entry) (reverse ns) n (turned_all ns (All-tail (λ (n : Node). P n.entry) n ns h)) (All-head (λ (n : Node). P n.entry) n ns h))

  entries_all : (ns : List Node) (k : ℕ) → All (λ n. P n.entry) ns → All P (entries_in ns k)
  entries_all ns k h = among_all (reverse ns) k (turned_all ns h)

module _ (s t : Trees) (g : Grows s t) where
  entry_kept : (e : code.Entry) → IsStored s e → entry_at t e ≡ entry_at s e
  entry_kept e h = ap (λ (p : Sent). record { sentence = p; origin = e.origin }) (g.same_sents e.sentence.0 h)

  entries_kept : (es : List code.Entry) → All (IsStored s) es → entries_of t es ≡ entries_of s es
  entries_kept [] h = refl
  entries_kept (e ∷ es) h =
      let here = entry_kept e (All-head (IsStored s) e es h) in
      let rest = entries_kept es (All-tail (IsStored s) e es h) in
      λ i. here i ∷ rest i

  stored_grows : (e : code.Entry) → IsStored s e → IsStored t e
  stored_grows e h = omega (arith, g.sents, h)

  pub nodes_in_grow : (ns : List Node) → AreStored s ns → AreStored t ns
  nodes_in_grow ns h = All-weaker (λ (n : Node). IsStored s n.entry) (λ (n : Node). IsStored t n.entry) (λ n q. stored_grows n.entry q) ns h

  -- a scope stands for the same entries while the store grows, and the nodes
  pub entries_grow : (ns ms : List Node) (k : ℕ) → AreStored s ns → k ≤ length ns → KeepsScopes ns ms → entries_of t (entries_in ms k) ≡ entries_of s (entries_in ns k)
  entries_grow ns ms k h inside kept = ap (entries_of t) (kept.same k inside) ∙ entries_kept (entries_in ns k) (entries_all (IsStored s) ns k h)

  pub scope_grows : (ns ms : List Node) (k : ℕ) (es : List Entry) → KeepsScopes ns ms → IsScope s ns k es → IsScope t ms k es
  scope_grows ns ms k es kept h = record {
    inside = omega (arith, h.inside, kept.many);
    stored = subst (All (IsStored t)) (sym (kept.same k h.inside)) (All-weaker (IsStored s) (IsStored t) stored_grows (entries_in ns k) h.stored);
    entries = h.entries ∙ sym (entries_kept (entries_in ns k) h.stored) ∙ ap (entries_of t) (sym (kept.same k h.inside));
  }

-- what a scope stands for
pub scope_here : (s : Trees) (ns : List Node) (k : ℕ) → AreStored s ns → k ≤ length ns → IsScope s ns k (entries_of s (entries_in ns k))
scope_here s ns k h inside = record { inside = inside; stored = entries_all (IsStored s) ns k h; entries = refl }

-- a scope with an entry more
pub scope_added : (s : Trees) (ns ms : List Node) (k l : ℕ) (e : code.Entry) (es : List Entry) → IsScope s ns k es → IsStored s e → l ≤ length ms → entries_in ms l ≡ e ∷ entries_in ns k → IsScope s ms l (entry_at s e ∷ es)
scope_added s ns ms k l e es h here inside added = record {
  inside = inside;
  stored = subst (All (IsStored s)) (sym added) (All-cons (IsStored s) e (entries_in ns k) here h.stored);
  entries = ap (λ (xs : List Entry). entry_at s e ∷ xs) h.entries ∙ ap (entries_of s) (sym added);
}

-- ---- the newest entry by which a sentence holds
-- the entry of the newest node of a scope is looked at
module _ (s : Trees) (ns all : List Node) (p : Sent) (from left : ℕ) (d : Node) (ordered : AreOrdered all) (more : 0 < left) (below : left ≤ length ns) (whole : ns ≡ all) (so_far : holds (entries_of s (entries_in all from)) p ≡ holds (entries_of s (entries_in ns left)) p) where
  here : (b : Bool) → b ≡ is_alpha_equal (sent_at s.sents (get_or ns (left - 1) d).entry.sentence.0) p → holds (entries_of s (entries_in all from)) p ≡ (if b then Some (entry_at s (get_or ns (left - 1) d).entry) else holds (entries_of s (entries_in ns (get_or ns (left - 1) d).parent.0)) p)
  here b same =
      let last : suc (left - 1) ≡ left = omega (arith, more) in
      let step = entries_step ns (left - 1) d (subst AreOrdered (sym whole) ordered) (omega (arith, more, below)) in
      so_far
      ∙ ap (λ (n : ℕ). holds (entries_of s (entries_in ns n)) p) (sym last)
      ∙ ap (λ (es : List code.Entry). holds (entries_of s es) p) step
      ∙ ap (λ t. if t then Some (entry_at s (get_or ns (left - 1) d).entry) else holds (entries_of s (entries_in ns (get_or ns (left - 1) d).parent.0)) p) (sym same)

  pub answer_found : (b : Bool) → b ≡ is_alpha_equal (sent_at s.sents (get_or ns (left - 1) d).entry.sentence.0) p → b ≡ true → Some (entry_at s (get_or ns (left - 1) d).entry) ≡ holds (entries_of s (entries_in all from)) p
  answer_found b same e = sym (here b same ∙ rw e refl)

  pub still_left : (b : Bool) → b ≡ is_alpha_equal (sent_at s.sents (get_or ns (left - 1) d).entry.sentence.0) p → b ≡ false
      → ((get_or ns (left - 1) d).parent.0 < left) × (holds (entries_of s (entries_in all from)) p ≡ holds (entries_of s (entries_in ns (get_or ns (left - 1) d).parent.0)) p)
  still_left b same e = let q = subst AreOrdered (sym whole) ordered (left - 1) d (omega (arith, more, below)) in (omega (arith, q, more), here b same ∙ rw e refl)

-- no node is left
pub none_holds : (s : Trees) (ns : List Node) (p : Sent) (left : ℕ) (o : Option Entry) → left ≡ 0 → o ≡ holds (entries_of s (entries_in ns left)) p → None ≡ o
none_holds s ns p left o e same = sym (same ∙ ap (λ (n : ℕ). holds (entries_of s (entries_in ns n)) p) e ∙ ap (λ (es : List code.Entry). holds (entries_of s es) p) (none_in ns))
