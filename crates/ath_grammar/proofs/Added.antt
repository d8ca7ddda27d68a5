-- Lists with one more at the end: how many they are, of which kind, and that what is in them is proper and differs.
use Rattle.std.proofs.Common.{◌≡◌, ℕ, ◌+◌, ◌<◌, List, [], ◌∷◌, ◌++◌, Bool, true, false, not, cond, ◌||◌, Option, refl, sym, ap, ◌∙◌, subst, arith}
use Rattle.std.specs.List.{list_any, filter, AllByRecursion, IsDistinct}
use Rattle.std.proofs.lemmas.Bool.{eq-eqb, ne_eqb, eqb-false}
use Rattle.std.proofs.lemmas.List.{append-nil}
use Rattle.std.proofs.lemmas.List.Elements.{filter-append}
use Rattle.ath_sorts.specs.declared.sorts.Sym.{Sym}
use Rattle.ath_syntax.specs.Size.{pattern_size, patterns_size}
use Rattle.ath_syntax.specs.Tree.{Pattern, Patterns, no_patterns, more_patterns, Phrase, Phrases, no_phrases, more_phrases, Bindings, no_bindings, more_bindings, Clauses, no_clauses, more_clauses, Branches, no_branches, more_branches, is_deduction, phrases_deduce, clauses_deduce, branches_deduce, same_name, bound_names}
use Rattle.ath_syntax.specs.Proper.{ProperPattern, ProperPatterns, phrases_count, bindings_count, clauses_count, clauses_patterns, branches_count, IsOfKind, is_closure, Proper, ProperPhrases, ProperBindings, ProperClosures, ProperClauses, ProperBranches}
use Rattle.ath_grammar.specs.Trees.{add_pattern, add_phrase, add_binding, add_clause, add_branch, last_deduces}

-- phrases
pub phrases_more : (xs : Phrases) (x : Phrase) → phrases_count (add_phrase xs x) ≡ 1 + phrases_count xs
phrases_more no_phrases x = refl
phrases_more (more_phrases y ys) x = ap (λ (n : ℕ). 1 + n) (phrases_more ys x)

pub phrases_proper : (k : Option Bool) (xs : Phrases) (x : Phrase) → ProperPhrases k xs → IsOfKind k x → Proper x → ProperPhrases k (add_phrase xs x)
phrases_proper k no_phrases x h e p = (e, p, tt)
phrases_proper k (more_phrases y ys) x h e p = (h.0, h.1, phrases_proper k ys x h.2 e p)

pub phrases_kind : (xs : Phrases) (x : Phrase) → 0 < phrases_count xs → phrases_deduce (add_phrase xs x) ≡ phrases_deduce xs
phrases_kind no_phrases x h = absurd (omega (arith, h))
phrases_kind (more_phrases y ys) x h = refl

-- bindings
pub bindings_more : (bs : Bindings) (n : Sym) (x : Phrase) → bindings_count (add_binding bs n x) ≡ 1 + bindings_count bs
bindings_more no_bindings n x = refl
bindings_more (more_bindings m y bs) n x = ap (λ (k : ℕ). 1 + k) (bindings_more bs n x)

pub bindings_proper : (k : Option Bool) (bs : Bindings) (n : Sym) (x : Phrase) → ProperBindings k bs → IsOfKind k x → Proper x → ProperBindings k (add_binding bs n x)
bindings_proper k no_bindings n x h e p = (e, p, tt)
bindings_proper k (more_bindings m y bs) n x h e p = (h.0, h.1, bindings_proper k bs n x h.2 e p)

pub closures_proper : (bs : Bindings) (n : Sym) (x : Phrase) → ProperClosures bs → is_closure x ≡ true → Proper x → ProperClosures (add_binding bs n x)
closures_proper no_bindings n x h e p = (e, p, tt)
closures_proper (more_bindings m y bs) n x h e p = (h.0, h.1, closures_proper bs n x h.2 e p)

pub names_more : (bs : Bindings) (n : Sym) (x : Phrase) → bound_names (add_binding bs n x) ≡ bound_names bs ++ (n ∷ [])
names_more no_bindings n x = refl
names_more (more_bindings m y bs) n x = ap (λ (ns : List Sym). m ∷ ns) (names_more bs n x)

pub last_kind : (d : Bool) (bs : Bindings) (n : Sym) (x : Phrase) → last_deduces d (add_binding bs n x) ≡ is_deduction x
last_kind d no_bindings n x = refl
last_kind d (more_bindings m y bs) n x = last_kind (is_deduction y) bs n x

-- clauses
pub clauses_more : (cs : Clauses) (p : Pattern) (x : Phrase) → clauses_count (add_clause cs p x) ≡ 1 + clauses_count cs
clauses_more no_clauses p x = refl
clauses_more (more_clauses q y cs) p x = ap (λ (n : ℕ). 1 + n) (clauses_more cs p x)

pub clauses_proper : (d : Bool) (cs : Clauses) (p : Pattern) (x : Phrase) → ProperClauses d cs → ProperPattern p → is_deduction x ≡ d → Proper x → ProperClauses d (add_clause cs p x)
clauses_proper d no_clauses p x h l e q = (l, e, q, tt)
clauses_proper d (more_clauses m y cs) p x h l e q = (h.0, h.1, h.2, clauses_proper d cs p x h.3 l e q)

pub clauses_kind : (cs : Clauses) (p : Pattern) (x : Phrase) → 0 < clauses_count cs → clauses_deduce (add_clause cs p x) ≡ clauses_deduce cs
clauses_kind no_clauses p x h = absurd (omega (arith, h))
clauses_kind (more_clauses q y cs) p x h = refl

pub clauses_size : (cs : Clauses) (p : Pattern) (x : Phrase) → patterns_size (clauses_patterns (add_clause cs p x)) ≡ patterns_size (clauses_patterns cs) + pattern_size p
clauses_size no_clauses p x = omega arith
clauses_size (more_clauses q y cs) p x = omega (arith, clauses_size cs p x)

-- branches
pub branches_more : (bs : Branches) (e x : Phrase) → branches_count (add_branch bs e x) ≡ 1 + branches_count bs
branches_more no_branches e x = refl
branches_more (more_branches c y bs) e x = ap (λ (n : ℕ). 1 + n) (branches_more bs e x)

pub branches_proper : (d : Bool) (bs : Branches) (e x : Phrase) → ProperBranches d bs → is_deduction e ≡ false → Proper e → is_deduction x ≡ d → Proper x → ProperBranches d (add_branch bs e x)
branches_proper d no_branches e x h k p l q = (k, p, l, q, tt)
branches_proper d (more_branches c y bs) e x h k p l q = (h.0, h.1, h.2, h.3, branches_proper d bs e x h.4 k p l q)

pub branches_kind : (bs : Branches) (e x : Phrase) → 0 < branches_count bs → branches_deduce (add_branch bs e x) ≡ branches_deduce bs
branches_kind no_branches e x h = absurd (omega (arith, h))
branches_kind (more_branches c y bs) e x h = refl

-- patterns
pub patterns_proper : (ps : Patterns) (p : Pattern) → ProperPatterns ps → ProperPattern p → ProperPatterns (add_pattern ps p)
patterns_proper no_patterns p h q = (q, tt)
patterns_proper (more_patterns l ps) p h q = (h.0, patterns_proper ps p h.1 q)

pub patterns_size_more : (ps : Patterns) (p : Pattern) → patterns_size (add_pattern ps p) ≡ patterns_size ps + pattern_size p
patterns_size_more no_patterns p = omega arith
patterns_size_more (more_patterns q ps) p = omega (arith, patterns_size_more ps p)

-- names
or_parts : (b c : Bool) → (b || c) ≡ false → (b ≡ false) × (c ≡ false)
or_parts true c e = cc
or_parts false c e = (refl, e)

all_more : (P : Sym → Type 0) (ns : List Sym) (n : Sym) → AllByRecursion P ns → P n → AllByRecursion P (ns ++ (n ∷ []))
all_more P [] n h p = (p, tt)
all_more P (m ∷ ns) n h p = (h.0, all_more P ns n h.1 p)

turned : (n m : Sym) → same_name n m ≡ false → same_name m n ≡ false
turned n m e = ne_eqb m.0 n.0 (λ f. eqb-false n.0 m.0 e (sym f))

pub distinct_more : (ns : List Sym) (n : Sym) → IsDistinct same_name ns → list_any (same_name n) ns ≡ false → IsDistinct same_name (ns ++ (n ∷ []))
unfolding IsDistinct
distinct_more [] n h e = (tt, tt)
distinct_more (m ∷ ns) n h e =
    let k = or_parts (same_name n m) (list_any (same_name n) ns) e in
    (all_more (λ y. same_name m y ≡ false) ns n h.0 (turned n m k.0), distinct_more ns n h.1 k.1)

-- without those that are this one
abbrev pub others : Sym → List Sym → List Sym
others wild ns = filter (λ x. not (same_name wild x)) ns

any_kept : (b : Bool) (n m : Sym) (ns : List Sym) → same_name n m ≡ false → list_any (same_name n) ns ≡ false → list_any (same_name n) (cond b (m ∷ ns) ns) ≡ false
any_kept true n m ns e h = or_false (same_name n m) (list_any (same_name n) ns) e h
  where
    or_false : (b c : Bool) → b ≡ false → c ≡ false → (b || c) ≡ false
    or_false true c e k = cc
    or_false false c e k = k
any_kept false n m ns e h = h

any_others : (wild : Sym) (ns : List Sym) (n : Sym) → list_any (same_name n) ns ≡ false → list_any (same_name n) (others wild ns) ≡ false
any_others wild [] n e = refl
any_others wild (m ∷ ns) n e =
    let k = or_parts (same_name n m) (list_any (same_name n) ns) e in
    any_kept (not (same_name wild m)) n m (others wild ns) k.0 (any_others wild ns n k.1)

kept_more : (b : Bool) (ms : List Sym) (n : Sym) → IsDistinct same_name ms → list_any (same_name n) ms ≡ false → IsDistinct same_name (ms ++ cond b (n ∷ []) [])
kept_more true ms n h e = distinct_more ms n h e
kept_more false ms n h e = subst (λ (ks : List Sym). IsDistinct same_name ks) (sym (append-nil ms)) h

pub others_more : (wild : Sym) (ns : List Sym) (n : Sym) → IsDistinct same_name (others wild ns) → list_any (same_name n) ns ≡ false → IsDistinct same_name (others wild (ns ++ (n ∷ [])))
others_more wild ns n h e = subst (λ (ks : List Sym). IsDistinct same_name ks) (sym (filter-append (λ x. not (same_name wild x)) ns (n ∷ []))) (kept_more (not (same_name wild n)) (others wild ns) n h (any_others wild ns n e))

pub others_wild : (wild : Sym) (ns : List Sym) (n : Sym) → n.0 ≡ wild.0 → IsDistinct same_name (others wild ns) → IsDistinct same_name (others wild (ns ++ (n ∷ [])))
others_wild wild ns n e h =
    subst (λ (ks : List Sym). IsDistinct same_name ks)
    (sym (filter-append (λ x. not (same_name wild x)) ns (n ∷ []) ∙ ap (λ (b : Bool). others wild ns ++ cond (not b) (n ∷ []) []) (eq-eqb wild.0 n.0 (sym e)) ∙ append-nil (others wild ns))) h
