-- What each action makes of proper values is proper, and weighs no more than they.
use Rattle.std.proofs.Common.{◌≡◌, ℕ, suc, ◌+◌, ◌≤◌, List, [], ◌∷◌, ◌++◌, length, Bool, true, false, not, Option, Some, None, refl, sym, ap, ◌∙◌, subst, arith}
use Rattle.std.specs.List.{IsDistinct, list_any}
use Rattle.ath_sorts.specs.declared.sorts.Sym.{Sym}
use Rattle.ath_syntax.specs.Fits.{most}
use Rattle.ath_syntax.specs.Proper.{Proper, ProperPhrases, ProperBindings, ProperClauses, ProperBranches, IsOfKind, phrases_count, bindings_count, clauses_count, clauses_patterns, branches_count, bound_kind}
use Rattle.ath_syntax.specs.declared.node.SortText.{SortText}
use Rattle.ath_syntax.specs.Size.{pattern_size, patterns_size}
use Rattle.ath_syntax.specs.Tree.{Pattern, Phrase, Bindings, Clauses, no_clauses, Branches, no_branches, is_deduction, phrases_deduce, clauses_deduce, branches_deduce, same_name, bound_names}
use Rattle.ath_grammar.specs.declared.lexeme.Lexeme.TheVariants as L
use Rattle.ath_grammar.specs.declared.action.Action.{Action}
use Rattle.ath_grammar.specs.declared.action.Action.TheVariants as A
use Rattle.ath_grammar.specs.declared.action.Guard.{Guard}
use Rattle.ath_grammar.specs.declared.action.Guard.TheVariants.{Free, New}
use Rattle.ath_grammar.specs.declared.item.Want.{Want}
use Rattle.ath_grammar.specs.declared.item.Want.TheVariants.{Any, Only}
use Rattle.ath_grammar.specs.Tokens.{Placed, at, class_of}
use Rattle.ath_grammar.specs.Known.{IsKnown}
use Rattle.ath_grammar.specs.Tables.{same_kind, fits, bound, after}
use Rattle.ath_grammar.specs.Trees as V
use Rattle.ath_grammar.specs.Trees.{Value, act_on, saved, may_stand, name_in, names_in, pattern_in, patterns_in, phrase_in, phrases_in, bindings_in, clauses_in, branches_in, binders_in, v1, v2, v3, rest, add_phrase, add_binding, add_clause, add_branch, add_pattern}
use Rattle.ath_grammar.proofs.ProperTypes.{plain, thing, fresh, wild, a_pattern, a_phrase, closure, phrases, some_phrases, unbound, added, bindings, closures, some_closures, unmatched, clauses, unchecked, branches, Tys, size, weight, wanted_kind, others, Fits, All, Effect, effects, saves, E, D}
use Rattle.ath_grammar.proofs.Added.{phrases_more, phrases_proper, phrases_kind, bindings_more, bindings_proper, closures_proper, names_more, last_kind, clauses_more, clauses_proper, clauses_kind, clauses_size, branches_more, branches_proper, branches_kind, patterns_proper, patterns_size_more, distinct_more, others_more, others_wild}

sum1 : (vs : List Value) → weight vs ≡ size (v1 vs) + weight (rest vs)
sum1 [] = refl
sum1 (v ∷ vs) = refl

-- with so many of the newest away
down1 : (vs : List Value) (n : ℕ) → n ≤ size (v1 vs) → n + weight (rest vs) ≤ weight vs
down1 vs n h = omega (arith, h, sum1 vs)

down2 : (vs : List Value) (n : ℕ) → n ≤ size (v1 vs) + size (v1 (rest vs)) → n + weight (rest (rest vs)) ≤ weight vs
down2 vs n h = omega (arith, h, sum1 vs, sum1 (rest vs))

down3 : (vs : List Value) (n : ℕ) → n ≤ size (v1 vs) + size (v1 (rest vs)) + size (v1 (rest (rest vs))) → n + weight (rest (rest (rest vs))) ≤ weight vs
down3 vs n h = omega (arith, h, sum1 vs, sum1 (rest vs), sum1 (rest (rest vs)))

down4 : (vs : List Value) (n : ℕ) → n ≤ size (v1 vs) + size (v1 (rest vs)) + size (v1 (rest (rest vs))) + size (v1 (rest (rest (rest vs)))) → n + weight (rest (rest (rest (rest vs)))) ≤ weight vs
down4 vs n h = omega (arith, h, sum1 vs, sum1 (rest vs), sum1 (rest (rest vs)), sum1 (rest (rest (rest vs))))

-- no weight above these
none1 : (vs : List Value) → 0 + weight (rest vs) ≤ weight vs
none1 vs = down1 vs 0 (omega arith)

none2 : (vs : List Value) → 0 + weight (rest (rest vs)) ≤ weight vs
none2 vs = down2 vs 0 (omega arith)

none3 : (vs : List Value) → 0 + weight (rest (rest (rest vs))) ≤ weight vs
none3 vs = down3 vs 0 (omega arith)

none4 : (vs : List Value) → 0 + weight (rest (rest (rest (rest vs)))) ≤ weight vs
none4 vs = down4 vs 0 (omega arith)

none5 : (vs : List Value) → 0 + weight (rest (rest (rest (rest (rest vs))))) ≤ weight vs
none5 vs = omega (arith, none4 vs, sum1 (rest (rest (rest (rest vs)))))

no_more : (vs : List Value) → 0 + weight vs ≤ weight vs
no_more vs = omega arith

all2 : (vs : List Value) → size (v1 vs) + size (v1 (rest vs)) ≤ weight vs
all2 vs = omega (arith, sum1 vs, sum1 (rest vs))

all3 : (vs : List Value) → size (v1 vs) + size (v1 (rest vs)) + size (v1 (rest (rest vs))) ≤ weight vs
all3 vs = omega (arith, sum1 vs, sum1 (rest vs), sum1 (rest (rest vs)))

one_is : 1 ≤ 1
one_is = omega arith

itself : (n : ℕ) → n ≤ n
itself n = omega arith

kind_is : (j k : Bool) → same_kind j k ≡ true → k ≡ j
kind_is true k e = e
kind_is false true e = cc
kind_is false false e = refl

is_kind : (j k : Bool) → k ≡ j → same_kind j k ≡ true
is_kind true k e = e
is_kind false true e = cc
is_kind false false e = refl

length_more : {X : Type 0} (xs : List X) (x : X) → length (xs ++ (x ∷ [])) ≡ 1 + length xs
length_more [] x = refl
length_more (y ∷ xs) x = omega (arith, length_more xs x)

none_differ : (w : Sym) → IsDistinct same_name (others w [])
unfolding IsDistinct
none_differ w = tt

named_proper : (v : Value) → Proper (V.named v) × (is_deduction (V.named v) ≡ false)
named_proper (V.a_name p n) = (tt, refl)
named_proper _ = (tt, refl)

variable_proper : (s : Option SortText) (v : Value) → Proper (V.variable s v) × (is_deduction (V.variable s v) ≡ false)
variable_proper s (V.a_variable p x k) = (tt, refl)
variable_proper s _ = (tt, refl)

string_proper : (v : Value) → Proper (V.string v) × (is_deduction (V.string v) ≡ false)
string_proper (V.a_text p s) = (tt, refl)
string_proper _ = (tt, refl)

of_wanted : (w : Want) (x : Phrase) → fits w (Only (is_deduction x)) ≡ true → IsOfKind (wanted_kind w) x
of_wanted Any x e = tt
of_wanted (Only k) x e = kind_is k (is_deduction x) e

-- a binding more, by what the `let` may be then
bound_fits : (w : Want) (d : Bool) → fits (bound w) (Only d) ≡ true → d ≡ true → fits w (Only true) ≡ true
bound_fits Any d e q = refl
bound_fits (Only true) d e q = refl
bound_fits (Only false) true e q = cc
bound_fits (Only false) false e q = cc

binding_more : (w : Want) (bs : Bindings) (n : Sym) (x : Phrase) → Proper x → fits (bound w) (Only (is_deduction x)) ≡ true → ((d : Bool) → fits w (Only d) ≡ true → ProperBindings (bound_kind d) bs)
    → (d : Bool) → fits (after w (is_deduction x)) (Only d) ≡ true → ProperBindings (bound_kind d) (add_binding bs n x)
binding_more w bs n x p f h d e = go (is_deduction x) refl d e
  where
    go : (k : Bool) → is_deduction x ≡ k → (d : Bool) → fits (after w k) (Only d) ≡ true → ProperBindings (bound_kind d) (add_binding bs n x)
    go true q true r = bindings_proper None bs n x (h true (bound_fits w (is_deduction x) f q)) tt p
    go true q false r = cc
    go false q true r = bindings_proper None bs n x (h true r) tt p
    go false q false r = bindings_proper (Some false) bs n x (h false r) q p

first_clause : (cs : Clauses) (l : Pattern) (x : Phrase) → cs ≡ no_clauses → add_clause cs l x ≡ add_clause no_clauses l x
first_clause cs l x e = ap (λ (c : Clauses). add_clause c l x) e

first_branch : (bs : Branches) (c x : Phrase) → bs ≡ no_branches → add_branch bs c x ≡ add_branch no_branches c x
first_branch bs c x e = ap (λ (b : Branches). add_branch b c x) e

abbrev pub Each : (Effect → Type 0) → List Effect → Type 0
Each P [] = Unit {0}
Each P (f ∷ fs) = P f × Each P fs

module _ (w₀ : Sym) where
  abbrev pub Does : Action → Tys → Tys → Type 0
  Does x σ ρ = (τ : Tys) (vs : List Value) → All w₀ (σ ++ τ) vs → weight vs ≤ suc most → All w₀ (ρ ++ τ) (act_on x vs) × (weight (act_on x vs) ≤ weight vs)

  -- a phrase that was made
  phrase_made : (w : Want) (x : Phrase) (us : List Value) → Proper x → fits w (Only (is_deduction x)) ≡ true → Fits w₀ (a_phrase w) (V.a_phrase x) us
  phrase_made w x us p f = (one_is, p, f, refl)

  expression_made : (x : Phrase) (us : List Value) → Proper x → is_deduction x ≡ false → Fits w₀ (a_phrase E) (V.a_phrase x) us
  expression_made x us p f = phrase_made E x us p (is_kind false (is_deduction x) f)

  one_phrase : (w : Want) → Does A.OnePhrase (a_phrase w ∷ []) (some_phrases w ∷ [])
  one_phrase w τ vs h e = (((one_is, one_is, (refl, h.0.1, tt), h.0.2, refl), h.1), down1 vs 1 h.0.0)

  some_more : (k : Bool) → Does A.AddPhrase (a_phrase (Only k) ∷ some_phrases (Only k) ∷ []) (some_phrases (Only k) ∷ [])
  some_more k τ vs h e =
      let xs = phrases_in (v2 vs) in
      let x = phrase_in (v1 vs) in
      let q = phrases_kind xs x h.1.0.1 in
      let kx = kind_is k (is_deduction x) h.0.2 in
      let ks = kind_is k (phrases_deduce xs) h.1.0.3 in (
        (
          (
            itself _,
            omega (arith, phrases_more xs x),
            subst (λ (b : Bool). ProperPhrases (Some b) (add_phrase xs x)) (sym q) (phrases_proper (Some (phrases_deduce xs)) xs x h.1.0.2 (kx ∙ sym ks) h.0.1),
            subst (λ (b : Bool). fits (Only k) (Only b) ≡ true) (sym q) h.1.0.3,
            refl,
          ),
          h.1.1,
        ),
        down2 vs (phrases_count (add_phrase xs x)) (omega (arith, phrases_more xs x, h.0.0, h.1.0.0)),
      )

  all_more : (w : Want) → Does A.AddPhrase (a_phrase w ∷ phrases w ∷ []) (phrases w ∷ [])
  all_more w τ vs h e =
      let xs = phrases_in (v2 vs) in
      let x = phrase_in (v1 vs) in
      (((itself _, phrases_proper (wanted_kind w) xs x h.1.0.1 (of_wanted w x h.0.2) h.0.1), h.1.1), down2 vs (phrases_count (add_phrase xs x)) (omega (arith, phrases_more xs x, h.0.0, h.1.0.0)))

  unwrapped : (w : Want) → Does A.Unwrap (a_phrase w ∷ plain ∷ []) (a_phrase w ∷ [])
  unwrapped w τ vs h e = ((phrase_made w (phrase_in (v1 vs)) (rest (rest vs)) h.0.1 h.0.2, h.1.1), down2 vs 1 (omega (arith, h.0.0)))

  first_bound : (w : Want) → Does A.AddBinding (a_phrase (bound w) ∷ thing ∷ unbound ∷ []) (added w ∷ [])
  first_bound w τ vs h e =
      let bs = bindings_in (v3 vs) in
      let n = name_in (v2 vs) in
      let x = phrase_in (v1 vs) in
      let q = last_kind false bs n x in
      let none = subst (λ (b : Bindings). (d : Bool) → fits w (Only d) ≡ true → ProperBindings (bound_kind d) b) (sym h.1.1.0.0) (λ d f. tt) in (
        (
          (
            itself _,
            omega (arith, bindings_more bs n x),
            (λ r. bound_fits w (is_deduction x) h.0.2 (sym q ∙ r)),
            (λ d f. binding_more w bs n x h.0.1 h.0.2 none d (subst (λ (b : Bool). fits (after w b) (Only d) ≡ true) q f)),
          ),
          h.1.1.1,
        ),
        down3 vs (bindings_count (add_binding bs n x) + bindings_count (add_binding bs n x)) (omega (arith, bindings_more bs n x, ap (λ (b : Bindings). bindings_count b) h.1.1.0.0, h.0.0, h.1.0)),
      )

  more_bound : (w : Want) → Does A.AddBinding (a_phrase (bound w) ∷ thing ∷ bindings w ∷ []) (added w ∷ [])
  more_bound w τ vs h e =
      let bs = bindings_in (v3 vs) in
      let n = name_in (v2 vs) in
      let x = phrase_in (v1 vs) in
      let q = last_kind false bs n x in (
        (
          (
            itself _,
            omega (arith, bindings_more bs n x),
            (λ r. bound_fits w (is_deduction x) h.0.2 (sym q ∙ r)),
            (λ d f. binding_more w bs n x h.0.1 h.0.2 h.1.1.0.2 d (subst (λ (b : Bool). fits (after w b) (Only d) ≡ true) q f)),
          ),
          h.1.1.1,
        ),
        down3 vs (bindings_count (add_binding bs n x) + bindings_count (add_binding bs n x)) (omega (arith, bindings_more bs n x, h.0.0, h.1.0, h.1.1.0.0)),
      )

  closure_more : Does A.AddBinding (closure ∷ fresh ∷ closures ∷ []) (some_closures ∷ [])
  closure_more τ vs h e =
      let bs = bindings_in (v3 vs) in
      let n = name_in (v2 vs) in
      let x = phrase_in (v1 vs) in (
        (
          (
            itself _,
            refl,
            closures_proper bs n x h.1.1.0.2 h.0.4 h.0.1,
            subst (λ (ns : List Sym). IsDistinct same_name ns) (sym (names_more bs n x)) (distinct_more (bound_names bs) n h.1.1.0.3 (subst (λ (ns : List Sym). list_any (same_name n) ns ≡ false) h.1.1.0.1 h.1.0.1)),
            omega (arith, bindings_more bs n x),
          ),
          h.1.1.1,
        ),
        down3 vs (bindings_count (add_binding bs n x) + bindings_count (add_binding bs n x)) (omega (arith, bindings_more bs n x, h.0.0, h.1.0.0, h.1.1.0.0)),
      )

  let_made : (w : Want) → Does A.Let (a_phrase w ∷ bindings w ∷ thing ∷ []) (a_phrase w ∷ [])
  let_made w τ vs h e = (((one_is, (h.0.1, h.1.0.1, h.1.0.2 (is_deduction (phrase_in (v1 vs))) h.0.2, omega (arith, h.0.0, h.1.0.0, h.1.1.0, e, all3 vs)), h.0.2, refl), h.1.1.1), down3 vs 1 (omega (arith, h.0.0)))

  letrec_made : (w : Want) → Does A.LetRec (a_phrase w ∷ some_closures ∷ thing ∷ []) (a_phrase w ∷ [])
  letrec_made w τ vs h e = (((one_is, (h.0.1, h.1.0.4, h.1.0.2, h.1.0.3, omega (arith, h.0.0, h.1.0.0, h.1.1.0, e, all3 vs)), h.0.2, refl), h.1.1.1), down3 vs 1 (omega (arith, h.0.0)))

  clause_more : (k : Bool) → Does A.AddClause (a_phrase (Only k) ∷ a_pattern ∷ clauses (Only k) ∷ []) (clauses (Only k) ∷ [])
  clause_more k τ vs h e =
      let cs = clauses_in (v3 vs) in
      let l = pattern_in (v2 vs) in
      let x = phrase_in (v1 vs) in
      let q = clauses_kind cs l x h.1.1.0.1 in
      let kx = kind_is k (is_deduction x) h.0.2 in
      let ks = kind_is k (clauses_deduce cs) h.1.1.0.3 in (
        (
          (
            itself _,
            omega (arith, clauses_more cs l x),
            subst (λ (b : Bool). ProperClauses b (add_clause cs l x)) (sym q) (clauses_proper (clauses_deduce cs) cs l x h.1.1.0.2 h.1.0.0 (kx ∙ sym ks) h.0.1),
            subst (λ (b : Bool). fits (Only k) (Only b) ≡ true) (sym q) h.1.1.0.3,
            refl,
          ),
          h.1.1.1,
        ),
        down3 vs (clauses_count (add_clause cs l x) + patterns_size (clauses_patterns (add_clause cs l x))) (omega (arith, clauses_more cs l x, clauses_size cs l x, h.0.0, h.1.0.1, h.1.1.0.0)),
      )

  clause_first : (w : Want) → Does A.AddClause (a_phrase w ∷ a_pattern ∷ unmatched ∷ []) (clauses w ∷ [])
  clause_first w τ vs h e =
      let cs = clauses_in (v3 vs) in
      let l = pattern_in (v2 vs) in
      let x = phrase_in (v1 vs) in
      let q = first_clause cs l x h.1.1.0 in (
        (subst (λ (c : Clauses). Fits w₀ (clauses w) (V.clauses c) (rest (rest (rest vs)))) (sym q) (itself _, one_is, (h.1.0.0, refl, h.0.1, tt), h.0.2, refl), h.1.1.1),
        down3 vs (clauses_count (add_clause cs l x) + patterns_size (clauses_patterns (add_clause cs l x)))
            (omega (arith, clauses_more cs l x, clauses_size cs l x, ap (λ (c : Clauses). clauses_count c) h.1.1.0, ap (λ (c : Clauses). patterns_size (clauses_patterns c)) h.1.1.0, h.0.0, h.1.0.1)),
      )

  match_made : (w : Want) → Does A.Match (clauses w ∷ a_phrase E ∷ thing ∷ []) (a_phrase w ∷ [])
  match_made w τ vs h e = (((one_is, (kind_is false _ h.1.0.2, h.1.0.1, h.0.1, h.0.2, omega (arith, h.0.0, h.1.0.0, h.1.1.0, e, all3 vs)), h.0.3, refl), h.1.1.1), down3 vs 1 (omega (arith, h.1.0.0)))

  branch_more : (k : Bool) → Does A.AddBranch (a_phrase (Only k) ∷ a_phrase E ∷ branches (Only k) ∷ []) (branches (Only k) ∷ [])
  branch_more k τ vs h e =
      let bs = branches_in (v3 vs) in
      let c = phrase_in (v2 vs) in
      let x = phrase_in (v1 vs) in
      let q = branches_kind bs c x h.1.1.0.1 in
      let kx = kind_is k (is_deduction x) h.0.2 in
      let ks = kind_is k (branches_deduce bs) h.1.1.0.3 in (
        (
          (
            itself _,
            omega (arith, branches_more bs c x),
            subst (λ (b : Bool). ProperBranches b (add_branch bs c x)) (sym q) (branches_proper (branches_deduce bs) bs c x h.1.1.0.2 (kind_is false (is_deduction c) h.1.0.2) h.1.0.1 (kx ∙ sym ks) h.0.1),
            subst (λ (b : Bool). fits (Only k) (Only b) ≡ true) (sym q) h.1.1.0.3,
            refl,
          ),
          h.1.1.1,
        ),
        down3 vs (branches_count (add_branch bs c x) + branches_count (add_branch bs c x)) (omega (arith, branches_more bs c x, h.0.0, h.1.0.0, h.1.1.0.0)),
      )

  branch_first : (w : Want) → Does A.AddBranch (a_phrase w ∷ a_phrase E ∷ unchecked ∷ []) (branches w ∷ [])
  branch_first w τ vs h e =
      let bs = branches_in (v3 vs) in
      let c = phrase_in (v2 vs) in
      let x = phrase_in (v1 vs) in
      let q = first_branch bs c x h.1.1.0 in (
        (subst (λ (b : Branches). Fits w₀ (branches w) (V.branches b) (rest (rest (rest vs)))) (sym q) (itself _, one_is, (kind_is false (is_deduction c) h.1.0.2, h.1.0.1, refl, h.0.1, tt), h.0.2, refl), h.1.1.1),
        down3 vs (branches_count (add_branch bs c x) + branches_count (add_branch bs c x)) (omega (arith, branches_more bs c x, ap (λ (b : Branches). branches_count b) h.1.1.0, h.0.0, h.1.0.0)),
      )

  check_made : (w : Want) → Does A.Check (branches w ∷ thing ∷ []) (a_phrase w ∷ [])
  check_made w τ vs h e = (((one_is, (h.0.1, h.0.2, tt, omega (arith, h.0.0, h.1.0, e, all2 vs)), h.0.3, refl), h.1.1), down2 vs 1 (omega (arith, h.1.0)))

  else_made : (k : Bool) → Does A.CheckElse (a_phrase (Only k) ∷ branches (Only k) ∷ thing ∷ []) (a_phrase (Only k) ∷ [])
  else_made k τ vs h e =
      let kx = kind_is k (is_deduction (phrase_in (v1 vs))) h.0.2 in
      let ks = kind_is k (branches_deduce (branches_in (v2 vs))) h.1.0.3 in
      (((one_is, (h.1.0.1, h.1.0.2, (kx ∙ sym ks, h.0.1), omega (arith, h.0.0, h.1.0.0, h.1.1.0, e, all3 vs)), h.1.0.3, refl), h.1.1.1), down3 vs 1 (omega (arith, h.0.0)))

  try_made : (w : Want) → Does A.Try (some_phrases w ∷ thing ∷ []) (a_phrase w ∷ [])
  try_made w τ vs h e = (((one_is, (h.0.1, h.0.2, omega (arith, h.0.0, h.1.0, e, all2 vs)), h.0.3, refl), h.1.1), down2 vs 1 (omega (arith, h.1.0)))

  pub do_all : (x : Action) → Each (λ f. Does x f.takes f.leaves) (effects x)
  do_all A.Drop = (λ τ vs h e. (h.1, omega (arith, sum1 vs)), tt)
  do_all A.Again = tt
  do_all A.NoSorts = (λ τ vs h e. ((tt, h), no_more vs), tt)
  do_all A.NoConstructors = (λ τ vs h e. ((tt, h), no_more vs), tt)
  do_all A.NoParameters = (λ τ vs h e. ((tt, h), no_more vs), tt)
  do_all A.AddSort = (λ τ vs h e. ((tt, h.1.1), none2 vs), tt)
  do_all A.NameSort = (λ τ vs h e. ((tt, h.1), none1 vs), tt)
  do_all A.VariableSort = (λ τ vs h e. ((tt, h.1), none1 vs), tt)
  do_all A.ConSort = (λ τ vs h e. ((tt, h.1.1.1), none3 vs), tt)
  do_all A.NoPatterns = (λ τ vs h e. (((tt, itself 0), h), no_more vs), tt)
  do_all A.AddPattern = (λ τ vs h e. (((patterns_proper (patterns_in (v2 vs)) (pattern_in (v1 vs)) h.1.0.0 h.0.0, itself _), h.1.1), down2 vs (patterns_size (add_pattern (patterns_in (v2 vs)) (pattern_in (v1 vs)))) (omega (arith, patterns_size_more (patterns_in (v2 vs)) (pattern_in (v1 vs)), h.0.1, h.1.0.1))), tt)
  do_all A.AnyPattern = (λ τ vs h e. (((tt, one_is), h.1), down1 vs 1 h.0), tt)
  do_all A.NamePattern = (λ τ vs h e. (((tt, one_is), h.1), down1 vs 1 h.0), tt)
  do_all A.StringPattern = (λ τ vs h e. (((tt, one_is), h.1), down1 vs 1 h.0), tt)
  do_all A.ListPattern = (λ τ vs h e. (((h.0.0, itself _), h.1.1), down2 vs (1 + patterns_size (patterns_in (v1 vs))) (omega (arith, h.0.1, h.1.0))), tt)
  do_all A.ListOfPattern = (λ τ vs h e. ((((h.1.0.0, h.0.0), itself _), h.1.1.1), down3 vs (1 + pattern_size (pattern_in (v2 vs)) + pattern_size (pattern_in (v1 vs))) (omega (arith, h.0.1, h.1.0.1, h.1.1.0))), tt)
  do_all A.SomePattern = (λ τ vs h e. (((h.1.0.1, itself 3), h.1.1.1), down3 vs 3 (omega (arith, h.0, h.1.0.0, h.1.1.0))), tt)
  do_all A.AppPattern = (λ τ vs h e. (((h.0.0, itself _), h.1.1.1), down3 vs (2 + patterns_size (patterns_in (v1 vs))) (omega (arith, h.0.1, h.1.0, h.1.1.0))), tt)
  do_all A.NoNames = (λ τ vs h e. (((itself 0, refl, none_differ w₀), h), no_more vs), tt)
  do_all A.OneName = (λ τ vs h e. ((one_is, h.1), down1 vs 1 h.0), tt)
  do_all A.AddName = (
    λ τ vs h e. (((itself _, refl, others_more w₀ (names_in (v2 vs)) (name_in (v1 vs)) h.1.0.2 (subst (λ (ns : List Sym). list_any (same_name (name_in (v1 vs))) ns ≡ false) h.1.0.1 h.0.1)), h.1.1), down2 vs (length (names_in (v2 vs) ++ (name_in (v1 vs) ∷ []))) (omega (arith, length_more (names_in (v2 vs)) (name_in (v1 vs)), h.0.0, h.1.0.0))),
    (
      λ τ vs h e. (((itself _, refl, others_wild w₀ (names_in (v2 vs)) (name_in (v1 vs)) h.0.1 h.1.0.2), h.1.1), down2 vs (length (names_in (v2 vs) ++ (name_in (v1 vs) ∷ []))) (omega (arith, length_more (names_in (v2 vs)) (name_in (v1 vs)), h.0.0, h.1.0.0))),
      (
        λ τ vs h e. ((itself _, h.1.1), down2 vs (length (names_in (v2 vs) ++ (name_in (v1 vs) ∷ []))) (omega (arith, length_more (names_in (v2 vs)) (name_in (v1 vs)), h.0, h.1.0))),
        tt,
      ),
    ),
  )
  do_all A.Name = (λ τ vs h e. ((expression_made (V.named (v1 vs)) (rest vs) (named_proper (v1 vs)).0 (named_proper (v1 vs)).1, h.1), down1 vs 1 h.0), tt)
  do_all A.Variable = (λ τ vs h e. ((expression_made (V.variable None (v1 vs)) (rest vs) (variable_proper None (v1 vs)).0 (variable_proper None (v1 vs)).1, h.1), down1 vs 1 h.0), tt)
  do_all A.SortedVariable = (λ τ vs h e. (let s = Some (V.sort_in (v1 vs)) in ((expression_made (V.variable s (v2 vs)) (rest (rest vs)) (variable_proper s (v2 vs)).0 (variable_proper s (v2 vs)).1, h.1.1), down2 vs 1 (omega (arith, h.1.0)))), tt)
  do_all A.String = (λ τ vs h e. ((expression_made (V.string (v1 vs)) (rest vs) (string_proper (v1 vs)).0 (string_proper (v1 vs)).1, h.1), down1 vs 1 h.0), tt)
  do_all A.NoPhrases = (λ τ vs h e. (((itself 0, tt), h), no_more vs), tt)
  do_all A.OnePhrase = (one_phrase E, (one_phrase D, (one_phrase Any, tt)))
  do_all A.AddPhrase = (some_more false, (some_more true, (all_more E, (all_more D, (all_more Any, tt)))))
  do_all A.List = (λ τ vs h e. (((one_is, (h.0.1, omega (arith, h.0.0, h.1.0, e, all2 vs)), refl, refl), h.1.1), down2 vs 1 (omega (arith, h.1.0))), tt)
  do_all A.Unwrap = (λ τ vs h e. (((one_is, h.0.1, h.0.2, refl, h.0.4), h.1.1), down2 vs 1 (omega (arith, h.0.0))), (unwrapped E, (unwrapped D, (unwrapped Any, tt))))
  do_all A.Ascribe = (λ τ vs h e. (((one_is, (kind_is false _ h.1.0.2, h.1.0.1), refl, refl), h.1.1.1), down3 vs 1 (omega (arith, h.1.0.0))), tt)
  do_all A.Apply = (λ τ vs h e. (((one_is, (kind_is false _ h.1.0.2, h.1.0.1, h.0.1, omega (arith, h.0.0, h.1.0.0, h.1.1.0, e, all3 vs)), refl, refl), h.1.1.1), down3 vs 1 (omega (arith, h.1.0.0))), tt)
  do_all A.Call = (λ τ vs h e. (((one_is, (kind_is false _ h.1.0.2, h.1.0.1, h.0.1, omega (arith, h.0.0, h.1.0.0, h.1.1.0, e, all3 vs)), refl, refl), h.1.1.1), down3 vs 1 (omega (arith, h.1.0.0))), tt)
  do_all A.Lambda = (λ τ vs h e. (((one_is, (record { wild = w₀; others = h.1.0.2 }, kind_is false _ h.0.2, h.0.1, omega (arith, h.0.0, h.1.0.0, h.1.1.0, e, all3 vs)), refl, refl, refl), h.1.1.1), down3 vs 1 (omega (arith, h.0.0))), tt)
  do_all A.Method = (λ τ vs h e. (((one_is, (record { wild = w₀; others = h.1.0.2 }, kind_is true _ h.0.2, h.0.1, omega (arith, h.0.0, h.1.0.0, h.1.1.0, e, all3 vs)), refl, refl, refl), h.1.1.1), down3 vs 1 (omega (arith, h.0.0))), tt)
  do_all A.NoBindings = (λ τ vs h e. (((refl, refl), h), no_more vs), tt)
  do_all A.AddBinding = (closure_more, (first_bound E, (more_bound E, (first_bound Any, (more_bound Any, (first_bound D, (more_bound D, tt)))))))
  do_all A.Let = (let_made E, (let_made D, (let_made Any, tt)))
  do_all A.LetRec = (letrec_made E, (letrec_made D, (letrec_made Any, tt)))
  do_all A.NoClauses = (λ τ vs h e. ((refl, h), no_more vs), tt)
  do_all A.AddClause = (clause_more false, (clause_more true, (clause_first E, (clause_first D, (clause_first Any, tt)))))
  do_all A.Match = (match_made E, (match_made D, (match_made Any, tt)))
  do_all A.Induct = (λ τ vs h e. (((one_is, (kind_is false _ h.1.0.2, h.1.0.1, h.0.1, subst (λ (b : Bool). ProperClauses b (clauses_in (v1 vs))) (kind_is true _ h.0.3) h.0.2, omega (arith, h.0.0, h.1.0.0, h.1.1.0, e, all3 vs)), refl, refl), h.1.1.1), down3 vs 1 (omega (arith, h.1.0.0))), tt)
  do_all A.Cases = (λ τ vs h e. (((one_is, (kind_is false _ h.1.0.2, h.1.0.1, h.0.1, subst (λ (b : Bool). ProperClauses b (clauses_in (v1 vs))) (kind_is true _ h.0.3) h.0.2, omega (arith, h.0.0, h.1.0.0, h.1.1.0, e, all3 vs)), refl, refl), h.1.1.1), down3 vs 1 (omega (arith, h.1.0.0))), tt)
  do_all A.NoBranches = (λ τ vs h e. ((refl, h), no_more vs), tt)
  do_all A.AddBranch = (branch_more false, (branch_more true, (branch_first E, (branch_first D, (branch_first Any, tt)))))
  do_all A.Check = (check_made E, (check_made D, (check_made Any, tt)))
  do_all A.CheckElse = (else_made false, (else_made true, tt))
  do_all A.Try = (try_made E, (try_made D, (try_made Any, tt)))
  do_all A.Sequence = (λ τ vs h e. (((one_is, (h.0.1, subst (λ (b : Bool). ProperPhrases (Some b) (phrases_in (v1 vs))) (kind_is true _ h.0.3) h.0.2, omega (arith, h.0.0, h.1.0, e, all2 vs)), refl, refl), h.1.1), down2 vs 1 (omega (arith, h.1.0))), tt)
  do_all A.Named = (λ τ vs h e. ((tt, h.1), none1 vs), tt)
  do_all A.Unnamed = (λ τ vs h e. ((h.0, (tt, h.1)), omega (arith, sum1 vs)), tt)
  do_all A.Assume = (λ τ vs h e. (((one_is, (kind_is false _ h.1.0.2, h.1.0.1, kind_is true _ h.0.2, h.0.1), refl, refl), h.1.1.1.1), down4 vs 1 (omega (arith, h.0.0))), tt)
  do_all A.Absurd = (λ τ vs h e. (((one_is, (kind_is false _ h.1.0.2, h.1.0.1, kind_is true _ h.0.2, h.0.1), refl, refl), h.1.1.1.1), down4 vs 1 (omega (arith, h.0.0))), tt)
  do_all A.Conclude = (λ τ vs h e. (((one_is, (kind_is false _ h.1.0.2, h.1.0.1, kind_is true _ h.0.2, h.0.1), refl, refl), h.1.1.1.1), down4 vs 1 (omega (arith, h.0.0))), tt)
  do_all A.NoBinders = (λ τ vs h e. ((itself 0, h), no_more vs), tt)
  do_all A.AddBinder = (
    λ τ vs h e. ((h.0, (itself _, h.1.1.1)), omega (arith, length_more (binders_in (v3 vs)) (name_in (v2 vs), None), h.1.0, h.1.1.0, sum1 vs, sum1 (rest vs), sum1 (rest (rest vs)))),
    (
      λ τ vs h e. ((h.0, (itself _, h.1.1.1)), omega (arith, length_more (binders_in (v3 vs)) (name_in (v2 vs), None), h.1.0, h.1.1.0, sum1 vs, sum1 (rest vs), sum1 (rest (rest vs)))),
      tt,
    ),
  )
  do_all A.AddSortedBinder = (λ τ vs h e. ((itself _, h.1.1.1), down3 vs (length (binders_in (v3 vs) ++ ((name_in (v2 vs), Some (V.sort_in (v1 vs))) ∷ []))) (omega (arith, length_more (binders_in (v3 vs)) (name_in (v2 vs), Some (V.sort_in (v1 vs))), h.1.0, h.1.1.0))), tt)
  do_all A.PickAny = (λ τ vs h e. (((one_is, (kind_is true _ h.0.2, h.0.1, omega (arith, h.0.0, h.1.0, h.1.1.0, e, all3 vs)), refl, refl), h.1.1.1), down3 vs 1 (omega (arith, h.0.0))), tt)
  do_all A.PickWitness = (λ τ vs h e. (((one_is, (h.1.0.1, kind_is true _ h.0.2, h.0.1), refl, refl), h.1.1.1.1), down4 vs 1 (omega (arith, h.0.0))), tt)
  do_all A.Domain = (λ τ vs h e. ((tt, h.1.1.1), none3 vs), tt)
  do_all A.AddConstructor = (λ τ vs h e. ((tt, h.1.1.1), none3 vs), tt)
  do_all A.Datatype = (λ τ vs h e. ((tt, h.1.1.1.1), none4 vs), tt)
  do_all A.Parameters = (λ τ vs h e. ((tt, h.1.1.1), none3 vs), tt)
  do_all A.NoArguments = (λ τ vs h e. ((tt, (tt, h.1)), omega (arith, sum1 vs)), tt)
  do_all A.Declare = (λ τ vs h e. ((tt, h.1.1.1.1.1), none5 vs), tt)
  do_all A.Define = (λ τ vs h e. ((h.0.1, h.1.1.1), none3 vs), tt)
  do_all A.DefineFun = (λ τ vs h e. ((h.0.1, h.1.1.1.1), none4 vs), tt)
  do_all A.Assert = (λ τ vs h e. (((kind_is false _ h.0.2, h.0.1), h.1.1.1), none3 vs), tt)
  do_all A.AssertClosed = (λ τ vs h e. (((kind_is false _ h.0.2, h.0.1), h.1.1.1), none3 vs), tt)
  do_all A.Load = (λ τ vs h e. ((tt, h.1.1), none2 vs), tt)
  do_all A.Say = (λ τ vs h e. ((h.0.1, h.1), none1 vs), tt)
  do_all A.SayAt = (λ τ vs h e. ((h.0.1, h.1.1), none2 vs), tt)

  not_true : (b : Bool) → not b ≡ true → b ≡ false
  not_true true e = cc
  not_true false e = refl

  pub saves_on : (g : Guard) (t : Placed) (vs : List Value) (σ : Tys) → may_stand g t vs ≡ true → IsKnown w₀ t → All w₀ σ vs → All w₀ (saves g (class_of t) ++ σ) (saved t vs)
  saves_on Free (at p (L.Word w n)) vs σ e k h = (one_is, h)
  saves_on New (at p (L.Word w n)) vs σ e k h = ((one_is, not_true _ e), h)
  saves_on g (at p (L.Wild n)) vs σ e k h = ((one_is, k), h)
  saves_on g (at p (L.SomeOf n)) vs σ e k h = ((one_is, k), h)
  saves_on g (at p (L.Variable x i)) vs σ e k h = (one_is, h)
  saves_on Free (at p (L.SortVariable n)) vs σ e k h = (one_is, h)
  saves_on New (at p (L.SortVariable n)) vs σ e k h = ((one_is, not_true _ e), h)
  saves_on g (at p (L.Text s)) vs σ e k h = (one_is, h)
  saves_on g (at p (L.Opener o)) vs σ e k h = (one_is, h)
  saves_on g (at p (L.Directive d)) vs σ e k h = (one_is, h)
  saves_on g (at p (L.Mark m)) vs σ e k h = h

pub saved_weight : (t : Placed) (vs : List Value) → weight (saved t vs) ≤ 1 + weight vs
saved_weight (at p (L.Word w n)) vs = omega arith
saved_weight (at p (L.Wild n)) vs = omega arith
saved_weight (at p (L.SomeOf n)) vs = omega arith
saved_weight (at p (L.Variable x k)) vs = omega arith
saved_weight (at p (L.SortVariable n)) vs = omega arith
saved_weight (at p (L.Text s)) vs = omega arith
saved_weight (at p (L.Opener o)) vs = omega arith
saved_weight (at p (L.Directive d)) vs = omega arith
saved_weight (at p (L.Mark m)) vs = omega arith
