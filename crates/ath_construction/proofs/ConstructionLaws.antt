-- What a construction answers, from what its steps answer.
use Rattle.std.proofs.Common.{◌≡◌, ℕ, ◌+◌, Bool, true, false, cond, List, [], ◌∷◌, ◌++◌, map, Some, ◌∙◌, ap, subst, inl, inr, arith}
use Rattle.std.specs.Prelude.{find, zip, filter, not, Result, Ok, Err, OnOk}
use Rattle.std.specs.List.{list_any, list_all, AllByRecursion}
use Rattle.ath_sorts.proofs.Bools.{and_parts}
use Rattle.ath_sorts.specs.declared.sorts.Sym.{Sym}
use Rattle.ath_sorts.specs.declared.sorts.SVar.{SVar}
use Rattle.ath_sorts.specs.declared.sorts.SVar.TheVariants.{Written}
use Rattle.ath_sorts.specs.declared.sorts.Sort.{Sort}
use Rattle.ath_sorts.specs.Signature.{Signature, boolean}
use Rattle.ath_sorts.specs.Sorts.{same_svar, image}
use Rattle.ath_sorts.specs.Validity.{IsValid}
use Rattle.ath_trees.specs.declared.node.Var.{Var as Variable}
use Rattle.ath_terms.specs.declared.measure.BuildError.{BuildError}
use Rattle.ath_terms.specs.declared.measure.BuildError.TheVariants.{SortClash, ArgCount, NotBoolean, TooLarge, TooDeep, SortTooLarge, Memory}
use Rattle.ath_trees.specs.Measure.{terms_size, terms_depth, sent_size, sent_depth, IsSmall}
use Rattle.ath_terms.specs.Kept.{IsListed}
use Rattle.ath_trees.specs.Tree.{Term, Terms, var, app, none, more, Sent, atom, equal, negated, joined, bound}
use Rattle.ath_trees.specs.WellSorted.{is_valid_sort, HasSort, var_has, app_has, HaveSorts, none_has, more_has, IsWellSorted, AreWellSorted}
use Rattle.ath_trees.specs.Variables.{is_namesake, same_var, with_var, with_vars, with_term, with_terms, with_sent, with_sents}
use Rattle.ath_construction.specs.Construction.{pair_after, pairs_from, variable_pairs}
use Rattle.ath_terms.specs.Limits.{Measure}
use Rattle.ath_construction.specs.Steps.{MatchSolved}
use Rattle.ath_terms.specs.Limits.{MatchMeasured}
use Rattle.ath_construction.proofs.Planned.{IsWithin, MatchRefused}
use Rattle.ath_trees.proofs.ValidSorts.{valid-var, valid_under, use_valid, symbol_good}
use Rattle.ath_construction.proofs.UnifierValid.{AreValid}

-- ---- answers
pub refused-solve : (pairs : List (Sort × Sort)) (m : (SVar → Sort) → Measure) (e : BuildError) → MatchSolved pairs (Err e) → MatchRefused pairs m e
refused-solve pairs m (SortClash a b) h = h
refused-solve pairs m SortTooLarge h = (h.0, record { unifier = h.1.0; above = inl h.1.1 })
refused-solve pairs m (TooLarge n) h = absurd h
refused-solve pairs m (TooDeep n) h = absurd h
refused-solve pairs m Memory h = tt
refused-solve pairs m (ArgCount a b) h = h
refused-solve pairs m (NotBoolean t) h = h

pub refused-measure : (pairs : List (Sort × Sort)) (m : (SVar → Sort) → Measure) (u : List (SVar × Sort)) (e : BuildError) → MatchSolved pairs (Ok u) → MatchMeasured (m (image u)) (Err e) → MatchRefused pairs m e
refused-measure pairs m u SortTooLarge s h = (u, record { unifier = s.0; above = inr h })
refused-measure pairs m u (TooLarge n) s h = (u, (record { unifier = s.0; images = s.1; sorts = h.0 }, h.1, h.2))
refused-measure pairs m u (TooDeep n) s h = (u, (record { unifier = s.0; images = s.1; sorts = h.0 }, h.1, h.2, h.3))
refused-measure pairs m u Memory s h = tt
refused-measure pairs m u (SortClash a b) s h = absurd h
refused-measure pairs m u (ArgCount a b) s h = h
refused-measure pairs m u (NotBoolean t) s h = h

pub within-measure : (pairs : List (Sort × Sort)) (m : Measure) (u : List (SVar × Sort)) (v : Unit {0}) → MatchSolved pairs (Ok u) → MatchMeasured m (Ok v) → IsWithin u pairs m
within-measure pairs m u v s h = record { allowed = record { unifier = s.0; images = s.1; sorts = h.0 }; nodes = h.1; levels = h.2 }

-- ---- valid sorts of terms and variables
pub zip-valid : (sig : Signature) (params : List Sym) (sorts : List Sort) → list_all (is_valid_sort sig) sorts ≡ true → (v : SVar) → is_valid_sort sig (image (zip (map (λ q. Written q) params) sorts) v) ≡ true
zip-valid sig [] sorts h v = valid-var sig v
zip-valid sig (p ∷ ps) [] h v = valid-var sig v
zip-valid sig (p ∷ ps) (s ∷ ss) h v =
    let q = and_parts (is_valid_sort sig s) (list_all (is_valid_sort sig) ss) h in
    by (same_svar (Written p) v) q.0 (zip-valid sig ps ss q.1 v)
  where
    by : (b : Bool) → is_valid_sort sig s ≡ true → is_valid_sort sig (image (zip (map (λ q. Written q) ps) ss) v) ≡ true → is_valid_sort sig (cond b s (image (zip (map (λ q. Written q) ps) ss) v)) ≡ true
    by true x y = x
    by false x y = y

pub has_sort-valid : (sig : Signature) (t : Term) (s : Sort) → IsValid sig → HasSort sig t s → is_valid_sort sig s ≡ true
has_sort-valid sig (var v) s valid (var_has p e) = ap (is_valid_sort sig) e ∙ p
has_sort-valid sig (app f sorts args) s valid (app_has d is l v h e) =
    let good = symbol_good sig f d valid is in
    ap (is_valid_sort sig) e ∙ valid_under sig (image (zip (map (λ q. Written q) d.params) sorts)) (zip-valid sig d.params sorts v) d.result (use_valid sig d.params d.result good.result_there)

abbrev pub AreVars : Signature → List Variable → Type 0
AreVars sig found = AllByRecursion (λ v. is_valid_sort sig v.sort ≡ true) found

vars-last : (sig : Signature) (found : List Variable) (v : Variable) → AreVars sig found → is_valid_sort sig v.sort ≡ true → AreVars sig (found ++ v ∷ [])
vars-last sig [] v h p = (p, tt)
vars-last sig (w ∷ found) v h p = (h.0, vars-last sig found v h.1 p)

var-valid : (sig : Signature) (found : List Variable) (v : Variable) → AreVars sig found → is_valid_sort sig v.sort ≡ true → AreVars sig (with_var found v)
var-valid sig found v h p = by (list_any (same_var v) found)
  where
    by : (b : Bool) → AreVars sig (cond b found (found ++ v ∷ []))
    by true = h
    by false = vars-last sig found v h p

vars-valid : (sig : Signature) (found vs : List Variable) → AreVars sig found → AreVars sig vs → AreVars sig (with_vars found vs)
vars-valid sig found [] h p = h
vars-valid sig found (v ∷ vs) h p = vars-valid sig (with_var found v) vs (var-valid sig found v h p.0) p.1

filter-valid : (sig : Signature) (q : Variable → Bool) (vs : List Variable) → AreVars sig vs → AreVars sig (filter q vs)
filter-valid sig q [] h = tt
filter-valid sig q (v ∷ vs) h = by (q v) (filter-valid sig q vs h.1)
  where
    by : (b : Bool) → AreVars sig (filter q vs) → AreVars sig (cond b (v ∷ filter q vs) (filter q vs))
    by true k = (h.0, k)
    by false k = k

mutual
  pub term_vars-valid : (sig : Signature) (found : List Variable) (t : Term) (s : Sort) → AreVars sig found → HasSort sig t s → AreVars sig (with_term found t)
  term_vars-valid sig found (var v) s h (var_has p e) = var-valid sig found v h p
  term_vars-valid sig found (app f sorts args) s h (app_has d is l v has e) = terms_vars-valid sig found args _ h has

  pub terms_vars-valid : (sig : Signature) (found : List Variable) (ts : Terms) (ss : List Sort) → AreVars sig found → HaveSorts sig ts ss → AreVars sig (with_terms found ts)
  terms_vars-valid sig found none [] h none_has = h
  terms_vars-valid sig found none (s ∷ ss) h b = elim b [ ]
  terms_vars-valid sig found (more t ts) [] h b = elim b [ ]
  terms_vars-valid sig found (more t ts) (s ∷ ss) h (more_has a b) = terms_vars-valid sig (with_term found t) ts ss (term_vars-valid sig found t s h a) b

pub sent_vars-valid : (sig : Signature) (found : List Variable) (p : Sent) → AreVars sig found → IsWellSorted sig p → AreVars sig (with_sent found p)
sent_vars-valid sig found (atom t) h w = term_vars-valid sig found t boolean h w
sent_vars-valid sig found (equal s t) h w = term_vars-valid sig (with_term found s) t w.0 (term_vars-valid sig found s w.0 h w.1.0) w.1.1
sent_vars-valid sig found (negated p) h w = sent_vars-valid sig found p h w
sent_vars-valid sig found (joined c p q) h w = sent_vars-valid sig (with_sent found p) q (sent_vars-valid sig found p h w.0) w.1
sent_vars-valid sig found (bound k v p) h w = vars-valid sig found (filter (λ w. not (same_var v w)) (with_sent [] p)) h (filter-valid sig (λ w. not (same_var v w)) (with_sent [] p) (sent_vars-valid sig [] p tt w.1))

pub sents_vars-valid : (sig : Signature) (found : List Variable) (ps : List Sent) → AreVars sig found → AreWellSorted sig ps → AreVars sig (with_sents found ps)
sents_vars-valid sig found [] h w = h
sents_vars-valid sig found (p ∷ ps) h w = sents_vars-valid sig (with_sent found p) ps (sent_vars-valid sig found p h w.0) w.1

pub append-valid : (sig : Signature) (xs ys : List (Sort × Sort)) → AreValid sig xs → AreValid sig ys → AreValid sig (xs ++ ys)
append-valid sig [] ys h k = k
append-valid sig (x ∷ xs) ys h k = (h.0, append-valid sig xs ys h.1 k)

pair-valid : (sig : Signature) (before : List Variable) (v : Variable) → AreVars sig before → is_valid_sort sig v.sort ≡ true → AreValid sig (pair_after (find (is_namesake v) before) v)
pair-valid sig [] v h p = tt
pair-valid sig (w ∷ before) v h p = by (is_namesake v w) (pair-valid sig before v h.1 p)
  where
    by : (b : Bool) → AreValid sig (pair_after (find (is_namesake v) before) v) → AreValid sig (pair_after (cond b (Some w) (find (is_namesake v) before)) v)
    by true k = ((h.0, p), tt)
    by false k = k

pairs-valid : (sig : Signature) (before vs : List Variable) → AreVars sig before → AreVars sig vs → AreValid sig (pairs_from before vs)
pairs-valid sig before [] h k = tt
pairs-valid sig before (v ∷ vs) h k = append-valid sig (pair_after (find (is_namesake v) before) v) (pairs_from (before ++ v ∷ []) vs) (pair-valid sig before v h k.0) (pairs-valid sig (before ++ v ∷ []) vs (vars-last sig before v h k.0) k.1)

pub variable_pairs-valid : (sig : Signature) (found : List Variable) → AreVars sig found → AreValid sig (variable_pairs found)
variable_pairs-valid sig found h = pairs-valid sig [] found tt h

-- ---- the parts of a measure
pub measured-is : (m n : Measure) (r : Result (Unit {0}) BuildError) → m ≡ n → MatchMeasured m r → MatchMeasured n r
measured-is m n r e h = subst (λ (x : Measure). MatchMeasured x r) e h

-- what the limits let through
pub listed-few : (s : Bool) (a b : ℕ) (ts : Terms) (r : Result (Unit {0}) BuildError) → MatchMeasured (record { small = s; nodes = a; levels = b }) r → a ≡ 1 + terms_size ts → b ≡ 1 + terms_depth ts → OnOk r (IsListed ts)
listed-few s a b ts (Ok u) h p q = let x = h.1 in let y = h.2 in record { nodes = omega arith; levels = omega arith }
listed-few s a b ts (Err e) h p q = tt

pub sent-few : (s : Bool) (a b : ℕ) (x : Sent) (r : Result (Unit {0}) BuildError) → MatchMeasured (record { small = s; nodes = a; levels = b }) r → a ≡ sent_size x → b ≡ sent_depth x → OnOk r (IsSmall x)
sent-few s a b x (Ok u) h p q = let v = h.1 in let w = h.2 in record { nodes = omega arith; levels = omega arith }
sent-few s a b x (Err e) h p q = tt
