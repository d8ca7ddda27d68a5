-- Conclusions have derivations, and what expressions give is well-sorted.
use Rattle.std.proofs.Common.{◌≡◌, ◌⊎◌, ℕ, suc, Bool, true, false, cond, List, [], ◌∷◌, length, Option, Some, None, refl, sym, ◌∙◌, ap, subst, inl, inr, if◌then◌else◌}
use Rattle.std.specs.Prelude.{Ok}
use Rattle.std.specs.List.{AllByRecursion}
use Rattle.std.specs.Map.{lookup}
use Rattle.std.specs.Str.{bytes_eq}
use Rattle.ath_sorts.specs.declared.sorts.Sym.{Sym}
use Rattle.ath_sorts.specs.declared.sorts.SVar.TheVariants.{Made}
use Rattle.ath_sorts.specs.declared.sorts.Sort.{Sort}
use Rattle.ath_sorts.specs.declared.signature.Symbol.{Symbol}
use Rattle.ath_sorts.specs.Signature.{Signature, arity_of, symbol_of, boolean}
use Rattle.ath_sorts.specs.Equality.{same_sort}
use Rattle.ath_sorts.specs.Validity.{IsValid}
use Rattle.ath_sorts.proofs.SameSorts.{same_sort-true}
use Rattle.ath_syntax.specs.declared.node.SortText.{SortText}
use Rattle.ath_declarations.specs.Texts.{written_in, meaning}
use Rattle.ath_declarations.proofs.Keeping.{meant_sort}
use Rattle.ath_syntax.specs.Tree.{Phrase}
use Rattle.ath_terms.specs.declared.fresh.Fresh.{Fresh}
use Rattle.ath_construction.specs.Construction.{builds, made_app}
use Rattle.ath_terms.specs.Trees.{Trees}
use Rattle.ath_trees.specs.Tree.{Term, Sent, atom, equal, negated, joined, bound}
use Rattle.ath_trees.specs.WellSorted.{is_valid_sort, HasSort, var_has, IsWellSorted}
use Rattle.ath_trees.proofs.ValidSorts.{valid-var, use_valid}
use Rattle.ath_construction.proofs.ApplicationLaws.{found-name}
use Rattle.ath_calculus.specs.Derives.{Derives, if_elim, alpha, IsAmong, AreAmong, AreDerivable}
use Rattle.ath_calculus.specs.Theory.{Theory}
use Rattle.ath_calculus.specs.Laws.{Extends}
use Rattle.ath_calculus.proofs.Grown.{derivation_kept, well_sorted}
use Rattle.ath_env.specs.Values.{Value, a_term, a_sentence, a_symbol, a_connective, a_quantifier, a_back, a_method, term_of, sentence_of, value_of}
use Rattle.ath_env.specs.LookUp.{text_of, first_values, found_value}
use Rattle.ath_eval.specs.declared.world.Outcome as code
use Rattle.ath_eval.specs.declared.world.Outcome.TheVariants as ends
use Rattle.ath_eval.specs.Evaluation.{evaluated}
use Rattle.ath_base.specs.Base.{sentences}
use Rattle.ath_eval.specs.Outcomes.{Context, Environment, left_of, Outcome, gives, concludes, fails, exhausts}
use Rattle.ath_eval.specs.Applying.{Kinds, all_are, wrong_at, and_kind, kinds_of, Part, term_part, sentence_part, part_of, variable_in}
use Rattle.ath_eval.specs.Laws.{ConclusionsFollow, IsSortedValue, ValuesAreSorted}
use Rattle.ath_eval.specs.World.{IsOutcome, IsDerivable}
use Rattle.ath_eval.proofs.Regular.{Yields, IsKept, evaluated-regular}
use Rattle.ath_construction.proofs.SortedLaws.{IsSorted, own-sort, ascription-sorted, equation-sorted, application-sorted}
use Rattle.ath_eval.proofs.Constructed.{IsSortedPart, joined-sorted, IsSortedVariable, variable-sorted, bound-sorted}

-- ---- conclusions
follows : (c : Context) (asserted hyps : List Sent) → IsKept c (λ v. Unit {0}) (Derives c.theory asserted hyps)
follows c asserted hyps = record {
  shown = λ p h. tt;
  named = λ x v e. tt;
  unsorted = λ x k n. tt;
  sorted = λ x k text s e. tt;
  ascribes = λ v t x text s h is e b. tt;
  applies = λ f d vs ts n x is h l e b. tt;
  equates = λ v w s t x h k e f b. tt;
  connects = λ k vs xs x h e b. tt;
  quantifies = λ q vs w xs y x h p e f b. tt;
  renames = λ p q e d. alpha e d;
  detaches = λ p q d e. if_elim d e;
}

pub conclusions-follow : ConclusionsFollow
conclusions-follow = λ c env asserted hyps levels x left after q sound e.
    subst (Yields (λ v. Unit {0}) (Derives c.theory asserted hyps)) e ((evaluated-regular c (λ v. Unit {0}) (Derives c.theory asserted hyps) (follows c asserted hyps) levels env sound x left.fresh).yields left.fuel)

-- a theorem that the code gives is derivable
pub theorem-derivable : (c : Context) (env : Environment) (asserted hyps : List Sent) (levels : ℕ) (x : Phrase) (fuel more : ℕ) (fresh made : Fresh) (s : Trees) (o : code.Outcome) → AreDerivable c.theory asserted hyps (sentences env.base) → IsOutcome s more made o (evaluated c levels env x (left_of fuel fresh)) → IsDerivable c.theory asserted hyps s o
theorem-derivable c env asserted hyps levels x fuel more fresh made s o sound h = go o (evaluated c levels env x (left_of fuel fresh)) refl h
  where
    go : (o : code.Outcome) (r : Outcome) → evaluated c levels env x (left_of fuel fresh) ≡ r → IsOutcome s more made o r → IsDerivable c.theory asserted hyps s o
    go (ends.Value v) r e h = tt
    go (ends.Error why at) r e h = tt
    go (ends.Exhausted at) r e h = tt
    go (ends.Theorem p) (concludes q after) e h = subst (Derives c.theory asserted hyps) (sym h.0.1) (conclusions-follow c env asserted hyps levels x (left_of fuel fresh) after q sound e)
    go (ends.Theorem p) (gives v after) e h = absurd h
    go (ends.Theorem p) (fails at why after) e h = absurd h
    go (ends.Theorem p) (exhausts at n) e h = absurd h

-- ---- values
-- where values have a property, what they are has one
abbrev pub AreAll : {T : Type 0} → (T → Type 0) → List Value → List T → Type 0
AreAll R vs xs = AllByRecursion R xs × (length vs ≡ length xs)

pub all-of : {T : Type 0} (f : Value → Option T) (P : Value → Type 0) (R : T → Type 0) → ((v : Value) (x : T) → P v → f v ≡ Some x → R x) → (i : ℕ) (vs : List Value) (xs : List T) → AllByRecursion P vs → kinds_of f i vs ≡ all_are xs → AreAll R vs xs
all-of f P R each i [] xs h e = let k : [] ≡ xs = cc in subst (AreAll R []) k (tt, refl)
all-of f P R each i (v ∷ vs) xs h e = go (f v) (kinds_of f (suc i) vs) (λ x g. each v x h.0 g) (λ ys g. all-of f P R each (suc i) vs ys h.1 g) e
  where
    go : (o : Option _) (k : Kinds _) → ((x : _) → o ≡ Some x → R x) → ((ys : List _) → k ≡ all_are ys → AreAll R vs ys) → and_kind i o k ≡ all_are xs → AreAll R (v ∷ vs) xs
    go None k a b m = absurd (cc)
    go (Some x) (wrong_at j) a b m = absurd (cc)
    go (Some x) (all_are ys) a b m =
        let r = b ys refl in
        let k : x ∷ ys ≡ xs = cc in
        subst (AreAll R (v ∷ vs)) k ((a x refl, r.0), ap suc r.1)

-- the value of a well-sorted sentence
sorted-value : (sig : Signature) (p : Sent) → IsWellSorted sig p → IsSortedValue sig (value_of p)
sorted-value sig (atom t) h = h
sorted-value sig (equal s t) h = h
sorted-value sig (negated p) h = h
sorted-value sig (joined c p q) h = h
sorted-value sig (bound k v p) h = h

-- none of the first values is a term or a sentence
abbrev AreSorted : Signature → List (List ℕ × Value) → Type 0
AreSorted sig es = AllByRecursion (λ e. IsSortedValue sig e.1) es

lookup-sorted : (sig : Signature) (test : List ℕ → Bool) (es : List (List ℕ × Value)) (v : Value) → AreSorted sig es → lookup test es ≡ Some v → IsSortedValue sig v
lookup-sorted sig test [] v h e = absurd (cc)
lookup-sorted sig test (a ∷ es) v h e = go (test a.0) (lookup-sorted sig test es v h.1) e
  where
    go : (b : Bool) → (lookup test es ≡ Some v → IsSortedValue sig v) → cond b (Some a.1) (lookup test es) ≡ Some v → IsSortedValue sig v
    go true rec f = let k : a.1 ≡ v = cc in subst (IsSortedValue sig) k h.0
    go false rec f = rec f

first-sorted : (sig : Signature) → AreSorted sig first_values
first-sorted sig = (tt, (tt, (tt, (tt, (tt, (tt, (tt, (tt, (tt, (tt, (tt, tt)))))))))))

found-sorted : (names : List (List ℕ)) (sig : Signature) (x : Sym) (o : Option Symbol) (v : Value) → found_value names x o ≡ Some v → IsSortedValue sig v
found-sorted names sig x (Some d) v f = let k : a_symbol x ≡ v = cc in subst (IsSortedValue sig) k tt
found-sorted names sig x None v f = lookup-sorted sig (bytes_eq (text_of names x)) first_values v (first-sorted sig) f

module _ (c : Context) (asserted hyps : List Sent) (valid : IsValid c.theory.signature) (there : arity_of c.theory.signature (record { 0 = 0 }) ≡ Some 0) where
  abbrev Sorted : Value → Type 0
  Sorted v = IsSortedValue c.theory.signature v

  abbrev HasOwn : Term → Type 0
  HasOwn t = IsSorted c.theory.signature valid there t

  abbrev HasOwnPart : Part → Type 0
  HasOwnPart x = IsSortedPart c.theory.signature valid there x

  term-of : (v : Value) (t : Term) → Sorted v → term_of v ≡ Some t → HasOwn t
  term-of (a_term t r) u h e = let k : t ≡ u = cc in subst HasOwn k (own-sort c.theory.signature valid there t r h)
  term-of (a_sentence p) u h e = absurd (cc)
  term-of (a_symbol f) u h e = absurd (cc)
  term-of (a_connective q) u h e = absurd (cc)
  term-of (a_quantifier q) u h e = absurd (cc)
  term-of a_back u h e = absurd (cc)
  term-of (a_method n) u h e = absurd (cc)

  part-of : (v : Value) (x : Part) → Sorted v → part_of v ≡ Some x → HasOwnPart x
  part-of (a_term t r) x h e = let k : term_part t ≡ x = cc in subst HasOwnPart k (own-sort c.theory.signature valid there t r h)
  part-of (a_sentence p) x h e = let k : sentence_part p ≡ x = cc in subst HasOwnPart k h
  part-of (a_symbol f) x h e = absurd (cc)
  part-of (a_connective q) x h e = absurd (cc)
  part-of (a_quantifier q) x h e = absurd (cc)
  part-of a_back x h e = absurd (cc)
  part-of (a_method n) x h e = absurd (cc)

  -- a symbol that is found has its name
  own-name : (f : Sym) (d : Symbol) → symbol_of c.theory.signature f ≡ Some d → symbol_of c.theory.signature d.name ≡ Some d
  own-name f d is = ap (symbol_of c.theory.signature) (found-name c.theory.signature.symbols f d is) ∙ is

  application : (d : Symbol) (vs : List Value) (ts : List Term) (n : ℕ) (x : Term) → symbol_of c.theory.signature d.name ≡ Some d → length d.args ≡ length vs → AreAll HasOwn vs ts → made_app c.theory.signature n d ts ≡ builds x → HasOwn x
  application d vs ts n x is l h b = application-sorted c.theory.signature valid there d n ts is (l ∙ h.1) h.0 x b

  meant-valid : (text : SortText) (s : Sort) → meaning c.theory.signature text ≡ Ok s → is_valid_sort c.theory.signature s ≡ true
  meant-valid text s e = use_valid c.theory.signature (written_in s) s (meant_sort c.theory.signature text s e).there

  sorted : IsKept c Sorted (Derives c.theory asserted hyps)
  sorted = record {
    shown = λ p d. sorted-value c.theory.signature p (well_sorted d);
    named = λ x v e. found-sorted c.names c.theory.signature x (symbol_of c.theory.signature x) v e;
    unsorted = λ x k n. var_has (valid-var c.theory.signature (Made n)) refl;
    sorted = λ x k text s e. var_has (meant-valid text s e) refl;
    ascribes = λ v t x text s h is e b. ascription-sorted c.theory.signature valid there t x s (term-of v t h is) (meant-valid text s e) b;
    applies = λ f d vs ts n x is h l e b. application d vs ts n x (own-name f d is) l (all-of term_of Sorted HasOwn term-of 1 vs ts h e) b;
    equates = λ v w s t x h k e f b. equation-sorted c.theory.signature valid there s t x (term-of v s h e) (term-of w t k f) b;
    connects = λ k vs xs x h e b. joined-sorted c.theory.signature valid there k xs x (all-of part_of Sorted HasOwnPart part-of 1 vs xs h e).0 b;
    quantifies = λ q vs w xs y x h p e f b. bound-sorted c.theory.signature valid there q xs y x (all-of variable_in Sorted (IsSortedVariable c.theory.signature) (variable-sorted c.theory.signature) 1 vs xs h e).0 (part-of w y p f) b;
    renames = λ p q e d. alpha e d;
    detaches = λ p q d e. if_elim d e;
  }

pub values-sorted : ValuesAreSorted
values-sorted = λ c env asserted hyps levels x left after v valid there sound e.
    let sig = c.theory.signature in
    subst (Yields (IsSortedValue sig) (Derives c.theory asserted hyps)) e ((evaluated-regular c (IsSortedValue sig) (Derives c.theory asserted hyps) (sorted c asserted hyps valid there) levels env sound x left.fresh).yields left.fuel)

-- the sentence that a well-sorted value is, is well-sorted
pub sentence-sorted : (sig : Signature) (v : Value) (p : Sent) → IsSortedValue sig v → sentence_of v ≡ Some p → IsWellSorted sig p
sentence-sorted sig (a_term t r) p h e = go (same_sort r boolean) refl e
  where
    go : (b : Bool) → same_sort r boolean ≡ b → (if b then Some (atom t) else None) ≡ Some p → IsWellSorted sig p
    go true f g =
        let k : atom t ≡ p = cc in
        subst (IsWellSorted sig) k (subst (HasSort sig t) (same_sort-true r boolean f) h)
    go false f g = absurd (cc)
sentence-sorted sig (a_sentence q) p h e = let k : q ≡ p = cc in subst (IsWellSorted sig) k h
sentence-sorted sig (a_symbol f) p h e = absurd (cc)
sentence-sorted sig (a_connective q) p h e = absurd (cc)
sentence-sorted sig (a_quantifier q) p h e = absurd (cc)
sentence-sorted sig a_back p h e = absurd (cc)
sentence-sorted sig (a_method n) p h e = absurd (cc)

-- ---- what a session keeps
-- what is derivable stays so when the theory and the asserted sentences grow
pub base_grown : (old new : Theory) (fewer others hyps base : List Sent) → Extends old new → AreAmong fewer others → AreDerivable old fewer hyps base → AreDerivable new others hyps base
base_grown old new fewer others hyps base grown among sound = λ p i. derivation_kept old new grown fewer others among (sound p i)

-- a sentence that is derivable may join the base
pub base_joined : (th : Theory) (asserted hyps base : List Sent) (q : Sent) → AreDerivable th asserted hyps base → Derives th asserted hyps q → AreDerivable th asserted hyps (q ∷ base)
base_joined th asserted hyps base q sound d = λ p i. go p i
  where
    go : (p : Sent) → (p ≡ q) ⊎ IsAmong p base → Derives th asserted hyps p
    go p (inl e) = subst (Derives th asserted hyps) (sym e) d
    go p (inr i) = sound p i
