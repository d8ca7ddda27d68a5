-- The parts of a connective or a quantifier, and it, are well-sorted where the arguments are.
use Rattle.std.proofs.Common.{◌≡◌, true, List, [], ◌∷◌, Some, refl, subst}
use Rattle.std.specs.List.{AllByRecursion}
use Rattle.ath_sorts.specs.declared.sorts.Sort.{Sort}
use Rattle.ath_sorts.specs.Signature.{Signature, arity_of}
use Rattle.ath_sorts.specs.Validity.{IsValid}
use Rattle.ath_trees.specs.declared.node.Conn.{Conn}
use Rattle.ath_trees.specs.declared.node.Quant.{Quant}
use Rattle.ath_trees.specs.declared.node.Var.{Var}
use Rattle.ath_trees.specs.Tree.{var, app, Sent}
use Rattle.ath_trees.specs.WellSorted.{is_valid_sort, HasSort, var_has, IsWellSorted, AreWellSorted}
use Rattle.ath_construction.specs.Construction.{Built, builds, refuses}
use Rattle.ath_construction.proofs.SortedLaws.{IsSorted, atom-sorted, connective-sorted, quantified-sorted}
use Rattle.ath_env.specs.Values.{Value, a_term, a_sentence, a_symbol, a_connective, a_quantifier, a_back, a_method}
use Rattle.ath_eval.specs.Applying.{Part, term_part, sentence_part, sentence_made, and_sentence, sentences_made, connective_of, variable_in, quantified, quantified_over}
use Rattle.ath_eval.specs.Laws.{IsSortedValue}

-- a variable's sort is one of the signature
abbrev pub IsSortedVariable : Signature → Var → Type 0
IsSortedVariable sig v = is_valid_sort sig v.sort ≡ true

own_sort : (sig : Signature) (v : Var) (r : Sort) → HasSort sig (var v) r → IsSortedVariable sig v
own_sort sig v r (var_has valid e) = valid

-- the variable that a well-sorted value is
pub variable-sorted : (sig : Signature) (v : Value) (x : Var) → IsSortedValue sig v → variable_in v ≡ Some x → IsSortedVariable sig x
variable-sorted sig (a_term (var y) r) x h e = let k : y ≡ x = cc in subst (IsSortedVariable sig) k (own_sort sig y r h)
variable-sorted sig (a_term (app f sorts args) r) x h e = absurd (cc)
variable-sorted sig (a_sentence p) x h e = absurd (cc)
variable-sorted sig (a_symbol f) x h e = absurd (cc)
variable-sorted sig (a_connective k) x h e = absurd (cc)
variable-sorted sig (a_quantifier q) x h e = absurd (cc)
variable-sorted sig a_back x h e = absurd (cc)
variable-sorted sig (a_method n) x h e = absurd (cc)

-- in a valid signature, with the sort Boolean
module _ (sig : Signature) (valid : IsValid sig) (there : arity_of sig (record { 0 = 0 }) ≡ Some 0) where
  -- the parts of a connective: each term is made an atom
  abbrev pub IsSortedPart : Part → Type 0
  IsSortedPart (term_part t) = IsSorted sig valid there t
  IsSortedPart (sentence_part p) = IsWellSorted sig p

  part-sorted : (x : Part) (p : Sent) → IsSortedPart x → sentence_made sig x ≡ builds p → IsWellSorted sig p
  part-sorted (term_part t) p h e = atom-sorted sig valid there t p h e
  part-sorted (sentence_part q) p h e = let k : q ≡ p = cc in subst (IsWellSorted sig) k h

  parts-sorted : (xs : List Part) (ps : List Sent) → AllByRecursion IsSortedPart xs → sentences_made sig xs ≡ builds ps → AreWellSorted sig ps
  parts-sorted [] ps h e = let k : [] ≡ ps = cc in subst (AreWellSorted sig) k tt
  parts-sorted (x ∷ xs) ps h e = go (sentence_made sig x) (sentences_made sig xs) (λ p f. part-sorted x p h.0 f) (λ qs f. parts-sorted xs qs h.1 f) e
    where
      go : (b : Built Sent) (o : Built (List Sent)) → ((p : Sent) → b ≡ builds p → IsWellSorted sig p) → ((qs : List Sent) → o ≡ builds qs → AreWellSorted sig qs) → and_sentence b o ≡ builds ps → AreWellSorted sig ps
      go (refuses why) o f g m = absurd (cc)
      go (builds p) (builds qs) f g m = let k : p ∷ qs ≡ ps = cc in subst (AreWellSorted sig) k (f p refl, g qs refl)
      go (builds p) (refuses why) f g m = absurd (cc)

  pub joined-sorted : (c : Conn) (xs : List Part) (x : Sent) → AllByRecursion IsSortedPart xs → connective_of sig c (sentences_made sig xs) ≡ builds x → IsWellSorted sig x
  joined-sorted c xs x h e = go (sentences_made sig xs) (λ ps f. parts-sorted xs ps h f) e
    where
      go : (b : Built (List Sent)) → ((ps : List Sent) → b ≡ builds ps → AreWellSorted sig ps) → connective_of sig c b ≡ builds x → IsWellSorted sig x
      go (refuses why) f m = absurd (cc)
      go (builds ps) f m = connective-sorted sig valid there c ps x (f ps refl) m

  -- the variables of a quantifier bind what is well-sorted
  over-sorted : (q : Quant) (vs : List Var) (body : Built Sent) (x : Sent) → AllByRecursion (IsSortedVariable sig) vs → ((p : Sent) → body ≡ builds p → IsWellSorted sig p) → quantified_over sig q vs body ≡ builds x → IsWellSorted sig x
  over-sorted q [] body x h f e = f x e
  over-sorted q (v ∷ vs) body x h f e = go (quantified_over sig q vs body) (λ p g. over-sorted q vs body p h.1 f g) e
    where
      go : (b : Built Sent) → ((p : Sent) → b ≡ builds p → IsWellSorted sig p) → quantified sig q v b ≡ builds x → IsWellSorted sig x
      go (refuses why) g m = absurd (cc)
      go (builds p) g m = quantified-sorted sig valid there q v p x h.0 (g p refl) m

  pub bound-sorted : (q : Quant) (vs : List Var) (y : Part) (x : Sent) → AllByRecursion (IsSortedVariable sig) vs → IsSortedPart y → quantified_over sig q vs (sentence_made sig y) ≡ builds x → IsWellSorted sig x
  bound-sorted q vs y x h k e = over-sorted q vs (sentence_made sig y) x h (λ p f. part-sorted y p k f) e
