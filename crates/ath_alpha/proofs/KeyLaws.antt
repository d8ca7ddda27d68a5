-- Keys tell the forms without sorts.
use Rattle.std.proofs.Common.{◌≡◌, false, [], refl, sym, ◌∙◌, ap}
use Rattle.ath_sorts.specs.declared.sorts.SVar.{SVar}
use Rattle.ath_sorts.specs.declared.sorts.Sort.{Sort}
use Rattle.ath_sorts.specs.Signature.{boolean}
use Rattle.ath_trees.specs.declared.node.Var.{Var}
use Rattle.ath_trees.specs.Under.{var_under}
use Rattle.ath_trees.specs.Nameless.{NTerm, NTerms, nfree, nbound, napp, nnone, nmore, NSent, natom, nequal, nnegated, njoined, nquant, nameless, term_instance, terms_instance, sent_instance}
use Rattle.ath_trees.proofs.SortUnderLaws.{at_sorts_moved}
use Rattle.ath_alpha.specs.Seen.{term_seen, terms_seen, unsorted}
use Rattle.ath_alpha.specs.Keys.{InstancesHaveOneKey}

-- ---- no sort substitution changes a form without sorts
module _ (f : SVar → Sort) where
  abbrev moved : Var → NTerm
  moved v = nfree (var_under f v)

  mutual
    term-unsorted : (t : NTerm) → term_seen false (term_instance moved f t) ≡ term_seen false t
    term-unsorted (nfree v) = refl
    term-unsorted (nbound i) = refl
    term-unsorted (napp g ss ts) = ap (napp g []) (terms-unsorted ts)

    terms-unsorted : (ts : NTerms) → terms_seen false (terms_instance moved f ts) ≡ terms_seen false ts
    terms-unsorted nnone = refl
    terms-unsorted (nmore t ts) = let a = term-unsorted t in let b = terms-unsorted ts in λ i. nmore (a i) (b i)

  sent-unsorted : (p : NSent) → unsorted (sent_instance moved f p) ≡ unsorted p
  sent-unsorted (natom t) = ap natom (term-unsorted t)
  sent-unsorted (nequal s t) = let a = term-unsorted s in let b = term-unsorted t in λ i. nequal (a i) (b i)
  sent-unsorted (nnegated p) = ap nnegated (sent-unsorted p)
  sent-unsorted (njoined c p q) = let a = sent-unsorted p in let b = sent-unsorted q in λ i. njoined c (a i) (b i)
  sent-unsorted (nquant k s p) = ap (nquant k boolean) (sent-unsorted p)

pub instances-alike : InstancesHaveOneKey
instances-alike rigid f p q h = sym (sent-unsorted f (nameless p)) ∙ ap unsorted (sym (at_sorts_moved f p) ∙ h.equal)
