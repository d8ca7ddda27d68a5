-- What is well-sorted in a theory is so in one that has what it has.
use Rattle.ath_sorts.specs.Signature.{Signature}
use Rattle.ath_sorts.specs.Validity.{IsValid}
use Rattle.ath_declarations.specs.Laws.{Keeps}
use Rattle.ath_terms.specs.Trees.{Trees, sent_at}
use Rattle.ath_terms.specs.SortsIn.{IsSortedIn}
use Rattle.ath_calculus.specs.Laws.{Extends}
use Rattle.ath_calculus.specs.Theory.{Theory, theory_of}
use Rattle.ath_calculus.proofs.Grown.{term_kept, sent_kept, derivation_kept}
use Rattle.ath_env.specs.Values.{Value, a_term, a_sentence, a_symbol, a_connective, a_quantifier, a_back, a_method}
use Rattle.ath_eval.specs.Laws.{IsSortedValue, TheoriesGrow}

-- a signature that keeps what another has
pub extends_of : (old new : Signature) → Keeps old new → Extends (theory_of old) (theory_of new)
extends_of old new h = record { sorts = h.sorts; symbols = h.symbols; datatypes = λ d i. i }

module _ (old new : Theory) (grown : Extends old new) where
  kept_value : (v : Value) → IsSortedValue old.signature v → IsSortedValue new.signature v
  kept_value (a_term t r) h = term_kept old new grown h
  kept_value (a_sentence p) h = sent_kept old new grown p h
  kept_value (a_symbol f) h = tt
  kept_value (a_connective k) h = tt
  kept_value (a_quantifier q) h = tt
  kept_value a_back h = tt
  kept_value (a_method n) h = tt

  -- a store whose trees are well-sorted
  grown_store : IsValid new.signature → (s : Trees) → IsSortedIn old.signature s → IsSortedIn new.signature s
  grown_store valid s h = record {
    valid = valid;
    boolean_there = grown.sorts (record { 0 = 0 }) 0 h.boolean_there;
    terms = λ k l. term_kept old new grown (h.terms k l);
    sents = λ k l. sent_kept old new grown (sent_at s.sents k) (h.sents k l);
  }

pub kept_store : (old new : Signature) → Keeps old new → IsValid new → (s : Trees) → IsSortedIn old s → IsSortedIn new s
kept_store old new keeps valid s h = grown_store (theory_of old) (theory_of new) (extends_of old new keeps) valid s h

pub theories-grow : TheoriesGrow
theories-grow = λ old new grown. record {
  terms = λ t s h. term_kept old new grown h;
  sents = sent_kept old new grown;
  values = kept_value old new grown;
  derivations = λ asserted hyps p d. derivation_kept old new grown asserted asserted (λ q i. i) d;
  stores = grown_store old new grown;
}
