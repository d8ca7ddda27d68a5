-- The nameless form of a sentence: a bound variable is written as the number of binders between it and its own.
use Rattle.std.specs.Prelude.{◌≡◌, ℕ, ◌+◌, List, [], ◌∷◌, map, if◌then◌else◌}
use Rattle.ath_sorts.specs.declared.sorts.Sym.{Sym}
use Rattle.ath_sorts.specs.declared.sorts.SVar.{SVar}
use Rattle.ath_sorts.specs.declared.sorts.Sort.{Sort}
use Rattle.ath_sorts.specs.Sorts.{apply_to}
use Rattle.ath_trees.specs.declared.node.Var.{Var}
use Rattle.ath_trees.specs.declared.node.Binary.{Binary}
use Rattle.ath_trees.specs.declared.node.Quant.{Quant}
use Rattle.ath_trees.specs.Tree.{Term, Terms, var, app, none, more, Sent, atom, equal, negated, joined, bound}
use Rattle.ath_trees.specs.Variables.{same_var}

mutual
  pub data NTerm : Type 0 where
    nfree : Var → NTerm
    nbound : ℕ → NTerm
    napp : Sym → List Sort → NTerms → NTerm

  pub data NTerms : Type 0 where
    nnone : NTerms
    nmore : NTerm → NTerms → NTerms

pub data NSent : Type 0 where
  natom : NTerm → NSent
  nequal : NTerm → NTerm → NSent
  nnegated : NSent → NSent
  njoined : Binary → NSent → NSent → NSent
  nquant : Quant → Sort → NSent → NSent

-- a variable under these binders, the innermost first, of which i more are inside them
abbrev pub placed : List Var → ℕ → Var → NTerm
placed [] i v = nfree v
placed (w ∷ ws) i v = if same_var w v then nbound i else placed ws (i + 1) v

abbrev mutual
  pub nameless_term : List Var → Term → NTerm
  nameless_term ws (var v) = placed ws 0 v
  nameless_term ws (app f ss ts) = napp f ss (nameless_terms ws ts)

  pub nameless_terms : List Var → Terms → NTerms
  nameless_terms ws none = nnone
  nameless_terms ws (more t ts) = nmore (nameless_term ws t) (nameless_terms ws ts)

abbrev pub nameless_under : List Var → Sent → NSent
nameless_under ws (atom t) = natom (nameless_term ws t)
nameless_under ws (equal s t) = nequal (nameless_term ws s) (nameless_term ws t)
nameless_under ws (negated p) = nnegated (nameless_under ws p)
nameless_under ws (joined c p q) = njoined c (nameless_under ws p) (nameless_under ws q)
nameless_under ws (bound k v p) = nquant k v.sort (nameless_under (v ∷ ws) p)

abbrev pub nameless : Sent → NSent
nameless p = nameless_under [] p

-- they differ only in the names and indices of bound variables
abbrev pub AlphaEqual : Sent → Sent → Type 0
AlphaEqual p q = nameless p ≡ nameless q

-- A term for each free variable and a sort for each sort variable, in one step. Where the terms have no bound variable, none
-- is captured, and no number changes.
abbrev mutual
  pub term_instance : (Var → NTerm) → (SVar → Sort) → NTerm → NTerm
  term_instance σ f (nfree v) = σ v
  term_instance σ f (nbound i) = nbound i
  term_instance σ f (napp g ss ts) = napp g (map (apply_to f) ss) (terms_instance σ f ts)

  pub terms_instance : (Var → NTerm) → (SVar → Sort) → NTerms → NTerms
  terms_instance σ f nnone = nnone
  terms_instance σ f (nmore t ts) = nmore (term_instance σ f t) (terms_instance σ f ts)

abbrev pub sent_instance : (Var → NTerm) → (SVar → Sort) → NSent → NSent
sent_instance σ f (natom t) = natom (term_instance σ f t)
sent_instance σ f (nequal s t) = nequal (term_instance σ f s) (term_instance σ f t)
sent_instance σ f (nnegated p) = nnegated (sent_instance σ f p)
sent_instance σ f (njoined c p q) = njoined c (sent_instance σ f p) (sent_instance σ f q)
sent_instance σ f (nquant k s p) = nquant k (apply_to f s) (sent_instance σ f p)
