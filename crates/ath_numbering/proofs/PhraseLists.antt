-- Lists of phrases, bindings and clauses, and their numbers.
use Rattle.std.proofs.Common.{◌≡◌, List, [], ◌∷◌, ◌++◌, map, Bool, Option, None, subst}
use Rattle.ath_sorts.specs.declared.sorts.Sym.{Sym}
use Rattle.ath_numbering.specs.declared.tree.PatternTree.{PatternTree}
use Rattle.ath_numbering.specs.declared.tree.PhraseTree.{PhraseTree}
use Rattle.ath_numbering.specs.Trees.{pattern_of, phrase_of, phrases_of, bindings_of, clauses_of, branches_of}
use Rattle.ath_numbering.specs.declared.tree.LetWord.{LetWord}
use Rattle.ath_numbering.specs.declared.tree.LetWord.TheVariants.{Let, LetRec}
use Rattle.ath_numbering.specs.Trees.{let_phrase}
use Rattle.ath_syntax.specs.declared.place.Pos.{Pos}
use Rattle.ath_syntax.specs.declared.node.PatId.{PatId}
use Rattle.ath_syntax.specs.declared.node.PhraseId.{PhraseId}
use Rattle.ath_syntax.specs.Tree.{Phrase, Phrases, no_phrases, more_phrases, Bindings, no_bindings, more_bindings, Clauses, Branches, is_deduction}
use Rattle.ath_syntax.specs.Stands.{IsPattern, IsPhrase, ArePhrases, phrases_none, phrases_more, AreBindings, bindings_none, bindings_more, AreClauses, clauses_none, clauses_more, AreBranches, branches_none, branches_more}
use Rattle.ath_syntax.proofs.Kept.{keep_phrases, keep_bindings, keep_clauses, keep_branches}
use Rattle.ath_syntax.specs.Proper.{Proper, ProperPattern, ProperPhrases, ProperBindings, ProperClosures, bound_kind, ProperClauses, ProperBranches}
use Rattle.ath_numbering.proofs.Listings.{Listing}

abbrev pub bindings_read : List (Sym × PhraseTree) → Bindings
bindings_read bs = bindings_of (map (λ b. (b.0, phrase_of b.1)) bs)

abbrev pub clauses_read : List (PatternTree × PhraseTree) → Clauses
clauses_read cs = clauses_of (map (λ c. (c.0, phrase_of c.1)) cs)

abbrev pub branches_read : List (PhraseTree × PhraseTree) → Branches
branches_read bs = branches_of (map (λ b. (phrase_of b.0, phrase_of b.1)) bs)

abbrev pub phrases_listed : Listing PhraseTree PhraseId
phrases_listed = record {
  One = λ s i x. IsPhrase s i (phrase_of x);
  Each = λ s is xs. ArePhrases s is (phrases_of (map phrase_of xs));
  none = λ s. phrases_none;
  more = λ s i is x xs h k. phrases_more h k;
  keep = λ old new g is xs h. keep_phrases old new g is _ h;
}

abbrev pub bindings_listed : Listing (Sym × PhraseTree) (Sym × PhraseId)
bindings_listed = record {
  One = λ s i b. (i.0 ≡ b.0) × IsPhrase s i.1 (phrase_of b.1);
  Each = λ s is bs. AreBindings s is (bindings_read bs);
  none = λ s. bindings_none;
  more = λ s i is b bs h k. subst (λ (n : Sym). AreBindings s (i ∷ is) (more_bindings n (phrase_of b.1) (bindings_read bs))) h.0 (bindings_more h.1 k);
  keep = λ old new g is bs h. keep_bindings old new g is _ h;
}

abbrev pub clauses_listed : Listing (PatternTree × PhraseTree) (PatId × PhraseId)
clauses_listed = record {
  One = λ s i c. IsPattern s.patterns i.0 (pattern_of c.0) × IsPhrase s i.1 (phrase_of c.1);
  Each = λ s is cs. AreClauses s is (clauses_read cs);
  none = λ s. clauses_none;
  more = λ s i is c cs h k. clauses_more h.0 h.1 k;
  keep = λ old new g is cs h. keep_clauses old new g is _ h;
}

abbrev pub branches_listed : Listing (PhraseTree × PhraseTree) (PhraseId × PhraseId)
branches_listed = record {
  One = λ s i b. IsPhrase s i.0 (phrase_of b.0) × IsPhrase s i.1 (phrase_of b.1);
  Each = λ s is bs. AreBranches s is (branches_read bs);
  none = λ s. branches_none;
  more = λ s i is b bs h k. branches_more h.0 h.1 k;
  keep = λ old new g is bs h. keep_branches old new g is _ h;
}

pub proper_phrase_among : (k : Option Bool) (xs ys : List PhraseTree) (x : PhraseTree) → ProperPhrases k (phrases_of (map phrase_of (xs ++ x ∷ ys))) → Proper (phrase_of x)
proper_phrase_among k [] ys x p = p.1
proper_phrase_among k (z ∷ xs) ys x p = proper_phrase_among k xs ys x p.2

pub proper_binding_among : (k : Option Bool) (xs ys : List (Sym × PhraseTree)) (x : Sym × PhraseTree) → ProperBindings k (bindings_read (xs ++ x ∷ ys)) → Proper (phrase_of x.1)
proper_binding_among k [] ys x p = p.1
proper_binding_among k (z ∷ xs) ys x p = proper_binding_among k xs ys x p.2

pub proper_clause_among : (d : Bool) (xs ys : List (PatternTree × PhraseTree)) (x : PatternTree × PhraseTree) → ProperClauses d (clauses_read (xs ++ x ∷ ys)) → ProperPattern (pattern_of x.0) × Proper (phrase_of x.1)
proper_clause_among d [] ys x p = (p.0, p.2)
proper_clause_among d (z ∷ xs) ys x p = proper_clause_among d xs ys x p.3

pub proper_branch_among : (d : Bool) (xs ys : List (PhraseTree × PhraseTree)) (x : PhraseTree × PhraseTree) → ProperBranches d (branches_read (xs ++ x ∷ ys)) → Proper (phrase_of x.0) × Proper (phrase_of x.1)
proper_branch_among d [] ys x p = (p.1, p.3)
proper_branch_among d (z ∷ xs) ys x p = proper_branch_among d xs ys x p.4

pub loose_phrases : (k : Option Bool) (ts : Phrases) → ProperPhrases k ts → ProperPhrases None ts
loose_phrases k no_phrases p = tt
loose_phrases k (more_phrases x xs) p = (tt, p.1, loose_phrases k xs p.2)

loose_bindings : (k : Option Bool) (bs : Bindings) → ProperBindings k bs → ProperBindings None bs
loose_bindings k no_bindings p = tt
loose_bindings k (more_bindings n x bs) p = (tt, p.1, loose_bindings k bs p.2)

loose_closures : (bs : Bindings) → ProperClosures bs → ProperBindings None bs
loose_closures no_bindings p = tt
loose_closures (more_bindings n x bs) p = (tt, p.1, loose_closures bs p.2)

pub let_rows : (w : LetWord) (p : Pos) (bs : Bindings) (x : Phrase) → Proper (let_phrase w p bs x) → ProperBindings None bs
let_rows Let p bs x q = loose_bindings (bound_kind (is_deduction x)) bs q.2
let_rows LetRec p bs x q = loose_closures bs q.2
