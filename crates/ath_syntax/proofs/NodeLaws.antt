-- The kind of a node is that of its tree, and what a number that stands for a tree tells of its node.
use Rattle.std.proofs.Common.{◌≡◌, ◌<◌, List, [], ◌∷◌, ◌++◌, length, Bool, false, Some, sym, ap, ◌∙◌, arith}
use Rattle.std.specs.Prelude.{slice_get, All}
use Rattle.std.proofs.lemmas.List.Elements.{All-head}
use Rattle.std.proofs.lemmas.Option.{slice_get_within, same_Some}
use Rattle.ath_syntax.specs.declared.place.Pos.{Pos}
use Rattle.ath_syntax.specs.declared.node.PhraseId.{PhraseId}
use Rattle.ath_syntax.specs.declared.node.PatId.{PatId}
use Rattle.ath_syntax.specs.declared.node.Form.{Form}
use Rattle.ath_syntax.specs.declared.node.Node.{Node}
use Rattle.ath_syntax.specs.declared.node.PatNode.{PatNode}
use Rattle.ath_syntax.specs.Nodes.{Nodes, with_phrase}
use Rattle.ath_syntax.specs.Tree.{Pattern, Phrase, Phrases, Clauses, Branches, is_deduction, phrases_deduce, clauses_deduce, branches_deduce}
use Rattle.ath_syntax.specs.Stands.{IsPattern, is_pattern, IsPatternNode, IsPhrase, is_phrase, IsNode, is_node, IsForm, is_name, is_variable, is_string, is_list, is_ascribe, is_apply, is_call, is_lambda, is_method, is_let, is_letrec, is_match, is_check, is_try, is_seq, is_assume, is_absurd, is_pick_any, is_pick_witness, is_induct, is_cases, is_conclude, ArePhrases, phrases_none, phrases_more, AreClauses, clauses_none, clauses_more, AreBranches, branches_none, branches_more}
use Rattle.ath_syntax.specs.Fits.{IsPart, IsKind, Fits, FitsForm}
use Rattle.ath_syntax.proofs.Growth.{kind_of_node, slice_get-front, slice_get-seam, KeepsNodes-phrase}
use Rattle.ath_syntax.proofs.Kept.{keep_node, keep_pattern_node}

module _ (s : Nodes) where
  -- the node of a number that stands for a phrase
  pub node_of : (i : PhraseId) (t : Phrase) → IsPhrase s i t → (n : Node) × (slice_get s.phrases i.0 ≡ Some n) × IsNode s n t
  node_of i t (is_phrase {n = n} g h) = (n, g, h)

  -- this very node stands for the phrase
  pub node_at : (i : PhraseId) (n : Node) (t : Phrase) → IsPhrase s i t → slice_get s.phrases i.0 ≡ Some n → IsNode s n t
  node_at i n t (is_phrase {n = m} g h) k = rw (same_Some _ _ (sym k ∙ g)) h

  pub part_of : (i : PhraseId) (t : Phrase) → IsPhrase s i t → IsPart s i
  part_of i t (is_phrase {n = n} g h) = slice_get_within s.phrases i.0 n g

  pub kind_of : (i : PhraseId) (t : Phrase) → IsPhrase s i t → IsKind s (is_deduction t) i
  kind_of i t (is_phrase {n = n} g (is_node d f)) = kind_of_node s i n g ∙ ap Some d

  pub form_of : (n : Node) (t : Phrase) → IsNode s n t → IsForm s n.pos n.form t
  form_of n t (is_node d f) = f

  -- a number of this kind stands for a phrase of this kind
  kind_is : (d : Bool) (i : PhraseId) (t : Phrase) → IsPhrase s i t → IsKind s d i → d ≡ is_deduction t
  kind_is d i t h k = same_Some _ _ (sym k ∙ kind_of i t h)

  phrases_kind : (d : Bool) (is : List PhraseId) (ts : Phrases) → ArePhrases s is ts → 0 < length is → All (IsKind s d) is → d ≡ phrases_deduce ts
  phrases_kind d is ts phrases_none lt a = absurd (omega (arith, lt))
  phrases_kind d is ts (phrases_more {i = i} {is = rest} {t = t} h k) lt a = kind_is d i t h (All-head (IsKind s d) i rest a)

  clauses_kind : (d : Bool) (is : List (PatId × PhraseId)) (cs : Clauses) → AreClauses s is cs → 0 < length is → All (λ c. IsKind s d c.1) is → d ≡ clauses_deduce cs
  clauses_kind d is ts clauses_none lt a = absurd (omega (arith, lt))
  clauses_kind d is ts (clauses_more {q = q} {i = i} {is = rest} {t = t} g h k) lt a = kind_is d i t h (All-head (λ (c : PatId × PhraseId). IsKind s d c.1) (q, i) rest a)

  branches_kind : (d : Bool) (is : List (PhraseId × PhraseId)) (bs : Branches) → AreBranches s is bs → 0 < length is → All (λ b. IsKind s false b.0 × IsKind s d b.1) is → d ≡ branches_deduce bs
  branches_kind d is ts branches_none lt a = absurd (omega (arith, lt))
  branches_kind d is ts (branches_more {i = i} {j = j} {is = rest} {u = u} g h k) lt a = kind_is d j u h (All-head (λ (b : PhraseId × PhraseId). IsKind s false b.0 × IsKind s d b.1) (i, j) rest a).1

  form_kind : (d : Bool) (p : Pos) (f : Form) (t : Phrase) → IsForm s p f t → FitsForm s d f → d ≡ is_deduction t
  form_kind d p f t is_name h = h
  form_kind d p f t is_variable h = h
  form_kind d p f t is_string h = h
  form_kind d p f t (is_list a) h = h.0
  form_kind d p f t (is_ascribe a) h = h.0
  form_kind d p f t (is_apply a b) h = h.0
  form_kind d p f t (is_call a b) h = h.0
  form_kind d p f t (is_lambda a) h = h.0
  form_kind d p f t (is_method a) h = h.0
  form_kind d p f t (is_let a b) h = kind_is d _ _ b h.0
  form_kind d p f t (is_letrec a b) h = kind_is d _ _ b h.0
  form_kind d p f t (is_match a b) h = clauses_kind d _ _ b h.1.some h.1.kind
  form_kind d p f t (is_check a b) h = branches_kind d _ _ a h.0 h.1
  form_kind d p f t (is_try a) h = phrases_kind d _ _ a h.0 h.1
  form_kind d p f t (is_seq a) h = h.0
  form_kind d p f t (is_assume a b) h = h.0
  form_kind d p f t (is_absurd a b) h = h.0
  form_kind d p f t (is_pick_any a) h = h.0
  form_kind d p f t (is_pick_witness a b) h = h.0
  form_kind d p f t (is_induct a b) h = h.0
  form_kind d p f t (is_cases a b) h = h.0
  form_kind d p f t (is_conclude a b) h = h.0

  -- a node that fits stands for the tree of its form
  pub node_of_form : (n : Node) (t : Phrase) → Fits s n → IsForm s n.pos n.form t → IsNode s n t
  node_of_form n t h f = is_node (form_kind n.deduction n.pos n.form t f h) f

  -- and so does the number that it gets
  pub phrase_of_new : (n : Node) (t : Phrase) (i : PhraseId) → Fits s n → i.0 ≡ length s.phrases → IsForm s n.pos n.form t → IsPhrase (with_phrase s n) i t
  phrase_of_new n t i h e f = is_phrase (slice_get-seam s.phrases n i.0 e) (keep_node s (with_phrase s n) (KeepsNodes-phrase s n) n t (node_of_form n t h f))

-- a pattern's node
pub pattern_node_at : (nodes : List PatNode) (i : PatId) (n : PatNode) (t : Pattern) → IsPattern nodes i t → slice_get nodes i.0 ≡ Some n → IsPatternNode nodes n t
pattern_node_at nodes i n t (is_pattern {n = m} g h) k = rw (same_Some _ _ (sym k ∙ g)) h

pub pattern_part_of : (nodes : List PatNode) (i : PatId) (t : Pattern) → IsPattern nodes i t → i.0 < length nodes
pattern_part_of nodes i t (is_pattern {n = n} g h) = slice_get_within nodes i.0 n g

-- a new pattern's number stands for the tree of its node
pub pattern_of_new : (nodes : List PatNode) (n : PatNode) (t : Pattern) (i : PatId) → i.0 ≡ length nodes → IsPatternNode nodes n t → IsPattern (nodes ++ n ∷ []) i t
pattern_of_new nodes n t i e h = is_pattern (slice_get-seam nodes n i.0 e) (keep_pattern_node nodes (nodes ++ n ∷ []) (λ j m g. slice_get-front nodes (n ∷ []) j m g) n t h)
