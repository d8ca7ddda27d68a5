-- Forms of phrases whose parts are numbered.
use Rattle.std.proofs.Common.{◌≡◌, ℕ, List, map, true, false, Option, None, Some, sym, ap, ◌∙◌, subst}
use Rattle.std.specs.Prelude.{option_map}
use Rattle.ath_sorts.specs.declared.sorts.Sym.{Sym}
use Rattle.ath_numbering.specs.declared.tree.ClosureWord.{ClosureWord}
use Rattle.ath_numbering.specs.declared.tree.ClosureWord.TheVariants as closure
use Rattle.ath_numbering.specs.declared.tree.ClauseWord.{ClauseWord}
use Rattle.ath_numbering.specs.declared.tree.ClauseWord.TheVariants as clause
use Rattle.ath_numbering.specs.declared.tree.HypothesisWord.{HypothesisWord}
use Rattle.ath_numbering.specs.declared.tree.HypothesisWord.TheVariants as hypothesis
use Rattle.ath_numbering.specs.declared.tree.LetWord.{LetWord}
use Rattle.ath_numbering.specs.declared.tree.LetWord.TheVariants as binding
use Rattle.ath_numbering.specs.Trees.{closure_at, hypothesis_at, clauses_at, let_phrase}
use Rattle.ath_numbering.specs.declared.tree.PhraseTree.{PhraseTree, Name, Var, Str, List as Listed, Try, Seq}
use Rattle.ath_numbering.specs.declared.tree.PhraseTree.TheOpen as one
use Rattle.ath_numbering.specs.declared.tree.PhraseTree.TheVariants.{rolls-Name, rolls-Var, rolls-Str, rolls-List, rolls-Try, rolls-Seq}
use Rattle.ath_numbering.specs.declared.tree.PhraseTree.TheFolds.{fold-roll-PhraseTree}
use Rattle.ath_numbering.specs.Trees.{phrase_of, phrase_step, phrases_of, otherwise_of}
use Rattle.ath_syntax.specs.declared.place.Pos.{Pos}
use Rattle.ath_syntax.specs.declared.node.PatId.{PatId}
use Rattle.ath_syntax.specs.declared.node.PhraseId.{PhraseId}
use Rattle.ath_syntax.specs.declared.node.SortText.{SortText}
use Rattle.ath_syntax.specs.declared.node.Form.{Form}
use Rattle.ath_syntax.specs.declared.node.Form.TheVariants as form
use Rattle.ath_syntax.specs.Nodes.{Nodes, KeepsNodes}
use Rattle.ath_syntax.specs.Tree.{Binder, Phrase, name_at, variable_at, string_at, list_at, ascribe_at, apply_at, call_at, check_at, try_at, seq_at, pick_any_at, pick_witness_at, Phrases, phrases_deduce, Bindings, Clauses, Branches}
use Rattle.ath_syntax.specs.Stands.{IsForm, is_name, is_variable, is_string, is_list, is_ascribe, is_apply, is_call, is_lambda, is_method, is_let, is_letrec, is_match, is_check, is_try, is_seq, is_assume, is_absurd, is_pick_any, is_pick_witness, is_induct, is_cases, is_conclude, IsPhrase, ArePhrases, AreBindings, AreClauses, AreBranches, otherwise_none, otherwise_some}
use Rattle.ath_syntax.specs.Proper.{Proper, ProperPhrases}
use Rattle.ath_numbering.proofs.PhraseLists.{loose_phrases}
use Rattle.ath_syntax.proofs.Kept.{keep_phrase, keep_bindings, keep_branches}

-- ---- forms with no part that is one phrase
name_again : (p : Pos) (n : Sym) → phrase_of (Name p n) ≡ name_at p n
name_again p n = ap phrase_of (sym (rolls-Name p n)) ∙ fold-roll-PhraseTree Phrase phrase_step (one.Name p n)

variable_again : (p : Pos) (x : Sym) (k : ℕ) (o : Option SortText) → phrase_of (Var p x k o) ≡ variable_at p x k o
variable_again p x k o = ap phrase_of (sym (rolls-Var p x k o)) ∙ fold-roll-PhraseTree Phrase phrase_step (one.Var p x k o)

string_again : (p : Pos) (b : List ℕ) → phrase_of (Str p b) ≡ string_at p b
string_again p b = ap phrase_of (sym (rolls-Str p b)) ∙ fold-roll-PhraseTree Phrase phrase_step (one.Str p b)

list_again : (p : Pos) (xs : List PhraseTree) → phrase_of (Listed p xs) ≡ list_at p (phrases_of (map phrase_of xs))
list_again p xs = ap phrase_of (sym (rolls-List p xs)) ∙ fold-roll-PhraseTree Phrase phrase_step (one.List p xs)

try_again : (p : Pos) (xs : List PhraseTree) → phrase_of (Try p xs) ≡ try_at p (phrases_of (map phrase_of xs))
try_again p xs = ap phrase_of (sym (rolls-Try p xs)) ∙ fold-roll-PhraseTree Phrase phrase_step (one.Try p xs)

seq_again : (p : Pos) (xs : List PhraseTree) → phrase_of (Seq p xs) ≡ seq_at p (phrases_of (map phrase_of xs))
seq_again p xs = ap phrase_of (sym (rolls-Seq p xs)) ∙ fold-roll-PhraseTree Phrase phrase_step (one.Seq p xs)

module _ (s : Nodes) (tree : PhraseTree) (p : Pos) where
  by : (f : Form) (made : PhraseTree) (t : Phrase) → tree ≡ made → phrase_of made ≡ t → IsForm s p f t → IsForm s p f (phrase_of tree)
  by f made t e g h = subst (IsForm s p f) (sym (ap phrase_of e ∙ g)) h

  pub name_form : (n : Sym) → tree ≡ Name p n → IsForm s p (form.Name n) (phrase_of tree)
  name_form n e = by _ _ _ e (name_again p n) is_name

  pub variable_form : (x : Sym) (k : ℕ) (o : Option SortText) → tree ≡ Var p x k o → IsForm s p (form.Var x k o) (phrase_of tree)
  variable_form x k o e = by _ _ _ e (variable_again p x k o) is_variable

  pub string_form : (b : List ℕ) → tree ≡ Str p b → IsForm s p (form.Str b) (phrase_of tree)
  string_form b e = by _ _ _ e (string_again p b) is_string

  pub list_form : (is : List PhraseId) (xs : List PhraseTree) → tree ≡ Listed p xs → ArePhrases s is (phrases_of (map phrase_of xs)) → IsForm s p (form.List is) (phrase_of tree)
  list_form is xs e h = by _ _ _ e (list_again p xs) (is_list h)

  pub try_form : (is : List PhraseId) (xs : List PhraseTree) → tree ≡ Try p xs → ArePhrases s is (phrases_of (map phrase_of xs)) → IsForm s p (form.Try is) (phrase_of tree)
  try_form is xs e h = by _ _ _ e (try_again p xs) (is_try h)

  pub seq_form : (is : List PhraseId) (xs : List PhraseTree) → tree ≡ Seq p xs → ArePhrases s is (phrases_of (map phrase_of xs)) → IsForm s p (form.Seq is) (phrase_of tree)
  seq_form is xs e h = by _ _ _ e (seq_again p xs) (is_seq h)

module _ (tree : PhraseTree) (p : Pos) where
  pub list_parts : (xs : List PhraseTree) → tree ≡ Listed p xs → Proper (phrase_of tree) → ProperPhrases None (phrases_of (map phrase_of xs))
  list_parts xs e q = let h = subst Proper (ap phrase_of e ∙ list_again p xs) q in loose_phrases (Some false) (phrases_of (map phrase_of xs)) h.0

  pub try_parts : (xs : List PhraseTree) → tree ≡ Try p xs → Proper (phrase_of tree) → ProperPhrases None (phrases_of (map phrase_of xs))
  try_parts xs e q = let h = subst Proper (ap phrase_of e ∙ try_again p xs) q in loose_phrases (Some (phrases_deduce (phrases_of (map phrase_of xs)))) (phrases_of (map phrase_of xs)) h.1

  pub seq_parts : (xs : List PhraseTree) → tree ≡ Seq p xs → Proper (phrase_of tree) → ProperPhrases None (phrases_of (map phrase_of xs))
  seq_parts xs e q = let h = subst Proper (ap phrase_of e ∙ seq_again p xs) q in loose_phrases (Some true) (phrases_of (map phrase_of xs)) h.1

-- ---- forms with one part that was numbered last, given as what its box holds
module _ (s : Nodes) (p : Pos) (i : PhraseId) (x y : PhraseTree) (e : y ≡ x) (h : IsPhrase s i (phrase_of y)) where
  held : IsPhrase s i (phrase_of x)
  held = subst (λ (z : PhraseTree). IsPhrase s i (phrase_of z)) e h

  pub ascribe_form : (o : SortText) → IsForm s p (form.Ascribe i o) (ascribe_at p (phrase_of x) o)
  ascribe_form o = is_ascribe held

  pub lambda_form : (w : ClosureWord) (ns : List Sym) → w ≡ closure.Lambda → IsForm s p (form.Lambda ns i) (closure_at w p ns (phrase_of x))
  lambda_form w ns g = subst (λ (u : ClosureWord). IsForm s p (form.Lambda ns i) (closure_at u p ns (phrase_of x))) (sym g) (is_lambda held)

  pub method_form : (w : ClosureWord) (ns : List Sym) → w ≡ closure.Method → IsForm s p (form.Method ns i) (closure_at w p ns (phrase_of x))
  method_form w ns g = subst (λ (u : ClosureWord). IsForm s p (form.Method ns i) (closure_at u p ns (phrase_of x))) (sym g) (is_method held)

  pub pick_any_form : (bs : List Binder) → IsForm s p (form.PickAny bs i) (pick_any_at p bs (phrase_of x))
  pick_any_form bs = is_pick_any held

-- ---- forms with a part that was numbered first
module _ (old new : Nodes) (p : Pos) (i : PhraseId) (x y : PhraseTree) (e : y ≡ x) (h : IsPhrase old i (phrase_of y)) (g : KeepsNodes old new) where
  kept : IsPhrase new i (phrase_of x)
  kept = keep_phrase old new g i (phrase_of x) (held old p i x y e h)

  pub apply_form : (is : List PhraseId) (xs : Phrases) → ArePhrases new is xs → IsForm new p (form.Apply i is) (apply_at p (phrase_of x) xs)
  apply_form is xs k = is_apply kept k

  pub call_form : (is : List PhraseId) (xs : Phrases) → ArePhrases new is xs → IsForm new p (form.Call i is) (call_at p (phrase_of x) xs)
  call_form is xs k = is_call kept k

  pub match_form : (w : ClauseWord) (is : List (PatId × PhraseId)) (cs : Clauses) → w ≡ clause.Match → AreClauses new is cs → IsForm new p (form.Match i is) (clauses_at w p (phrase_of x) cs)
  match_form w is cs f k = subst (λ (u : ClauseWord). IsForm new p (form.Match i is) (clauses_at u p (phrase_of x) cs)) (sym f) (is_match kept k)

  pub induct_form : (w : ClauseWord) (is : List (PatId × PhraseId)) (cs : Clauses) → w ≡ clause.Induct → AreClauses new is cs → IsForm new p (form.Induct i is) (clauses_at w p (phrase_of x) cs)
  induct_form w is cs f k = subst (λ (u : ClauseWord). IsForm new p (form.Induct i is) (clauses_at u p (phrase_of x) cs)) (sym f) (is_induct kept k)

  pub cases_form : (w : ClauseWord) (is : List (PatId × PhraseId)) (cs : Clauses) → w ≡ clause.Cases → AreClauses new is cs → IsForm new p (form.Cases i is) (clauses_at w p (phrase_of x) cs)
  cases_form w is cs f k = subst (λ (u : ClauseWord). IsForm new p (form.Cases i is) (clauses_at u p (phrase_of x) cs)) (sym f) (is_cases kept k)

  module _ (j : PhraseId) (z v : PhraseTree) (d : v ≡ z) (k : IsPhrase new j (phrase_of v)) where
    second : IsPhrase new j (phrase_of z)
    second = held new p j z v d k

    pub assume_form : (w : HypothesisWord) (n : Option Sym) → w ≡ hypothesis.Assume → IsForm new p (form.Assume n i j) (hypothesis_at w p n (phrase_of x) (phrase_of z))
    assume_form w n f = subst (λ (u : HypothesisWord). IsForm new p (form.Assume n i j) (hypothesis_at u p n (phrase_of x) (phrase_of z))) (sym f) (is_assume kept second)

    pub absurd_form : (w : HypothesisWord) (n : Option Sym) → w ≡ hypothesis.Absurd → IsForm new p (form.Absurd n i j) (hypothesis_at w p n (phrase_of x) (phrase_of z))
    absurd_form w n f = subst (λ (u : HypothesisWord). IsForm new p (form.Absurd n i j) (hypothesis_at u p n (phrase_of x) (phrase_of z))) (sym f) (is_absurd kept second)

    pub conclude_form : (w : HypothesisWord) (n : Option Sym) → w ≡ hypothesis.Conclude → IsForm new p (form.Conclude n i j) (hypothesis_at w p n (phrase_of x) (phrase_of z))
    conclude_form w n f = subst (λ (u : HypothesisWord). IsForm new p (form.Conclude n i j) (hypothesis_at u p n (phrase_of x) (phrase_of z))) (sym f) (is_conclude kept second)

    pub pick_witness_form : (n : Sym) → IsForm new p (form.PickWitness n i j) (pick_witness_at p n (phrase_of x) (phrase_of z))
    pick_witness_form n = is_pick_witness kept second

-- ---- forms whose last part stands behind its rows
module _ (old new : Nodes) (p : Pos) (is : List (Sym × PhraseId)) (bs : Bindings) (h : AreBindings old is bs) (g : KeepsNodes old new) (i : PhraseId) (x y : PhraseTree) (e : y ≡ x) (k : IsPhrase new i (phrase_of y)) where
  rows : AreBindings new is bs
  rows = keep_bindings old new g is bs h

  pub let_form : (w : LetWord) → w ≡ binding.Let → IsForm new p (form.Let is i) (let_phrase w p bs (phrase_of x))
  let_form w f = subst (λ (u : LetWord). IsForm new p (form.Let is i) (let_phrase u p bs (phrase_of x))) (sym f) (is_let rows (held new p i x y e k))

  pub letrec_form : (w : LetWord) → w ≡ binding.LetRec → IsForm new p (form.LetRec is i) (let_phrase w p bs (phrase_of x))
  letrec_form w f = subst (λ (u : LetWord). IsForm new p (form.LetRec is i) (let_phrase u p bs (phrase_of x))) (sym f) (is_letrec rows (held new p i x y e k))

pub check_form : (s : Nodes) (p : Pos) (is : List (PhraseId × PhraseId)) (bs : Branches) (o : Option PhraseTree) → o ≡ None → AreBranches s is bs → IsForm s p (form.Check is None) (check_at p bs (otherwise_of (option_map phrase_of o)))
check_form s p is bs o e h = subst (λ (q : Option PhraseTree). IsForm s p (form.Check is None) (check_at p bs (otherwise_of (option_map phrase_of q)))) (sym e) (is_check h otherwise_none)

pub check_else_form : (old new : Nodes) (p : Pos) (is : List (PhraseId × PhraseId)) (bs : Branches) (o : Option PhraseTree) (i : PhraseId) (x y : PhraseTree) → o ≡ Some x → AreBranches old is bs → KeepsNodes old new → y ≡ x → IsPhrase new i (phrase_of y) → IsForm new p (form.Check is (Some i)) (check_at p bs (otherwise_of (option_map phrase_of o)))
check_else_form old new p is bs o i x y e h g f k = subst (λ (q : Option PhraseTree). IsForm new p (form.Check is (Some i)) (check_at p bs (otherwise_of (option_map phrase_of q)))) (sym e) (is_check (keep_branches old new g is bs h) (otherwise_some (held new p i x y f k)))
