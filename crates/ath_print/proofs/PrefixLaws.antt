-- Sorts, variables and terms in a line.
use Rattle.std.proofs.Common.{◌≡◌, ℕ, ◌<◌, Bool, true, false, ◌==◌, List, [], ◌∷◌, ◌++◌, Option, Some, length, map, refl, sym, ◌∙◌, ap, codes, arith}
use Rattle.std.specs.List.{list_any}
use Rattle.std.proofs.lemmas.Grind.{common_steps}
use Rattle.std.proofs.lemmas.List.{length-map}
use Rattle.ath_sorts.specs.declared.sorts.Sym.{Sym}
use Rattle.ath_sorts.specs.declared.sorts.SVar.{SVar}
use Rattle.ath_sorts.specs.declared.sorts.Sort.{Sort, Var, Con}
use Rattle.ath_sorts.specs.declared.sorts.Sort.TheOpen as one
use Rattle.ath_sorts.specs.declared.sorts.Sort.TheVariants.{rolls-Var, rolls-Con}
use Rattle.ath_sorts.specs.declared.sorts.Sort.TheFolds.{fold-roll-Sort}
use Rattle.ath_sorts.specs.declared.signature.Symbol.{Symbol}
use Rattle.ath_sorts.specs.Signature.{Signature}
use Rattle.ath_trees.specs.declared.node.Var.{Var as Variable}
use Rattle.ath_trees.specs.declared.node.TermId.{TermId}
use Rattle.ath_trees.specs.SortsIn.{sort_in, result_sort}
use Rattle.ath_terms.specs.SortsIn.{IsSortedIn}
use Rattle.ath_trees.specs.declared.node.SentId.{SentId}
use Rattle.ath_trees.specs.declared.node.Conn.{Conn}
use Rattle.ath_trees.specs.declared.node.Conn.TheVariants.{Not, And, Or, If, Iff}
use Rattle.ath_trees.specs.declared.node.Quant.{Quant}
use Rattle.ath_terms.specs.declared.node.TermNode.{TermNode}
use Rattle.ath_terms.specs.declared.node.TermNode.TheVariants.{App}
use Rattle.ath_terms.specs.declared.node.SentNode.{SentNode}
use Rattle.ath_terms.specs.declared.node.SentNode.TheVariants.{Eq, Conn as ConnNode, Quant as QuantNode}
use Rattle.ath_terms.specs.Nodes.{arity, conn_tree, term_tree, sent_tree, IsSentBelow}
use Rattle.ath_trees.specs.Tree.{Term, var, app, listed, Sent, equal}
use Rattle.ath_terms.specs.Trees.{Trees, term_at, sort_at, sent_at}
use Rattle.ath_trees.specs.WellSorted.{HasSort}
use Rattle.ath_env.specs.LookUp.{text_of}
use Rattle.ath_print.specs.Printers.{Printer, Line, word, in_turn, spaced, item, after}
use Rattle.ath_print.proofs.PieceLaws.{after_none, after_five, after_spaced, item_whole}
use Rattle.ath_print.specs.Prefix.{conn_text, quant_text, with_sort, sent_printed, svar_printed, sort_step, sort_printed, term_printed, terms_printed, plain_printed, is_ascribed, ascribed, is_unsaid, leaves_unsaid}

-- ---- sorts
pub sort_var : (names : List (List ℕ)) (v : SVar) → sort_printed names (Var v) ≡ svar_printed v
sort_var names v = ap (sort_printed names) (sym (rolls-Var v)) ∙ fold-roll-Sort Printer (sort_step names) (one.Var v)

pub sort_con : (names : List (List ℕ)) (c : Sym) (args : List Sort) → sort_printed names (Con c args) ≡ item (text_of names c) (map (sort_printed names) args)
sort_con names c args = ap (sort_printed names) (sym (rolls-Con c args)) ∙ fold-roll-Sort Printer (sort_step names) (one.Con c args)

-- ---- terms
pub terms_map : (names : List (List ℕ)) (sig : Signature) (binders : List Variable) (ts : List Term) (ids : List TermId) → terms_printed names sig binders (listed (map (λ i. term_at ts i.0) ids)) ≡ map (λ (i : TermId). term_printed names sig binders (term_at ts i.0)) ids
terms_map names sig binders ts [] = refl
terms_map names sig binders ts (i ∷ ids) = ap (λ ps. term_printed names sig binders (term_at ts i.0) ∷ ps) (terms_map names sig binders ts ids)

pub term_ascribed : (names : List (List ℕ)) (sig : Signature) (binders : List Variable) (t : Term) → term_printed names sig binders t ≡ ascribed names (is_ascribed sig t) (sort_in sig t) (plain_printed names sig binders t)
term_ascribed names sig binders (var v) = refl
term_ascribed names sig binders (app f sorts args) = refl

has_in : (sig : Signature) (t : Term) (s : Sort) → HasSort sig t s → s ≡ sort_in sig t
has_in sig (var v) s (HasSort.var_has valid e) = e
has_in sig (app f sorts args) s (HasSort.app_has d found long valid have e) = e ∙ ap (λ o. result_sort o sorts) (sym found)

-- the sort that a sorted store keeps for a term
pub kept_sort : (sig : Signature) (s : Trees) (t : ℕ) → IsSortedIn sig s → t < length s.terms → sort_at s.sorts t ≡ sort_in sig (term_at s.terms t)
kept_sort sig s t h below = has_in sig (term_at s.terms t) (sort_at s.sorts t) (h.terms t below)

-- ---- numbers
same_numbers : (m n : ℕ) → m ≡ n → (m == n) ≡ true
same_numbers m n e = grind (arith, common_steps)

-- ---- sentences
pub conn_printed : (names : List (List ℕ)) (sig : Signature) (binders : List Variable) (c : Conn) (ss : List Sent) (ids : List SentId) → length ids ≡ arity c → sent_printed names sig binders (conn_tree c (map (λ i. sent_at ss i.0) ids)) ≡ item (conn_text c) (map (λ (i : SentId). sent_printed names sig binders (sent_at ss i.0)) ids)
conn_printed names sig binders Not ss (p ∷ []) e = refl
conn_printed names sig binders And ss (p ∷ q ∷ []) e = refl
conn_printed names sig binders Or ss (p ∷ q ∷ []) e = refl
conn_printed names sig binders If ss (p ∷ q ∷ []) e = refl
conn_printed names sig binders Iff ss (p ∷ q ∷ []) e = refl
conn_printed names sig binders Not ss [] e = absurd (omega arith)
conn_printed names sig binders Not ss (p ∷ q ∷ ids) e = absurd (omega arith)
conn_printed names sig binders And ss [] e = absurd (omega arith)
conn_printed names sig binders Or ss [] e = absurd (omega arith)
conn_printed names sig binders If ss [] e = absurd (omega arith)
conn_printed names sig binders Iff ss [] e = absurd (omega arith)
conn_printed names sig binders And ss (p ∷ []) e = absurd (omega arith)
conn_printed names sig binders Or ss (p ∷ []) e = absurd (omega arith)
conn_printed names sig binders If ss (p ∷ []) e = absurd (omega arith)
conn_printed names sig binders Iff ss (p ∷ []) e = absurd (omega arith)
conn_printed names sig binders And ss (p ∷ q ∷ r ∷ ids) e = absurd (omega arith)
conn_printed names sig binders Or ss (p ∷ q ∷ r ∷ ids) e = absurd (omega arith)
conn_printed names sig binders If ss (p ∷ q ∷ r ∷ ids) e = absurd (omega arith)
conn_printed names sig binders Iff ss (p ∷ q ∷ r ∷ ids) e = absurd (omega arith)

some_parts : (c : Conn) (n : ℕ) → n ≡ arity c → n ≡ 0 → ⊥
some_parts Not n e z = absurd (omega arith)
some_parts And n e z = absurd (omega arith)
some_parts Or n e z = absurd (omega arith)
some_parts If n e z = absurd (omega arith)
some_parts Iff n e z = absurd (omega arith)

module _ (names : List (List ℕ)) (sig : Signature) (binders : List Variable) (s : Trees) (p : ℕ) (node : SentNode) (m k : ℕ) (tree : sent_tree s.terms s.sents node ≡ sent_at s.sents p) (below : IsSentBelow m k node) where
  pub equation_done : (a b : TermId) (within : List Variable) (old new : Line) → node ≡ Eq a b → within ≡ binders → new ≡ after (sent_printed names sig within (equal (term_at s.terms a.0) (term_at s.terms b.0))) old → new ≡ after (sent_printed names sig binders (sent_at s.sents p)) old
  equation_done a b within old new is within_is h =
      let e = rw is at tree in
      h
      ∙ ap (λ bs. after (sent_printed names sig bs (equal (term_at s.terms a.0) (term_at s.terms b.0))) old) within_is
      ∙ ap (λ q. after (sent_printed names sig binders q) old) e

  pub conn_done : (c : Conn) (ids parts : List SentId) (text : List ℕ) (old a b now new : Line) → node ≡ ConnNode c ids → parts ≡ ids → text ≡ conn_text c → a ≡ after (word (codes "(")) old → b ≡ after (word text) a
      → now ≡ after (spaced (map (λ (i : SentId). sent_printed names sig binders (sent_at s.sents i.0)) parts)) b → new ≡ after (word (codes ")")) now → new ≡ after (sent_printed names sig binders (sent_at s.sents p)) old
  conn_done c ids parts text old a b now new is parts_are text_is h₁ h₂ h₃ h₄ =
      let e = rw is at tree in
      let w = rw is at below in
      let f : SentId → Printer = λ i. sent_printed names sig binders (sent_at s.sents i.0) in
      item_whole (conn_text c) (map f ids) old a b now new (λ z. some_parts c (length ids) w.0 (sym (length-map ids f) ∙ z)) h₁ (h₂ ∙ ap (λ t. after (word t) a) text_is) (h₃ ∙ ap (λ is. after (spaced (map f is)) b) parts_are) h₄
      ∙ ap (λ q. after q old) (sym (conn_printed names sig binders c s.sents ids w.0) ∙ ap (sent_printed names sig binders) e)

  pub quant_done : (q : Quant) (v : Variable) (body : SentId) (within : List Variable) (old a b new : Line) → node ≡ QuantNode q v body → within ≡ binders ++ v ∷ []
      → a ≡ after (in_turn (word (codes "(") ∷ word (quant_text q) ∷ word (codes " ") ∷ with_sort names v ∷ word (codes " ") ∷ [])) old
      → b ≡ after (sent_printed names sig within (sent_at s.sents body.0)) a → new ≡ after (word (codes ")")) b → new ≡ after (sent_printed names sig binders (sent_at s.sents p)) old
  quant_done q v body within old a b new is within_is h₁ h₂ h₃ =
      let e = rw is at tree in
      let r : Printer = sent_printed names sig (binders ++ v ∷ []) (sent_at s.sents body.0) in
      let opened = h₁ ∙ after_five (word (codes "(")) (word (quant_text q)) (word (codes " ")) (with_sort names v) (word (codes " ")) old in
      let start : Line = after (word (quant_text q)) (after (word (codes "(")) old) in
      let both = after_spaced (with_sort names v) (r ∷ []) start ∙ after_spaced r [] _ ∙ after_none _ in
      let inner : b ≡ after (spaced (with_sort names v ∷ r ∷ [])) start = h₂ ∙ ap (λ bs. after (sent_printed names sig bs (sent_at s.sents body.0)) a) within_is ∙ ap (after r) opened ∙ sym both in
      item_whole (quant_text q) (with_sort names v ∷ r ∷ []) old _ start b new (λ z. absurd (omega (arith, z))) refl refl inner h₃
      ∙ ap (λ t. after (sent_printed names sig binders t) old) e

not_none : (n : ℕ) → (n == 0) ≡ false → n ≡ 0 → ⊥
not_none n e z = absurd (let one : (n == 0) ≡ true = same_numbers n 0 z in cc)

-- ---- a term, once its pieces are printed
pub unsaid_at : (r : Bool) (args kept : List Sort) (p : Sym) → r ≡ is_unsaid args p → args ≡ kept → is_unsaid kept p ≡ r
unsaid_at r args kept p e a = ap (λ ss. is_unsaid ss p) (sym a) ∙ sym e

pub unsaid_of : (o : Option Symbol) (d : Symbol) → o ≡ Some d → list_any (is_unsaid d.args) d.params ≡ leaves_unsaid o
unsaid_of o d e = ap leaves_unsaid (sym e)

module _ (names : List (List ℕ)) (sig : Signature) (binders : List Variable) where
  pub app_done : (ts : List Term) (x : Term) (node : TermNode) (f : Sym) (sorts : List Sort) (ids parts : List TermId) (text : List ℕ) (is_empty : Bool) (old a b now new : Line) → term_tree ts node ≡ x → node ≡ App f sorts ids → parts ≡ ids → text ≡ text_of names f
      → is_empty ≡ (length parts == 0) → is_empty ≡ false → a ≡ after (word (codes "(")) old → b ≡ after (word text) a → now ≡ after (spaced (map (λ (i : TermId). term_printed names sig binders (term_at ts i.0)) parts)) b → new ≡ after (word (codes ")")) now
      → new ≡ after (plain_printed names sig binders x) old
  app_done ts x node f sorts ids parts text is_empty old a b now new tree is parts_are text_is tested some h₁ h₂ h₃ h₄ =
      let e : app f sorts (listed (map (λ i. term_at ts i.0) ids)) ≡ x = rw is at tree in
      let g : TermId → Printer = λ i. term_printed names sig binders (term_at ts i.0) in
      let filled : length ids ≡ 0 → ⊥ = λ z. not_none (length ids) (ap (λ is. length is == 0) (sym parts_are) ∙ sym tested ∙ some) z in
      item_whole (text_of names f) (map g ids) old a b now new (λ z. filled (sym (length-map ids g) ∙ z)) h₁ (h₂ ∙ ap (λ t. after (word t) a) text_is) (h₃ ∙ ap (λ is. after (spaced (map g is)) b) parts_are) h₄
      ∙ ap (λ q. after q old) (ap (item (text_of names f)) (sym (terms_map names sig binders ts ids)) ∙ ap (plain_printed names sig binders) e)

  pub ascribed_done : (x : Term) (kept : Sort) (passed : Bool) (old a b c d new : Line) → passed ≡ is_ascribed sig x → passed ≡ true → kept ≡ sort_in sig x
      → a ≡ after (word (codes "(")) old → b ≡ after (plain_printed names sig binders x) a → c ≡ after (word (codes " : ")) b → d ≡ after (sort_printed names kept) c → new ≡ after (word (codes ")")) d
      → new ≡ after (term_printed names sig binders x) old
  ascribed_done x kept passed old a b c d new tested shown sort_is h₁ h₂ h₃ h₄ h₅ =
      let whole = term_ascribed names sig binders x ∙ ap (λ b. ascribed names b (sort_in sig x) (plain_printed names sig binders x)) (sym tested ∙ shown) in
      rw (h₅, h₄, h₃, h₂, h₁, sort_is, whole) (sym (after_five (word (codes "(")) (plain_printed names sig binders x) (word (codes " : ")) (sort_printed names (sort_in sig x)) (word (codes ")")) old))

  pub plain_done : (x : Term) (passed : Bool) (old new : Line) → passed ≡ is_ascribed sig x → passed ≡ false → new ≡ after (plain_printed names sig binders x) old → new ≡ after (term_printed names sig binders x) old
  plain_done x passed old new tested hidden h =
      h ∙ ap (λ q. after q old) (sym (term_ascribed names sig binders x ∙ ap (λ b. ascribed names b (sort_in sig x) (plain_printed names sig binders x)) (sym tested ∙ hidden)))
