-- Variables that are found in order.
use Rattle.std.proofs.Common.{◌≡◌, ℕ, zero, suc, ◌+◌, ◌<◌, ◌≤◌, ◌↔◌, Bool, true, false, cond, not, List, [], ◌∷◌, ◌++◌, length, map, take, get_or, refl, sym, ◌∙◌, ap, arith}
use Rattle.std.specs.Prelude.{filter}
use Rattle.std.proofs.lemmas.List.{take_all}
use Rattle.ath_sorts.specs.declared.sorts.Sort.{Sort}
use Rattle.ath_sorts.specs.Equality.{same_sort}
use Rattle.ath_sorts.proofs.SameSorts.{same_sort-refl, same_sort-true}
use Rattle.ath_trees.specs.declared.node.Var.{Var}
use Rattle.ath_trees.specs.declared.node.Conn.{Conn}
use Rattle.ath_trees.specs.declared.node.TermId.{TermId}
use Rattle.ath_trees.specs.declared.node.SentId.{SentId}
use Rattle.ath_terms.specs.declared.node.TermNode.{TermNode}
use Rattle.ath_terms.specs.declared.node.TermNode.TheVariants.{App}
use Rattle.ath_terms.specs.declared.node.SentNode.{SentNode}
use Rattle.ath_terms.specs.declared.node.SentNode.TheVariants as node
use Rattle.ath_sorts.specs.declared.sorts.Sym.{Sym}
use Rattle.ath_trees.specs.Tree.{Term, listed, Sent}
use Rattle.ath_terms.specs.Trees.{term_at, sent_at}
use Rattle.ath_terms.specs.Nodes.{term_tree, sent_tree, IsSentBelow}
use Rattle.ath_trees.specs.Variables.{same_var, with_var, with_vars, with_term, with_terms, with_sent, with_sents}
use Rattle.ath_trees.proofs.Occurring.{same_var-refl, same_var-true}
use Rattle.ath_terms.proofs.ConnParts.{vars_of_conn}

pub tells_same : (b : Bool) (s t : Sort) → (b ≡ true) ↔ (s ≡ t) → b ≡ same_sort s t
tells_same true s t h = rw (h.0 refl) (sym (same_sort-refl t))
tells_same false s t h = go (same_sort s t) refl
  where
    go : (x : Bool) → same_sort s t ≡ x → false ≡ same_sort s t
    go true e = absurd (let r = h.1 (same_sort-true s t e) in cc)
    go false e = sym e

pub var_told : (b : Bool) (v w : Var) → b ≡ same_var v w → (b ≡ true) ↔ (v ≡ w)
var_told b v w e = (λ t. same_var-true v w (sym e ∙ t), λ p. e ∙ rw p (same_var-refl w))

-- one more at the end
terms-push : (found : List Var) (xs : List Term) (x : Term) → with_terms found (listed (xs ++ x ∷ [])) ≡ with_term (with_terms found (listed xs)) x
terms-push found [] x = refl
terms-push found (y ∷ xs) x = terms-push (with_term found y) xs x

sents-push : (found : List Var) (xs : List Sent) (x : Sent) → with_sents found (xs ++ x ∷ []) ≡ with_sent (with_sents found xs) x
sents-push found [] x = refl
sents-push found (y ∷ xs) x = sents-push (with_sent found y) xs x

vars-push : (found : List Var) (vs : List Var) (v : Var) → with_vars found (vs ++ v ∷ []) ≡ with_var (with_vars found vs) v
vars-push found [] v = refl
vars-push found (w ∷ vs) v = vars-push (with_var found w) vs v

pub map-push : {A B : Type 0} (f : A → B) (xs : List A) (x : A) → map f (xs ++ x ∷ []) ≡ map f xs ++ f x ∷ []
map-push f [] x = refl
map-push f (y ∷ xs) x = ap (λ l. f y ∷ l) (map-push f xs x)

filter-push : (p : Var → Bool) (xs : List Var) (x : Var) → filter p (xs ++ x ∷ []) ≡ filter p xs ++ cond (p x) (x ∷ []) []
filter-push p [] x = refl
filter-push p (y ∷ xs) x = by (p y) (filter-push p xs x)
  where
    by : (b : Bool) → filter p (xs ++ x ∷ []) ≡ filter p xs ++ cond (p x) (x ∷ []) [] → cond b (y ∷ filter p (xs ++ x ∷ [])) (filter p (xs ++ x ∷ [])) ≡ cond b (y ∷ filter p xs) (filter p xs) ++ cond (p x) (x ∷ []) []
    by true e = ap (λ l. y ∷ l) e
    by false e = e

pub next : {A : Type 0} (xs : List A) (i : ℕ) (d : A) → i < length xs → take (i + 1) xs ≡ take i xs ++ get_or xs i d ∷ []
next [] i d h = absurd (omega arith)
next (x ∷ xs) zero d h = refl
next (x ∷ xs) (suc i) d h = let s : suc i + 1 ≡ suc (i + 1) = omega arith in rw s (ap (λ l. x ∷ l) (next xs i d (omega arith)))

-- a loop over the arguments
module _ (ts : List Term) (old : List Var) (xs : List TermId) where
  abbrev pub term_vars_to : ℕ → List Var
  term_vars_to i = with_terms old (listed (map (λ j. term_at ts j.0) (take i xs)))

  pub term_vars-next : (i : ℕ) (d : TermId) (found more : List Var) → i < length xs → found ≡ term_vars_to i → more ≡ with_term found (term_at ts (get_or xs i d).0) → more ≡ term_vars_to (i + 1)
  term_vars-next i d found more h e f =
      f ∙ ap (λ (l : List Var). with_term l (term_at ts (get_or xs i d).0)) e
      ∙ sym (terms-push old (map (λ j. term_at ts j.0) (take i xs)) (term_at ts (get_or xs i d).0))
      ∙ ap (λ (l : List Term). with_terms old (listed l)) (sym (map-push (λ (j : TermId). term_at ts j.0) (take i xs) (get_or xs i d)) ∙ ap (map (λ (j : TermId). term_at ts j.0)) (sym (next xs i d h)))

  pub term_vars-all : (i t : ℕ) (n : TermNode) (f : Sym) (ss : List Sort) (ids : List TermId) (found : List Var) → term_tree ts n ≡ term_at ts t → n ≡ App f ss ids → xs ≡ ids → length xs ≤ i → found ≡ term_vars_to i → found ≡ with_term old (term_at ts t)
  term_vars-all i t n f ss ids found tree is same h e =
      let p = rw is at tree in
      rw (← p) (e ∙ ap (λ (l : List TermId). with_terms old (listed (map (λ j. term_at ts j.0) l))) (take_all i xs h ∙ same))

module _ (ss : List Sent) (old : List Var) (xs : List SentId) where
  abbrev pub sent_vars_to : ℕ → List Var
  sent_vars_to i = with_sents old (map (λ j. sent_at ss j.0) (take i xs))

  pub sent_vars-next : (i : ℕ) (d : SentId) (found more : List Var) → i < length xs → found ≡ sent_vars_to i → more ≡ with_sent found (sent_at ss (get_or xs i d).0) → more ≡ sent_vars_to (i + 1)
  sent_vars-next i d found more h e f =
      f ∙ ap (λ (l : List Var). with_sent l (sent_at ss (get_or xs i d).0)) e
      ∙ sym (sents-push old (map (λ j. sent_at ss j.0) (take i xs)) (sent_at ss (get_or xs i d).0))
      ∙ ap (with_sents old) (sym (map-push (λ (j : SentId). sent_at ss j.0) (take i xs) (get_or xs i d)) ∙ ap (map (λ (j : SentId). sent_at ss j.0)) (sym (next xs i d h)))

  pub sent_vars-all : (ts : List Term) (m k i p : ℕ) (n : SentNode) (c : Conn) (ids : List SentId) (found : List Var) → sent_tree ts ss n ≡ sent_at ss p → IsSentBelow m k n → n ≡ node.Conn c ids → xs ≡ ids → length xs ≤ i → found ≡ sent_vars_to i → found ≡ with_sent old (sent_at ss p)
  sent_vars-all ts m k i p n c ids found tree below is same h e =
      let q = rw is at tree in
      let b = rw is at below in
      rw (← q) (e ∙ ap (λ (l : List SentId). with_sents old (map (λ j. sent_at ss j.0) l)) (take_all i xs h ∙ same) ∙ sym (vars_of_conn old c ss ids b.0))

-- a loop over the variables of a body
module _ (old xs : List Var) (v : Var) where
  abbrev pub others_to : ℕ → List Var
  others_to i = with_vars old (filter (λ w. not (same_var v w)) (take i xs))

  others-step : (i : ℕ) (d : Var) → i < length xs → others_to (i + 1) ≡ with_vars old (filter (λ w. not (same_var v w)) (take i xs) ++ cond (not (same_var v (get_or xs i d))) (get_or xs i d ∷ []) [])
  others-step i d h = ap (λ (l : List Var). with_vars old (filter (λ w. not (same_var v w)) l)) (next xs i d h) ∙ ap (with_vars old) (filter-push (λ w. not (same_var v w)) (take i xs) (get_or xs i d))

  append-none : (ys : List Var) → ys ++ [] ≡ ys
  append-none [] = refl
  append-none (y ∷ ys) = ap (λ l. y ∷ l) (append-none ys)

  others-by : (b : Bool) (front : List Var) (w : Var) → with_vars old (front ++ cond (not b) (w ∷ []) []) ≡ cond b (with_vars old front) (with_var (with_vars old front) w)
  others-by true front w = ap (with_vars old) (append-none front)
  others-by false front w = vars-push old front w

  pub others-next : (i : ℕ) (d : Var) (found more : List Var) → i < length xs → found ≡ others_to i → more ≡ cond (same_var v (get_or xs i d)) found (with_var found (get_or xs i d)) → more ≡ others_to (i + 1)
  others-next i d found more h e g =
      g ∙ ap (λ (l : List Var). cond (same_var v (get_or xs i d)) l (with_var l (get_or xs i d))) e
      ∙ sym (others-step i d h ∙ others-by (same_var v (get_or xs i d)) (filter (λ w. not (same_var v w)) (take i xs)) (get_or xs i d))

  pub others-all : (i : ℕ) (found : List Var) → length xs ≤ i → found ≡ others_to i → found ≡ with_vars old (filter (λ w. not (same_var v w)) xs)
  others-all i found h e = e ∙ ap (λ (l : List Var). with_vars old (filter (λ w. not (same_var v w)) l)) (take_all i xs h)
