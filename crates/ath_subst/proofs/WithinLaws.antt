-- Whether the sorts of a term or a sentence under a substitution are within the limits, as its walk finds it.
use Rattle.std.proofs.Common.{◌≡◌, ℕ, ◌+◌, ◌<◌, ◌≤◌, ◌&&◌, Bool, true, false, List, [], ◌∷◌, length, map, take, get_or, refl, sym, ◌∙◌, ap}
use Rattle.std.specs.List.{list_all}
use Rattle.std.proofs.lemmas.List.{take_all}
use Rattle.std.proofs.lemmas.List.Folds.{list_all_more, list_all-map}
use Rattle.ath_sorts.specs.declared.sorts.Sym.{Sym}
use Rattle.ath_sorts.specs.declared.sorts.SVar.{SVar}
use Rattle.ath_sorts.specs.declared.sorts.Sort.{Sort}
use Rattle.ath_sorts.specs.Sorts.{is_small, apply_to}
use Rattle.ath_sorts.specs.Signature.{Signature}
use Rattle.ath_trees.specs.declared.node.Var.{Var as Variable}
use Rattle.ath_trees.specs.declared.node.SentId.{SentId}
use Rattle.ath_trees.specs.declared.node.TermId.{TermId}
use Rattle.ath_terms.specs.declared.node.TermNode.{TermNode}
use Rattle.ath_terms.specs.declared.node.TermNode.TheVariants.{Var, App}
use Rattle.ath_trees.specs.Tree.{Term, var, app, listed, Sent}
use Rattle.ath_terms.specs.Trees.{Trees, term_at, sort_at, sent_at}
use Rattle.ath_terms.specs.Nodes.{term_tree}
use Rattle.ath_trees.specs.SortsIn.{sort_in, has_small_sorts, have_small_sorts, sent_has_small_sorts}
use Rattle.ath_terms.specs.SortsIn.{IsSortedIn}
use Rattle.ath_trees.specs.Under.{term_under, terms_under, sent_under}
use Rattle.ath_trees.proofs.UnderLaws.{sort_in-under}

abbrev pub terms_within : Signature → (SVar → Sort) → List Term → List TermId → Bool
terms_within sig f ts ids = list_all (λ j. has_small_sorts sig (term_under f (term_at ts j.0))) ids

abbrev pub sents_within : Signature → (SVar → Sort) → List Sent → List SentId → Bool
sents_within sig f ss ids = list_all (λ j. sent_has_small_sorts sig (sent_under f (sent_at ss j.0))) ids

pub within-listed : (sig : Signature) (f : SVar → Sort) (ts : List Term) (ids : List TermId) → have_small_sorts sig (terms_under f (listed (map (λ j. term_at ts j.0) ids))) ≡ terms_within sig f ts ids
within-listed sig f ts [] = refl
within-listed sig f ts (i ∷ ids) = ap (λ b. has_small_sorts sig (term_under f (term_at ts i.0)) && b) (within-listed sig f ts ids)

-- one more, as at a step of a loop, and the last of them
pub within-next : {A : Type 0} (p : A → Bool) (xs : List A) (i : ℕ) (d : A) → i < length xs → list_all p (take i xs) ≡ true → p (get_or xs i d) ≡ true → list_all p (take (i + 1) xs) ≡ true
within-next p xs i d h e f = list_all_more p xs i d h ∙ rw (e, f) refl

pub within-all : {A : Type 0} (p : A → Bool) (xs : List A) (i : ℕ) → length xs ≤ i → list_all p (take i xs) ≡ true → list_all p xs ≡ true
within-all p xs i h e = ap (list_all p) (sym (take_all i xs h)) ∙ e

small-first : (sig : Signature) (t : Term) → is_small (sort_in sig t) ≡ false → has_small_sorts sig t ≡ false
small-first sig (var v) e = e
small-first sig (app g sorts args) e = ap (λ b. b && (list_all is_small sorts && have_small_sorts sig args)) e

module _ (sig : Signature) (s : Trees) (f : SVar → Sort) (sorted : IsSortedIn sig s) (t : ℕ) (inside : t < length s.terms) where
  own : is_small (sort_in sig (term_under f (term_at s.terms t))) ≡ is_small (apply_to f (sort_at s.sorts t))
  own = ap is_small (sort_in-under sig f (term_at s.terms t) (sort_at s.sorts t) sorted.valid (sorted.terms t inside))

  pub within-none : (b : Bool) (r : Sort) → b ≡ is_small (apply_to f r) → r ≡ sort_at s.sorts t → b ≡ false → false ≡ has_small_sorts sig (term_under f (term_at s.terms t))
  within-none b r e q z = sym (small-first sig (term_under f (term_at s.terms t)) (own ∙ ap (λ x. is_small (apply_to f x)) (sym q) ∙ sym e ∙ z))

  module _ (n : TermNode) (tree : term_tree s.terms n ≡ term_at s.terms t) (b : Bool) (r : Sort) (e : b ≡ is_small (apply_to f r)) (q : r ≡ sort_at s.sorts t) (first : b ≡ true) where
    own_true : is_small (sort_in sig (term_under f (term_at s.terms t))) ≡ true
    own_true = own ∙ ap (λ x. is_small (apply_to f x)) (sym q) ∙ sym e ∙ first

    pub within-var : (v : Variable) → n ≡ Var v → true ≡ has_small_sorts sig (term_under f (term_at s.terms t))
    within-var v is = let p = rw is at tree in sym own_true ∙ (λ i. is_small (sort_in sig (term_under f (sym p i)))) ∙ (λ i. has_small_sorts sig (term_under f (p i)))

    module _ (g : Sym) (sorts : List Sort) (xs ids : List TermId) (is : n ≡ App g sorts ids) (same : xs ≡ ids) where
      parts : has_small_sorts sig (term_under f (term_at s.terms t)) ≡ (list_all (λ r. is_small (apply_to f r)) sorts && terms_within sig f s.terms xs)
      parts =
          let p = rw is at tree in
          let o : is_small (sort_in sig (term_under f (app g sorts (listed (map (λ j. term_at s.terms j.0) ids))))) ≡ true = (λ i. is_small (sort_in sig (term_under f (p i)))) ∙ own_true in
          (λ i. has_small_sorts sig (term_under f (sym p i)))
          ∙ (λ i. o i && (list_all-map is_small (apply_to f) sorts i && (within-listed sig f s.terms ids ∙ ap (terms_within sig f s.terms) (sym same)) i))

      module _ (c : Bool) (these : List Sort) (d : c ≡ list_all (λ r. is_small (apply_to f r)) these) (as_they_are : these ≡ sorts) where
        sorts_are : list_all (λ r. is_small (apply_to f r)) sorts ≡ c
        sorts_are = ap (list_all (λ r. is_small (apply_to f r))) (sym as_they_are) ∙ sym d

        pub within-sorts : c ≡ false → false ≡ has_small_sorts sig (term_under f (term_at s.terms t))
        within-sorts z = sym (parts ∙ ap (λ b. b && terms_within sig f s.terms xs) (sorts_are ∙ z))

        pub within-parts : (x : Bool) → c ≡ true → terms_within sig f s.terms xs ≡ x → x ≡ has_small_sorts sig (term_under f (term_at s.terms t))
        within-parts x z k = sym (parts ∙ ap (λ b. b && terms_within sig f s.terms xs) (sorts_are ∙ z) ∙ k)
