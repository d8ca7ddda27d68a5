-- What is marked of trees that are built of parts.
use Rattle.std.proofs.Common.{◌≡◌, ℕ, ◌+◌, ◌<◌, ◌≤◌, Bool, true, false, ◌&&◌, List, [], ◌∷◌, ◌++◌, length, map, take, get_or, refl, sym, ◌∙◌, ap, subst, inl, inr}
use Rattle.std.specs.List.{list_all}
use Rattle.std.proofs.lemmas.List.{take_all}
use Rattle.ath_sorts.specs.declared.sorts.Sym.{Sym}
use Rattle.ath_sorts.specs.declared.sorts.SVar.{SVar}
use Rattle.ath_sorts.specs.declared.sorts.Sort.{Sort}
use Rattle.ath_sorts.specs.Sorts.{is_small, apply_to}
use Rattle.ath_sorts.specs.Signature.{Signature}
use Rattle.ath_sorts.proofs.Bools.{and_parts, either_of, true-not-false}
use Rattle.ath_trees.specs.declared.node.Var.{Var}
use Rattle.ath_trees.specs.Groups.{only}
use Rattle.ath_trees.specs.Occurrences.{is_named}
use Rattle.ath_trees.specs.Tree.{Term, var, app, listed, atom, equal}
use Rattle.ath_trees.specs.SortsIn.{sort_in, has_small_sorts, have_small_sorts}
use Rattle.ath_trees.specs.Under.{term_under, terms_under, sent_under}
use Rattle.ath_trees.specs.Variables.{with_term, with_terms}
use Rattle.ath_trees.specs.WellSorted.{HasSort}
use Rattle.ath_trees.proofs.GroupLaws.{both-lack, only-lacks, named-with_var}
use Rattle.ath_trees.proofs.UnderLaws.{sort_in-is, listed-under}
use Rattle.ath_terms.specs.declared.marks.Marks.{Marks}
use Rattle.ath_terms.specs.declared.sort_vars.SortVars.{SortVars}
use Rattle.ath_terms.specs.SortVars.{both, Fixes}
use Rattle.ath_terms.specs.SortsIn.{IsSortedIn}
use Rattle.ath_terms.specs.Trees.{Trees}
use Rattle.ath_terms.specs.Marks.{AreApart, IsMarked, AreMarked, adds, IsNodeMarked, IsSentMarked, all_marks, with_marks, over}
use Rattle.ath_terms.proofs.VariableLaws.{next, map-push}
use Rattle.ath_terms.proofs.SortVarLaws.{fixes-left, fixes-right}

and-more : (a b : Bool) → a ≡ true → b ≡ true → (a && b) ≡ true
and-more a b p q = rw (p, q) refl

adds-push : {T : Type 0} (add : List Var → T → List Var) (found : List Var) (xs : List T) (x : T) → adds add found (xs ++ x ∷ []) ≡ add (adds add found xs) x
adds-push add found [] x = refl
adds-push add found (y ∷ xs) x = adds-push add (add found y) xs x

all-push : {T : Type 0} (p : T → Bool) (xs : List T) (x : T) → list_all p xs ≡ true → p x ≡ true → list_all p (xs ++ x ∷ []) ≡ true
all-push p [] x h e = and-more (p x) true e refl
all-push p (y ∷ xs) x h e = let q = and_parts (p y) (list_all p xs) h in and-more (p y) (list_all p (xs ++ x ∷ [])) q.0 (all-push p xs x q.1 e)

push-same : {T : Type 0} (f : T → T) (xs : List T) (x : T) → map f xs ≡ xs → f x ≡ x → map f (xs ++ x ∷ []) ≡ xs ++ x ∷ []
push-same f xs x h e = map-push f xs x ∙ (λ i. h i ++ e i ∷ [])

module _ {T : Type 0} (add : List Var → T → List Var) (is_tiny : Signature → T → Bool) (under : (SVar → Sort) → T → T) (Fits : Signature → Type 0) where
  pub marked-none : AreMarked add is_tiny under Fits [] all_marks
  marked-none = record { closed = λ e found. refl; lacks = λ v e found. refl; apart = λ e. tt; small = λ e sig h. refl; fixed = λ f h. refl }

  pub marked-push : (xs : List T) (x : T) (m q : Marks) → AreMarked add is_tiny under Fits xs m → IsMarked add is_tiny under Fits x q → AreMarked add is_tiny under Fits (xs ++ x ∷ []) (with_marks m q)
  marked-push xs x m q h k = record {
    closed = λ e found. let p = and_parts m.is_closed q.is_closed e in adds-push add found xs x ∙ ap (λ (l : List Var). add l x) (h.closed p.0 found) ∙ k.closed p.1 found;
    lacks = λ v e found. let p = both-lack m.groups q.groups v e in ap (is_named v) (adds-push add found xs x) ∙ k.lacks v p.1 (adds add found xs) ∙ h.lacks v p.0 found;
    apart = λ e. elim (either_of (m.is_apart && q.is_closed) (m.is_closed && q.is_apart) e) [
      | inl a ↦ (let p = and_parts m.is_apart q.is_closed a in subst AreApart (sym (adds-push add [] xs x ∙ k.closed p.1 (adds add [] xs))) (h.apart p.0))
      | inr a ↦ (let p = and_parts m.is_closed q.is_apart a in subst AreApart (sym (adds-push add [] xs x ∙ ap (λ (l : List Var). add l x) (h.closed p.0 []))) (k.apart p.1))
    ];
    small = λ e sig fits. let p = and_parts m.is_small q.is_small e in all-push (is_tiny sig) xs x (h.small p.0 sig fits) (k.small p.1 sig fits);
    fixed = λ f e. push-same (under f) xs x (h.fixed f (fixes-left m.sorts q.sorts f e)) (k.fixed f (fixes-right m.sorts q.sorts f e));
  }

  -- ---- a loop over ids
  module _ {A : Type 0} (tree : A → T) (ids : List A) where
    abbrev pub MarkedTo : ℕ → Marks → Type 0
    MarkedTo i m = AreMarked add is_tiny under Fits (map tree (take i ids)) m

    pub marked-next : (i : ℕ) (d : A) (m q b : Marks) → i < length ids → MarkedTo i m → IsMarked add is_tiny under Fits (tree (get_or ids i d)) q → b ≡ with_marks m q → MarkedTo (i + 1) b
    marked-next i d m q b l h k e =
        let g = ap (map tree) (next ids i d l) ∙ map-push tree (take i ids) (get_or ids i d) in
        subst (MarkedTo (i + 1)) (sym e) (subst (λ (xs : List T). AreMarked add is_tiny under Fits xs (with_marks m q)) (sym g) (marked-push (map tree (take i ids)) (tree (get_or ids i d)) m q h k))

    pub marked-all : (i : ℕ) (m : Marks) → length ids ≤ i → MarkedTo i m → AreMarked add is_tiny under Fits (map tree ids) m
    marked-all i m l h = subst (λ (js : List A). AreMarked add is_tiny under Fits (map tree js) m) (take_all i ids l) h

-- where less has to fit
module _ {T : Type 0} where
  pub marked-where : (add : List Var → T → List Var) (is_tiny : Signature → T → Bool) (under : (SVar → Sort) → T → T) (Fits Holds : Signature → Type 0) (x y : T) (m : Marks) → x ≡ y → ((sig : Signature) → Holds sig → Fits sig) → IsMarked add is_tiny under Fits x m → IsMarked add is_tiny under Holds y m
  marked-where add is_tiny under Fits Holds x y m e w h = subst (λ (z : T). IsMarked add is_tiny under Holds z m) e (record {
    closed = h.closed;
    lacks = h.lacks;
    apart = h.apart;
    small = λ s sig holds. h.small s sig (w sig holds);
    fixed = h.fixed;
  })

-- ---- terms
pub listed-adds : (found : List Var) (xs : List Term) → with_terms found (listed xs) ≡ adds with_term found xs
listed-adds found [] = refl
listed-adds found (x ∷ xs) = listed-adds (with_term found x) xs

listed-small : (sig : Signature) (xs : List Term) → have_small_sorts sig (listed xs) ≡ list_all (has_small_sorts sig) xs
listed-small sig [] = refl
listed-small sig (x ∷ xs) = ap (λ b. has_small_sorts sig x && b) (listed-small sig xs)

module _ (s : Trees) where
  abbrev Sorted : Signature → Type 0
  Sorted sig = IsSortedIn sig s

  own-small : (sig : Signature) (t : Term) (r : Sort) → HasSort sig t r → is_small r ≡ true → is_small (sort_in sig t) ≡ true
  own-small sig t r h e = ap is_small (sort_in-is sig t r h) ∙ e

  pub app-marked : (g : Sym) (sorts : List Sort) (xs : List Term) (r : Sort) (m : Marks) (a b : Bool) (u w : SortVars) → AreMarked with_term has_small_sorts term_under Sorted xs m → a ≡ is_small r → b ≡ list_all is_small sorts → ((f : SVar → Sort) → Fixes u f → apply_to f r ≡ r) → ((f : SVar → Sort) → Fixes w f → map (apply_to f) sorts ≡ sorts)
      → IsNodeMarked s (app g sorts (listed xs)) r (over m (a && b) (both u w))
  app-marked g sorts xs r m a b u w h p q v z = record {
    tree = record {
      closed = λ e found. listed-adds found xs ∙ h.closed e found;
      lacks = λ v e found. ap (is_named v) (listed-adds found xs) ∙ h.lacks v e found;
      apart = λ e. subst AreApart (sym (listed-adds [] xs)) (h.apart e);
      small = λ e sig fits.
          let x = and_parts m.is_small (a && b) e in
          let y = and_parts a b x.1 in
          and-more (is_small (sort_in sig (app g sorts (listed xs)))) (list_all is_small sorts && have_small_sorts sig (listed xs))
          (own-small sig (app g sorts (listed xs)) r fits.1 (sym p ∙ y.0))
          (and-more (list_all is_small sorts) (have_small_sorts sig (listed xs)) (sym q ∙ y.1) (listed-small sig xs ∙ h.small x.0 sig fits.0));
      fixed = λ f e.
          let k = fixes-right m.sorts (both u w) f e in
          let ss = z f (fixes-right u w f k) in
          let ts : terms_under f (listed xs) ≡ listed xs = listed-under f xs ∙ ap listed (h.fixed f (fixes-left m.sorts (both u w) f e)) in
          λ i. app g (ss i) (ts i);
    };
    sort = λ f e. v f (fixes-left u w f (fixes-right m.sorts (both u w) f e));
  }

  pub var-marked : (v : Var) (r : Sort) (a : Bool) (u w : SortVars) → a ≡ is_small v.sort → ((f : SVar → Sort) → Fixes u f → apply_to f v.sort ≡ v.sort) → ((f : SVar → Sort) → Fixes w f → apply_to f r ≡ r)
      → IsNodeMarked s (var v) r (record { is_closed = false; groups = only v; is_apart = true; is_small = a; sorts = both u w })
  var-marked v r a u w p x y = record {
    tree = record {
      closed = λ e. absurd (true-not-false (sym e));
      lacks = λ w e found. named-with_var w found v (only-lacks w v e);
      apart = λ e. (refl, tt);
      small = λ e sig fits. sym p ∙ e;
      fixed = λ f e. let q = x f (fixes-left u w f e) in λ i. var (record { name = v.name; index = v.index; sort = q i });
    };
    sort = λ f e. y f (fixes-right u w f e);
  }

-- ---- sentences
module _ (s : Trees) where
  abbrev Fine : Signature → Type 0
  Fine sig = IsSortedIn sig s

  pub atom-marked : (t : Term) (m : Marks) → IsMarked with_term has_small_sorts term_under Fine t m → IsSentMarked s (atom t) m
  atom-marked t m h = record { closed = h.closed; lacks = h.lacks; apart = h.apart; small = h.small; fixed = λ f e. ap atom (h.fixed f e) }

  pub equal-marked : (t u : Term) (m q : Marks) → IsMarked with_term has_small_sorts term_under Fine t m → IsMarked with_term has_small_sorts term_under Fine u q → IsSentMarked s (equal t u) (with_marks (with_marks all_marks m) q)
  equal-marked t u m q h k =
      let one = marked-push with_term has_small_sorts term_under Fine [] t all_marks m (marked-none with_term has_small_sorts term_under Fine) h in
      let two = marked-push with_term has_small_sorts term_under Fine (t ∷ []) u (with_marks all_marks m) q one k in
      record {
        closed = two.closed;
        lacks = two.lacks;
        apart = two.apart;
        small = λ e sig fits. and-ends (has_small_sorts sig t) (has_small_sorts sig u) (two.small e sig fits);
        fixed = λ f e. both-same f t u (two.fixed f e);
      }
    where
      and-ends : (a b : Bool) → (a && (b && true)) ≡ true → (a && b) ≡ true
      and-ends a b e = let p = and_parts a (b && true) e in let q = and_parts b true p.1 in and-more a b p.0 q.0

      both-same : (f : SVar → Sort) (t u : Term) → term_under f t ∷ term_under f u ∷ [] ≡ t ∷ u ∷ [] → sent_under f (equal t u) ≡ equal t u
      both-same f t u e = let p : term_under f t ≡ t = cc in let q : term_under f u ≡ u = cc in λ i. equal (p i) (q i)
