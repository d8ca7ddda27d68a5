-- The sort instance of a sentence is found exactly where there is one.
use Rattle.std.proofs.Common.{◌≡◌, ◌==◌, Bool, true, false, cond, List, [], ◌∷◌, ◌++◌, map, Option, Some, None, ◌↔◌, refl, sym, ◌∙◌, ap, subst, inl, inr}
use Rattle.std.specs.Prelude.{option_and_then, if◌then◌else◌}
use Rattle.std.specs.Option.{is_some}
use Rattle.std.specs.List.{AllByRecursion}
use Rattle.ath_sorts.specs.declared.sorts.Sym.{Sym}
use Rattle.ath_sorts.specs.declared.sorts.SVar.{SVar}
use Rattle.ath_sorts.specs.declared.sorts.Sort.{Sort, Var as sort_var, Con, out-Sort}
use Rattle.ath_sorts.specs.declared.sorts.Sort.TheOpen as one
use Rattle.ath_sorts.specs.declared.sorts.Sort.TheVariants.{rolls-Var, rolls-Con, outs-Var, outs-Con}
use Rattle.ath_sorts.specs.declared.sorts.Sort.TheFolds.{fold-roll-Sort}
use Rattle.ath_sorts.specs.Matching.{Agrees}
use Rattle.ath_sorts.specs.Sorts.{same_svar, image, apply_to}
use Rattle.ath_sorts.specs.Substitutions.{entry_of}
use Rattle.ath_sorts.specs.Equality.{same_sort}
use Rattle.ath_sorts.proofs.Bools.{and_parts, same_num, num_same}
use Rattle.ath_sorts.proofs.Gets.{cons-head, cons-tail, some-inj}
use Rattle.ath_sorts.proofs.MatchingLaws.{extends-var}
use Rattle.ath_sorts.proofs.SameSorts.{same_sort-refl, same_sort-true}
use Rattle.ath_sorts.proofs.SortLaws.{sort_induction, apply-var, apply-con, Con-inj, Var-not-Con, same_svar-true}
use Rattle.ath_sorts.proofs.SubstitutionLaws.{image-some, image-none, sort_cases, entry-absent}
use Rattle.ath_trees.specs.declared.node.Var.{Var}
use Rattle.ath_trees.specs.declared.node.Binary.{Binary}
use Rattle.ath_trees.specs.declared.node.Binary.TheVariants.{And, Or, If, Iff}
use Rattle.ath_trees.specs.declared.node.Quant.{Quant}
use Rattle.ath_trees.specs.declared.node.Quant.TheVariants.{Forall, Exists}
use Rattle.ath_trees.specs.Tree.{Sent}
use Rattle.ath_trees.specs.Variables.{is_namesake}
use Rattle.ath_trees.specs.Under.{var_under}
use Rattle.ath_trees.specs.Nameless.{NTerm, NTerms, nfree, nbound, napp, nnone, nmore, NSent, natom, nequal, nnegated, njoined, nquant, nameless, AlphaEqual, term_instance, terms_instance, sent_instance}
use Rattle.ath_trees.specs.SortUnder.{sent_at_sorts}
use Rattle.ath_trees.specs.Instance.{Found, noted, match_all, match_con, match_step, match_sort, match_term, match_terms, same_binary, same_quant, match_sent, sort_instance, is_alpha_equal, MatchSortInstance}
use Rattle.ath_trees.proofs.Forms.{free-inj, bound-inj, app-inj, more-inj, atom-inj, equal-inj, negated-inj, joined-inj, quant-inj}
use Rattle.ath_trees.proofs.Occurring.{by_cases}
use Rattle.ath_trees.proofs.SubstLaws.{sort-itself, sorts-itself}
use Rattle.ath_trees.proofs.SortUnderLaws.{at_sorts_moved}

abbrev Fact : Type 1
Fact = (SVar → Sort) → Type 0

module _ (rigid : SVar → Bool) where
  abbrev IsOff : Fact
  IsOff f = (v : SVar) → rigid v ≡ true → f v ≡ sort_var v

  -- the new map stands for what the old one does and the fact
  record Extended (old new : List (SVar × Sort)) (I : Fact) : Type 0 where
    sound : (f : SVar → Sort) → IsOff f → Agrees f new → Agrees f old × I f
    complete : (f : SVar → Sort) → IsOff f → Agrees f old → I f → Agrees f new
    free : (v : SVar) → rigid v ≡ true → entry_of old v ≡ None → entry_of new v ≡ None

  abbrev Told : List (SVar × Sort) → Fact → Found → Type 0
  Told old I (Some new) = Extended old new I
  Told old I None = (f : SVar → Sort) → IsOff f → Agrees f old → I f → ⊥

  told-as : (old : List (SVar × Sort)) (I K : Fact) (o : Found) → ((f : SVar → Sort) → K f → I f) → ((f : SVar → Sort) → I f → K f) → Told old I o → Told old K o
  told-as old I K None to from h = λ f off a k. h f off a (to f k)
  told-as old I K (Some new) to from h = record {
    sound = λ f off a. let r = h.sound f off a in (r.0, from f r.1);
    complete = λ f off a k. h.complete f off a (to f k);
    free = h.free;
  }

  told-after : (old new : List (SVar × Sort)) (I J K : Fact) (o : Found) → ((f : SVar → Sort) → K f → I f × J f) → ((f : SVar → Sort) → I f → J f → K f) → Extended old new I → Told new J o → Told old K o
  told-after old new I J K None to from h k = λ f off a e. let r = to f e in k f off (h.complete f off a r.0) r.1
  told-after old new I J K (Some last) to from h k = record {
    sound = λ f off a. let r = k.sound f off a in let s = h.sound f off r.0 in (s.0, from f s.1 r.1);
    complete = λ f off a e. let r = to f e in k.complete f off (h.complete f off a r.0) r.1;
    free = λ v r e. k.free v r (h.free v r e);
  }

  -- one match after another
  told-then : (old : List (SVar × Sort)) (I J K : Fact) (o : Found) (g : List (SVar × Sort) → Found) → ((f : SVar → Sort) → K f → I f × J f) → ((f : SVar → Sort) → I f → J f → K f)
      → Told old I o → ((new : List (SVar × Sort)) → Told new J (g new)) → Told old K (option_and_then g o)
  told-then old I J K None g to from h k = λ f off a e. h f off a (to f e).0
  told-then old I J K (Some new) g to from h k = told-after old new I J K (g new) to from h (k new)

  told-if : (old : List (SVar × Sort)) (I : Fact) (b : Bool) (o : Found) → (b ≡ true → Told old I o) → (b ≡ false → (f : SVar → Sort) → IsOff f → Agrees f old → I f → ⊥) → Told old I (if b then o else None)
  told-if old I true o h k = h refl
  told-if old I false o h k = k refl

  told-here : (old : List (SVar × Sort)) (I : Fact) → ((f : SVar → Sort) → IsOff f → Agrees f old → I f) → Told old I (Some old)
  told-here old I h = record { sound = λ f off a. (a, h f off a); complete = λ f off a e. a; free = λ v r e. e }

  -- ---- a variable
  new-free : (old : List (SVar × Sort)) (v w : SVar) (t : Sort) → rigid v ≡ false → rigid w ≡ true → entry_of old w ≡ None → entry_of (old ++ (v, t) ∷ []) w ≡ None
  new-free old v w t soft hard e = by_cases (same_svar v w)
      (λ s. absurd (let p = same_svar-true v w s in let q = rw p at soft in cc))
      (λ f. entry-absent old (v, t) w e ∙ ap (λ b. cond b (Some t) None) f)

  told-new : (old : List (SVar × Sort)) (v : SVar) (t : Sort) → rigid v ≡ false → entry_of old v ≡ None → Extended old (old ++ (v, t) ∷ []) (λ f. f v ≡ t)
  told-new old v t soft none =
      let e = extends-var [] old v t refl none in
      record {
        sound = λ f off a. let r = e.sound f (λ w i. absurd (cc)) a in (r.0, sym (apply-var f v) ∙ cons-head (apply_to f (sort_var v)) t [] [] r.1);
        complete = λ f off a i. e.complete f (λ w i. absurd (cc)) a (ap (λ x. x ∷ []) (apply-var f v ∙ i));
        free = λ w hard n. new-free old v w t soft hard n;
      }

  told-noted : (old : List (SVar × Sort)) (v : SVar) (t : Sort) (o : Option Sort) → ((u : Sort) → o ≡ Some u → (f : SVar → Sort) → IsOff f → Agrees f old → f v ≡ u) → (o ≡ None → (rigid v ≡ false) × (entry_of old v ≡ None)) → Told old (λ f. f v ≡ t) (noted o v t old)
  told-noted old v t None h k = let r = k refl in told-new old v t r.0 r.1
  told-noted old v t (Some u) h k = told-if old (λ f. f v ≡ t) (same_sort u t) (Some old)
      (λ e. told-here old (λ f. f v ≡ t) (λ f off a. h u refl f off a ∙ same_sort-true u t e))
      (λ e f off a i. let p : u ≡ t = sym (h u refl f off a) ∙ i in let q = rw p at e in let r = same_sort-refl t in cc)

  -- ---- sorts
  pub match-var : (v : SVar) (t : Sort) (old : List (SVar × Sort)) → match_sort rigid (sort_var v) t old ≡ noted (if rigid v then Some (sort_var v) else entry_of old v) v t old
  match-var v t old = ap (λ s. match_sort rigid s t old) (sym (rolls-Var v)) ∙ ap (λ (k : Sort → List (SVar × Sort) → Found). k t old) (fold-roll-Sort (Sort → List (SVar × Sort) → Found) (match_step rigid) (one.Var v))

  match-con : (c : Sym) (args : List Sort) (t : Sort) (old : List (SVar × Sort)) → match_sort rigid (Con c args) t old ≡ match_con c (map (match_sort rigid) args) (out-Sort t) old
  match-con c args t old = ap (λ s. match_sort rigid s t old) (sym (rolls-Con c args)) ∙ ap (λ (k : Sort → List (SVar × Sort) → Found). k t old) (fold-roll-Sort (Sort → List (SVar × Sort) → Found) (match_step rigid) (one.Con c args))

  abbrev IsTold : Sort → Type 0
  IsTold s = (t : Sort) (old : List (SVar × Sort)) → Told old (λ f. apply_to f s ≡ t) (match_sort rigid s t old)

  told-var : (v : SVar) → IsTold (sort_var v)
  told-var v t old =
      subst (Told old (λ f. apply_to f (sort_var v) ≡ t)) (sym (match-var v t old))
      (told-as old (λ f. f v ≡ t) (λ f. apply_to f (sort_var v) ≡ t) (noted (if rigid v then Some (sort_var v) else entry_of old v) v t old)
      (λ f e. sym (apply-var f v) ∙ e) (λ f e. apply-var f v ∙ e)
      (by_cases (rigid v)
      (λ r. rw r (told-noted old v t (Some (sort_var v)) (λ u e f off a. off v r ∙ some-inj (sort_var v) u e) (λ e. absurd (cc))))
      (λ r. rw r (told-noted old v t (entry_of old v) (λ u e f off a. a v u e) (λ e. (r, e))))))

  told-all : (args : List Sort) → AllByRecursion IsTold args → (ts : List Sort) (old : List (SVar × Sort)) → Told old (λ f. map (apply_to f) args ≡ ts) (match_all (map (match_sort rigid) args) ts old)
  told-all [] h [] old = told-here old (λ f. [] ≡ []) (λ f off a. refl)
  told-all [] h (t ∷ ts) old = λ f off a e. cc
  told-all (s ∷ ss) h [] old = λ f off a e. cc
  told-all (s ∷ ss) h (t ∷ ts) old =
      told-then old (λ f. apply_to f s ≡ t) (λ f. map (apply_to f) ss ≡ ts) (λ f. apply_to f s ∷ map (apply_to f) ss ≡ t ∷ ts) (match_sort rigid s t old) (match_all (map (match_sort rigid) ss) ts)
      (λ f e. (cons-head (apply_to f s) t (map (apply_to f) ss) ts e, cons-tail (apply_to f s) t (map (apply_to f) ss) ts e))
      (λ f p q i. p i ∷ q i)
      (h.0 t old) (λ new. told-all ss h.1 ts new)

  told-con : (c : Sym) (args : List Sort) → AllByRecursion IsTold args → IsTold (Con c args)
  told-con c args h t old =
      let I : Fact = λ f. apply_to f (Con c args) ≡ t in
      subst (Told old I) (sym (match-con c args t old)) (elim (sort_cases t) [
        | inl w ↦
            subst (λ x. Told old I (match_con c (map (match_sort rigid) args) x old)) (sym (ap out-Sort w.1 ∙ outs-Var w.0))
            (λ f off a e. Var-not-Con w.0 c (map (apply_to f) args) (sym w.1 ∙ sym e ∙ apply-con f c args))
        | inr w ↦
            subst (λ x. Told old I (match_con c (map (match_sort rigid) args) x old)) (sym (ap out-Sort w.1.1 ∙ outs-Con w.0 w.1.0))
            (told-if old I (c.0 == w.0.0) (match_all (map (match_sort rigid) args) w.1.0 old)
            (λ n. told-as old (λ f. map (apply_to f) args ≡ w.1.0) I (match_all (map (match_sort rigid) args) w.1.0 old)
            (λ f e. (Con-inj c w.0 (map (apply_to f) args) w.1.0 (sym (apply-con f c args) ∙ e ∙ w.1.1)).1)
            (λ f e. apply-con f c args ∙ (λ i. Con (record { 0 = same_num c.0 w.0.0 n i }) (e i)) ∙ sym w.1.1)
            (told-all args h w.1.0 old))
            (λ n f off a e. let p = (Con-inj c w.0 (map (apply_to f) args) w.1.0 (sym (apply-con f c args) ∙ e ∙ w.1.1)).0 in let q : c.0 ≡ w.0.0 = cc in let r = rw q at n in let s = num_same w.0.0 in cc))
      ])

  told-sort : (s : Sort) → IsTold s
  told-sort = sort_induction IsTold told-var told-con

  every-told : (ss : List Sort) → AllByRecursion IsTold ss
  every-told [] = tt
  every-told (s ∷ ss) = (told-sort s, every-told ss)

  told-sorts : (ss ts : List Sort) (old : List (SVar × Sort)) → Told old (λ f. map (apply_to f) ss ≡ ts) (match_all (map (match_sort rigid) ss) ts old)
  told-sorts ss ts old = told-all ss (every-told ss) ts old

  -- ---- terms
  abbrev moved : (SVar → Sort) → Var → NTerm
  moved f v = nfree (var_under f v)

  namesakes : (v w : Var) → is_namesake v w ≡ true → (v.name.0 ≡ w.name.0) × (v.index ≡ w.index)
  namesakes v w e = let p = and_parts (v.name.0 == w.name.0) (v.index == w.index) e in (same_num v.name.0 w.name.0 p.0, same_num v.index w.index p.1)

  namesake-same : (f : SVar → Sort) (v w : Var) → var_under f v ≡ w → is_namesake v w ≡ true
  namesake-same f v w e = ap (is_namesake v) (sym e) ∙ rw (num_same v.name.0, num_same v.index) refl

  mutual
    told-term : (t u : NTerm) (old : List (SVar × Sort)) → Told old (λ f. term_instance (moved f) f t ≡ u) (match_term rigid t u old)
    told-term (nfree v) (nfree w) old =
        told-if old (λ f. nfree (var_under f v) ≡ nfree w) (is_namesake v w) (match_sort rigid v.sort w.sort old)
        (λ n. let p = namesakes v w n in
        told-as old (λ f. apply_to f v.sort ≡ w.sort) (λ f. nfree (var_under f v) ≡ nfree w) (match_sort rigid v.sort w.sort old)
        (λ f e. ap (λ (x : Var). x.sort) (free-inj (var_under f v) w e))
        (λ f e i. nfree (record { name = record { 0 = p.0 i }; index = p.1 i; sort = e i }))
        (told-sort v.sort w.sort old))
        (λ n f off a e. let p = namesake-same f v w (free-inj (var_under f v) w e) in cc)
    told-term (nbound i) (nbound j) old =
        told-if old (λ f. nbound i ≡ nbound j) (i == j) (Some old)
        (λ n. told-here old (λ f. nbound i ≡ nbound j) (λ f off a. ap nbound (same_num i j n)))
        (λ n f off a e. let p = bound-inj i j e in let q = rw p at n in let r = num_same j in cc)
    told-term (napp g ss ts) (napp h us vs) old =
        told-if old (λ f. napp g (map (apply_to f) ss) (terms_instance (moved f) f ts) ≡ napp h us vs) (g.0 == h.0) (option_and_then (match_terms rigid ts vs) (match_all (map (match_sort rigid) ss) us old))
        (λ n. told-then old (λ f. map (apply_to f) ss ≡ us) (λ f. terms_instance (moved f) f ts ≡ vs) (λ f. napp g (map (apply_to f) ss) (terms_instance (moved f) f ts) ≡ napp h us vs)
        (match_all (map (match_sort rigid) ss) us old) (match_terms rigid ts vs)
        (λ f e. (app-inj g h (map (apply_to f) ss) us (terms_instance (moved f) f ts) vs e).1)
        (λ f p q i. napp (record { 0 = same_num g.0 h.0 n i }) (p i) (q i))
        (told-sorts ss us old) (λ new. told-terms ts vs new))
        (λ n f off a e. let p = (app-inj g h (map (apply_to f) ss) us (terms_instance (moved f) f ts) vs e).0 in let q = rw p at n in let r = num_same h.0 in cc)
    told-term (nfree v) (nbound j) old = λ f off a e. cc
    told-term (nfree v) (napp h us vs) old = λ f off a e. cc
    told-term (nbound i) (nfree w) old = λ f off a e. cc
    told-term (nbound i) (napp h us vs) old = λ f off a e. cc
    told-term (napp g ss ts) (nfree w) old = λ f off a e. cc
    told-term (napp g ss ts) (nbound j) old = λ f off a e. cc

    told-terms : (ts us : NTerms) (old : List (SVar × Sort)) → Told old (λ f. terms_instance (moved f) f ts ≡ us) (match_terms rigid ts us old)
    told-terms nnone nnone old = told-here old (λ f. nnone ≡ nnone) (λ f off a. refl)
    told-terms (nmore t ts) (nmore u us) old =
        told-then old (λ f. term_instance (moved f) f t ≡ u) (λ f. terms_instance (moved f) f ts ≡ us) (λ f. nmore (term_instance (moved f) f t) (terms_instance (moved f) f ts) ≡ nmore u us)
        (match_term rigid t u old) (match_terms rigid ts us)
        (λ f e. more-inj (term_instance (moved f) f t) u (terms_instance (moved f) f ts) us e) (λ f p q i. nmore (p i) (q i))
        (told-term t u old) (λ new. told-terms ts us new)
    told-terms nnone (nmore u us) old = λ f off a e. cc
    told-terms (nmore t ts) nnone old = λ f off a e. cc

  -- ---- sentences
  same_binary-true : (c d : Binary) → same_binary c d ≡ true → c ≡ d
  same_binary-true And And e = refl
  same_binary-true Or Or e = refl
  same_binary-true If If e = refl
  same_binary-true Iff Iff e = refl
  same_binary-true c d e = absurd (cc)

  same_binary-refl : (c : Binary) → same_binary c c ≡ true
  same_binary-refl And = refl
  same_binary-refl Or = refl
  same_binary-refl If = refl
  same_binary-refl Iff = refl

  same_quant-true : (k l : Quant) → same_quant k l ≡ true → k ≡ l
  same_quant-true Forall Forall e = refl
  same_quant-true Exists Exists e = refl
  same_quant-true k l e = absurd (cc)

  same_quant-refl : (k : Quant) → same_quant k k ≡ true
  same_quant-refl Forall = refl
  same_quant-refl Exists = refl

  told-sent : (p q : NSent) (old : List (SVar × Sort)) → Told old (λ f. sent_instance (moved f) f p ≡ q) (match_sent rigid p q old)
  told-sent (natom t) (natom u) old =
      told-as old (λ f. term_instance (moved f) f t ≡ u) (λ f. natom (term_instance (moved f) f t) ≡ natom u) (match_term rigid t u old)
      (λ f e. atom-inj (term_instance (moved f) f t) u e) (λ f e. ap natom e) (told-term t u old)
  told-sent (nequal s t) (nequal u v) old =
      told-then old (λ f. term_instance (moved f) f s ≡ u) (λ f. term_instance (moved f) f t ≡ v) (λ f. nequal (term_instance (moved f) f s) (term_instance (moved f) f t) ≡ nequal u v)
      (match_term rigid s u old) (match_term rigid t v)
      (λ f e. equal-inj (term_instance (moved f) f s) (term_instance (moved f) f t) u v e) (λ f a b i. nequal (a i) (b i))
      (told-term s u old) (λ new. told-term t v new)
  told-sent (nnegated p) (nnegated q) old =
      told-as old (λ f. sent_instance (moved f) f p ≡ q) (λ f. nnegated (sent_instance (moved f) f p) ≡ nnegated q) (match_sent rigid p q old)
      (λ f e. negated-inj (sent_instance (moved f) f p) q e) (λ f e. ap nnegated e) (told-sent p q old)
  told-sent (njoined c p q) (njoined d r s) old =
      told-if old (λ f. njoined c (sent_instance (moved f) f p) (sent_instance (moved f) f q) ≡ njoined d r s) (same_binary c d) (option_and_then (match_sent rigid q s) (match_sent rigid p r old))
      (λ n. told-then old (λ f. sent_instance (moved f) f p ≡ r) (λ f. sent_instance (moved f) f q ≡ s) (λ f. njoined c (sent_instance (moved f) f p) (sent_instance (moved f) f q) ≡ njoined d r s)
      (match_sent rigid p r old) (match_sent rigid q s)
      (λ f e. (joined-inj c d (sent_instance (moved f) f p) (sent_instance (moved f) f q) r s e).1)
      (λ f a b i. njoined (same_binary-true c d n i) (a i) (b i))
      (told-sent p r old) (λ new. told-sent q s new))
      (λ n f off a e. let k = (joined-inj c d (sent_instance (moved f) f p) (sent_instance (moved f) f q) r s e).0 in let l = rw k at n in let m = same_binary-refl d in cc)
  told-sent (nquant k a p) (nquant l b q) old =
      told-if old (λ f. nquant k (apply_to f a) (sent_instance (moved f) f p) ≡ nquant l b q) (same_quant k l) (option_and_then (match_sent rigid p q) (match_sort rigid a b old))
      (λ n. told-then old (λ f. apply_to f a ≡ b) (λ f. sent_instance (moved f) f p ≡ q) (λ f. nquant k (apply_to f a) (sent_instance (moved f) f p) ≡ nquant l b q)
      (match_sort rigid a b old) (match_sent rigid p q)
      (λ f e. (quant-inj k l (apply_to f a) b (sent_instance (moved f) f p) q e).1)
      (λ f x y i. nquant (same_quant-true k l n i) (x i) (y i))
      (told-sort a b old) (λ new. told-sent p q new))
      (λ n f off x e. let m = (quant-inj k l (apply_to f a) b (sent_instance (moved f) f p) q e).0 in let o = rw m at n in let r = same_quant-refl l in cc)
  told-sent (natom t) (nequal u v) old = λ f off a e. cc
  told-sent (natom t) (nnegated q) old = λ f off a e. cc
  told-sent (natom t) (njoined d r s) old = λ f off a e. cc
  told-sent (natom t) (nquant l b q) old = λ f off a e. cc
  told-sent (nequal s t) (natom u) old = λ f off a e. cc
  told-sent (nequal s t) (nnegated q) old = λ f off a e. cc
  told-sent (nequal s t) (njoined d r u) old = λ f off a e. cc
  told-sent (nequal s t) (nquant l b q) old = λ f off a e. cc
  told-sent (nnegated p) (natom u) old = λ f off a e. cc
  told-sent (nnegated p) (nequal u v) old = λ f off a e. cc
  told-sent (nnegated p) (njoined d r s) old = λ f off a e. cc
  told-sent (nnegated p) (nquant l b q) old = λ f off a e. cc
  told-sent (njoined c p q) (natom u) old = λ f off a e. cc
  told-sent (njoined c p q) (nequal u v) old = λ f off a e. cc
  told-sent (njoined c p q) (nnegated r) old = λ f off a e. cc
  told-sent (njoined c p q) (nquant l b r) old = λ f off a e. cc
  told-sent (nquant k b p) (natom u) old = λ f off a e. cc
  told-sent (nquant k b p) (nequal u v) old = λ f off a e. cc
  told-sent (nquant k b p) (nnegated q) old = λ f off a e. cc
  told-sent (nquant k b p) (njoined d r s) old = λ f off a e. cc

  -- ---- from no map at all
  none-before : (f : SVar → Sort) → Agrees f []
  none-before f v t e = absurd (cc)

  own-off : (p q : NSent) (s : List (SVar × Sort)) → Extended [] s (λ f. sent_instance (moved f) f p ≡ q) → IsOff (image s)
  own-off p q s h v r = image-none s v (h.free v r refl)

  found-is : (p q : Sent) (o : Found) → Told [] (λ f. sent_instance (moved f) f (nameless p) ≡ nameless q) o → MatchSortInstance rigid p q o
  found-is p q None h = λ f k. h f k.off (none-before f) (sym (at_sorts_moved f p) ∙ k.equal)
  found-is p q (Some s) h =
      let off = own-off (nameless p) (nameless q) s h in (
        record { off = off; equal = at_sorts_moved (image s) p ∙ (h.sound (image s) off (λ v t e. image-some s v t e)).1 },
        λ f k. h.complete f k.off (none-before f) (sym (at_sorts_moved f p) ∙ k.equal),
      )

  pub found : (p q : Sent) → MatchSortInstance rigid p q (sort_instance rigid p q)
  found p q = found-is p q (sort_instance rigid p q) (told-sent (nameless p) (nameless q) [])

-- ---- alpha-equality
abbrev unmoved : Var → NTerm
unmoved v = nfree (var_under sort_var v)

mutual
  term-unmoved : (t : NTerm) → term_instance unmoved sort_var t ≡ t
  term-unmoved (nfree v) = λ i. nfree (record { name = v.name; index = v.index; sort = sort-itself v.sort i })
  term-unmoved (nbound j) = refl
  term-unmoved (napp g ss ts) = let a = sorts-itself ss in let b = terms-unmoved ts in λ i. napp g (a i) (b i)

  terms-unmoved : (ts : NTerms) → terms_instance unmoved sort_var ts ≡ ts
  terms-unmoved nnone = refl
  terms-unmoved (nmore t ts) = let a = term-unmoved t in let b = terms-unmoved ts in λ i. nmore (a i) (b i)

sent-unmoved : (p : NSent) → sent_instance unmoved sort_var p ≡ p
sent-unmoved (natom t) = ap natom (term-unmoved t)
sent-unmoved (nequal s t) = let a = term-unmoved s in let b = term-unmoved t in λ i. nequal (a i) (b i)
sent-unmoved (nnegated p) = ap nnegated (sent-unmoved p)
sent-unmoved (njoined c p q) = let a = sent-unmoved p in let b = sent-unmoved q in λ i. njoined c (a i) (b i)
sent-unmoved (nquant k s p) = let a = sort-itself s in let b = sent-unmoved p in λ i. nquant k (a i) (b i)

at_variables : (f : SVar → Sort) (p : Sent) → ((v : SVar) → f v ≡ sort_var v) → nameless (sent_at_sorts f p) ≡ nameless p
at_variables f p h = ap (λ (g : SVar → Sort). nameless (sent_at_sorts g p)) (λ i v. h v i) ∙ at_sorts_moved sort_var p ∙ sent-unmoved (nameless p)

told-alpha : (p q : Sent) (o : Found) → MatchSortInstance (λ v. true) p q o → (is_some o ≡ true) ↔ AlphaEqual p q
told-alpha p q None h = (λ e. absurd (cc), λ e. absurd (h sort_var (record { off = λ v r. refl; equal = at_variables sort_var p (λ v. refl) ∙ e })))
told-alpha p q (Some s) h = (λ e. sym (at_variables (image s) p (λ v. h.0.off v refl)) ∙ h.0.equal, λ e. refl)

pub alpha_told : (p q : Sent) → (is_alpha_equal p q ≡ true) ↔ AlphaEqual p q
alpha_told p q = told-alpha p q (sort_instance (λ v. true) p q) (found (λ v. true) p q)
