-- Loops over the arguments of an application.
use Rattle.std.proofs.Common.{◌≡◌, ℕ, zero, suc, ◌+◌, ◌<◌, ◌≤◌, Bool, List, [], ◌∷◌, ◌++◌, length, map, take, get_or, refl, sym, ◌∙◌, ap, subst, arith}
use Rattle.std.specs.Prelude.{zip}
use Rattle.std.specs.List.{All}
use Rattle.std.proofs.lemmas.List.{take_all}
use Rattle.ath_sorts.specs.declared.sorts.Sym.{Sym}
use Rattle.ath_sorts.specs.declared.sorts.SVar.{SVar}
use Rattle.ath_sorts.specs.declared.sorts.SVar.TheVariants.{Written, Made}
use Rattle.ath_sorts.specs.declared.sorts.Sort.{Sort, Var}
use Rattle.ath_sorts.specs.Signature.{Signature}
use Rattle.ath_trees.specs.declared.node.TermId.{TermId}
use Rattle.ath_trees.specs.Tree.{Term, listed}
use Rattle.ath_trees.specs.SortsIn.{have_small_sorts}
use Rattle.ath_trees.specs.Under.{term_under, terms_under}
use Rattle.ath_terms.specs.Trees.{Trees, term_at, sort_at, Grows, IsTerm}
use Rattle.ath_terms.specs.Lists.{AreTerms}
use Rattle.ath_terms.proofs.VariableLaws.{next}
use Rattle.ath_terms.proofs.ListLaws.{append-assoc}
use Rattle.ath_subst.proofs.WithinLaws.{terms_within, within-listed}
use Rattle.ath_subst.proofs.StepLaws.{images_of, images-next}
use Rattle.ath_construction.specs.Construction.{made_sorts}

taken : {A : Type 0} (xs : List A) (i : ℕ) → i ≤ length xs → length (take i xs) ≡ i
taken [] zero h = refl
taken [] (suc i) h = absurd (omega arith)
taken (x ∷ xs) zero h = refl
taken (x ∷ xs) (suc i) h = ap suc (taken xs i (omega arith))

-- ---- made variables
made-push : (n : ℕ) (ps : List Sym) (p : Sym) → made_sorts n (ps ++ p ∷ []) ≡ made_sorts n ps ++ Var (Made (n + length ps)) ∷ []
made-push n [] p = let e : n ≡ n + 0 = omega arith in ap (λ (k : ℕ). Var (Made k) ∷ []) e
made-push n (q ∷ ps) p =
    let e : (n + 1) + length ps ≡ n + suc (length ps) = omega arith in
    ap (λ l. Var (Made n) ∷ l) (made-push (n + 1) ps p ∙ ap (λ (k : ℕ). made_sorts (n + 1) ps ++ Var (Made k) ∷ []) e)

pub made-next : (n : ℕ) (ps : List Sym) (i : ℕ) (d : Sym) (sorts more : List Sort) → i < length ps → sorts ≡ made_sorts n (take i ps) → more ≡ sorts ++ Var (Made (n + i)) ∷ [] → more ≡ made_sorts n (take (i + 1) ps)
made-next n ps i d sorts more h e f =
    let l : length (take i ps) ≡ i = taken ps i (omega arith) in
    f ∙ ap (λ (l : List Sort). l ++ Var (Made (n + i)) ∷ []) e ∙ ap (λ (k : ℕ). made_sorts n (take i ps) ++ Var (Made (n + k)) ∷ []) (sym l) ∙ sym (made-push n (take i ps) (get_or ps i d)) ∙ ap (made_sorts n) (sym (next ps i d h))

pub made-all : (n : ℕ) (ps : List Sym) (i : ℕ) (sorts : List Sort) → length ps ≤ i → sorts ≡ made_sorts n (take i ps) → sorts ≡ made_sorts n ps
made-all n ps i sorts h e = e ∙ ap (made_sorts n) (take_all i ps h)

pub made-length : (n : ℕ) (ps : List Sym) → length (made_sorts n ps) ≡ length ps
made-length n [] = refl
made-length n (p ∷ ps) = ap suc (made-length (n + 1) ps)

pub made-counts : (n : ℕ) (ps qs params : List Sym) (sorts made : List Sort) → sorts ≡ made → made ≡ made_sorts n ps → ps ≡ params → qs ≡ params → length sorts ≡ length qs
made-counts n ps qs params sorts made a b p q = ap (λ (l : List Sort). length l) (a ∙ b) ∙ made-length n ps ∙ ap (λ (l : List Sym). length l) (p ∙ sym q)

-- ---- two lists side by side
zip-take : {A B C D : Type 0} (f : A → B) (g : C → D) (xs : List A) (ys : List C) (i : ℕ) (d : A) (e : C) → i < length xs → i < length ys → zip (map f (take (i + 1) xs)) (map g (take (i + 1) ys)) ≡ zip (map f (take i xs)) (map g (take i ys)) ++ (f (get_or xs i d), g (get_or ys i e)) ∷ []
zip-take f g [] ys i d e h k = absurd (omega arith)
zip-take f g (x ∷ xs) [] i d e h k = absurd (omega arith)
zip-take f g (x ∷ xs) (y ∷ ys) zero d e h k = refl
zip-take f g (x ∷ xs) (y ∷ ys) (suc i) d e h k =
    let s : suc i + 1 ≡ suc (i + 1) = omega arith in
    rw s (ap (λ l. (f x, g y) ∷ l) (zip-take f g xs ys i d e (omega arith) (omega arith)))

map-same : {A : Type 0} (xs : List A) → map (λ x. x) xs ≡ xs
map-same [] = refl
map-same (x ∷ xs) = ap (λ l. x ∷ l) (map-same xs)

module _ (ps : List Sym) (sorts : List Sort) where
  abbrev pub places_to : ℕ → List (SVar × Sort)
  places_to i = zip (map (λ p. Written p) (take i ps)) (map (λ s. s) (take i sorts))

  pub places-next : (i : ℕ) (d : Sym) (e : Sort) (entries more : List (SVar × Sort)) → i < length ps → length sorts ≡ length ps → entries ≡ places_to i → more ≡ entries ++ (Written (get_or ps i d), get_or sorts i e) ∷ [] → more ≡ places_to (i + 1)
  places-next i d e entries more h l a b = b ∙ ap (λ (l : List (SVar × Sort)). l ++ (Written (get_or ps i d), get_or sorts i e) ∷ []) a ∙ sym (zip-take (λ (p : Sym). Written p) (λ (s : Sort). s) ps sorts i d e h (omega arith))

  pub places-all : (i : ℕ) (entries : List (SVar × Sort)) → length ps ≤ i → length sorts ≡ length ps → entries ≡ places_to i → entries ≡ zip (map (λ p. Written p) ps) sorts
  places-all i entries h l e =
      let k : length sorts ≤ i = omega arith in
      e ∙ (λ j. zip (map (λ p. Written p) (take_all i ps h j)) (map-same (take_all i sorts k j) j))

module _ (old : List (Sort × Sort)) (s : Trees) (declared : List Sort) (args : List TermId) where
  abbrev pub arguments_to : ℕ → List (Sort × Sort)
  arguments_to i = old ++ zip (map (λ r. r) (take i declared)) (map (λ j. sort_at s.sorts j.0) (take i args))

  pub arguments-next : (i : ℕ) (d : Sort) (e : TermId) (pairs more : List (Sort × Sort)) → i < length args → length declared ≡ length args → pairs ≡ arguments_to i → more ≡ pairs ++ (get_or declared i d, sort_at s.sorts (get_or args i e).0) ∷ [] → more ≡ arguments_to (i + 1)
  arguments-next i d e pairs more h l a b =
      b ∙ ap (λ (l : List (Sort × Sort)). l ++ (get_or declared i d, sort_at s.sorts (get_or args i e).0) ∷ []) a
      ∙ append-assoc old (zip (map (λ r. r) (take i declared)) (map (λ j. sort_at s.sorts j.0) (take i args))) ((get_or declared i d, sort_at s.sorts (get_or args i e).0) ∷ [])
      ∙ ap (λ l. old ++ l) (sym (zip-take (λ (r : Sort). r) (λ (j : TermId). sort_at s.sorts j.0) declared args i d e (omega arith) h))

  pub arguments-all : (i : ℕ) (pairs : List (Sort × Sort)) → length args ≤ i → length declared ≡ length args → pairs ≡ arguments_to i → pairs ≡ old ++ zip declared (map (λ j. sort_at s.sorts j.0) args)
  arguments-all i pairs h l e =
      let k : length declared ≤ i = omega arith in
      e ∙ (λ j. old ++ zip (map-same (take_all i declared k j) j) (map (λ m. sort_at s.sorts m.0) (take_all i args h j)))

-- ---- limits
pub list_within : (sig : Signature) (f : SVar → Sort) (ts : List Term) (args : List TermId) (b : Bool) → terms_within sig f ts args ≡ b → b ≡ have_small_sorts sig (terms_under f (listed (map (λ j. term_at ts j.0) args)))
list_within sig f ts args b e = sym (within-listed sig f ts args ∙ e)

-- ---- terms under a substitution
pub parts-next : (old s u : Trees) (f : SVar → Sort) (args parts : List TermId) (i : ℕ) (d part : TermId) → All (λ j. j.0 < length old.terms) args → i < length args → Grows old s → Grows s u
    → AreTerms s parts (images_of old f (take i args)) → IsTerm u part.0 (term_under f (term_at s.terms (get_or args i d).0)) → AreTerms u (parts ++ part ∷ []) (images_of old f (take (i + 1) args))
parts-next old s u f args parts i d part all h g k a r = images-next old s u f args parts i d part h k a (r.0, r.1 ∙ ap (term_under f) (g.same_terms (get_or args i d).0 (all i d h)))

pub parts-all : (old s : Trees) (f : SVar → Sort) (args parts : List TermId) (i : ℕ) → length args ≤ i → AreTerms s parts (images_of old f (take i args)) → AreTerms s parts (images_of old f args)
parts-all old s f args parts i h a = subst (λ (l : List TermId). AreTerms s parts (images_of old f l)) (take_all i args h) a
