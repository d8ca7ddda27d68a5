-- What the shapes tell of the arguments that have them: each is alpha-equal to its shape at the parts that are found.
use Rattle.std.proofs.Common.{◌≡◌, ℕ, suc, Bool, true, false, not, ◌&&◌, List, [], ◌∷◌, length, Option, Some, None, refl, sym, ◌∙◌, ap, subst, if◌then◌else◌, arith}
use Rattle.std.specs.Prelude.{option_and_then}
use Rattle.ath_trees.specs.declared.node.Binary.{Binary}
use Rattle.ath_trees.specs.declared.node.Binary.TheVariants.{And, Or, If, Iff}
use Rattle.ath_trees.specs.Tree.{Sent, atom, equal, negated, joined, bound}
use Rattle.ath_trees.specs.Instance.{is_alpha_equal, same_binary}
use Rattle.ath_trees.specs.Nameless.{NSent, nnegated, njoined, nameless, AlphaEqual}
use Rattle.ath_trees.proofs.InstanceLaws.{alpha_told}
use Rattle.ath_prims.specs.declared.schema.Part.{Part}
use Rattle.ath_prims.specs.declared.schema.Part.TheVariants.{A, B, C}
use Rattle.ath_prims.specs.declared.schema.Shape.{Shape}
use Rattle.ath_prims.specs.declared.schema.Shape.TheVariants.{Any, Not, NotNot, Joined}
use Rattle.ath_prims.specs.declared.schema.Premise.{Premise}
use Rattle.ath_prims.specs.Applied.{Argument, Parts, found, with_part, noted, bound_to, negand, sides, fits, Fitted, all_fit, no_sentence, no_shape, fitted, fitted_by, fitted_on, missing, part}

-- the sentence of a shape at these parts
abbrev pub shaped : Shape → Parts → Sent
shaped (Any m) e = part m e
shaped (Not m) e = negated (part m e)
shaped (NotNot m) e = negated (negated (part m e))
shaped (Joined k m n) e = joined k (part m e) (part n e)

-- what is found stays found
abbrev pub Extends : Parts → Parts → Type 0
Extends e f = (m : Part) (p : Sent) → found m e ≡ Some p → found m f ≡ Some p

extends-then : (e f g : Parts) → Extends e f → Extends f g → Extends e g
extends-then e f g h k = λ m p i. k m p (h m p i)

-- the part is this sentence but for the names of bound variables, and stays so
abbrev Lasts : Part → Sent → Parts → Type 0
Lasts m p f = (g : Parts) → Extends f g → AlphaEqual p (part m g)

lasts : (m : Part) (p q : Sent) (f : Parts) → found m f ≡ Some q → AlphaEqual p q → Lasts m p f
lasts m p q f is same = λ g k. let i : found m g ≡ Some q = k m q is in let j : part m g ≡ q = rw i refl in same ∙ ap nameless (sym j)

found-here : (m : Part) (p : Sent) (e : Parts) → found m (with_part m p e) ≡ Some p
found-here A p e = refl
found-here B p e = refl
found-here C p e = refl

extends-new : (m : Part) (p : Sent) (e : Parts) → found m e ≡ None → Extends e (with_part m p e)
extends-new A p e n A q i = absurd (cc)
extends-new A p e n B q i = i
extends-new A p e n C q i = i
extends-new B p e n A q i = i
extends-new B p e n B q i = absurd (cc)
extends-new B p e n C q i = i
extends-new C p e n A q i = i
extends-new C p e n B q i = i
extends-new C p e n C q i = absurd (cc)

bound-told : (m : Part) (p : Sent) (e f : Parts) → bound_to m p e ≡ Some f → Extends e f × Lasts m p f
bound-told m p e f h = go (found m e) refl h
  where
    go : (o : Option Sent) → found m e ≡ o → noted o m p e ≡ Some f → Extends e f × Lasts m p f
    go None n i =
        let k : with_part m p e ≡ f = cc in
        subst (λ (g : Parts). Extends e g × Lasts m p g) k (extends-new m p e n, lasts m p p (with_part m p e) (found-here m p e) refl)
    go (Some q) n i = same (is_alpha_equal q p) refl i
      where
        same : (b : Bool) → is_alpha_equal q p ≡ b → (if b then Some e else None) ≡ Some f → Extends e f × Lasts m p f
        same true t j =
            let k : e ≡ f = cc in
            subst (λ (g : Parts). Extends e g × Lasts m p g) k ((λ l r z. z), lasts m p q e n (sym ((alpha_told q p).0 t)))
        same false t j = absurd (cc)

-- the sentence is the shape at the parts, and stays so
abbrev IsShaped : Shape → Sent → Parts → Type 0
IsShaped s p f = (g : Parts) → Extends f g → AlphaEqual p (shaped s g)

pub same_binary-told : (c d : Binary) → same_binary c d ≡ true → c ≡ d
same_binary-told And And e = refl
same_binary-told Or Or e = refl
same_binary-told If If e = refl
same_binary-told Iff Iff e = refl
same_binary-told c d e = absurd (cc)

sides-told : (k : Binary) (m n : Part) (l : Binary) (x y : Sent) (e f : Parts) → fits (Joined k m n) (joined l x y) e ≡ Some f → Extends e f × IsShaped (Joined k m n) (joined l x y) f
sides-told k m n l x y e f h = one (same_binary k l) refl h
  where
    one : (b : Bool) → same_binary k l ≡ b → option_and_then (λ (s : Sent × Sent). option_and_then (bound_to n s.1) (bound_to m s.0 e)) (if b then Some (x, y) else None) ≡ Some f → Extends e f × IsShaped (Joined k m n) (joined l x y) f
    one false t i = absurd (cc)
    one true t i = two (bound_to m x e) refl i
      where
        two : (o : Option Parts) → bound_to m x e ≡ o → option_and_then (bound_to n y) o ≡ Some f → Extends e f × IsShaped (Joined k m n) (joined l x y) f
        two None u j = absurd (cc)
        two (Some g) u j =
            let a = bound-told m x e g u in
            let b = bound-told n y g f j in
            let c : k ≡ l = same_binary-told k l t in (
              extends-then e g f a.0 b.0,
              λ z w.
                  let p : nameless x ≡ nameless (part m z) = a.1 z (extends-then g f z b.0 w) in
                  let q : nameless y ≡ nameless (part n z) = b.1 z w in
                  λ i. njoined (sym c i) (p i) (q i),
            )

pub fits-told : (s : Shape) (p : Sent) (e f : Parts) → fits s p e ≡ Some f → Extends e f × IsShaped s p f
fits-told (Any m) p e f h = bound-told m p e f h
fits-told (Not m) (negated p) e f h = let a = bound-told m p e f h in (a.0, λ g k. ap nnegated (a.1 g k))
fits-told (Not m) (atom t) e f h = absurd (cc)
fits-told (Not m) (equal s t) e f h = absurd (cc)
fits-told (Not m) (joined k p q) e f h = absurd (cc)
fits-told (Not m) (bound k v p) e f h = absurd (cc)
fits-told (NotNot m) (negated (negated p)) e f h = let a = bound-told m p e f h in (a.0, λ g k. ap (λ (n : NSent). nnegated (nnegated n)) (a.1 g k))
fits-told (NotNot m) (negated (atom t)) e f h = absurd (cc)
fits-told (NotNot m) (negated (equal s t)) e f h = absurd (cc)
fits-told (NotNot m) (negated (joined k p q)) e f h = absurd (cc)
fits-told (NotNot m) (negated (bound k v p)) e f h = absurd (cc)
fits-told (NotNot m) (atom t) e f h = absurd (cc)
fits-told (NotNot m) (equal s t) e f h = absurd (cc)
fits-told (NotNot m) (joined k p q) e f h = absurd (cc)
fits-told (NotNot m) (bound k v p) e f h = absurd (cc)
fits-told (Joined k m n) (joined l x y) e f h = sides-told k m n l x y e f h
fits-told (Joined k m n) (atom t) e f h = absurd (cc)
fits-told (Joined k m n) (equal s t) e f h = absurd (cc)
fits-told (Joined k m n) (negated p) e f h = absurd (cc)
fits-told (Joined k m n) (bound q v p) e f h = absurd (cc)

-- an argument is a sentence that has the shape at these parts
abbrev pub IsMatched : Parts → Premise → Argument → Type 0
IsMatched f r x = (p : Sent) × ((x.sentence ≡ Some p) × AlphaEqual p (shaped r.shape f))

abbrev pub AreMatched : Parts → List Premise → List Argument → Type 0
AreMatched f (r ∷ rs) (x ∷ xs) = IsMatched f r x × AreMatched f rs xs
AreMatched f rs xs = Unit {0}

fitted-told : (i : ℕ) (rs : List Premise) (xs : List Argument) (e f : Parts) → fitted i rs xs e ≡ all_fit f → Extends e f × AreMatched f rs xs
fitted-told i [] [] e f h = let k : e ≡ f = cc in ((λ m p z. subst (λ (g : Parts). found m g ≡ Some p) k z), tt)
fitted-told i [] (x ∷ xs) e f h = let k : e ≡ f = cc in ((λ m p z. subst (λ (g : Parts). found m g ≡ Some p) k z), tt)
fitted-told i (r ∷ rs) [] e f h = let k : e ≡ f = cc in ((λ m p z. subst (λ (g : Parts). found m g ≡ Some p) k z), tt)
fitted-told i (r ∷ rs) (x ∷ xs) e f h = one x.sentence refl h (λ g k. fitted-told (suc i) rs xs g f k)
  where
    one : (o : Option Sent) → x.sentence ≡ o → fitted_by i r o e (fitted (suc i) rs xs) ≡ all_fit f → ((g : Parts) → fitted (suc i) rs xs g ≡ all_fit f → Extends g f × AreMatched f rs xs) → Extends e f × (IsMatched f r x × AreMatched f rs xs)
    one None is k rec = absurd (cc)
    one (Some p) is k rec = two (fits r.shape p e) refl k
      where
        two : (o : Option Parts) → fits r.shape p e ≡ o → fitted_on i o (fitted (suc i) rs xs) ≡ all_fit f → Extends e f × (IsMatched f r x × AreMatched f rs xs)
        two None u j = absurd (cc)
        two (Some g) u j =
            let a = fits-told r.shape p e g u in
            let b = rec g j in
            (extends-then e g f a.0 b.0, ((p, (is, a.1 f b.0)), b.1))

pub all-matched : (i : ℕ) (rs : List Premise) (xs : List Argument) (e f : Parts) → fitted i rs xs e ≡ all_fit f → AreMatched f rs xs
all-matched i rs xs e f h = (fitted-told i rs xs e f h).1

-- where no argument is missing, each that has to hold does
pub held-told : (r : Premise) (x : Argument) (rs : List Premise) (xs : List Argument) (p : Sent) → x.sentence ≡ Some p → missing (r ∷ rs) (x ∷ xs) ≡ None → (r.must_hold ≡ true → x.holds ≡ true) × (missing rs xs ≡ None)
held-told r x rs xs p is h = go r.must_hold x.holds refl refl h
  where
    go : (b d : Bool) → r.must_hold ≡ b → x.holds ≡ d → (if b && not d then x.sentence else missing rs xs) ≡ None → (r.must_hold ≡ true → x.holds ≡ true) × (missing rs xs ≡ None)
    go false d a e k = ((λ t. absurd (cc)), k)
    go true true a e k = ((λ t. e), k)
    go true false a e k = absurd (cc)
