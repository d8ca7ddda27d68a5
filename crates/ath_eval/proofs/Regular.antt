-- What holds of every evaluation: what it gives keeps a property, fuel never rises and the counters never fall, more fuel
-- changes only what is left, and a step takes few fresh names.
use Rattle.std.proofs.Common.{◌≡◌, ◌==◌, ℕ, zero, suc, ◌+◌, ◌≤◌, Bool, true, false, List, [], ◌∷◌, ◌++◌, length, Option, Some, None, ◌⊎◌, refl, sym, ◌∙◌, ap, subst, inl, inr, if◌then◌else◌, suc-add, arith}
use Rattle.std.specs.Prelude.{Result, Ok, Err}
use Rattle.std.specs.List.{AllByRecursion}
use Rattle.std.proofs.lemmas.Grind.{common_steps}
use Rattle.ath_sorts.specs.declared.sorts.Sym.{Sym}
use Rattle.ath_sorts.specs.declared.sorts.SVar.TheVariants.{Made}
use Rattle.ath_sorts.specs.declared.sorts.Sort.{Sort, Var}
use Rattle.ath_sorts.specs.declared.signature.SigError.{SigError}
use Rattle.ath_sorts.specs.declared.signature.Symbol.{Symbol}
use Rattle.ath_sorts.specs.Signature.{Signature, symbol_of}
use Rattle.ath_syntax.specs.declared.place.Pos.{Pos}
use Rattle.ath_syntax.specs.declared.node.SortText.{SortText}
use Rattle.ath_syntax.specs.Tree.{Phrase, name_at, variable_at, ascribe_at, apply_at, call_at, Phrases, no_phrases, more_phrases}
use Rattle.ath_declarations.specs.Texts.{meaning}
use Rattle.ath_terms.specs.declared.fresh.Fresh.{Fresh}
use Rattle.ath_trees.specs.declared.node.Conn.{Conn}
use Rattle.ath_trees.specs.declared.node.Quant.{Quant}
use Rattle.ath_trees.specs.declared.node.Var.{Var as Variable}
use Rattle.ath_trees.specs.declared.node.Binary.TheVariants.{If}
use Rattle.ath_trees.specs.SortsIn.{sort_in}
use Rattle.ath_construction.specs.Construction.{wanted, takes, Built, builds, refuses, made_app, made_equation, made_ascription}
use Rattle.ath_trees.specs.Tree.{Term, var, Sent, joined}
use Rattle.ath_trees.specs.Instance.{is_alpha_equal}
use Rattle.ath_trees.specs.Nameless.{AlphaEqual}
use Rattle.ath_trees.proofs.InstanceLaws.{alpha_told}
use Rattle.ath_calculus.specs.Derives.{IsAmong}
use Rattle.ath_env.specs.Values.{Value, a_term, a_sentence, a_symbol, a_connective, a_quantifier, a_back, a_method, term_of, sentence_of, value_of}
use Rattle.ath_env.specs.LookUp.{looked_up}
use Rattle.ath_print.specs.Events.{Refusal}
use Rattle.ath_base.specs.Base.{Entry, holds, sentences}
use Rattle.ath_print.specs.declared.fault.FaultKind.TheVariants.{TooNested}
use Rattle.ath_eval.specs.Outcomes.{Context, Environment, Left, left_of, Outcome, gives, concludes, fails, exhausts, refusal, Evaluator, spending, and_then, concluding, then_in, each}
use Rattle.ath_eval.specs.Applying.{gives_term, gives_sentence, Kinds, all_are, wrong_at, kinds_of, after_params, symbol_to, symbol_applied, miscounted, equation_to, equated, Part, part_of, sentence_made, sentences_made, connective_of, connective_to, connective_applied, variable_in, but_last, the_last, quantified_over, quantifier_to, quantifier_applied, symbol_or_equation, itself, applied, symbol_named, value_named}
use Rattle.ath_eval.specs.Methods.{wrong_shape, if_held, claim, detached, modus_ponens, mp, claimed, ponens, called}
use Rattle.ath_eval.specs.Evaluation.{found, variable, with_sort, ascribed_to, ascribed, form, evaluated}
use Rattle.ath_syntax.specs.Places.{place}
use Rattle.ath_eval.specs.Room.{charged, IsBelow, IsNarrow}
use Rattle.ath_eval.specs.Laws.{with_more, Spends, StaysWithin}

-- the value or the conclusion has its property
abbrev pub Yields : (Value → Type 0) → (Sent → Type 0) → Outcome → Type 0
Yields P Q (gives v left) = P v
Yields P Q (concludes p left) = Q p
Yields P Q (fails at why left) = Unit {0}
Yields P Q (exhausts at made) = Unit {0}

-- properties of values and of conclusions that evaluation keeps
pub record IsKept (c : Context) (P : Value → Type 0) (Q : Sent → Type 0) : Type 0 where
  pub shown : (p : Sent) → Q p → P (value_of p)
  pub named : (x : Sym) (v : Value) → looked_up c.names c.theory.signature x ≡ Some v → P v
  pub unsorted : (x : Sym) (k n : ℕ) → P (a_term (var (record { name = x; index = k; sort = Var (Made n) })) (Var (Made n)))
  pub sorted : (x : Sym) (k : ℕ) (text : SortText) (s : Sort) → meaning c.theory.signature text ≡ Ok s → P (a_term (var (record { name = x; index = k; sort = s })) s)
  pub ascribes : (v : Value) (t x : Term) (text : SortText) (s : Sort) → P v → term_of v ≡ Some t → meaning c.theory.signature text ≡ Ok s → made_ascription c.theory.signature t s ≡ builds x → P (a_term x (sort_in c.theory.signature x))
  pub applies : (f : Sym) (d : Symbol) (vs : List Value) (ts : List Term) (n : ℕ) (x : Term) → symbol_of c.theory.signature f ≡ Some d → AllByRecursion P vs → length d.args ≡ length vs → kinds_of term_of 1 vs ≡ all_are ts → made_app c.theory.signature n d ts ≡ builds x → P (a_term x (sort_in c.theory.signature x))
  pub equates : (v w : Value) (s t : Term) (x : Sent) → P v → P w → term_of v ≡ Some s → term_of w ≡ Some t → made_equation c.theory.signature s t ≡ builds x → P (a_sentence x)
  pub connects : (k : Conn) (vs : List Value) (xs : List Part) (x : Sent) → AllByRecursion P vs → kinds_of part_of 1 vs ≡ all_are xs → connective_of c.theory.signature k (sentences_made c.theory.signature xs) ≡ builds x → P (a_sentence x)
  pub quantifies : (q : Quant) (vs : List Value) (w : Value) (xs : List Variable) (y : Part) (x : Sent) → AllByRecursion P vs → P w → kinds_of variable_in 1 vs ≡ all_are xs → part_of w ≡ Some y → quantified_over c.theory.signature q xs (sentence_made c.theory.signature y) ≡ builds x → P (a_sentence x)
  pub renames : (p q : Sent) → AlphaEqual p q → Q p → Q q
  pub detaches : (p q : Sent) → Q (joined If p q) → Q p → Q q

-- each sentence of the base has its property
abbrev pub IsHolding : (Sent → Type 0) → Environment → Type 0
IsHolding Q env = (p : Sent) → IsAmong p (sentences env.base) → Q p

pub holding-more : (Q : Sent → Type 0) (env : Environment) (p : Sent) → IsHolding Q env → Q p → IsHolding Q (concluding p env)
holding-more Q env p sound h = λ q i. go q i
  where
    go : (q : Sent) → (q ≡ p) ⊎ IsAmong q (sentences env.base) → Q q
    go q (inl e) = subst Q (sym e) h
    go q (inr i) = sound q i

abbrev pub IsNotSpent : Outcome → Type 0
IsNotSpent o = (at : Pos) (made : Fresh) → o ≡ exhausts at made → ⊥

-- of an outcome from these counters, by the fuel; it may take what so many steps more than its fuel allow
pub record IsRegular (sig : Signature) (P : Value → Type 0) (Q : Sent → Type 0) (more : ℕ) (fresh : Fresh) (f : ℕ → Outcome) : Type 0 where
  pub yields : (n : ℕ) → Yields P Q (f n)
  pub moves : (n : ℕ) → Spends (left_of n fresh) (f n)
  pub kept : (n k : ℕ) → IsNotSpent (f n) → f (n + k) ≡ with_more k (f n)
  pub room : IsNarrow sig → (n : ℕ) → StaysWithin (charged (n + more) fresh) (f n)

self : (n : ℕ) → n ≤ n
self n = omega arith

same : (fresh : Fresh) → IsBelow fresh fresh
same fresh = (self fresh.var, self fresh.sort)

through : (a b d : ℕ) → a ≤ b → b ≤ d → a ≤ d
through a b d p q = omega arith

rises : (m n : ℕ) (fresh made : Fresh) (o : Outcome) → m ≤ n → IsBelow fresh made → Spends (left_of m made) o → Spends (left_of n fresh) o
rises m n fresh made (gives v left) e a h = (through left.fuel m n h.0 e, through fresh.var made.var left.fresh.var a.0 h.1, through fresh.sort made.sort left.fresh.sort a.1 h.2)
rises m n fresh made (concludes p left) e a h = (through left.fuel m n h.0 e, through fresh.var made.var left.fresh.var a.0 h.1, through fresh.sort made.sort left.fresh.sort a.1 h.2)
rises m n fresh made (fails at why left) e a h = (through left.fuel m n h.0 e, through fresh.var made.var left.fresh.var a.0 h.1, through fresh.sort made.sort left.fresh.sort a.1 h.2)
rises m n fresh made (exhausts at last) e a h = (through fresh.var made.var last.var a.0 h.0, through fresh.sort made.sort last.sort a.1 h.1)

below-through : (a b d : Fresh) → IsBelow a b → IsBelow b d → IsBelow a d
below-through a b d p q = (through a.var b.var d.var p.0 q.0, through a.sort b.sort d.sort p.1 q.1)

pub wider : (a b : Fresh) (o : Outcome) → IsBelow a b → StaysWithin a o → StaysWithin b o
wider a b (gives v left) e h = below-through (charged left.fuel left.fresh) a b h e
wider a b (concludes p left) e h = below-through (charged left.fuel left.fresh) a b h e
wider a b (fails at why left) e h = below-through (charged left.fuel left.fresh) a b h e
wider a b (exhausts at made) e h = below-through made a b h e

-- the counters have risen by what one step may take, or by less
abbrev IsFew : Fresh → Fresh → Type 0
IsFew fresh made = IsBelow made (charged 1 fresh)

few-same : (fresh : Fresh) → IsFew fresh fresh
few-same fresh = (omega arith, omega arith)

few-room : (fresh made : Fresh) (n : ℕ) → IsFew fresh made → IsBelow (charged n made) (charged (n + 1) fresh)
few-room fresh made n h = (omega (arith, h.0), omega (arith, h.1))

gives-not-spent : (v : Value) (left : Left) → IsNotSpent (gives v left)
gives-not-spent v left at last e = cc

concludes-not-spent : (p : Sent) (left : Left) → IsNotSpent (concludes p left)
concludes-not-spent p left at last e = cc

fails-not-spent : (place : Pos) (why : Refusal) (left : Left) → IsNotSpent (fails place why left)
fails-not-spent place why left at last e = cc

same_number : (m n : ℕ) → (m == n) ≡ true → m ≡ n
same_number m n e = grind (arith, common_steps)

-- an entry by which p holds
abbrev IsHeld : Sent → Entry → List Sent → Type 0
IsHeld p e ps = IsAmong e.sentence ps × AlphaEqual e.sentence p

in-base : (base : List Entry) (p : Sent) (e : Entry) → holds base p ≡ Some e → IsHeld p e (sentences base)
in-base [] p e h = absurd (cc)
in-base (d ∷ base) p e h = go (is_alpha_equal d.sentence p) (in-base base p e) refl h
  where
    go : (b : Bool) → (holds base p ≡ Some e → IsHeld p e (sentences base)) → is_alpha_equal d.sentence p ≡ b → (if b then Some d else holds base p) ≡ Some e → IsHeld p e (d.sentence ∷ sentences base)
    go true rec f g = let k : d ≡ e = cc in subst (λ (x : Entry). IsHeld p x (d.sentence ∷ sentences base)) k (inl refl, (alpha_told d.sentence p).0 f)
    go false rec f g = let r = rec g in (inr r.0, r.1)

all-last : (P : Value → Type 0) (vs : List Value) (v : Value) → AllByRecursion P vs → P v → AllByRecursion P (vs ++ v ∷ [])
all-last P [] v h p = (p, tt)
all-last P (w ∷ vs) v h p = (h.0, all-last P vs v h.1 p)

all-but-last : (P : Value → Type 0) (v : Value) (vs : List Value) → P v → AllByRecursion P vs → AllByRecursion P (but_last v vs)
all-but-last P v [] p h = tt
all-but-last P v (w ∷ vs) p h = (p, all-but-last P w vs h.0 h.1)

the-last : (P : Value → Type 0) (v : Value) (vs : List Value) → P v → AllByRecursion P vs → P (the_last v vs)
the-last P v [] p h = p
the-last P v (w ∷ vs) p h = the-last P w vs h.0 h.1

module _ (c : Context) (P : Value → Type 0) (Q : Sent → Type 0) (closed : IsKept c P Q) where
  abbrev Regular : Fresh → (ℕ → Outcome) → Type 0
  Regular fresh f = IsRegular c.theory.signature P Q 1 fresh f

  abbrev Narrow : Type 0
  Narrow = IsNarrow c.theory.signature

  -- ---- outcomes that leave all the fuel
  value-moved : (v : Value) (fresh made : Fresh) → P v → IsBelow fresh made → (Narrow → IsFew fresh made) → Regular fresh (λ n. gives v (left_of n made))
  value-moved v fresh made h a few = record { yields = λ n. h; moves = λ n. (self n, a.0, a.1); kept = λ n k s. refl; room = λ w n. few-room fresh made n (few w) }

  value-regular : (v : Value) (fresh : Fresh) → P v → Regular fresh (λ n. gives v (left_of n fresh))
  value-regular v fresh h = value-moved v fresh fresh h (same fresh) (λ w. few-same fresh)

  sentence-regular : (p : Sent) (fresh : Fresh) → Q p → Regular fresh (λ n. concludes p (left_of n fresh))
  sentence-regular p fresh h = record { yields = λ n. h; moves = λ n. (self n, self fresh.var, self fresh.sort); kept = λ n k s. refl; room = λ w n. few-room fresh fresh n (few-same fresh) }

  error-moved : {at : Pos} {why : Refusal} (fresh made : Fresh) → IsBelow fresh made → (Narrow → IsFew fresh made) → Regular fresh (λ n. fails at why (left_of n made))
  error-moved fresh made a few = record { yields = λ n. tt; moves = λ n. (self n, a.0, a.1); kept = λ n k s. refl; room = λ w n. few-room fresh made n (few w) }

  error-regular : {at : Pos} {why : Refusal} (fresh : Fresh) → Regular fresh (λ n. fails at why (left_of n fresh))
  error-regular fresh = error-moved fresh fresh (same fresh) (λ w. few-same fresh)

  -- ---- what is built
  term-regular : (b : Built Term) (at : Pos) (fresh made : Fresh) → IsBelow fresh made → (Narrow → IsFew fresh made) → ((x : Term) → b ≡ builds x → P (a_term x (sort_in c.theory.signature x))) → Regular fresh (λ n. gives_term c.theory.signature b at (left_of n made))
  term-regular (builds x) at fresh made a few h = value-moved (a_term x (sort_in c.theory.signature x)) fresh made (h x refl) a few
  term-regular (refuses why) at fresh made a few h = error-moved fresh made a few

  sent-regular : (b : Built Sent) (at : Pos) (fresh : Fresh) → ((x : Sent) → b ≡ builds x → P (a_sentence x)) → Regular fresh (λ n. gives_sentence b at (left_of n fresh))
  sent-regular (builds x) at fresh h = value-regular (a_sentence x) fresh (h x refl)
  sent-regular (refuses why) at fresh h = error-regular fresh

  -- ---- applications
  params-above : (d : Symbol) (fresh : Fresh) → IsBelow fresh (after_params d fresh)
  params-above d fresh = (self fresh.var, omega arith)

  params-few : (f : Sym) (d : Symbol) (fresh : Fresh) → symbol_of c.theory.signature f ≡ Some d → Narrow → IsFew fresh (after_params d fresh)
  params-few f d fresh is w = (omega arith, omega (arith, w f d is))

  symbol_to-regular : (f : Sym) (d : Symbol) (vs : List Value) (at : Pos) (fresh : Fresh) → symbol_of c.theory.signature f ≡ Some d → AllByRecursion P vs → length d.args ≡ length vs → (k : Kinds Term) → kinds_of term_of 1 vs ≡ k → Regular fresh (λ n. symbol_to c.theory.signature d k at (left_of n fresh))
  symbol_to-regular f d vs at fresh is h l (wrong_at i) e = error-regular fresh
  symbol_to-regular f d vs at fresh is h l (all_are ts) e = term-regular (made_app c.theory.signature fresh.sort d ts) at fresh (after_params d fresh) (params-above d fresh) (params-few f d fresh is) (λ x b. closed.applies f d vs ts fresh.sort x is h l e b)

  symbol-regular : (f : Sym) (d : Symbol) (vs : List Value) (at : Pos) (fresh : Fresh) → symbol_of c.theory.signature f ≡ Some d → AllByRecursion P vs → Regular fresh (λ n. symbol_applied c.theory.signature d vs at (left_of n fresh))
  symbol-regular f d vs at fresh is h = go (length d.args == length vs) refl
    where
      go : (b : Bool) → (length d.args == length vs) ≡ b → Regular fresh (λ n. (if b then symbol_to c.theory.signature d (kinds_of term_of 1 vs) else miscounted (length d.args) vs) at (left_of n fresh))
      go true e = symbol_to-regular f d vs at fresh is h (same_number (length d.args) (length vs) e) (kinds_of term_of 1 vs) refl
      go false e = error-regular fresh

  equation_to-regular : (v w : Value) (at : Pos) (fresh : Fresh) → P v → P w → (o u : Option Term) → term_of v ≡ o → term_of w ≡ u → Regular fresh (λ n. equation_to c.theory.signature o u at (left_of n fresh))
  equation_to-regular v w at fresh h k None u e f = error-regular fresh
  equation_to-regular v w at fresh h k (Some s) None e f = error-regular fresh
  equation_to-regular v w at fresh h k (Some s) (Some t) e f = sent-regular (made_equation c.theory.signature s t) at fresh (λ x b. closed.equates v w s t x h k e f b)

  equated-regular : (vs : List Value) (at : Pos) (fresh : Fresh) → AllByRecursion P vs → Regular fresh (λ n. equated c.theory.signature vs at (left_of n fresh))
  equated-regular (v ∷ w ∷ []) at fresh h = equation_to-regular v w at fresh h.0 h.1.0 (term_of v) (term_of w) refl refl
  equated-regular vs at fresh h = error-regular fresh

  connective_to-regular : (q : Conn) (vs : List Value) (at : Pos) (fresh : Fresh) → AllByRecursion P vs → (k : Kinds Part) → kinds_of part_of 1 vs ≡ k → Regular fresh (λ n. connective_to c.theory.signature q k at (left_of n fresh))
  connective_to-regular q vs at fresh h (wrong_at i) e = error-regular fresh
  connective_to-regular q vs at fresh h (all_are xs) e = sent-regular (connective_of c.theory.signature q (sentences_made c.theory.signature xs)) at fresh (λ x b. closed.connects q vs xs x h e b)

  connective-regular : (q : Conn) (vs : List Value) (at : Pos) (fresh : Fresh) → AllByRecursion P vs → Regular fresh (λ n. connective_applied c.theory.signature q vs at (left_of n fresh))
  connective-regular q vs at fresh h = go (takes q (length vs))
    where
      go : (b : Bool) → Regular fresh (λ n. (if b then connective_to c.theory.signature q (kinds_of part_of 1 vs) else miscounted (wanted q) vs) at (left_of n fresh))
      go true = connective_to-regular q vs at fresh h (kinds_of part_of 1 vs) refl
      go false = error-regular fresh

  quantifier_to-regular : (q : Quant) (m : ℕ) (vs : List Value) (w : Value) (at : Pos) (fresh : Fresh) → AllByRecursion P vs → P w → (k : Kinds Variable) (o : Option Part) → kinds_of variable_in 1 vs ≡ k → part_of w ≡ o → Regular fresh (λ n. quantifier_to c.theory.signature q m k o at (left_of n fresh))
  quantifier_to-regular q m vs w at fresh h p (wrong_at i) o e f = error-regular fresh
  quantifier_to-regular q m vs w at fresh h p (all_are xs) None e f = error-regular fresh
  quantifier_to-regular q m vs w at fresh h p (all_are xs) (Some y) e f = sent-regular (quantified_over c.theory.signature q xs (sentence_made c.theory.signature y)) at fresh (λ x b. closed.quantifies q vs w xs y x h p e f b)

  quantifier-regular : (q : Quant) (vs : List Value) (at : Pos) (fresh : Fresh) → AllByRecursion P vs → Regular fresh (λ n. quantifier_applied c.theory.signature q vs at (left_of n fresh))
  quantifier-regular q (v ∷ w ∷ vs) at fresh h =
      quantifier_to-regular q (length (v ∷ w ∷ vs)) (but_last v (w ∷ vs)) (the_last w vs) at fresh (all-but-last P v (w ∷ vs) h.0 h.1) (the-last P w vs h.1.0 h.1.1) (kinds_of variable_in 1 (but_last v (w ∷ vs))) (part_of (the_last w vs)) refl refl
  quantifier-regular q vs at fresh h = error-regular fresh

  either-regular : (f : Sym) (o : Option Symbol) (vs : List Value) (at : Pos) (fresh : Fresh) → symbol_of c.theory.signature f ≡ o → AllByRecursion P vs → Regular fresh (λ n. symbol_or_equation c.theory.signature o vs at (left_of n fresh))
  either-regular f (Some d) vs at fresh is h = symbol-regular f d vs at fresh is h
  either-regular f None vs at fresh is h = equated-regular vs at fresh h

  itself-regular : (v : Value) (vs : List Value) (at : Pos) (fresh : Fresh) → P v → Regular fresh (λ n. itself v vs at (left_of n fresh))
  itself-regular v [] at fresh h = value-regular v fresh h
  itself-regular v (w ∷ ws) at fresh h = error-regular fresh

  applied-regular : (rec : Evaluator) (env : Environment) (v : Value) (vs : List Value) (at : Pos) (fresh : Fresh) → P v → AllByRecursion P vs → Regular fresh (λ n. applied c rec env v vs at (left_of n fresh))
  applied-regular rec env (a_symbol f) vs at fresh p h = either-regular f (symbol_of c.theory.signature f) vs at fresh refl h
  applied-regular rec env (a_connective q) vs at fresh p h = connective-regular q vs at fresh h
  applied-regular rec env (a_term t r) vs at fresh p h = itself-regular (a_term t r) vs at fresh p
  applied-regular rec env (a_sentence q) vs at fresh p h = itself-regular (a_sentence q) vs at fresh p
  applied-regular rec env (a_quantifier q) vs at fresh p h = quantifier-regular q vs at fresh h
  applied-regular rec env a_back vs at fresh p h = error-regular fresh
  applied-regular rec env (a_method m) vs at fresh p h = error-regular fresh

  -- ---- names
  symbol_named-regular : (f : Sym) (o : Option Symbol) (at : Pos) (fresh : Fresh) → symbol_of c.theory.signature f ≡ o → P (a_symbol f) → Regular fresh (λ n. symbol_named c.theory.signature f o at (left_of n fresh))
  symbol_named-regular f None at fresh is h = value-regular (a_symbol f) fresh h
  symbol_named-regular f (Some d) at fresh is h = go (length d.args == 0)
    where
      go : (b : Bool) → Regular fresh (λ n. (if b then symbol_applied c.theory.signature d [] at else gives (a_symbol f)) (left_of n fresh))
      go true = symbol-regular f d [] at fresh is tt
      go false = value-regular (a_symbol f) fresh h

  value_named-regular : (v : Value) (at : Pos) (fresh : Fresh) → P v → Regular fresh (λ n. value_named c v at (left_of n fresh))
  value_named-regular (a_symbol f) at fresh h = symbol_named-regular f (symbol_of c.theory.signature f) at fresh refl h
  value_named-regular v at fresh h = value-regular v fresh h

  found-regular : (x : Sym) (at : Pos) (fresh : Fresh) (o : Option Value) → looked_up c.names c.theory.signature x ≡ o → Regular fresh (λ n. found c x at o (left_of n fresh))
  found-regular x at fresh (Some v) e = value_named-regular v at fresh (closed.named x v e)
  found-regular x at fresh None e = error-regular fresh

  -- ---- variables and ascriptions
  sorted-regular : (x : Sym) (k : ℕ) (text : SortText) (at : Pos) (fresh : Fresh) (r : Result Sort SigError) → meaning c.theory.signature text ≡ r → Regular fresh (λ n. with_sort r (λ s place. gives (a_term (var (record { name = x; index = k; sort = s })) s)) at (left_of n fresh))
  sorted-regular x k text at fresh (Ok s) e = value-regular (a_term (var (record { name = x; index = k; sort = s })) s) fresh (closed.sorted x k text s e)
  sorted-regular x k text at fresh (Err why) e = error-regular fresh

  variable-regular : (x : Sym) (k : ℕ) (o : Option SortText) (at : Pos) (fresh : Fresh) → Regular fresh (λ n. variable c x k o at (left_of n fresh))
  variable-regular x k None at fresh = value-moved (a_term (var (record { name = x; index = k; sort = Var (Made fresh.sort) })) (Var (Made fresh.sort))) fresh (record fresh { sort = fresh.sort + 1 }) (closed.unsorted x k fresh.sort) (self fresh.var, omega arith) (λ w. (omega arith, omega arith))
  variable-regular x k (Some text) at fresh = sorted-regular x k text at fresh (meaning c.theory.signature text) refl

  meant-regular : (text : SortText) (v : Value) (t : Term) (at : Pos) (fresh : Fresh) → P v → term_of v ≡ Some t → (r : Result Sort SigError) → meaning c.theory.signature text ≡ r → Regular fresh (λ n. with_sort r (λ s place. gives_term c.theory.signature (made_ascription c.theory.signature t s) place) at (left_of n fresh))
  meant-regular text v t at fresh h is (Ok s) e = term-regular (made_ascription c.theory.signature t s) at fresh fresh (same fresh) (λ w. few-same fresh) (λ x b. closed.ascribes v t x text s h is e b)
  meant-regular text v t at fresh h is (Err why) e = error-regular fresh

  ascribed_to-regular : (text : SortText) (v : Value) (at : Pos) (fresh : Fresh) → P v → (o : Option Term) → term_of v ≡ o → Regular fresh (λ n. ascribed_to c text o at (left_of n fresh))
  ascribed_to-regular text v at fresh h None e = error-regular fresh
  ascribed_to-regular text v at fresh h (Some t) e = meant-regular text v t at fresh h e (meaning c.theory.signature text) refl

  ascribed-regular : (text : SortText) (v : Value) (at : Pos) (fresh : Fresh) → P v → Regular fresh (λ n. ascribed c text v at (left_of n fresh))
  ascribed-regular text v at fresh h = ascribed_to-regular text v at fresh h (term_of v) refl

  -- ---- methods
  module _ (env : Environment) (sound : IsHolding Q env) where
    -- where the base holds a sentence
    if_held-regular : (p : Sent) (go : Left → Outcome) (at : Pos) (fresh : Fresh) → (Q p → Regular fresh (λ n. go (left_of n fresh))) → (o : Option Entry) → holds env.base p ≡ o → Regular fresh (λ n. if_held o p go at (left_of n fresh))
    if_held-regular p go at fresh h (Some e) is = let i = in-base env.base p e is in h (closed.renames e.sentence p i.1 (sound e.sentence i.0))
    if_held-regular p go at fresh h None is = error-regular fresh

    claim-regular : (o : Option Sent) (at : Pos) (fresh : Fresh) → Regular fresh (λ n. claim env.base o at (left_of n fresh))
    claim-regular None at fresh = error-regular fresh
    claim-regular (Some p) at fresh = if_held-regular p (concludes p) at fresh (λ q. sentence-regular p fresh q) (holds env.base p) refl

    detached-regular : (a b q : Sent) (at : Pos) (fresh : Fresh) → Regular fresh (λ n. detached env.base (joined If a b) a b q at (left_of n fresh))
    detached-regular a b q at fresh = go (is_alpha_equal q a) refl
      where
        go : (s : Bool) → is_alpha_equal q a ≡ s → Regular fresh (λ n. (if s then if_held (holds env.base (joined If a b)) (joined If a b) (if_held (holds env.base q) q (concludes b) at) at else wrong_shape 2 at) (left_of n fresh))
        go true f =
            if_held-regular (joined If a b) (if_held (holds env.base q) q (concludes b) at) at fresh
            (λ i. if_held-regular q (concludes b) at fresh (λ h. sentence-regular b fresh (closed.detaches a b i (closed.renames q a ((alpha_told q a).0 f) h))) (holds env.base q) refl)
            (holds env.base (joined If a b)) refl
        go false f = error-regular fresh

    modus-regular : (p : Sent) (o : Option Sent) (at : Pos) (fresh : Fresh) → Regular fresh (λ n. modus_ponens env.base p o at (left_of n fresh))
    modus-regular (joined If a b) None at fresh = error-regular fresh
    modus-regular (joined If a b) (Some q) at fresh = detached-regular a b q at fresh
    modus-regular p o at fresh = error-regular fresh

    mp-regular : (o u : Option Sent) (at : Pos) (fresh : Fresh) → Regular fresh (λ n. mp env.base o u at (left_of n fresh))
    mp-regular None u at fresh = error-regular fresh
    mp-regular (Some p) u at fresh = modus-regular p u at fresh

    claimed-regular : (vs : List Value) (at : Pos) (fresh : Fresh) → Regular fresh (λ n. claimed env.base vs at (left_of n fresh))
    claimed-regular (v ∷ []) at fresh = claim-regular (sentence_of v) at fresh
    claimed-regular vs at fresh = error-regular fresh

    ponens-regular : (vs : List Value) (at : Pos) (fresh : Fresh) → Regular fresh (λ n. ponens env.base vs at (left_of n fresh))
    ponens-regular (v ∷ w ∷ []) at fresh = mp-regular (sentence_of v) (sentence_of w) at fresh
    ponens-regular vs at fresh = error-regular fresh

    called-regular : (rec : Evaluator) (v : Value) (vs : List Value) (at : Pos) (fresh : Fresh) → Regular fresh (λ n. called c rec env v vs at (left_of n fresh))
    called-regular rec (a_method m) vs at fresh = go (m == 0)
      where
        go : (b : Bool) → Regular fresh (λ n. (if b then claimed env.base vs else ponens env.base vs) at (left_of n fresh))
        go true = claimed-regular vs at fresh
        go false = ponens-regular vs at fresh
    called-regular rec v vs at fresh = error-regular fresh

  -- ---- what goes on after a part
  abbrev Goes : (Environment → Value → Left → Outcome) → Type 0
  Goes go = (env : Environment) → IsHolding Q env → (v : Value) (made : Fresh) → P v → Regular made (λ n. go env v (left_of n made))

  module _ (env : Environment) (sound : IsHolding Q env) (go : Environment → Value → Left → Outcome) (g : Goes go) where
    after-value : (v : Value) (made : Fresh) → P v → Regular made (λ n. go env v (left_of n made))
    after-value v made h = g env sound v made h

    after-conclusion : (p : Sent) (made : Fresh) → Q p → Regular made (λ n. go (concluding p env) (value_of p) (left_of n made))
    after-conclusion p made h = g (concluding p env) (holding-more Q env p sound h) (value_of p) made (closed.shown p h)

    then-yields : (o : Outcome) → Yields P Q o → Yields P Q (then_in env o go)
    then-yields (gives v left) h = (after-value v left.fresh h).yields left.fuel
    then-yields (concludes p left) h = (after-conclusion p left.fresh h).yields left.fuel
    then-yields (fails at why left) h = tt
    then-yields (exhausts at made) h = tt

    then-moves : (n : ℕ) (fresh : Fresh) (o : Outcome) → Yields P Q o → Spends (left_of n fresh) o → Spends (left_of n fresh) (then_in env o go)
    then-moves n fresh (gives v left) h e = rises left.fuel n fresh left.fresh (go env v left) e.0 (e.1, e.2) ((after-value v left.fresh h).moves left.fuel)
    then-moves n fresh (concludes p left) h e = rises left.fuel n fresh left.fresh (go (concluding p env) (value_of p) left) e.0 (e.1, e.2) ((after-conclusion p left.fresh h).moves left.fuel)
    then-moves n fresh (fails at why left) h e = e
    then-moves n fresh (exhausts at made) h e = e

    then-kept : (k : ℕ) (o r : Outcome) → Yields P Q o → (IsNotSpent o → r ≡ with_more k o) → IsNotSpent (then_in env o go) → then_in env r go ≡ with_more k (then_in env o go)
    then-kept k (gives v left) r h e s = ap (λ t. then_in env t go) (e (gives-not-spent v left)) ∙ (after-value v left.fresh h).kept left.fuel k s
    then-kept k (concludes p left) r h e s = ap (λ t. then_in env t go) (e (concludes-not-spent p left)) ∙ (after-conclusion p left.fresh h).kept left.fuel k s
    then-kept k (fails at why left) r h e s = ap (λ t. then_in env t go) (e (fails-not-spent at why left))
    then-kept k (exhausts at made) r h e s = absurd (s at made refl)

  one-more : (left : ℕ) (made bound : Fresh) → IsBelow (charged left made) bound → IsBelow (charged (left + 1) made) (charged 1 bound)
  one-more left made bound h = (omega (arith, h.0), omega (arith, h.1))

  then-room : (env : Environment) → IsHolding Q env → (go : Environment → Value → Left → Outcome) → Goes go → (bound : Fresh) (o : Outcome) → Yields P Q o → Narrow → StaysWithin bound o → StaysWithin (charged 1 bound) (then_in env o go)
  then-room env sound go g bound (gives v left) h w e = wider (charged (left.fuel + 1) left.fresh) (charged 1 bound) (go env v left) (one-more left.fuel left.fresh bound e) ((after-value env sound go g v left.fresh h).room w left.fuel)
  then-room env sound go g bound (concludes p left) h w e =
      wider (charged (left.fuel + 1) left.fresh) (charged 1 bound) (go (concluding p env) (value_of p) left) (one-more left.fuel left.fresh bound e) ((after-conclusion env sound go g p left.fresh h).room w left.fuel)
  then-room env sound go g bound (fails at why left) h w e = below-through (charged left.fuel left.fresh) bound (charged 1 bound) e (few-same bound)
  then-room env sound go g bound (exhausts at made) h w e = below-through made bound (charged 1 bound) e (few-same bound)

  -- a phrase takes no more than its fuel allows
  abbrev Thrifty : Fresh → (ℕ → Outcome) → Type 0
  Thrifty fresh f = IsRegular c.theory.signature P Q 0 fresh f

  then_in-regular : (env : Environment) → IsHolding Q env → (fresh : Fresh) (f : ℕ → Outcome) (go : Environment → Value → Left → Outcome) → Thrifty fresh f → Goes go → Regular fresh (λ n. then_in env (f n) go)
  then_in-regular env sound fresh f go h g = record {
    yields = λ n. then-yields env sound go g (f n) (h.yields n);
    moves = λ n. then-moves env sound go g n fresh (f n) (h.yields n) (h.moves n);
    kept = λ n k s. then-kept env sound go g k (f n) (f (n + k)) (h.yields n) (h.kept n k) s;
    room = λ w n. wider (charged 1 (charged n fresh)) (charged (n + 1) fresh) (then_in env (f n) go) (omega arith, omega arith)
        (then-room env sound go g (charged n fresh) (f n) (h.yields n) w (wider (charged (n + 0) fresh) (charged n fresh) (f n) (omega arith, omega arith) (h.room w n)));
  }

  -- what goes on in the same environment whatever the part was
  then-same : (env : Environment) (o : Outcome) (go : Value → Left → Outcome) → then_in env o (λ e. go) ≡ and_then o go
  then-same env (gives v left) go = refl
  then-same env (concludes p left) go = refl
  then-same env (fails at why left) go = refl
  then-same env (exhausts at made) go = refl

  then-regular : (env : Environment) → IsHolding Q env → (fresh : Fresh) (f : ℕ → Outcome) (go : Value → Left → Outcome) → Thrifty fresh f → ((v : Value) (made : Fresh) → P v → Regular made (λ n. go v (left_of n made))) → Regular fresh (λ n. and_then (f n) go)
  then-regular env sound fresh f go h g = subst (Regular fresh) (λ i n. then-same env (f n) go i) (then_in-regular env sound fresh f (λ e. go) h (λ e s. g))

  abbrev Evaluates : Evaluator → Type 0
  Evaluates rec = (env : Environment) → IsHolding Q env → (x : Phrase) (fresh : Fresh) → Thrifty fresh (λ n. rec env x (left_of n fresh))

  each-regular : (rec : Evaluator) → Evaluates rec → (go : Environment → List Value → Left → Outcome) → ((env : Environment) → IsHolding Q env → (vs : List Value) (made : Fresh) → AllByRecursion P vs → Regular made (λ n. go env vs (left_of n made)))
      → (xs : Phrases) (env : Environment) → IsHolding Q env → (done : List Value) (fresh : Fresh) → AllByRecursion P done → Regular fresh (λ n. each rec env done xs go (left_of n fresh))
  each-regular rec r go g no_phrases env sound done fresh h = g env sound done fresh h
  each-regular rec r go g (more_phrases x xs) env sound done fresh h =
      then_in-regular env sound fresh (λ n. rec env x (left_of n fresh)) (λ after v. each rec after (done ++ v ∷ []) xs go) (r env sound x fresh)
      (λ after s v made p. each-regular rec r go g xs after s (done ++ v ∷ []) made (all-last P done v h p))

  -- ---- forms and phrases
  form-regular : (rec : Evaluator) → Evaluates rec → (env : Environment) → IsHolding Q env → (x : Phrase) (fresh : Fresh) → Regular fresh (λ n. form c rec env x (left_of n fresh))
  form-regular rec r env sound (name_at p x) fresh = found-regular x p fresh (looked_up c.names c.theory.signature x) refl
  form-regular rec r env sound (variable_at p x k s) fresh = variable-regular x k s p fresh
  form-regular rec r env sound (ascribe_at p x s) fresh = then-regular env sound fresh (λ n. rec env x (left_of n fresh)) (λ v. ascribed c s v p) (r env sound x fresh) (λ v made h. ascribed-regular s v p made h)
  form-regular rec r env sound (apply_at p f xs) fresh =
      then-regular env sound fresh (λ n. rec env f (left_of n fresh)) (λ v. each rec env [] xs (λ after vs. applied c rec after v vs p)) (r env sound f fresh)
      (λ v made h. each-regular rec r (λ after vs. applied c rec after v vs p) (λ after s vs last a. applied-regular rec after v vs p last h a) xs env sound [] made tt)
  form-regular rec r env sound (call_at p f xs) fresh =
      then-regular env sound fresh (λ n. rec env f (left_of n fresh)) (λ v. each rec env [] xs (λ after vs. called c rec after v vs p)) (r env sound f fresh)
      (λ v made h. each-regular rec r (λ after vs. called c rec after v vs p) (λ after s vs last a. called-regular after s rec v vs p last) xs env sound [] made tt)
  form-regular rec r env sound x fresh = error-regular fresh

  -- a step is taken before what goes on
  module _ (at : Pos) (go : Left → Outcome) (fresh : Fresh) (h : Regular fresh (λ n. go (left_of n fresh))) where
    spent-yields : (n : ℕ) → Yields P Q (spending n fresh at go)
    spent-yields zero = tt
    spent-yields (suc n) = h.yields n

    spent-moves : (n : ℕ) → Spends (left_of n fresh) (spending n fresh at go)
    spent-moves zero = same fresh
    spent-moves (suc n) = rises n (suc n) fresh fresh (go (left_of n fresh)) (omega arith) (same fresh) (h.moves n)

    spent-kept : (n k : ℕ) → IsNotSpent (spending n fresh at go) → spending (n + k) fresh at go ≡ with_more k (spending n fresh at go)
    spent-kept zero k s = absurd (s at fresh refl)
    spent-kept (suc n) k s = ap (λ m. spending m fresh at go) (suc-add n k) ∙ h.kept n k s

    spent-room : Narrow → (n : ℕ) → StaysWithin (charged (n + 0) fresh) (spending n fresh at go)
    spent-room w zero = (omega arith, omega arith)
    spent-room w (suc n) = wider (charged (n + 1) fresh) (charged (suc n + 0) fresh) (go (left_of n fresh)) (omega arith, omega arith) (h.room w n)

    spent-regular : Thrifty fresh (λ n. spending n fresh at go)
    spent-regular = record { yields = spent-yields; moves = spent-moves; kept = spent-kept; room = spent-room }

  pub evaluated-regular : (levels : ℕ) (env : Environment) → IsHolding Q env → (x : Phrase) (fresh : Fresh) → IsRegular c.theory.signature P Q 0 fresh (λ n. evaluated c levels env x (left_of n fresh))
  evaluated-regular zero env sound x fresh = spent-regular (place x) (fails (place x) (refusal TooNested [])) fresh (error-regular fresh)
  evaluated-regular (suc levels) env sound x fresh =
      spent-regular (place x) (form c (evaluated c levels) env x) fresh (form-regular (evaluated c levels) (λ e s y made. evaluated-regular levels e s y made) env sound x fresh)
