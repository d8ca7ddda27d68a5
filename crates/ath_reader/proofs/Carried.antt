-- What the tokens that are read so far leave, and what the next one says of the grammar.
use Rattle.std.proofs.Common.{◌≡◌, ℕ, zero, suc, ◌≤◌, List, [], ◌∷◌, ◌++◌, take, Bool, true, false, Option, Some, None, refl, sym, ◌∙◌, subst}
use Rattle.ath_syntax.specs.Tree.{DirectiveTree}
use Rattle.ath_grammar.specs.declared.item.Item.{Item}
use Rattle.ath_grammar.specs.declared.item.Item.TheVariants as I
use Rattle.ath_grammar.specs.Tokens.{Placed, class_of}
use Rattle.ath_grammar.specs.Trees.{Value, a_directive, v1, trees}
use Rattle.ath_grammar.specs.Grammar.{grammar}
use Rattle.ath_grammar.specs.declared.levels.Open.{Open}
use Rattle.ath_grammar.specs.Levels.{take_class, take_all, depth}
use Rattle.ath_grammar.specs.Machine.{Outcome, over, took, refused, advance, settle, first}
use Rattle.ath_grammar.specs.Directives.{SpellsDirective, Begins}
use Rattle.ath_grammar.specs.Laws.{after}
use Rattle.ath_grammar.proofs.Readings as read
use Rattle.ath_builder.specs.Values.{directive_in}
use Rattle.ath_tokens.specs.declared.tokens.LexKind.{LexKind}
use Rattle.ath_reader.specs.declared.limits.TheConstants.{MOST_LEVELS}
use Rattle.ath_reader.specs.Ahead.{a_token, the_end, a_fault, ahead, Reads, reads_none, reads_more, follows_token, follows_end, follows_fault}
use Rattle.ath_reader.specs.Reading.{Shallow, IsWhole, IsCut}
use Rattle.ath_reader.specs.Steps.{IsNotOver}

pub reads_snoc : (file : ℕ) (text : List ℕ) {names known last : List (List ℕ)} {from mid to : ℕ} {ts : List Placed} {t : Placed} → Reads file text names from ts known mid → ahead file text known mid ≡ a_token t last to → Reads file text names from (ts ++ t ∷ []) last to
reads_snoc file text reads_none e = reads_more e reads_none
reads_snoc file text (reads_more f r) e = reads_more f (reads_snoc file text r e)

-- levels, a token later
pub levels_snoc : (os : List Open) (ts : List Placed) (t : Placed) → take_all os (ts ++ t ∷ []) ≡ take_class (class_of t) (take_all os ts)
levels_snoc os [] t = refl
levels_snoc os (u ∷ ts) t = levels_snoc (take_class (class_of u) os) ts t

take_snoc : {A : Type 0} (P : List A → Type 0) (x : A) (ts : List A) → ((n : ℕ) → P (take n ts)) → P (ts ++ x ∷ []) → (n : ℕ) → P (take n (ts ++ x ∷ []))
take_snoc P x [] f h zero = f zero
take_snoc P x [] f h (suc zero) = h
take_snoc P x [] f h (suc (suc n)) = h
take_snoc P x (t ∷ ts) f h zero = f zero
take_snoc P x (t ∷ ts) f h (suc n) = take_snoc (λ us. P (t ∷ us)) x ts (λ m. f (suc m)) h n

pub shallow_snoc : (ts : List Placed) (t : Placed) → Shallow ts → depth (ts ++ t ∷ []) ≤ MOST_LEVELS → Shallow (ts ++ t ∷ [])
shallow_snoc ts t f h = take_snoc (λ us. depth us ≤ MOST_LEVELS) t ts f h

-- what needs no token may be done before or behind
settled_same : (o : Option Placed) (is : List Item) (vs : List Value) → advance trees grammar o (settle trees is vs).0 (settle trees is vs).1 ≡ advance trees grammar o is vs
settled_same o [] vs = refl
settled_same o (I.Token c ∷ is) vs = refl
settled_same o (I.Symbol s x ∷ is) vs = refl
settled_same o (I.Act x ∷ is) vs = settled_same o is (trees.act x vs)

pub not_over : {o : Outcome (List Value)} {p : Outcome (List Value)} → o ≡ p → IsNotOver p → IsNotOver o
not_over e n us f = n us (sym e ∙ f)

pub refused_not_over : IsNotOver refused
refused_not_over us e = cc

pub mixed_not_over : (us : List Value) → IsNotOver (over false us)
mixed_not_over us ws e = cc

pub took_not_over : (f : Bool) (is : List Item) (us : List Value) → IsNotOver (took f is us)
took_not_over f is us ws e = cc

-- the items and values that are left behind these tokens, up to what needs no token
module _ (ts : List Placed) (is : List Item) (vs : List Value) (e : after ts ≡ Some (settle trees is vs)) where
  abbrev left_items : List Item
  left_items = (settle trees is vs).0

  abbrev left_values : List Value
  left_values = (settle trees is vs).1

  abbrev goes : Option Placed → Outcome (List Value)
  goes o = advance trees grammar o is vs

  settled : (o : Option Placed) (p : Outcome (List Value)) → goes o ≡ p → advance trees grammar o left_items left_values ≡ p
  settled o p f = settled_same o is vs ∙ f

  pub begins_here : (a : Bool) → Begins a ts
  begins_here a = read.begins a ts left_items left_values e

  -- the directive is whole before these tokens
  spells : (more : List Placed) (us : List Value) → goes (first more) ≡ over true us → SpellsDirective true (ts ++ more) (directive_in (v1 us)) more
  spells more us f =
      let w = read.whole ts left_items left_values e more us (settled (first more) (over true us) f) in
      subst (λ (ws : List Value). SpellsDirective true (ts ++ more) (directive_in (v1 ws)) more) {x = a_directive w.0 ∷ []} {y = us} (sym w.1) w.2

  pub over_whole : (t : Placed) (known : List (List ℕ)) (to : ℕ) (us : List Value) → goes (Some t) ≡ over true us → IsWhole ts (a_token t known to) (directive_in (v1 us))
  over_whole t known to us f more (follows_token {more = rest}) = spells (t ∷ rest) us f

  pub end_whole : (us : List Value) → goes None ≡ over true us → IsWhole ts the_end (directive_in (v1 us))
  end_whole us f more follows_end = spells [] us f

  pub fault_whole : (kind : LexKind) (byte : ℕ) (us : List Value) → goes None ≡ over true us → IsWhole ts (a_fault kind byte) (directive_in (v1 us))
  fault_whole kind byte us f more follows_fault = spells [] us f

  -- no directive is whole before these tokens
  cut_before : (more : List Placed) → IsNotOver (goes (first more)) → (d : DirectiveTree) → SpellsDirective true (ts ++ more) d more → ⊥
  cut_before more n d h = n (a_directive d ∷ []) (sym (settled_same (first more) is vs) ∙ read.cut ts left_items left_values e more d h)

  pub end_cut : IsNotOver (goes None) → IsCut ts the_end
  end_cut n more d follows_end h = cut_before [] n d h

  pub fault_cut : (kind : LexKind) (byte : ℕ) → IsNotOver (goes None) → IsCut ts (a_fault kind byte)
  fault_cut kind byte n more d follows_fault h = cut_before [] n d h

  pub token_cut : (t : Placed) (known : List (List ℕ)) (to : ℕ) → IsNotOver (goes (Some t)) → IsCut ts (a_token t known to)
  token_cut t known to n more d (follows_token {more = rest}) h = cut_before (t ∷ rest) n d h

  -- what the next token makes of the front
  pub refused_here : (t : Placed) → goes (Some t) ≡ refused → Begins false (ts ++ t ∷ []) → ⊥
  refused_here t f = read.refuses ts left_items left_values e t (settled (Some t) refused f) false

  pub behind_here : (t : Placed) (us : List Value) → goes (Some t) ≡ over false us → Begins false (ts ++ t ∷ []) → ⊥
  behind_here t us f = read.behind_whole ts left_items left_values e t false us (settled (Some t) (over false us) f) false

  pub mixed : (t : Placed) (js : List Item) (us : List Value) → goes (Some t) ≡ took false js us → (Begins true (ts ++ t ∷ []) → ⊥) × Begins false (ts ++ t ∷ [])
  mixed t js us f = read.mixes ts left_items left_values e t js us (settled (Some t) (took false js us) f)

  pub read_next : (t : Placed) (js : List Item) (us : List Value) → goes (Some t) ≡ took true js us → after (ts ++ t ∷ []) ≡ Some (settle trees js us)
  read_next t js us f = read.takes ts left_items left_values e t js us (settled (Some t) (took true js us) f)

pub begins_next : (ts : List Placed) (is : List Item) (vs : List Value) → after ts ≡ Some (settle trees is vs) → (t : Placed) (js : List Item) (us : List Value) → advance trees grammar (Some t) is vs ≡ took true js us → Begins true (ts ++ t ∷ [])
begins_next ts is vs e t js us f = begins_here (ts ++ t ∷ []) js us (read_next ts is vs e t js us f) true
