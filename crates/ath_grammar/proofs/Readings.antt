-- What the machine's steps say of the directives that tokens begin.
use Rattle.std.proofs.Common.{◌≡◌, List, [], ◌∷◌, ◌++◌, Bool, true, false, Option, Some, None, refl, sym, ap, ◌∙◌, subst, append_assoc, arith}
use Rattle.ath_syntax.specs.Tree.{DirectiveTree}
use Rattle.ath_grammar.specs.declared.item.Item.{Item}
use Rattle.ath_grammar.specs.Tokens.{Placed, next_class}
use Rattle.ath_grammar.specs.Spells.{Spells}
use Rattle.ath_grammar.specs.Machine.{Outcome, over, took, refused, first, advance, settle, taken, step}
use Rattle.ath_grammar.specs.Grammar.{grammar}
use Rattle.ath_grammar.specs.Trees.{Value, a_directive, trees}
use Rattle.ath_grammar.specs.Directives.{directive_items, SpellsDirective, Begins}
use Rattle.ath_grammar.specs.Laws.{SpelledInParts, after}
use Rattle.ath_grammar.proofs.Steps.{Ended, ended, Took, Meant, sound, complete, one, shorter}
use Rattle.ath_grammar.proofs.Runs.{Config, run_more, Left, back, forth, unread as unread_run}
use Rattle.ath_grammar.proofs.Completes.{Completes, completes, clean}
use Rattle.ath_grammar.proofs.Clean.{CleanOutcome, CleanConfig, clean_run, clean_advance}
use Rattle.ath_grammar.proofs.Joins.{joins}
use Rattle.ath_grammar.proofs.Ready.{tokens, free_suits, ends, easy, all_ready, all_clean}
use Rattle.ath_grammar.proofs.TypedTable.{Spelled, as_directive}

pub in_parts : SpelledInParts
in_parts a is js vs ts ws r = joins trees grammar a is js vs ts ws r

abbrev start_at : Option (Config trees grammar)
start_at = Some (directive_items, [])

-- one token more
pub after_more : (ts : List Placed) (t : Placed) → after (ts ++ t ∷ []) ≡ step trees grammar (after ts) t
after_more ts t = run_more trees grammar start_at ts t

-- what is left can be completed
can_end : (a : Bool) (is : List Item) → clean ends.avoids is ≡ true → Completes trees tokens free_suits grammar ends easy a is
can_end a is e = completes trees tokens free_suits grammar ends easy a 8 all_ready is e

module _ (ts : List Placed) (is : List Item) (vs : List Value) (e : after ts ≡ Some (is, vs)) where
  is_clean : clean ends.avoids is ≡ true
  is_clean = subst (λ (o : Option (Config trees grammar)). CleanConfig ends.avoids grammar all_clean trees o) e (clean_run ends.avoids grammar all_clean trees start_at ts refl)

  module _ (a : Bool) where
    -- what is spelled behind the front
    behind : (more : List Placed) (ws : List Value) (r : List Placed) → Spells trees grammar a is vs more ws r → Spelled a (ts ++ more) ws r
    behind more ws r h = back trees grammar a ts start_at more ws r (subst (λ (o : Option (Config trees grammar)). Left trees grammar a o more ws r) (sym e) h)

    ahead : (more : List Placed) (ws : List Value) (r : List Placed) → Spelled a (ts ++ more) ws r → Spells trees grammar a is vs more ws r
    ahead more ws r h = subst (λ (o : Option (Config trees grammar)). Left trees grammar a o more ws r) e (forth trees grammar a ts start_at more ws r (is, vs) e h)

    begins_here : Begins a ts
    begins_here = let m = can_end a is is_clean vs in let k = as_directive a (ts ++ m.0) m.1 [] (behind m.0 m.1 [] m.2) in (m.0, k.0, k.1)

    -- one token more, where nothing goes on
    module _ (t : Placed) where
      abbrev Stops : Outcome (List Value) → Type 0
      Stops o = (more : List Placed) (ws : List Value) → Meant trees grammar a (t ∷ more) ws [] o → ⊥

      not_begun : Stops (advance trees grammar (Some t) is vs) → Begins a (ts ++ t ∷ []) → ⊥
      not_begun h (more, d, p) = h more (a_directive d ∷ []) (complete trees grammar a is vs (t ∷ more) (a_directive d ∷ []) [] (ahead (t ∷ more) (a_directive d ∷ []) [] (subst (λ (us : List Placed). Spelled a us (a_directive d ∷ []) []) (append_assoc ts (t ∷ []) more) p)))

      stops : (o : Outcome (List Value)) → advance trees grammar (Some t) is vs ≡ o → Stops o → Begins a (ts ++ t ∷ []) → ⊥
      stops o q h = not_begun (λ more ws k. h more ws (subst (λ (p : Outcome (List Value)). Meant trees grammar a (t ∷ more) ws [] p) q k))

  no_rest : (t : Placed) (more : List Placed) (us ws : List Value) → Ended us (t ∷ more) ws [] → ⊥
  no_rest t more us ws h = elim h [ ]

  module _ (t : Placed) where
    pub refuses : advance trees grammar (Some t) is vs ≡ refused → (a : Bool) → Begins a (ts ++ t ∷ []) → ⊥
    refuses q a = stops a t refused q (λ more ws k. k)

    pub behind_whole : (f : Bool) (us : List Value) → advance trees grammar (Some t) is vs ≡ over f us → (a : Bool) → Begins a (ts ++ t ∷ []) → ⊥
    behind_whole f us q a = stops a t (over f us) q (λ more ws k. no_rest t more us ws k.1)

    no_mix : (js : List Item) (us : List Value) (more : List Placed) (ws : List Value) → Meant trees grammar true (t ∷ more) ws [] (took false js us) → ⊥
    no_mix js us more ws (k, h) = cc

    pub mixes : (js : List Item) (us : List Value) → advance trees grammar (Some t) is vs ≡ took false js us → (Begins true (ts ++ t ∷ []) → ⊥) × Begins false (ts ++ t ∷ [])
    mixes js us q = (stops true t (took false js us) q (no_mix js us), (m.0, k.0, k.1))
      where
        clean_here : clean ends.avoids js ≡ true
        clean_here = subst (λ (o : Outcome (List Value)). CleanOutcome ends.avoids grammar all_clean trees o) q (clean_advance ends.avoids grammar all_clean trees (Some t) is vs is_clean)

        m : (more : List Placed) × (ws : List Value) × Spells trees grammar false js us more ws [] × (ends.avoids (next_class more) ≡ false)
        m = can_end false js clean_here us

        spelt : Spelled false (ts ++ (t ∷ m.0)) m.1 []
        spelt = behind false (t ∷ m.0) m.1 [] (sound trees grammar false (t ∷ m.0) m.1 [] is vs (subst (λ (o : Outcome (List Value)). Meant trees grammar false (t ∷ m.0) m.1 [] o) (sym q) (refl, m.2)))

        k : (d : DirectiveTree) × SpellsDirective false ((ts ++ t ∷ []) ++ m.0) d []
        k = as_directive false ((ts ++ t ∷ []) ++ m.0) m.1 [] (subst (λ (us : List Placed). Spelled false us m.1 []) (sym (append_assoc ts (t ∷ []) m.0)) spelt)

    pub takes : (js : List Item) (us : List Value) → advance trees grammar (Some t) is vs ≡ took true js us → after (ts ++ t ∷ []) ≡ Some (settle trees js us)
    takes js us q = after_more ts t ∙ ap (λ (o : Option (Config trees grammar)). step trees grammar o t) e ∙ ap (λ (o : Outcome (List Value)). taken trees o) q

  one_end : (us ws : List Value) (more r : List Placed) → Ended us more ws r → (us ≡ ws) × (more ≡ r)
  one_end us ws more r ended = (refl, refl)

  module _ (more : List Placed) where
    pub whole : (us : List Value) → advance trees grammar (first more) is vs ≡ over true us → (d : DirectiveTree) × (us ≡ a_directive d ∷ []) × SpellsDirective true (ts ++ more) d more
    whole us q = (k.0, only, k.1)
      where
        spelt : Spelled true (ts ++ more) us more
        spelt = behind true more us more (sound trees grammar true more us more is vs (subst (λ (o : Outcome (List Value)). Meant trees grammar true more us more o) (sym q) (refl, ended)))

        k : (d : DirectiveTree) × SpellsDirective true (ts ++ more) d more
        k = as_directive true (ts ++ more) us more spelt

        only : us ≡ a_directive k.0 ∷ []
        only = (one trees grammar true directive_items [] (ts ++ more) us more (a_directive k.0 ∷ []) more spelt k.1).0

    pub cut : (d : DirectiveTree) → SpellsDirective true (ts ++ more) d more → advance trees grammar (first more) is vs ≡ over true (a_directive d ∷ [])
    cut d h = go (advance trees grammar (first more) is vs) (complete trees grammar true is vs more (a_directive d ∷ []) more (ahead true more (a_directive d ∷ []) more h))
      where
        too_long : (us : List Placed) (f : Bool) (js : List Item) (ws : List Value) → Took trees grammar true us (a_directive d ∷ []) us f js ws → ⊥
        too_long [] f js ws k = k
        too_long (t ∷ us) f js ws k = omega (arith, shorter trees grammar true js ws us (a_directive d ∷ []) (t ∷ us) k.1)

        go : (o : Outcome (List Value)) → Meant trees grammar true more (a_directive d ∷ []) more o → o ≡ over true (a_directive d ∷ [])
        go (over true us) k = ap (λ (ws : List Value). over true ws) (one_end us (a_directive d ∷ []) more more k.1).0
        go (over false us) (e, k) = cc
        go (took f js us) k = absurd (too_long more f js us k)
        go refused k = absurd k

pub begins : (a : Bool) (ts : List Placed) (is : List Item) (vs : List Value) → after ts ≡ Some (is, vs) → Begins a ts
begins a ts is vs e = begins_here ts is vs e a

-- tokens that aren't read begin nothing
pub unread : (ts : List Placed) → after ts ≡ None → Begins true ts → ⊥
unread ts e (more, d, p) = unread_run trees grammar ts start_at more (a_directive d ∷ []) e p

abbrev in_list : List Value → DirectiveTree → DirectiveTree
in_list (a_directive d ∷ vs) c = d
in_list vs c = c

pub no_two : (a : Bool) (ts : List Placed) (d₁ d₂ : DirectiveTree) (r₁ r₂ : List Placed) → SpellsDirective a ts d₁ r₁ → SpellsDirective a ts d₂ r₂ → (d₁ ≡ d₂) × (r₁ ≡ r₂)
no_two a ts d₁ d₂ r₁ r₂ h k = let e = one trees grammar a directive_items [] ts (a_directive d₁ ∷ []) r₁ (a_directive d₂ ∷ []) r₂ h k in (ap (λ (vs : List Value). in_list vs d₁) e.0, e.1)
