-- The tokens that the machine took, for any table and any values.
use Rattle.std.proofs.Common.{◌≡◌, List, [], ◌∷◌, ◌++◌, Bool, true, false, Option, Some, None, refl, sym, ap, ◌∙◌}
use Rattle.ath_grammar.specs.declared.item.Item.{Item}
use Rattle.ath_grammar.specs.Tokens.{Placed}
use Rattle.ath_grammar.specs.Tables.{Table, Algebra}
use Rattle.ath_grammar.specs.Spells.{Spells}
use Rattle.ath_grammar.specs.Machine.{Outcome, over, took, refused, advance, taken, step, run}
use Rattle.ath_grammar.proofs.Steps.{Ended, Meant, admits_true, sound, complete, settle_sound, settle_complete}

module _ (M : Algebra) (row : Table) where
  abbrev pub Config : Type 0
  Config = List Item × M.State

  pub run_more : (o : Option Config) (front : List Placed) (t : Placed) → run M row o (front ++ t ∷ []) ≡ step M row (run M row o front) t
  run_more o [] t = refl
  run_more o (u ∷ front) t = run_more (step M row o u) front t

  none : (front : List Placed) → run M row None front ≡ None
  none [] = refl
  none (t ∷ front) = none front

  module _ (a : Bool) where
    abbrev pub Left : Option Config → List Placed → M.State → List Placed → Type 0
    Left None ts ws r = ⊥
    Left (Some s) ts ws r = Spells M row a s.0 s.1 ts ws r

    back_one : (s : Config) (t : Placed) (ts : List Placed) (ws : M.State) (r : List Placed) → Left (step M row (Some s) t) ts ws r → Spells M row a s.0 s.1 (t ∷ ts) ws r
    back_one s t ts ws r h = sound M row a (t ∷ ts) ws r s.0 s.1 (go (advance M row (Some t) s.0 s.1) h)
      where
        go : (o : Outcome M.State) → Left (taken M o) ts ws r → Meant M row a (t ∷ ts) ws r o
        go (took true is vs) h = (admits_true a, settle_sound M row a is vs ts ws r h)
        go (took false is vs) h = absurd h
        go (over f vs) h = absurd h
        go refused h = absurd h

    -- what is spelled behind the front is spelled with it
    pub back : (front : List Placed) (o : Option Config) (ts : List Placed) (ws : M.State) (r : List Placed) → Left (run M row o front) ts ws r → Left o (front ++ ts) ws r
    back [] o ts ws r h = h
    back (t ∷ front) None ts ws r h = back front None ts ws r h
    back (t ∷ front) (Some s) ts ws r h = back_one s t (front ++ ts) ws r (back front (step M row (Some s) t) ts ws r h)

    forth_one : (s : Config) (t : Placed) (ts : List Placed) (ws : M.State) (r : List Placed) (s₁ : Config) → step M row (Some s) t ≡ Some s₁ → Spells M row a s.0 s.1 (t ∷ ts) ws r → Left (step M row (Some s) t) ts ws r
    forth_one s t ts ws r s₁ e h = go (advance M row (Some t) s.0 s.1) e (complete M row a s.0 s.1 (t ∷ ts) ws r h)
      where
        go : (o : Outcome M.State) → taken M o ≡ Some s₁ → Meant M row a (t ∷ ts) ws r o → Left (taken M o) ts ws r
        go (took true is vs) e h = settle_complete M row a is vs ts ws r h.1
        go (took false is vs) e h = cc
        go (over f vs) e h = cc
        go refused e h = absurd h

    -- and the other way round
    pub forth : (front : List Placed) (o : Option Config) (ts : List Placed) (ws : M.State) (r : List Placed) (s : Config) → run M row o front ≡ Some s → Left o (front ++ ts) ws r → Left (run M row o front) ts ws r
    forth [] o ts ws r s e h = h
    forth (t ∷ front) None ts ws r s e h = absurd h
    forth (t ∷ front) (Some s₀) ts ws r s e h = go (step M row (Some s₀) t) refl (forth front (step M row (Some s₀) t) ts ws r s e)
      where
        go : (o : Option Config) → step M row (Some s₀) t ≡ o → (Left (step M row (Some s₀) t) (front ++ ts) ws r → Left (run M row (step M row (Some s₀) t) front) ts ws r) → Left (run M row (step M row (Some s₀) t) front) ts ws r
        go (Some s₁) p ih = ih (forth_one s₀ t (front ++ ts) ws r s₁ p h)
        go None p ih = absurd (bad (sym (none front) ∙ ap (λ (q : Option Config). run M row q front) (sym p) ∙ e))
          where
            bad : None ≡ Some s → ⊥
            bad q = cc

  -- a front that isn't read begins nothing, where kinds are told apart
  pub unread : (front : List Placed) (o : Option Config) (more : List Placed) (ws : M.State) → run M row o front ≡ None → Left true o (front ++ more) ws [] → ⊥
  unread [] None more ws e h = h
  unread [] (Some s) more ws e h = cc
  unread (t ∷ front) None more ws e h = h
  unread (t ∷ front) (Some s) more ws e h = unread front (step M row (Some s) t) more ws e (go (advance M row (Some t) s.0 s.1) (complete M row true s.0 s.1 (t ∷ front ++ more) ws [] h))
    where
      no_more : (us : M.State) → Ended us (t ∷ front ++ more) ws [] → ⊥
      no_more us k = elim k [ ]

      go : (o : Outcome M.State) → Meant M row true (t ∷ front ++ more) ws [] o → Left true (taken M o) (front ++ more) ws []
      go (took true is vs) h = settle_complete M row true is vs (front ++ more) ws [] h.1
      go (took false is vs) (e, h) = cc
      go (over f us) h = absurd (no_more us h.1)
      go refused h = absurd h
