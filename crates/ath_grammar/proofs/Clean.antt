-- No item that the machine leaves waits for a token of some classes, if none of the table's rows has such an item.
use Rattle.std.proofs.Common.{◌≡◌, ℕ, zero, suc, List, [], ◌∷◌, ◌++◌, Bool, true, false, not, Option, Some, None, refl}
use Rattle.ath_grammar.specs.declared.class.Class.{Class}
use Rattle.ath_grammar.specs.declared.symbol.Symbol.{Symbol}
use Rattle.ath_grammar.specs.declared.item.Want.{Want}
use Rattle.ath_grammar.specs.declared.item.Item.{Item}
use Rattle.ath_grammar.specs.declared.item.Item.TheVariants as I
use Rattle.ath_grammar.specs.Tokens.{Placed}
use Rattle.ath_grammar.specs.Codes.{is_class}
use Rattle.ath_grammar.specs.Tables.{Row, none, take, skip, begin_as, Table, Start, no_start, begin, pass, both, fits, want_of, told, told_all, behind, by_token, start, Algebra}
use Rattle.ath_grammar.specs.Spells.{starts}
use Rattle.ath_grammar.specs.Machine.{Outcome, over, took, refused, if_taken, where_token, tokens_of, opens, also, on_over, advance, settle, taken, step, run}
use Rattle.ath_grammar.proofs.Completes.{clean, both_left, both_right}

module _ (avoids : Class → Bool) where
  abbrev pub clean_row : Row → Bool
  clean_row none = true
  clean_row (take m g is) = clean avoids is
  clean_row (skip m xs) = true
  clean_row (begin_as m s x is) = clean avoids is

  both_true : (b c : Bool) → b ≡ true → c ≡ true → both b c ≡ true
  both_true true c e h = h
  both_true false c e h = cc

  clean_append : (js is : List Item) → clean avoids js ≡ true → clean avoids is ≡ true → clean avoids (js ++ is) ≡ true
  clean_append [] is e h = h
  clean_append (I.Token c ∷ js) is e h = both_true (not (avoids c)) (clean avoids (js ++ is)) (both_left (not (avoids c)) (clean avoids js) e) (clean_append js is (both_right (not (avoids c)) (clean avoids js) e) h)
  clean_append (I.Act x ∷ js) is e h = clean_append js is e h
  clean_append (I.Symbol s x ∷ js) is e h = clean_append js is e h

  clean_told : (w : Want) (js : List Item) → clean avoids js ≡ true → clean avoids (told_all w js) ≡ true
  clean_told w [] e = refl
  clean_told w (I.Token c ∷ js) e = both_true (not (avoids c)) (clean avoids (told_all w js)) (both_left (not (avoids c)) (clean avoids js) e) (clean_told w js (both_right (not (avoids c)) (clean avoids js) e))
  clean_told w (I.Act x ∷ js) e = clean_told w js e
  clean_told w (I.Symbol s x ∷ js) e = clean_told w js e

  abbrev CleanStart : Start → Type 0
  CleanStart no_start = Unit {0}
  CleanStart (begin f g js) = clean avoids js ≡ true
  CleanStart (pass f xs) = Unit {0}

  clean_behind : (f : Bool) (js : List Item) (S : Start) → clean avoids js ≡ true → CleanStart S → CleanStart (behind f js S)
  clean_behind f js no_start e h = tt
  clean_behind f js (begin g k is) e h = clean_append is js h e
  clean_behind f js (pass g xs) e h = tt

  module _ (row : Table) (rows : (s : Symbol) (c : Class) → clean_row (row s c) ≡ true) where
    clean_by : (n : ℕ) (c : Class) (k : Bool) (w : Want) (R : Row) → clean_row R ≡ true → CleanStart (by_token n row c k w R)
    clean_by n c k w none e = tt
    clean_by n c k w (take m g is) e = clean_told w is e
    clean_by n c k w (skip m xs) e = tt
    clean_by zero c k w (begin_as m s x is) e = tt
    clean_by (suc n) c k w (begin_as m s x is) e = clean_behind (fits w m) (told_all w is) (by_token n row c k (want_of (told w x) k) (row s c)) (clean_told w is e) (clean_by n c k (want_of (told w x) k) (row s c) (rows s c))

    clean_start : (c : Class) (k : Bool) (w : Want) (R : Row) → clean_row R ≡ true → CleanStart (start row c k w R)
    clean_start c k w none e = clean_by 2 c k w none e
    clean_start c k w (take m g is) e = clean_by 2 c k w (take m g is) e
    clean_start c k w (skip m xs) e = tt
    clean_start c k w (begin_as m s x is) e = clean_by 2 c k w (begin_as m s x is) e

    module _ (M : Algebra) where
      abbrev pub CleanOutcome : Outcome M.State → Type 0
      CleanOutcome (over f us) = Unit {0}
      CleanOutcome (took f is us) = clean avoids is ≡ true
      CleanOutcome refused = Unit {0}

      clean_token : (o : Option Placed) (b : Placed → Bool) (f : Bool) (is : List Item) (save : Placed → M.State) → clean avoids is ≡ true → CleanOutcome (where_token o (λ t. if_taken (b t) (took f is (save t))))
      clean_token None b f is save e = tt
      clean_token (Some t) b f is save e = go (b t)
        where
          go : (d : Bool) → CleanOutcome (if_taken d (took f is (save t)))
          go true = e
          go false = tt

      clean_opens : (o : Option Placed) (is : List Item) (vs : M.State) (S : Start) → clean avoids is ≡ true → CleanStart S → CleanOutcome (opens M o is vs S)
      clean_opens o is vs no_start e h = tt
      clean_opens o is vs (begin f g js) e h = clean_token o (λ t. M.allows g t vs) f (js ++ is) (λ t. M.save t vs) (clean_append js is h e)
      clean_opens o is vs (pass f xs) e h = tt

      clean_also : (f : Bool) (o : Outcome M.State) → CleanOutcome o → CleanOutcome (also f o)
      clean_also f (over g us) h = tt
      clean_also f (took g is us) h = h
      clean_also f refused h = tt

      clean_over : (o : Outcome M.State) (go : M.State → Outcome M.State) → CleanOutcome o → ((us : M.State) → CleanOutcome (go us)) → CleanOutcome (on_over o go)
      clean_over (over f us) go h k = clean_also f (go us) (k us)
      clean_over (took f is us) go h k = h
      clean_over refused go h k = tt

      pub clean_advance : (o : Option Placed) (is : List Item) (vs : M.State) → clean avoids is ≡ true → CleanOutcome (advance M row o is vs)
      clean_advance o [] vs e = tt
      clean_advance o (I.Token c ∷ is) vs e = clean_token o (λ t. is_class c t) true is (λ t. M.save t vs) (both_right (not (avoids c)) (clean avoids is) e)
      clean_advance o (I.Act x ∷ is) vs e = clean_advance o is (M.act x vs) e
      clean_advance o (I.Symbol s x ∷ is) vs e = clean_over (opens M o is vs (starts M row s x vs (tokens_of o))) (λ us. advance M row o is us) (clean_opens o is vs (starts M row s x vs (tokens_of o)) e (clean_start _ (M.kind vs) (want_of x (M.kind vs)) _ (rows s _))) (λ us. clean_advance o is us e)

      clean_settle : (is : List Item) (vs : M.State) → clean avoids is ≡ true → clean avoids (settle M is vs).0 ≡ true
      clean_settle [] vs e = e
      clean_settle (I.Token c ∷ is) vs e = e
      clean_settle (I.Act x ∷ is) vs e = clean_settle is (M.act x vs) e
      clean_settle (I.Symbol s x ∷ is) vs e = e

      abbrev pub CleanConfig : Option (List Item × M.State) → Type 0
      CleanConfig None = Unit {0}
      CleanConfig (Some s) = clean avoids s.0 ≡ true

      clean_taken : (o : Outcome M.State) → CleanOutcome o → CleanConfig (taken M o)
      clean_taken (over f us) h = tt
      clean_taken (took true is us) h = clean_settle is us h
      clean_taken (took false is us) h = tt
      clean_taken refused h = tt

      clean_step : (o : Option (List Item × M.State)) (t : Placed) → CleanConfig o → CleanConfig (step M row o t)
      clean_step None t h = tt
      clean_step (Some s) t h = clean_taken (advance M row (Some t) s.0 s.1) (clean_advance (Some t) s.0 s.1 h)

      pub clean_run : (o : Option (List Item × M.State)) (ts : List Placed) → CleanConfig o → CleanConfig (run M row o ts)
      clean_run o [] h = h
      clean_run o (t ∷ ts) h = clean_run (step M row o t) ts (clean_step o t h)
