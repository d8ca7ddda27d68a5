-- From each byte on, something is next: the tokens are read on until they are whole, or one is refused.
use Rattle.std.proofs.Common.{◌≡◌, ◌⊎◌, inl, inr, ℕ, zero, suc, ◌+◌, ◌<◌, ◌≤◌, nat_lt, List, [], ◌∷◌, ◌++◌, length, take, Bool, true, false, Some, None, refl, sym, ◌∙◌, arith}
use Rattle.std.proofs.lemmas.Bool.Decides.{nat_tests}
use Rattle.ath_syntax.specs.declared.place.Pos.{Pos}
use Rattle.ath_syntax.specs.Tree.{DirectiveTree}
use Rattle.ath_grammar.specs.Tokens.{Placed}
use Rattle.ath_grammar.specs.declared.item.Item.{Item}
use Rattle.ath_grammar.specs.Trees.{Value, v1, trees}
use Rattle.ath_grammar.specs.Grammar.{grammar}
use Rattle.ath_grammar.specs.Levels.{depth}
use Rattle.ath_grammar.specs.Machine.{Outcome, over, took, refused, advance, settle}
use Rattle.ath_grammar.specs.Directives.{directive_items}
use Rattle.ath_grammar.specs.Laws.{after}
use Rattle.ath_builder.specs.Values.{directive_in}
use Rattle.ath_tokens.specs.declared.tokens.LexKind.{LexKind}
use Rattle.ath_tokens.specs.Cut.{place_of}
use Rattle.ath_reader.specs.declared.limits.TheConstants.{MOST_LEVELS}
use Rattle.ath_reader.specs.declared.reader.SyntaxKind.{SyntaxKind}
use Rattle.ath_reader.specs.declared.reader.SyntaxKind.TheVariants.{Lex, Unexpected, Unclosed, KindMix, TooDeep}
use Rattle.ath_reader.specs.Ahead.{Ahead, a_token, the_end, a_fault, ahead, Reads, reads_none, reads_more, names_past}
use Rattle.ath_reader.specs.Reading.{Reading, Shallow, Front, IsWhole, IsCut, place, Fails}
use Rattle.ath_reader.specs.Next.{Upcoming, whole, ended, stopped, IsNext}
use Rattle.ath_reader.specs.Laws.{SomeNext}
use Rattle.ath_reader.proofs.KnownTokens.{reads_rise}
use Rattle.ath_reader.specs.Steps.{IsNotOver}
use Rattle.ath_reader.proofs.Carried.{reads_snoc, shallow_snoc, begins_here, over_whole, end_whole, fault_whole, end_cut, fault_cut, token_cut, refused_not_over, mixed_not_over, took_not_over, refused_here, behind_here, mixed, read_next, begins_next}

-- as many levels as may be, or more
data Levels (n : ℕ) : Type 0 where
  few : n ≤ MOST_LEVELS → Levels n
  many : MOST_LEVELS < n → Levels n

levels : (n : ℕ) → Levels n
levels n = by (nat_lt MOST_LEVELS n) refl
  where
    by : (b : Bool) → nat_lt MOST_LEVELS n ≡ b → Levels n
    by true e = many (grind (arith, nat_tests, e))
    by false e = few (grind (arith, nat_tests, e))

is_over : (o : Outcome (List Value)) → IsNotOver o ⊎ ((us : List Value) × (o ≡ over true us))
is_over refused = inl refused_not_over
is_over (took f is us) = inl (took_not_over f is us)
is_over (over false us) = inl (mixed_not_over us)
is_over (over true us) = inr (us, refl)

module _ (r : Reading) (names : List (List ℕ)) (from : ℕ) where
  -- tokens that begin a directive, and what the machine waits for behind them
  record Begun (ts : List Placed) (known : List (List ℕ)) (to : ℕ) (is : List Item) (vs : List Value) : Type 0 where
    read : Reads r.file r.text names from ts known to
    leads : after ts ≡ Some (settle trees is vs)
    shallow : Shallow ts

  abbrev Something : Type 0
  Something = (n : Upcoming) × IsNext r names from n

  module _ (ts : List Placed) (known : List (List ℕ)) (to : ℕ) (is : List Item) (vs : List Value) (b : Begun ts known to is vs) where
    front : (next : Ahead) → ahead r.file r.text known to ≡ next → Front r names from
    front next e = record {
      tokens = ts;
      known = known;
      to = to;
      read = b.read;
      begins = begins_here ts is vs b.leads true;
      shallow = b.shallow;
      next = next;
      comes = e;
    }

    found : (next : Ahead) → ahead r.file r.text known to ≡ next → (d : DirectiveTree) → IsWhole ts next d → Something
    unfolding front
    found next e d w = (whole d to (names_past next known), record { front = front next e; whole = w; end = refl; after = refl })

    refusal : (next : Ahead) → ahead r.file r.text known to ≡ next → (kind : SyntaxKind) (pos : Pos) → IsCut ts next → Fails r ts next kind pos → Something
    unfolding front
    refusal next e kind pos cut f = (stopped (record { kind = kind; pos = pos }) (names_past next known), record { front = front next e; cut = cut; cause = f; after = refl })

    at_fault : (kind : LexKind) (byte : ℕ) → ahead r.file r.text known to ≡ a_fault kind byte → Something
    at_fault kind byte e = by (is_over (advance trees grammar None is vs))
      where
        by : IsNotOver (advance trees grammar None is vs) ⊎ ((us : List Value) × (advance trees grammar None is vs ≡ over true us)) → Something
        by (inl n) = refusal (a_fault kind byte) e (Lex kind) (place_of r.file r.text byte) (fault_cut ts is vs b.leads kind byte n) (refl, refl)
        by (inr (us, f)) = found (a_fault kind byte) e (directive_in (v1 us)) (fault_whole ts is vs b.leads kind byte us f)

    -- at the end, behind some tokens
    at_last : ahead r.file r.text known to ≡ the_end → (ts ≡ [] → ⊥) → Something
    at_last e some = by (is_over (advance trees grammar None is vs))
      where
        by : IsNotOver (advance trees grammar None is vs) ⊎ ((us : List Value) × (advance trees grammar None is vs ≡ over true us)) → Something
        by (inl n) = refusal the_end e Unclosed (place_of r.file r.text (length r.text)) (end_cut ts is vs b.leads n) (some, refl)
        by (inr (us, f)) = found the_end e (directive_in (v1 us)) (end_whole ts is vs b.leads us f)

    module _ (t : Placed) (last : List (List ℕ)) (end : ℕ) (e : ahead r.file r.text known to ≡ a_token t last end) where
      rises : (to < end) × (end ≤ length r.text)
      rises = reads_rise r.file r.text known to t [] last end (reads_more e reads_none)

      -- the token is taken
      further : (js : List Item) (us : List Value) → advance trees grammar (Some t) is vs ≡ took true js us → depth (ts ++ t ∷ []) ≤ MOST_LEVELS → Begun (ts ++ t ∷ []) last end js us
      further js us s low = record {
        read = reads_snoc r.file r.text b.read e;
        leads = read_next ts is vs b.leads t js us s;
        shallow = shallow_snoc ts t b.shallow low;
      }

      cuts : (o : Outcome (List Value)) → advance trees grammar (Some t) is vs ≡ o → IsNotOver o → IsCut ts (a_token t last end)
      cuts o s n = token_cut ts is vs b.leads t last end (λ us f. n us (sym s ∙ f))

      at_token : ((js : List Item) (us : List Value) → Begun (ts ++ t ∷ []) last end js us → Something) → (o : Outcome (List Value)) → advance trees grammar (Some t) is vs ≡ o → Something
      at_token rest refused s = refusal (a_token t last end) e Unexpected (place t) (cuts refused s refused_not_over) (refused_here ts is vs b.leads t s, refl)
      at_token rest (over true us) s = found (a_token t last end) e (directive_in (v1 us)) (over_whole ts is vs b.leads t last end us s)
      at_token rest (over false us) s = refusal (a_token t last end) e Unexpected (place t) (cuts (over false us) s (mixed_not_over us)) (behind_here ts is vs b.leads t us s, refl)
      at_token rest (took false js us) s = let m = mixed ts is vs b.leads t js us s in refusal (a_token t last end) e KindMix (place t) (cuts (took false js us) s (took_not_over false js us)) (m.0, m.1, refl)
      at_token rest (took true js us) s = by (levels (depth (ts ++ t ∷ [])))
        where
          by : Levels (depth (ts ++ t ∷ [])) → Something
          by (few low) = rest js us (further js us s low)
          by (many high) = refusal (a_token t last end) e TooDeep (place t) (cuts (took true js us) s (took_not_over true js us)) (begins_next ts is vs b.leads t js us s, high, refl)

  -- what is next, where no more than so many bytes are left
  goes_on : (fuel : ℕ) (ts : List Placed) (known : List (List ℕ)) (to : ℕ) (is : List Item) (vs : List Value) → Begun ts known to is vs → length r.text < to + fuel → (ahead r.file r.text known to ≡ the_end → Something) → Something
  goes_on zero ts known to is vs b h stop = by (ahead r.file r.text known to) refl
    where
      by : (next : Ahead) → ahead r.file r.text known to ≡ next → Something
      by (a_token t last end) e = let up = rises ts known to is vs b t last end e in absurd (omega (arith, up.0, up.1, h))
      by the_end e = stop e
      by (a_fault kind byte) e = at_fault ts known to is vs b kind byte e
  goes_on (suc fuel) ts known to is vs b h stop = by (goes_on fuel) (ahead r.file r.text known to) refl
    where
      Further : Type 0
      Further = (ts : List Placed) (known : List (List ℕ)) (to : ℕ) (is : List Item) (vs : List Value) → Begun ts known to is vs → length r.text < to + fuel → (ahead r.file r.text known to ≡ the_end → Something) → Something

      snoc_some : (us : List Placed) (t : Placed) → us ++ t ∷ [] ≡ [] → ⊥
      snoc_some [] t e = absurd (grind (arith, e))
      snoc_some (x ∷ us) t e = absurd (grind (arith, e))

      by : Further → (next : Ahead) → ahead r.file r.text known to ≡ next → Something
      by ih (a_token t last end) e =
          let up = rises ts known to is vs b t last end e in
          at_token ts known to is vs b t last end e
          (λ js us c. ih (ts ++ t ∷ []) last end js us c (omega (arith, up.0, h)) (λ f. at_last (ts ++ t ∷ []) last end js us c f (snoc_some ts t)))
          (advance trees grammar (Some t) is vs) refl
      by ih the_end e = stop e
      by ih (a_fault kind byte) e = at_fault ts known to is vs b kind byte e

  no_tokens : Begun [] names from directive_items []
  no_tokens = record { read = reads_none; leads = refl; shallow = λ n. first n }
    where
      first : (n : ℕ) → depth (take n []) ≤ MOST_LEVELS
      first zero = omega arith
      first (suc n) = omega arith

pub some_next : SomeNext
some_next r names from = goes_on r names from (suc (length r.text)) [] names from directive_items [] (no_tokens r names from) (omega arith) (λ e. (ended, e))
