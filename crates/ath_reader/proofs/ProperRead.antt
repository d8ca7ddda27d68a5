-- A directive that is read is proper, so that it can be numbered.
use Rattle.std.proofs.Common.{◌≡◌, ℕ, ◌≤◌, List, [], ◌∷◌, ◌++◌, length, true, refl, subst, arith}
use Rattle.ath_syntax.specs.Tree.{DirectiveTree}
use Rattle.ath_grammar.specs.Tokens.{Placed}
use Rattle.ath_grammar.specs.Directives.{SpellsDirective}
use Rattle.ath_names.specs.Names.{IsTable, KeepsNames, first_names}
use Rattle.ath_syntax.specs.Proper.{ProperDirective}
use Rattle.ath_grammar.proofs.ProperRead.{spelled_is_proper}
use Rattle.ath_reader.specs.declared.limits.TheConstants.{MOST_BYTES}
use Rattle.ath_reader.specs.Ahead.{Ahead, a_token, the_end, a_fault, ahead, Reads, follows_token, follows_end, follows_fault}
use Rattle.ath_reader.specs.Reading.{IsWhole}
use Rattle.ath_reader.proofs.Carried.{reads_snoc}
use Rattle.ath_reader.proofs.KnownTokens.{reads_short, reads_known, ahead_known}

append_nil : (ts : List Placed) → ts ++ [] ≡ ts
append_nil [] = refl
append_nil (t ∷ ts) = subst (λ (us : List Placed). t ∷ ts ++ [] ≡ t ∷ us) (append_nil ts) refl

module _ (file : ℕ) (text : List ℕ) (names : List (List ℕ)) (from : ℕ) (ts : List Placed) (known : List (List ℕ)) (to : ℕ) (few : length text ≤ MOST_BYTES) (table : IsTable names) (first : KeepsNames first_names names) (read : Reads file text names from ts known to) (d : DirectiveTree) where
  no_more : SpellsDirective true (ts ++ []) d [] → ProperDirective d
  no_more h = let k = reads_known file text names from ts known to table first read in
      spelled_is_proper ts d [] (subst (λ (us : List Placed). SpellsDirective true us d []) (append_nil ts) h) (omega (arith, few, reads_short file text names from ts known to read)) k.0 k.1

  pub whole_is_proper : (next : Ahead) → ahead file text known to ≡ next → IsWhole ts next d → ProperDirective d
  whole_is_proper (a_token t last end) e whole = let k = ahead_known file text names from ts known to t last end table first read e in
      spelled_is_proper (ts ++ t ∷ []) d (t ∷ []) (whole (t ∷ []) follows_token) (omega (arith, few, reads_short file text names from (ts ++ t ∷ []) last end (reads_snoc file text read e))) k.0 k.1
  whole_is_proper the_end e whole = no_more (whole [] follows_end)
  whole_is_proper (a_fault kind byte) e whole = no_more (whole [] follows_fault)
