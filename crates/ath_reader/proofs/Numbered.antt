-- What a tree that is read gives when its parts are numbered.
use Rattle.std.proofs.Common.{◌≡◌, ℕ, ◌≤◌, List, length, ap, Some, Ok, Err, inl, refl}
use Rattle.ath_syntax.specs.declared.directive.Directive.{Directive}
use Rattle.ath_syntax.specs.Nodes as syntax
use Rattle.ath_syntax.specs.Stands.{IsDirective}
use Rattle.ath_numbering.specs.declared.tree.DirectiveTree as read
use Rattle.ath_numbering.specs.Trees.{directive_of}
use Rattle.ath_names.specs.Names.{IsTable, KeepsNames, first_names}
use Rattle.ath_syntax.specs.Proper.{ProperDirective}
use Rattle.ath_tokens.specs.Cutting.{Cutting}
use Rattle.ath_reader.specs.declared.limits.TheConstants.{MOST_BYTES}
use Rattle.ath_reader.specs.declared.reader.SyntaxError.{SyntaxError}
use Rattle.ath_reader.specs.declared.reader.SyntaxKind.TheVariants.{Memory}
use Rattle.ath_reader.specs.Steps.{reading_of, ReadsTree, NumbersTree}
use Rattle.ath_reader.proofs.Growth.{front_grows}
use Rattle.ath_reader.proofs.ProperRead.{whole_is_proper}

module _ (old : Cutting) (names : List (List ℕ)) (tree : read.DirectiveTree) (new : Cutting) (names' : List (List ℕ)) (found : ReadsTree old names (Ok (Some tree)) new names') where
  pub found_is_proper : length old.text ≤ MOST_BYTES → IsTable names → KeepsNames first_names names → ProperDirective (directive_of tree)
  found_is_proper few table first = let f = found.0 in
      whole_is_proper old.file old.text names old.at f.tokens f.known f.to few table first f.read (directive_of tree) f.next f.comes found.1

  pub found_numbered : (s s' : syntax.Nodes) (d : Directive) → IsDirective s' d (directive_of tree) → syntax.KeepsNodes s s' → NumbersTree old names s (Ok (Some d)) new names' s'
  found_numbered s s' d stands kept = (found.0.to, record { front = found.0; tree = directive_of tree; whole = found.1; stands = stands; end = refl; after = found.2 }, kept, found.3)

  pub found_wants : (s s' : syntax.Nodes) (e : SyntaxError) → e.kind ≡ Memory → syntax.KeepsNodes s s' → NumbersTree old names s (Err e) new names' s'
  found_wants s s' e kind kept = (
    ap (λ (c : Cutting). c.text) found.3,
    ap (λ (c : Cutting). c.file) found.3,
    inl (record {
      kind = kind;
      names_kept = front_grows (reading_of old) names old.at names' found.0 found.2;
      phrases_kept = kept;
    }),
  )
