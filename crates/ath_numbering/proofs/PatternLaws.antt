-- Nodes of patterns whose parts are numbered.
use Rattle.std.proofs.Common.{◌≡◌, ℕ, List, [], ◌∷◌, ◌++◌, map, sym, ap, ◌∙◌, subst}
use Rattle.std.specs.Prelude.{All}
use Rattle.std.proofs.lemmas.List.Elements.{All-nil, All-cons}
use Rattle.ath_sorts.specs.declared.sorts.Sym.{Sym}
use Rattle.ath_numbering.specs.declared.tree.PatternTree.{PatternTree, Any, Name, Str, List as Listed, ListOf, App, SomeOf}
use Rattle.ath_numbering.specs.declared.tree.PatternTree.TheOpen as one
use Rattle.ath_numbering.specs.declared.tree.PatternTree.TheVariants.{rolls-Any, rolls-Name, rolls-Str, rolls-List, rolls-ListOf, rolls-App, rolls-SomeOf}
use Rattle.ath_numbering.specs.declared.tree.PatternTree.TheFolds.{fold-roll-PatternTree}
use Rattle.ath_numbering.specs.Trees.{pattern_of, patterns_of, pattern_step}
use Rattle.ath_syntax.specs.declared.node.PatId.{PatId}
use Rattle.ath_syntax.specs.declared.node.PatNode.{PatNode}
use Rattle.ath_syntax.specs.declared.node.PatNode.TheVariants as node
use Rattle.ath_syntax.specs.Nodes.{Nodes, KeepsNodes}
use Rattle.ath_syntax.specs.Fits.{IsPatternPart, PatternFits}
use Rattle.ath_syntax.specs.Tree.{Pattern, any_pattern, name_pattern, string_pattern, list_pattern, list_of_pattern, app_pattern, some_pattern, Patterns}
use Rattle.ath_syntax.specs.Stands.{IsPattern, IsPatternNode, pattern_is_any, pattern_is_name, pattern_is_string, pattern_is_list, pattern_is_list_of, pattern_is_app, pattern_is_some, ArePatterns, patterns_none, patterns_more}
use Rattle.ath_syntax.proofs.NodeLaws.{pattern_part_of}
use Rattle.ath_syntax.proofs.Kept.{keep_patterns, keep_pattern_number}
use Rattle.ath_syntax.specs.Proper.{ProperPattern, ProperPatterns}
use Rattle.ath_numbering.proofs.Listings.{Listing}

any_again : pattern_of Any ≡ any_pattern
any_again = ap pattern_of (sym rolls-Any) ∙ fold-roll-PatternTree Pattern pattern_step one.Any

name_again : (n : Sym) → pattern_of (Name n) ≡ name_pattern n
name_again n = ap pattern_of (sym (rolls-Name n)) ∙ fold-roll-PatternTree Pattern pattern_step (one.Name n)

string_again : (s : List ℕ) → pattern_of (Str s) ≡ string_pattern s
string_again s = ap pattern_of (sym (rolls-Str s)) ∙ fold-roll-PatternTree Pattern pattern_step (one.Str s)

list_again : (ps : List PatternTree) → pattern_of (Listed ps) ≡ list_pattern (patterns_of (map pattern_of ps))
list_again ps = ap pattern_of (sym (rolls-List ps)) ∙ fold-roll-PatternTree Pattern pattern_step (one.List ps)

list_of_again : (p q : PatternTree) → pattern_of (ListOf p q) ≡ list_of_pattern (pattern_of p) (pattern_of q)
list_of_again p q = ap pattern_of (sym (rolls-ListOf p q)) ∙ fold-roll-PatternTree Pattern pattern_step (one.ListOf p q)

app_again : (f : Sym) (ps : List PatternTree) → pattern_of (App f ps) ≡ app_pattern f (patterns_of (map pattern_of ps))
app_again f ps = ap pattern_of (sym (rolls-App f ps)) ∙ fold-roll-PatternTree Pattern pattern_step (one.App f ps)

some_again : (k n : Sym) → pattern_of (SomeOf k n) ≡ some_pattern k n
some_again k n = ap pattern_of (sym (rolls-SomeOf k n)) ∙ fold-roll-PatternTree Pattern pattern_step (one.SomeOf k n)

module _ (nodes : List PatNode) (tree : PatternTree) where
  by : (n : PatNode) (made : PatternTree) (t : Pattern) → tree ≡ made → pattern_of made ≡ t → IsPatternNode nodes n t → IsPatternNode nodes n (pattern_of tree)
  by n made t e f h = subst (IsPatternNode nodes n) (sym (ap pattern_of e ∙ f)) h

  pub any_node : tree ≡ Any → IsPatternNode nodes node.Any (pattern_of tree)
  any_node e = by _ _ _ e any_again pattern_is_any

  pub name_node : (n : Sym) → tree ≡ Name n → IsPatternNode nodes (node.Name n) (pattern_of tree)
  name_node n e = by _ _ _ e (name_again n) pattern_is_name

  pub string_node : (s : List ℕ) → tree ≡ Str s → IsPatternNode nodes (node.Str s) (pattern_of tree)
  string_node s e = by _ _ _ e (string_again s) pattern_is_string

  pub list_node : (is : List PatId) (ps : List PatternTree) → tree ≡ Listed ps → ArePatterns nodes is (patterns_of (map pattern_of ps)) → IsPatternNode nodes (node.List is) (pattern_of tree)
  list_node is ps e h = by _ _ _ e (list_again ps) (pattern_is_list h)

  pub app_node : (f : Sym) (is : List PatId) (ps : List PatternTree) → tree ≡ App f ps → ArePatterns nodes is (patterns_of (map pattern_of ps)) → IsPatternNode nodes (node.App f is) (pattern_of tree)
  app_node f is ps e h = by _ _ _ e (app_again f ps) (pattern_is_app h)

  pub some_node : (k n : Sym) → tree ≡ SomeOf k n → IsPatternNode nodes (node.Some k n) (pattern_of tree)
  some_node k n e = by _ _ _ e (some_again k n) pattern_is_some

-- the first part was numbered before the second
pub list_of_node : (old new : Nodes) (tree p q r s : PatternTree) (i j : PatId) → tree ≡ ListOf p q → r ≡ p → s ≡ q → IsPattern old.patterns i (pattern_of r) → KeepsNodes old new → IsPattern new.patterns j (pattern_of s) → IsPatternNode new.patterns (node.ListOf i j) (pattern_of tree)
list_of_node old new tree p q r s i j e f g h k l =
    let first = keep_pattern_number old new k i (pattern_of p) (subst (λ (z : PatternTree). IsPattern old.patterns i (pattern_of z)) f h) in
    let rest = subst (λ (z : PatternTree). IsPattern new.patterns j (pattern_of z)) g l in
    by new.patterns tree _ _ _ e (list_of_again p q) (pattern_is_list_of first rest)

module _ (nodes : List PatNode) where
  parts_of : (is : List PatId) (ts : Patterns) → ArePatterns nodes is ts → All (IsPatternPart nodes) is
  parts_of is ts patterns_none = All-nil (IsPatternPart nodes)
  parts_of is ts (patterns_more {i = i} {is = rest} {t = t} {ts = us} a b) = All-cons (IsPatternPart nodes) i rest (pattern_part_of nodes i t a) (parts_of rest us b)

  pub pattern_fits : (n : PatNode) (t : Pattern) → IsPatternNode nodes n t → ProperPattern t → PatternFits nodes n
  pattern_fits n t pattern_is_any p = tt
  pattern_fits n t pattern_is_name p = tt
  pattern_fits n t pattern_is_string p = tt
  pattern_fits n t (pattern_is_list a) p = parts_of _ _ a
  pattern_fits n t (pattern_is_list_of a b) p = (pattern_part_of nodes _ _ a, pattern_part_of nodes _ _ b)
  pattern_fits n t (pattern_is_app a) p = parts_of _ _ a
  pattern_fits n t pattern_is_some p = p

pub proper_among : (xs ys : List PatternTree) (x : PatternTree) → ProperPatterns (patterns_of (map pattern_of (xs ++ x ∷ ys))) → ProperPattern (pattern_of x)
proper_among [] ys x p = p.0
proper_among (z ∷ xs) ys x p = proper_among xs ys x p.1

abbrev pub patterns_listed : Listing PatternTree PatId
patterns_listed = record {
  One = λ s i p. IsPattern s.patterns i (pattern_of p);
  Each = λ s is ps. ArePatterns s.patterns is (patterns_of (map pattern_of ps));
  none = λ s. patterns_none;
  more = λ s i is p ps h k. patterns_more h k;
  keep = λ old new g is ps h. keep_patterns old.patterns new.patterns g.pattern is _ h;
}
