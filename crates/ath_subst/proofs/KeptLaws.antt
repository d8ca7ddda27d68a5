-- A substitution leaves the nodes and levels.
use Rattle.std.proofs.Common.{◌≡◌, ℕ, ◌≤◌, sym, ◌∙◌, ap, arith}
use Rattle.ath_sorts.specs.declared.sorts.SVar.{SVar}
use Rattle.ath_sorts.specs.declared.sorts.Sort.{Sort}
use Rattle.ath_trees.specs.declared.limits.TheConstants.{MOST_TERM_NODES, MOST_TERM_LEVELS}
use Rattle.ath_trees.specs.Measure.{term_size, term_depth, sent_size, sent_depth}
use Rattle.ath_trees.specs.Tree.{Term, Sent}
use Rattle.ath_trees.specs.Under.{term_under, sent_under}
use Rattle.ath_trees.proofs.UnderLaws.{size-under, depth-under, sent_size-under, sent_depth-under}
use Rattle.ath_terms.specs.Kept.{IsTermKept, IsSentKept}

pub term-kept-under : (f : SVar → Sort) (t x : Term) (n l : ℕ) → x ≡ term_under f t → n ≡ term_size t → l ≡ term_depth t → n ≤ MOST_TERM_NODES → l ≤ MOST_TERM_LEVELS → IsTermKept x (record { nodes = n; levels = l })
term-kept-under f t x n l e p q a b =
    let p' : n ≡ term_size x = p ∙ sym (size-under f t) ∙ ap term_size (sym e) in
    let q' : l ≡ term_depth x = q ∙ sym (depth-under f t) ∙ ap term_depth (sym e) in
    record { nodes = p'; levels = q'; small = record { nodes = omega arith; levels = omega arith } }

pub sent-kept-under : (f : SVar → Sort) (p x : Sent) (n l : ℕ) → x ≡ sent_under f p → n ≡ sent_size p → l ≡ sent_depth p → n ≤ MOST_TERM_NODES → l ≤ MOST_TERM_LEVELS → IsSentKept x (record { nodes = n; levels = l })
sent-kept-under f p x n l e v w a b =
    let v' : n ≡ sent_size x = v ∙ sym (sent_size-under f p) ∙ ap sent_size (sym e) in
    let w' : l ≡ sent_depth x = w ∙ sym (sent_depth-under f p) ∙ ap sent_depth (sym e) in
    record { nodes = v'; levels = w'; small = record { nodes = omega arith; levels = omega arith } }
