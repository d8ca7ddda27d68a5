use Rattle.std.proofs.Common.{◌+◌, ◌*◌, length}
use Rattle.ath_numbering.proofs.tree.PhraseTree.TheLaws.{the_size}
use Rattle.ath_numbering.proofs.Listings.{Taken}
use Rattle.ath_numbering.proofs.Depths.{most_phrases, most_bindings, most_clauses, most_branches, most_otherwise, deeper}
use Rattle.ath_numbering.proofs.PhraseLists.{phrases_listed, bindings_listed, clauses_listed, branches_listed}
use Rattle.ath_numbering.proofs.number.+phrases.Given as goal

abbrev pub decreases-number_phrase : goal.decreases-number_phrase
decreases-number_phrase l = 5 * the_size l.tree + 1

abbrev pub decreases-placed_form : goal.decreases-placed_form
decreases-placed_form l = 5 * the_size l.tree

abbrev pub decreases-ascribe : goal.decreases-ascribe
decreases-ascribe l = 5 * the_size l.body + 4

abbrev pub decreases-apply : goal.decreases-apply
decreases-apply l = 5 * deeper (the_size l.head) (most_phrases l.args) + 4

abbrev pub decreases-call : goal.decreases-call
decreases-call l = 5 * deeper (the_size l.head) (most_phrases l.args) + 4

abbrev pub decreases-closure : goal.decreases-closure
decreases-closure l = 5 * the_size l.body + 4

abbrev pub decreases-bind : goal.decreases-bind
decreases-bind l = 5 * deeper (most_bindings l.rows) (the_size l.body) + 4

abbrev pub decreases-choose : goal.decreases-choose
decreases-choose l = 5 * deeper (the_size l.subject) (most_clauses l.clauses) + 4

abbrev pub decreases-check : goal.decreases-check
decreases-check l = 5 * deeper (most_branches l.rows) (most_otherwise l.otherwise) + 4

abbrev pub decreases-suppose : goal.decreases-suppose
decreases-suppose l = 5 * deeper (the_size l.first) (the_size l.second) + 4

abbrev pub decreases-pick_any : goal.decreases-pick_any
decreases-pick_any l = 5 * the_size l.body + 4

abbrev pub decreases-pick_witness : goal.decreases-pick_witness
decreases-pick_witness l = 5 * deeper (the_size l.first) (the_size l.second) + 4

abbrev pub decreases-number_all : goal.decreases-number_all
decreases-number_all l = 5 * most_phrases l.trees + 2

abbrev pub decreases-number_bindings : goal.decreases-number_bindings
decreases-number_bindings l = 5 * most_bindings l.rows + 2

abbrev pub decreases-number_clauses : goal.decreases-number_clauses
decreases-number_clauses l = 5 * most_clauses l.rows + 2

abbrev pub decreases-number_branches : goal.decreases-number_branches
decreases-number_branches l = 5 * most_branches l.rows + 2

abbrev pub invariant-number_all-loop-tree : goal.invariant-number_all-loop-tree
invariant-number_all-loop-tree l = Taken phrases_listed l.fn.phrases l.phrases l.fn.trees l.trees l.numbers.items

abbrev pub decreases-number_all-loop-tree : goal.decreases-number_all-loop-tree
decreases-number_all-loop-tree l = length l.trees

abbrev pub invariant-number_bindings-loop-name : goal.invariant-number_bindings-loop-name
invariant-number_bindings-loop-name l = Taken bindings_listed l.fn.phrases l.phrases l.fn.rows l.rows l.numbers.items

abbrev pub decreases-number_bindings-loop-name : goal.decreases-number_bindings-loop-name
decreases-number_bindings-loop-name l = length l.rows

abbrev pub invariant-number_clauses-loop-pattern : goal.invariant-number_clauses-loop-pattern
invariant-number_clauses-loop-pattern l = Taken clauses_listed l.fn.phrases l.phrases l.fn.rows l.rows l.numbers.items

abbrev pub decreases-number_clauses-loop-pattern : goal.decreases-number_clauses-loop-pattern
decreases-number_clauses-loop-pattern l = length l.rows

abbrev pub invariant-number_branches-loop-condition : goal.invariant-number_branches-loop-condition
invariant-number_branches-loop-condition l = Taken branches_listed l.fn.phrases l.phrases l.fn.rows l.rows l.numbers.items

abbrev pub decreases-number_branches-loop-condition : goal.decreases-number_branches-loop-condition
decreases-number_branches-loop-condition l = length l.rows
