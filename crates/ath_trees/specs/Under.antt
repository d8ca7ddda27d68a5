-- Trees under a sort substitution: every sort in them is replaced by its image.
use Rattle.std.specs.Prelude.{Bool, true, false, ◌&&◌, map}
use Rattle.ath_sorts.specs.declared.sorts.SVar.{SVar}
use Rattle.ath_sorts.specs.declared.sorts.Sort.{Sort}
use Rattle.ath_sorts.specs.Sorts.{apply_to}
use Rattle.ath_trees.specs.declared.node.Var.{Var as Variable}
use Rattle.ath_trees.specs.Tree.{Term, Terms, var, app, none, more, Sent, atom, equal, negated, joined, bound}

abbrev pub var_under : (SVar → Sort) → Variable → Variable
var_under f v = record { name = v.name; index = v.index; sort = apply_to f v.sort }

abbrev mutual
  pub term_under : (SVar → Sort) → Term → Term
  term_under f (var v) = var (var_under f v)
  term_under f (app s sorts args) = app s (map (apply_to f) sorts) (terms_under f args)

  pub terms_under : (SVar → Sort) → Terms → Terms
  terms_under f none = none
  terms_under f (more t ts) = more (term_under f t) (terms_under f ts)

-- A binder isn't renamed here: this is the sentence under the substitution where it has no quantifier. The constructions ask
-- for that until quantifiers are built.
abbrev pub sent_under : (SVar → Sort) → Sent → Sent
sent_under f (atom t) = atom (term_under f t)
sent_under f (equal s t) = equal (term_under f s) (term_under f t)
sent_under f (negated p) = negated (sent_under f p)
sent_under f (joined c p q) = joined c (sent_under f p) (sent_under f q)
sent_under f (bound k v p) = bound k (var_under f v) (sent_under f p)

abbrev pub has_no_binder : Sent → Bool
has_no_binder (atom t) = true
has_no_binder (equal s t) = true
has_no_binder (negated p) = has_no_binder p
has_no_binder (joined c p q) = has_no_binder p && has_no_binder q
has_no_binder (bound k v p) = false
