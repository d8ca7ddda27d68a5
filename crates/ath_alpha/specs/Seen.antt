-- Nameless forms as they are seen: with their sorts where these are told, else with all sorts left out.
use Rattle.std.specs.Prelude.{Bool, false, List, [], if◌then◌else◌}
use Rattle.ath_sorts.specs.declared.sorts.Sort.{Sort}
use Rattle.ath_sorts.specs.Signature.{boolean}
use Rattle.ath_trees.specs.declared.node.Var.{Var}
use Rattle.ath_trees.specs.Nameless.{NTerm, NTerms, nfree, nbound, napp, nnone, nmore, NSent, natom, nequal, nnegated, njoined, nquant}

-- one sort stands for all where they're left out
abbrev pub sort_seen : Bool → Sort → Sort
sort_seen told s = if told then s else boolean

abbrev pub sorts_seen : Bool → List Sort → List Sort
sorts_seen told ss = if told then ss else []

abbrev pub var_seen : Bool → Var → Var
var_seen told v = record { name = v.name; index = v.index; sort = sort_seen told v.sort }

abbrev mutual
  pub term_seen : Bool → NTerm → NTerm
  term_seen told (nfree v) = nfree (var_seen told v)
  term_seen told (nbound i) = nbound i
  term_seen told (napp f ss ts) = napp f (sorts_seen told ss) (terms_seen told ts)

  pub terms_seen : Bool → NTerms → NTerms
  terms_seen told nnone = nnone
  terms_seen told (nmore t ts) = nmore (term_seen told t) (terms_seen told ts)

abbrev pub seen : Bool → NSent → NSent
seen told (natom t) = natom (term_seen told t)
seen told (nequal s t) = nequal (term_seen told s) (term_seen told t)
seen told (nnegated p) = nnegated (seen told p)
seen told (njoined c p q) = njoined c (seen told p) (seen told q)
seen told (nquant k s p) = nquant k (sort_seen told s) (seen told p)

abbrev pub unsorted : NSent → NSent
unsorted p = seen false p
