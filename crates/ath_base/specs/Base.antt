-- Assumption bases: lists of entries, the newest first.
use Rattle.std.specs.Prelude.{List, [], ◌∷◌, Option, Some, None, map, if◌then◌else◌}
use Rattle.ath_trees.specs.Instance.{is_alpha_equal}
use Rattle.ath_trees.specs.Tree.{Sent}
use Rattle.ath_base.specs.declared.entry.Origin.{Origin}

-- a sentence, and how it came into the base: it was asserted, is an open hypothesis, or was concluded
pub record Entry : Type 0 where
  pub sentence : Sent
  pub origin : Origin

-- the newest entry by which a sentence holds: its own differs at most in the names and indices of bound variables
abbrev pub holds : List Entry → Sent → Option Entry
holds [] p = None
holds (e ∷ es) p = if is_alpha_equal e.sentence p then Some e else holds es p

abbrev pub sentences : List Entry → List Sent
sentences es = map (λ e. e.sentence) es
