-- The parts and names of a pattern's tree.
use Rattle.std.specs.Prelude.{ℕ, ◌+◌}
use Rattle.ath_syntax.specs.Tree.{Pattern, any_pattern, name_pattern, string_pattern, list_pattern, list_of_pattern, app_pattern, some_pattern, Patterns, no_patterns, more_patterns}

-- a pattern that is a name counts once; the head of an application and the two words of `some` count besides
abbrev mutual
  pub pattern_size : Pattern → ℕ
  pattern_size any_pattern = 1
  pattern_size (name_pattern n) = 1
  pattern_size (string_pattern s) = 1
  pattern_size (list_pattern ps) = 1 + patterns_size ps
  pattern_size (list_of_pattern p q) = 1 + pattern_size p + pattern_size q
  pattern_size (app_pattern n ps) = 2 + patterns_size ps
  pattern_size (some_pattern k n) = 3

  pub patterns_size : Patterns → ℕ
  patterns_size no_patterns = 0
  patterns_size (more_patterns p ps) = pattern_size p + patterns_size ps
