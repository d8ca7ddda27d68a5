use Rattle.std.proofs.Common.{◌≡◌, drop, map}
use Rattle.std.specs.Map.{lookup}
use Rattle.std.specs.Str.{bytes_eq}
use Rattle.ath_env.proofs.lookup.find_in.Given as goal

abbrev pub invariant-loop-word : goal.invariant-loop-word
invariant-loop-word l = lookup (bytes_eq l.text) (map (λ row. (row.0.now, row.1)) l.table) ≡ lookup (bytes_eq l.text) (map (λ row. (row.0.now, row.1)) (drop l.word-index l.table))
