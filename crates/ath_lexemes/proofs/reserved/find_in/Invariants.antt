use Rattle.std.proofs.Common.{◌≡◌, drop, map}
use Rattle.std.specs.Map.{lookup}
use Rattle.std.specs.Str.{bytes_eq}
use Rattle.ath_lexemes.proofs.reserved.find_in.Given as goal

abbrev pub invariant-loop-text : goal.invariant-loop-text
invariant-loop-text l =
    lookup (bytes_eq l.word) (map (λ row. (row.0.now, row.1)) l.table) ≡ lookup (bytes_eq l.word) (map (λ row. (row.0.now, row.1)) (drop l.text-index l.table))
