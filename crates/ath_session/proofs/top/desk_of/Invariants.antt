use Rattle.std.proofs.Common.{◌≡◌, map, string_bytes}
use Rattle.std.specs.Prelude.{take}
use Rattle.ath_session.proofs.top.desk_of.Given as goal

abbrev pub invariant-loop-file : goal.invariant-loop-file
invariant-loop-file l = map string_bytes l.named.items ≡ map (λ file. file.now) (take l.file-index l.fn.files)
