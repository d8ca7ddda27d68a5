use Rattle.std.proofs.Common.{◌≤◌, vec_len}
use Rattle.std.specs.Io.KnownBytes.{Consumes}
use Rattle.ath_io.proofs.dir_shelf.read_front.Given as goal

abbrev pub invariant-loop : goal.invariant-loop
invariant-loop g l = record {
  fits : vec_len l.text ≤ l.most;
  read : Consumes (g.F.Read.remaining l.fn.file) (g.F.Read.remaining l.file) l.text.items;
}
