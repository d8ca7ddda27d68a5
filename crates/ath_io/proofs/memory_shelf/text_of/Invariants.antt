use Rattle.std.proofs.Common.{◌≡◌, drop}
use Rattle.ath_io.specs.Shelf.{text_named}
use Rattle.ath_io.specs.MemoryShelf.{entries}
use Rattle.ath_io.proofs.memory_shelf.text_of.Given as goal

abbrev pub invariant-loop-text : goal.invariant-loop-text
invariant-loop-text l = text_named (entries l.texts) l.name ≡ text_named (entries (drop l.text-index l.texts)) l.name
