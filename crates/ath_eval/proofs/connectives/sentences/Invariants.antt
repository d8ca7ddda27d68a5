use Rattle.std.proofs.Common.{◌≡◌, length, drop, map}
use Rattle.std.specs.List.{All}
use Rattle.ath_eval.specs.Applying.{sentences_made}
use Rattle.ath_eval.specs.Arguments.{piece_tree}
use Rattle.ath_eval.specs.World.{Rests}
use Rattle.ath_eval.proofs.ConnectiveLaws.{IsSentIn, with_front, trees_of}
use Rattle.ath_eval.proofs.connectives.sentences.Given as goal

abbrev pub invariant-loop-part : goal.invariant-loop-part
invariant-loop-part l = record {
  rests : Rests l.fn.w l.w;
  good : All (IsSentIn l.w.store) l.ids.items;
  many : length l.ids.items ≡ l.part-index;
  built : sentences_made l.fn.w.sig (map (piece_tree l.fn.w.store) l.parts) ≡ with_front (trees_of l.w.store l.ids.items) (sentences_made l.fn.w.sig (map (piece_tree l.fn.w.store) (drop l.part-index l.parts)));
}
