use Rattle.std.proofs.Common.{◌≡◌, ◌++◌, [], ◌∷◌, map, refl, arith}
use Rattle.std.proofs.lemmas.List.Elements.{All-nil, All-push}
use Rattle.ath_eval.specs.Applying.{sentences_made}
use Rattle.ath_eval.specs.Arguments.{piece_tree}
use Rattle.ath_eval.proofs.ConnectiveLaws.{IsSentIn, front_none, piece_in_grows, sents_in_grow, part_next, part_refused, parts_done, pushed_items, length_push}
use Rattle.ath_eval.proofs.Worlds.{rests_all, rests_then}
use Rattle.ath_eval.proofs.connectives.sentences.Goals as goal

pub loop-part-init : goal.loop-part-init
loop-part-init c = let w = c.args.w.now in record {
  rests = rests_all w;
  good = rw c.new-ids.ensures.items (All-nil (IsSentIn w.store));
  many = rw c.new-ids.ensures.items refl;
  built = rw c.new-ids.ensures.items (front_none (sentences_made w.sig (map (piece_tree w.store) c.args.parts.now)));
}

pub sentence_of-requires : goal.sentence_of-requires
sentence_of-requires c = piece_in_grows c.args.w.now.store c.loop-part.w.store c.loop-part.invariant.rests.world.grows _ (c.requires c.loop-part.part-index _ (omega arith))

pub returns-in-Err-clause-built : goal.returns-in-Err-clause-built
returns-in-Err-clause-built c = let w = c.args.w.now in let l = c.loop-part in let i = l.invariant in let k = c.in-Err in
    part_refused w.sig w.store l.w.store c.sentence_of.new.w.store i.rests.world.grows k.ensures.rests.world.grows c.args.parts.now l.part-index _ (omega arith) c.requires l.ids.items i.good _ i.built k.error (rw i.rests.world.signature at k.ensures.built)

pub loop-part-preserved : goal.loop-part-preserved
loop-part-preserved c = let w = c.args.w.now in let l = c.loop-part in let i = l.invariant in let u = c.sentence_of.new.w in let k = c.in-Ok in
    let next = part_next w.sig w.store l.w.store u.store i.rests.world.grows k.ensures.rests.world.grows c.args.parts.now l.part-index _ (omega arith) c.requires l.ids.items i.good _ i.built k.p (rw i.rests.world.signature at k.ensures.built) in
    let pushed : c.push.new.self.items ≡ l.ids.items ++ k.p ∷ [] = pushed_items _ c.push.new.self.items l.ids.items k.p c.if-is_err.ensures.negation c.push.ensures.items in record {
      rests = rests_then w l.w u i.rests k.ensures.rests;
      good = rw pushed (All-push (IsSentIn u.store) l.ids.items k.p (sents_in_grow l.w.store u.store k.ensures.rests.world.grows l.ids.items i.good) next.1);
      many = rw pushed (length_push l.ids.items k.p l.part-index i.many);
      built = rw pushed next.0;
    }

pub returns-clause-built : goal.returns-clause-built
returns-clause-built c = let w = c.args.w.now in let l = c.loop-part in let i = l.invariant in
    parts_done w.sig w.store l.w.store c.args.parts.now l.part-index l.ids.items _ (omega arith) i.built i.good
