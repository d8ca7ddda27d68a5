use Rattle.std.proofs.Common.{◌∙◌, sym, ap, subst, ℕ, List, ◌++◌, map, slice_set}
use Rattle.ath_unifiers.specs.Partitions.{IsPartition, class_at, class_names, is_member, rename}
use Rattle.ath_unifiers.proofs.PartitionJoins.{block_there, partition_grown, partition_joined, names_joined}
use Rattle.ath_unifiers.proofs.partition.Partition.join.Goals as goal

pub invariant_of-self : goal.invariant_of-self
invariant_of-self c =
    let blocks = c.self.inside.blocks.items in
    let ob = c.index_mut.result.now in
    let here = block_there blocks c.smaller_first-order.result.1 ob c.smaller_first-order.ensures.into_there c.index_mut.ensures.value in
    partition_grown blocks c.smaller_first-order.result.1 ob c.absorb.new.block here c.self.inside.block c.self.invariant c.in_err-absorb.ensures.not_named c.in_err-absorb.ensures.kept

pub file-requires : goal.file-requires
file-requires c i e = ap (λ (ms : List ℕ). is_member ms i) (c.as_slice-2.ensures ∙ c.in_ok-moved.ensures) ∙ c.self.invariant.members i c.smaller_first-order.result.0 e

pub invariant_of-self-2 : goal.invariant_of-self-2
invariant_of-self-2 c =
    let block = c.self.inside.block in
    let blocks = c.self.inside.blocks.items in
    let order = c.smaller_first-order in
    let ob = c.index_mut.result.now in
    let here = block_there blocks order.result.1 ob order.ensures.into_there c.index_mut.ensures.value in
    let kept = ap (λ (x : List ℕ). class_at x c.args.kept) c.self.view_is ∙ c.requires.kept_named in
    let gone = ap (λ (x : List ℕ). class_at x c.args.gone) c.self.view_is ∙ c.requires.gone_named in
    let members = c.in_ok-absorb.ensures.members ∙ ap (λ (ms : List ℕ). ob.members ++ ms) (c.as_slice.ensures ∙ c.in_ok-moved.ensures) in
    let r = partition_joined block blocks c.self.invariant c.args.kept c.args.gone c.filed_under-kept_block.result c.filed_under-gone_block.result order.result.0 order.result.1 c.filed_under-kept_block.ensures c.filed_under-gone_block.ensures kept gone order.ensures.order ob c.absorb.new.block here c.in_ok-absorb.ensures.named members in
    subst (λ (x : List ℕ). IsPartition x (slice_set blocks order.result.1 c.absorb.new.block)) (sym c.file.ensures) r

pub returns : goal.returns
returns c =
    let block = c.self.inside.block in
    let blocks = c.self.inside.blocks.items in
    let order = c.smaller_first-order in
    let ob = c.index_mut.result.now in
    let here = block_there blocks order.result.1 ob order.ensures.into_there c.index_mut.ensures.value in
    let kept = ap (λ (x : List ℕ). class_at x c.args.kept) c.self.view_is ∙ c.requires.kept_named in
    let gone = ap (λ (x : List ℕ). class_at x c.args.gone) c.self.view_is ∙ c.requires.gone_named in
    let members = c.in_ok-absorb.ensures.members ∙ ap (λ (ms : List ℕ). ob.members ++ ms) (c.as_slice.ensures ∙ c.in_ok-moved.ensures) in
    let r = names_joined block blocks c.self.invariant c.args.kept c.args.gone c.filed_under-kept_block.result c.filed_under-gone_block.result order.result.0 order.result.1 c.filed_under-kept_block.ensures c.filed_under-gone_block.ensures kept gone order.ensures.order ob c.absorb.new.block here c.in_ok-absorb.ensures.named members in
    ap (λ (x : List ℕ). class_names x (slice_set blocks order.result.1 c.absorb.new.block)) c.file.ensures ∙ r ∙ ap (map (rename c.args.gone c.args.kept)) c.self.view_is
