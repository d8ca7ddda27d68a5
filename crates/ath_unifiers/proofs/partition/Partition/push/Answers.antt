use Rattle.std.proofs.Common.{◌∙◌, sym, ap, subst, ℕ, List, ◌++◌, ◌∷◌, [], length}
use Rattle.ath_unifiers.specs.declared.partition.Block.{Block}
use Rattle.ath_unifiers.specs.Partitions.{IsPartition, class_names}
use Rattle.ath_unifiers.proofs.Partitions.{one_block_more, one_node_more, one_name_more, own_member}
use Rattle.ath_unifiers.proofs.partition.Partition.push.Goals as goal

pub invariant_of-self-in_err-push-3 : goal.invariant_of-self-in_err-push-3
invariant_of-self-in_err-push-3 c = rw (c.in_err-push-3.ensures.err, c.in_ok-push-2.ensures.items) (one_block_more _ _ _ c.self.invariant)

pub invariant_of-self-2 : goal.invariant_of-self-2
invariant_of-self-2 c =
    let block = c.self.inside.block in
    let blocks = c.self.inside.blocks.items in
    let k : Block = record { name = c.len-at.result; members = c.push.new.self } in
    let e = c.in_ok-push-3.ensures.ok ∙ ap (λ (n : ℕ). block ++ n ∷ []) (ap length c.as_slice-blocks.ensures.value) in
    let own = own_member c.push.new.self c.len-at.result (length block) (c.in_ok-push.ensures.ok ∙ ap (λ (r : List ℕ). r ++ c.len-at.result ∷ []) c.new-members.ensures) c.len-at.ensures in
    let P : List ℕ → List Block → Type 0 = λ x y. IsPartition x y in
    subst (λ x. P x c.push-2.new.self.items) (sym e) (subst (λ y. P (block ++ length blocks ∷ []) y) (sym c.in_ok-push-2.ensures.items) (one_node_more block blocks k c.self.invariant c.len-at.ensures own))

pub returns-clause-class : goal.returns-clause-class
returns-clause-class c =
    let block = c.self.inside.block in
    let blocks = c.self.inside.blocks.items in
    let k : Block = record { name = c.len-at.result; members = c.push.new.self } in
    let e = c.in_ok-push-3.ensures.ok ∙ ap (λ (n : ℕ). block ++ n ∷ []) (ap length c.as_slice-blocks.ensures.value) in
    let own = own_member c.push.new.self c.len-at.result (length block) (c.in_ok-push.ensures.ok ∙ ap (λ (r : List ℕ). r ++ c.len-at.result ∷ []) c.new-members.ensures) c.len-at.ensures in
    (λ i. class_names (e i) (c.in_ok-push-2.ensures.items i)) ∙ one_name_more block blocks k c.self.invariant c.len-at.ensures own ∙ (λ i. c.self.view_is i ++ sym c.len-at.ensures i ∷ [])
