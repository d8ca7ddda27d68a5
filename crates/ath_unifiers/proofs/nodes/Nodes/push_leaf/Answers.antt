use Rattle.std.proofs.Common.{sym, subst, List, length}
use Rattle.ath_unifiers.specs.declared.nodes.Node.{Node}
use Rattle.ath_unifiers.specs.Places.{LeafFree, HasPlaces}
use Rattle.ath_sorts.proofs.VariablePlaces.{filed_at}
use Rattle.ath_unifiers.proofs.NodePlaces.{places_kept, places_more}
use Rattle.ath_unifiers.proofs.nodes.Nodes.push_leaf.Goals as goal

pub invariant_of-self-in_err-push : goal.invariant_of-self-in_err-push
invariant_of-self-in_err-push c =
    let nodes = c.self.inside.nodes in
    let free = subst (λ (ns : List Node). LeafFree ns c.args.v) (sym c.self.view_is) c.requires in
    let filed = filed_at c.self.inside.places.entries c.insert.new.self.entries c.args.v c.len-at.result (length nodes) (λ q. c.in_ok-insert.ensures.updates.0 q) c.len-at.ensures in
    subst (λ (ns : List Node). HasPlaces ns c.insert.new.self.entries) (sym c.in_err-push.ensures.err) (places_kept nodes c.self.inside.places.entries c.insert.new.self.entries c.args.v c.self.invariant free filed)

pub invariant_of-self-2 : goal.invariant_of-self-2
invariant_of-self-2 c =
    let nodes = c.self.inside.nodes in
    let free = subst (λ (ns : List Node). LeafFree ns c.args.v) (sym c.self.view_is) c.requires in
    let filed = filed_at c.self.inside.places.entries c.insert.new.self.entries c.args.v c.len-at.result (length nodes) (λ q. c.in_ok-insert.ensures.updates.0 q) c.len-at.ensures in
    subst (λ (ns : List Node). HasPlaces ns c.insert.new.self.entries) (sym c.in_ok-push.ensures.ok) (places_more nodes c.self.inside.places.entries c.insert.new.self.entries c.args.v c.self.invariant free filed)
