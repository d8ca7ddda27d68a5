use Rattle.ath_terms.proofs.StoreMarks.{equal-node, conn-node, bound-node}
use Rattle.ath_terms.proofs.store.Store.sent_node_marks.Goals as goal

pub returns-in-Eq : goal.returns-in-Eq
returns-in-Eq c = equal-node c.args.self.now c.args.node.now c.in-Eq.s c.in-Eq.t c.all.result c.marks-in-Eq.result c.marks-in-Eq-2.result c.with.result c.with-in-Eq.result c.in-Eq.is c.all.ensures c.marks-in-Eq.ensures c.marks-in-Eq-2.ensures c.with.ensures c.with-in-Eq.ensures

pub returns-in-Conn : goal.returns-in-Conn
returns-in-Conn c = conn-node c.args.self.now c.args.node.now c.in-Conn.field-0 c.in-Conn.ids c.as_slice.result.now _ _ c.list_sent_marks.result c.in-Conn.is c.as_slice.ensures c.requires c.list_sent_marks.ensures

pub returns-in-Quant : goal.returns-in-Quant
returns-in-Quant c = bound-node c.args.self.now c.args.node.now c.in-Quant.field-0 c.in-Quant.v c.in-Quant.body c.sent_marks-inner.result c.bound.result c.is_within_limits.result c.sort_vars.result c.in-Quant.is c.sent_marks-inner.ensures c.is_within_limits.ensures c.sort_vars.ensures c.bound.ensures
