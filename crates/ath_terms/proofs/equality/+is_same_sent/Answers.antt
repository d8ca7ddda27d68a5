use Rattle.std.proofs.Common.{rules, ◌≡◌, sym, ◌∙◌, arith}
use Rattle.ath_trees.specs.Tree.{bound}
use Rattle.ath_terms.specs.Trees.{sent_at}
use Rattle.ath_terms.proofs.Parts.{map-at}
use Rattle.ath_terms.proofs.ConnParts.{conn_is_no_atom, conns_are_same}
use Rattle.ath_terms.proofs.VariableLaws.{var_told}
use Rattle.ath_terms.proofs.equality.+is_same_sent.Goals as goal

pub returns-in-Conn-sent : goal.returns-in-Conn-sent
returns-in-Conn-sent t c = (
  λ e. absurd (cc),
  λ e.
      absurd (conn_is_no_atom c.args.store.now.terms c.args.store.now.sents _ 0 _ 0 c.args.q.0 c.args.p.0 _ _ c.sent-in-Atom.ensures.tree c.sent.ensures.tree c.in-Conn-sent.field-0 c.in-Conn-sent.field-1 c.in-Atom.s c.sent-in-Atom.ensures.below c.in-Conn-sent.is c.in-Atom.is (sym e)),
)

pub returns-in-Atom-sent-3 : goal.returns-in-Atom-sent-3
returns-in-Atom-sent-3 t c = (
  λ e. absurd (cc),
  λ e.
      absurd (conn_is_no_atom c.args.store.now.terms c.args.store.now.sents _ 0 _ 0 c.args.p.0 c.args.q.0 _ _ c.sent.ensures.tree c.sent-in-Conn.ensures.tree c.in-Conn.c c.in-Conn.some c.in-Atom-sent-3.field-0 c.sent.ensures.below c.in-Conn.is c.in-Atom-sent-3.is e),
)

pub returns-then-not-is_same_sent : goal.returns-then-not-is_same_sent
returns-then-not-is_same_sent t c = (
  λ e. absurd (cc),
  λ e.
      let p = conns_are_same c.args.store.now.terms c.args.store.now.sents _ _ _ _ c.args.p.0 c.args.q.0 _ _ c.sent.ensures.tree c.sent-in-Conn.ensures.tree c.in-Conn.c c.in-Conn-sent-3.d c.in-Conn.some c.in-Conn-sent-3.others c.sent.ensures.below c.sent-in-Conn.ensures.below c.in-Conn.is c.in-Conn-sent-3.is e in
      let q = rw (← c.as_slice-xs.ensures, ← c.as_slice-ys.ensures) at p.parts in
      let r = map-at (λ i. sent_at c.args.store.now.sents i.0) c.as_slice-xs.result.now c.as_slice-ys.result.now c.loop-i.i _ _ (omega arith) (omega arith) q in
      c.if-not-is_same_sent.ensures.1 r,
)

pub returns-then-not-is_same_var : goal.returns-then-not-is_same_var
returns-then-not-is_same_var t c = (
  λ e. absurd (cc),
  λ e.
      let p : bound c.in-Quant.k c.in-Quant.v (sent_at c.args.store.now.sents c.in-Quant.body.0) ≡ sent_at c.args.store.now.sents c.args.p.0 = rw c.in-Quant.is at c.sent.ensures.tree in
      let q : bound c.in-Quant-sent-4.l c.in-Quant-sent-4.w (sent_at c.args.store.now.sents c.in-Quant-sent-4.other.0) ≡ sent_at c.args.store.now.sents c.args.q.0 = rw c.in-Quant-sent-4.is at c.sent-in-Quant.ensures.tree in
      let r : bound c.in-Quant.k c.in-Quant.v (sent_at c.args.store.now.sents c.in-Quant.body.0) ≡ bound c.in-Quant-sent-4.l c.in-Quant-sent-4.w (sent_at c.args.store.now.sents c.in-Quant-sent-4.other.0) = p ∙ e ∙ sym q in
      let v : c.in-Quant.v ≡ c.in-Quant-sent-4.w = cc in
      let t = (var_told c.is_same_var.result c.in-Quant.v c.in-Quant-sent-4.w c.is_same_var.ensures).1 v in
      let f = c.if-not-is_same_var.true in
      absurd (cc),
)

pub returns-else-not-is_same_var : goal.returns-else-not-is_same_var
returns-else-not-is_same_var t c =
    let v : c.in-Quant.v ≡ c.in-Quant-sent-4.w = (var_told c.is_same_var.result c.in-Quant.v c.in-Quant-sent-4.w c.is_same_var.ensures).0 c.if-not-is_same_var.false in
    let p : bound c.in-Quant.k c.in-Quant.v (sent_at c.args.store.now.sents c.in-Quant.body.0) ≡ sent_at c.args.store.now.sents c.args.p.0 = rw c.in-Quant.is at c.sent.ensures.tree in
    let q : bound c.in-Quant-sent-4.l c.in-Quant-sent-4.w (sent_at c.args.store.now.sents c.in-Quant-sent-4.other.0) ≡ sent_at c.args.store.now.sents c.args.q.0 = rw c.in-Quant-sent-4.is at c.sent-in-Quant.ensures.tree in
    let k : c.in-Quant.k ≡ c.in-Quant-sent-4.l = search rules in (
      λ e. let x = c.is_same_sent-in-Quant-sent-4.ensures.0 e in sym p ∙ (λ i. bound (k i) (v i) (x i)) ∙ q,
      λ e.
          let r : bound c.in-Quant.k c.in-Quant.v (sent_at c.args.store.now.sents c.in-Quant.body.0) ≡ bound c.in-Quant-sent-4.l c.in-Quant-sent-4.w (sent_at c.args.store.now.sents c.in-Quant-sent-4.other.0) = p ∙ e ∙ sym q in
          c.is_same_sent-in-Quant-sent-4.ensures.1 (cc),
    )
