use Rattle.std.proofs.Common.{◌≡◌, rules, sym, arith}
use Rattle.ath_alpha.specs.Binders.{lefts_of, rights_of}
use Rattle.ath_alpha.proofs.ListLaws.{maps-lengths, maps-at}
use Rattle.ath_alpha.proofs.FormLaws.{sent_shown, conn_is_no_atom, conns_are_same}
use Rattle.ath_alpha.proofs.alike.+are_like_sents.Goals as goal
use Rattle.ath_alpha.proofs.alike.+are_like_sents.Goals.{then-ne-via-then-ne, then-ne-via-else-ne+then-xs-ys}

pub returns-in-Conn-sent : goal.returns-in-Conn-sent
returns-in-Conn-sent t c = (
  λ e. absurd (cc),
  λ e.
      absurd (conn_is_no_atom c.args.told c.args.store.now.sents c.args.store.now.terms (rights_of c.args.binders.now) (lefts_of c.args.binders.now) _ 0 _ 0 c.args.q.0 c.args.p.0 _ _ c.sent-in-Atom.ensures.tree c.sent.ensures.tree c.in-Conn-sent.field-0 c.in-Conn-sent.field-1 c.in-Atom.s c.sent-in-Atom.ensures.below c.in-Conn-sent.is c.in-Atom.is (sym e)),
)

pub returns-in-Atom-sent-3 : goal.returns-in-Atom-sent-3
returns-in-Atom-sent-3 t c = (
  λ e. absurd (cc),
  λ e.
      absurd (conn_is_no_atom c.args.told c.args.store.now.sents c.args.store.now.terms (lefts_of c.args.binders.now) (rights_of c.args.binders.now) _ 0 _ 0 c.args.p.0 c.args.q.0 _ _ c.sent.ensures.tree c.sent-in-Conn.ensures.tree c.in-Conn.c c.in-Conn.ids c.in-Atom-sent-3.field-0 c.sent.ensures.below c.in-Conn.is c.in-Atom-sent-3.is e),
)

pub returns-then-ne : goal.returns-then-ne
returns-then-ne t c = (
  λ e. absurd (cc),
  λ e.
      let p = conns_are_same c.args.told c.args.store.now.sents c.args.store.now.terms (lefts_of c.args.binders.now) (rights_of c.args.binders.now) _ _ _ _ c.args.p.0 c.args.q.0 _ _ c.sent.ensures.tree c.sent-in-Conn.ensures.tree c.in-Conn.c c.in-Conn-sent-3.d c.in-Conn.ids c.in-Conn-sent-3.rest c.sent.ensures.below c.sent-in-Conn.ensures.below c.in-Conn.is c.in-Conn-sent-3.is e in
      let l = maps-lengths (sent_shown c.args.told c.args.store.now.sents (lefts_of c.args.binders.now)) (sent_shown c.args.told c.args.store.now.sents (rights_of c.args.binders.now)) c.in-Conn.ids c.in-Conn-sent-3.rest p.parts in
      let k : c.in-Conn.c ≡ c.in-Conn-sent-3.d = p.conns in
      absurd (elim c.then-ne.branch [ then-ne-via-then-ne w ↦ search rules | then-ne-via-else-ne+then-xs-ys w ↦ w.if-xs-ys.true (rw (c.as_slice-xs.ensures, c.as_slice-ys.ensures) l) ]),
)

pub returns-then-not-are_like_sents : goal.returns-then-not-are_like_sents
returns-then-not-are_like_sents t c = (
  λ e. absurd (cc),
  λ e.
      let p = conns_are_same c.args.told c.args.store.now.sents c.args.store.now.terms (lefts_of c.args.binders.now) (rights_of c.args.binders.now) _ _ _ _ c.args.p.0 c.args.q.0 _ _ c.sent.ensures.tree c.sent-in-Conn.ensures.tree c.in-Conn.c c.in-Conn-sent-3.d c.in-Conn.ids c.in-Conn-sent-3.rest c.sent.ensures.below c.sent-in-Conn.ensures.below c.in-Conn.is c.in-Conn-sent-3.is e in
      let q = rw (← c.as_slice-xs.ensures, ← c.as_slice-ys.ensures) at p.parts in
      let r = maps-at (sent_shown c.args.told c.args.store.now.sents (lefts_of c.args.binders.now)) (sent_shown c.args.told c.args.store.now.sents (rights_of c.args.binders.now)) c.as_slice-xs.result.now c.as_slice-ys.result.now c.loop-i.i _ _ (omega arith) (omega arith) q in
      c.if-not-are_like_sents.ensures.1 r,
)
