use Rattle.std.proofs.Common.{◌≡◌, rules, refl, sym, ◌∙◌, ap, arith}
use Rattle.ath_sorts.specs.Instances.{is_rigid}
use Rattle.ath_terms.specs.declared.node.SentNode.TheVariants.{Conn}
use Rattle.ath_alpha.specs.Binders.{lefts_of, rights_of}
use Rattle.ath_alpha.proofs.WalkLaws.{walk-end, walk-stops}
use Rattle.ath_alpha.proofs.MatchLaws.{match_sents_at, match-conns, match-conn-atom, match-atom-conn}
use Rattle.ath_alpha.proofs.instance.+match_sents.Goals as goal

pub returns-in-Conn-sent : goal.returns-in-Conn-sent
returns-in-Conn-sent t c =
    match-atom-conn (is_rigid c.args.at.now.rigid.now) c.args.at.now.store.now.terms c.args.at.now.store.now.sents (rights_of c.args.at.now.binders.now) (lefts_of c.args.at.now.binders.now) _ _ c.args.q.0 c.args.p.0 _ _ c.in-Conn-sent.field-0 c.in-Conn-sent.field-1 c.in-Atom.s c.args.found.now c.sent-in-Atom.ensures.tree c.sent.ensures.tree c.sent-in-Atom.ensures.below c.in-Conn-sent.is c.in-Atom.is

pub returns-in-Atom-sent-3 : goal.returns-in-Atom-sent-3
returns-in-Atom-sent-3 t c =
    match-conn-atom (is_rigid c.args.at.now.rigid.now) c.args.at.now.store.now.terms c.args.at.now.store.now.sents (lefts_of c.args.at.now.binders.now) (rights_of c.args.at.now.binders.now) _ _ c.args.p.0 c.args.q.0 _ _ c.in-Conn.c c.in-Conn.ids c.in-Atom-sent-3.field-0 c.args.found.now c.sent.ensures.tree c.sent-in-Conn.ensures.tree c.sent.ensures.below c.in-Conn.is c.in-Atom-sent-3.is

pub returns-then-not-branch-2 : goal.returns-then-not-branch-2
returns-then-not-branch-2 t c =
    let m = match_sents_at (is_rigid c.args.at.now.rigid.now) c.args.at.now.store.now.sents (lefts_of c.args.at.now.binders.now) (rights_of c.args.at.now.binders.now) in
    let xs = c.as_slice-xs.result.now in
    let ys = c.as_slice-ys.result.now in
    let e : c.in-Conn.c ≡ c.in-Conn-sent-3.d = search rules in
    let whole = match-conns (is_rigid c.args.at.now.rigid.now) c.args.at.now.store.now.sents (lefts_of c.args.at.now.binders.now) (rights_of c.args.at.now.binders.now) c.args.at.now.store.now.terms _ _ _ _ c.args.p.0 c.args.q.0 _ _ c.in-Conn.c c.in-Conn-sent-3.d xs ys c.args.found.now c.sent.ensures.tree c.sent-in-Conn.ensures.tree c.sent.ensures.below c.sent-in-Conn.ensures.below (c.in-Conn.is ∙ ap (Conn c.in-Conn.c) (sym c.as_slice-xs.ensures)) (c.in-Conn-sent-3.is ∙ ap (Conn c.in-Conn-sent-3.d) (sym c.as_slice-ys.ensures)) e in
    sym (whole ∙ c.loop-i.invariant ∙ walk-stops m xs ys c.loop-i.i (record { 0 = 0 }) (record { 0 = 0 }) _ _ c.loop-i.found c.match_sents.new.found (omega arith) (omega arith) refl refl c.in_ok-match_sents-in-Conn-sent-3.field-0 c.if-not-branch-2.true c.in_ok-match_sents-in-Conn-sent-3.ensures)

pub returns-after-loop-i : goal.returns-after-loop-i
returns-after-loop-i t c =
    let m = match_sents_at (is_rigid c.args.at.now.rigid.now) c.args.at.now.store.now.sents (lefts_of c.args.at.now.binders.now) (rights_of c.args.at.now.binders.now) in
    let xs = c.as_slice-xs.result.now in
    let ys = c.as_slice-ys.result.now in
    let e : c.in-Conn.c ≡ c.in-Conn-sent-3.d = search rules in
    let whole = match-conns (is_rigid c.args.at.now.rigid.now) c.args.at.now.store.now.sents (lefts_of c.args.at.now.binders.now) (rights_of c.args.at.now.binders.now) c.args.at.now.store.now.terms _ _ _ _ c.args.p.0 c.args.q.0 _ _ c.in-Conn.c c.in-Conn-sent-3.d xs ys c.args.found.now c.sent.ensures.tree c.sent-in-Conn.ensures.tree c.sent.ensures.below c.sent-in-Conn.ensures.below (c.in-Conn.is ∙ ap (Conn c.in-Conn.c) (sym c.as_slice-xs.ensures)) (c.in-Conn-sent-3.is ∙ ap (Conn c.in-Conn-sent-3.d) (sym c.as_slice-ys.ensures)) e in
    sym (whole ∙ c.loop-i.invariant ∙ walk-end m xs ys c.loop-i.i c.loop-i.found (omega arith) (omega arith))
