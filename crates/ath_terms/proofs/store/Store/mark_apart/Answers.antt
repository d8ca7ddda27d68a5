use Rattle.std.proofs.Common.{◌<◌, ◌∙◌, ap, length, arith}
use Rattle.ath_terms.specs.declared.store.KeptSent.{KeptSent}
use Rattle.ath_terms.specs.Marks.{told_apart}
use Rattle.ath_terms.proofs.ApartLaws.{marked-view, marked-whole, marked-marks, same-read}
use Rattle.ath_terms.proofs.StoreLaws.{sents-count}
use Rattle.ath_terms.proofs.StoreMarks.{sent-marks}
use Rattle.ath_terms.proofs.store.Store.mark_apart.Goals as goal

pub index-requires : goal.index-requires
index-requires c = let e = sents-count c.self.inside.terms.items c.self.inside.sents.items c.args.self.now c.self.view_is c.self.invariant.0 in let i = c.requires.inside in omega (arith, c.self.inside.sents.ok.0)

pub index_mut-requires : goal.index_mut-requires
index_mut-requires c = let e = sents-count c.self.inside.terms.items c.self.inside.sents.items c.args.self.now c.self.view_is c.self.invariant.0 in let i = c.requires.inside in omega (arith, c.self.inside.sents.ok.0)

pub invariant_of-self : goal.invariant_of-self
invariant_of-self c =
    let es = c.self.inside.terms.items in
    let ms = c.self.inside.sents.items in
    let d = c.index_mut.result.now in
    let at = c.index_mut.ensures.value in
    let y : KeptSent = record { node = d.node; nodes = d.nodes; levels = d.levels; marks = c.told_apart-marks.result } in
    let inside : c.args.p.0 < length ms = let e = sents-count es ms c.args.self.now c.self.view_is c.self.invariant.0 in let i = c.requires.inside in omega arith in
    let same = c.index.ensures ∙ same-read ms c.args.p.0 c.index.result.now d inside in (
      marked-whole es ms c.args.self.now c.self.view_is c.self.invariant.0 c.self.invariant.1 c.args.p.0 d y (ap (λ (e : KeptSent). e.node) at) (ap (λ (e : KeptSent). e.nodes) at) (ap (λ (e : KeptSent). e.levels) at),
      marked-marks es ms c.args.self.now c.self.view_is c.self.invariant.0 c.self.invariant.1 c.args.p.0 d y (ap (λ (e : KeptSent). e.node) at) c.requires.inside
          (c.told_apart-marks.ensures ∙ ap (λ (e : KeptSent). told_apart e.marks) same)
          (sent-marks es ms c.args.self.now c.self.view_is c.self.invariant.0 c.self.invariant.1 c.args.p.0 d c.requires.inside) c.requires.apart,
    )

pub returns : goal.returns
returns c =
    let d = c.index_mut.result.now in
    marked-view c.self.inside.terms.items c.self.inside.sents.items c.args.self.now c.self.view_is c.self.invariant.0 c.self.invariant.1 c.args.p.0 d
    (record { node = d.node; nodes = d.nodes; levels = d.levels; marks = c.told_apart-marks.result }) (ap (λ (e : KeptSent). e.node) c.index_mut.ensures.value)
