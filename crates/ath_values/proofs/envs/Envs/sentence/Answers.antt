use Rattle.std.proofs.Common.{ap, subst, sym}
use Rattle.ath_values.specs.Nodes.{Stores, KeepsValues}
use Rattle.ath_values.proofs.Growth.{values-value}
use Rattle.ath_values.proofs.Made.{own_stands, atom_stands, inside_with, many_with}
use Rattle.ath_values.proofs.envs.Envs.sentence.Goals as goal

pub returns-in_ok-v-in-Atom-clause-stands : goal.returns-in_ok-v-in-Atom-clause-stands
returns-in_ok-v-in-Atom-clause-stands c = λ q sig h. atom_stands q c.args.store.now c.args.self.now c.term.new.self c.args.p _ c.sent.ensures.tree c.sent.ensures.below sig c.in-Atom.t c.in_ok-v-in-Atom.v c.in-Atom.is c.requires h (c.in_ok-v-in-Atom.ensures.stands q)

pub returns-in_ok-v-in_default : goal.returns-in_ok-v-in_default
returns-in_ok-v-in_default c =
    let f = c.add.new.self in
    record {
      inside = inside_with c.args.self.now f _ c.in_ok-v-in_default.v (c.in_ok-v-in_default.ensures.number, c.in_ok-v-in_default.ensures.added);
      stands = λ q sig h. own_stands q c.args.store.now c.args.self.now f c.args.p _ c.sent.ensures.tree c.sent.ensures.below _ _ c.in_ok-v-in_default.v c.in_default.not-Atom c.requires c.in_ok-v-in_default.ensures.added c.in_ok-v-in_default.ensures.number c.sent_size.ensures.same c.sent_depth.ensures.same;
      kept = subst (λ (e : Stores). KeepsValues c.args.self.now e) (sym c.in_ok-v-in_default.ensures.added) (values-value c.args.self.now _);
      many = many_with c.args.self.now f _ c.in_ok-v-in_default.ensures.added;
      same_envs = ap (λ (e : Stores). e.envs) c.in_ok-v-in_default.ensures.added;
      unchanged = tt;
    }
