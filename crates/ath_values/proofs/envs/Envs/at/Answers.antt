use Rattle.std.proofs.Common.{rules, ◌≡◌, Some, None, subst, sym, ap, ◌∙◌}
use Rattle.std.specs.Prelude.{slice_get}
use Rattle.ath_values.specs.declared.value.EnvNode.{EnvNode}
use Rattle.ath_values.specs.declared.value.Value.TheVariants.{Closure}
use Rattle.ath_values.specs.Nodes.{Stores, KeepsValues, with_value}
use Rattle.ath_values.specs.Stands.{IsEntry}
use Rattle.ath_values.proofs.Growth.{values-value}
use Rattle.ath_values.proofs.Made.{none_of_group, some_of_group}
use Rattle.ath_values.proofs.envs.Envs.at.Goals as goal

pub returns-in_default-clause-found : goal.returns-in_default-clause-found
returns-in_default-clause-found c = λ p s t h.
    let miss : slice_get c.in-Group.members c.args.member ≡ None = search rules in
    none_of_group p s c.args.self.now c.in-Group.members c.in-Group.field-1 c.args.member t miss (subst (λ (n : EnvNode). IsEntry p s c.args.self.now n t) c.in-Group.is (c.entry.ensures.stands p s t h))

pub returns-in_ok-v-in-Group-clause-found : goal.returns-in_ok-v-in-Group-clause-found
returns-in_ok-v-in-Group-clause-found c = λ p s t h.
    let there : slice_get c.in-Group.members c.args.member ≡ Some c.in-Some.m.now = search rules in
    let params : c.in_ok-params-in-Group.params ≡ c.in-Some.m.now.params = c.in_ok-params-in-Group.ensures ∙ c.as_slice.ensures in
    let added : c.add.new.self ≡ with_value c.args.self.now (record { value = Closure c.in-Some.m.now.kind c.in-Some.m.now.params c.in-Some.m.now.body c.args.env; nodes = 1; levels = 1 }) = c.in_ok-v-in-Group.ensures.added ∙ ap (λ xs. with_value c.args.self.now (record { value = Closure c.in-Some.m.now.kind xs c.in-Some.m.now.body c.args.env; nodes = 1; levels = 1 })) params in
    some_of_group p s c.args.self.now c.in-Group.members c.in-Group.field-1 c.args.member c.add.new.self c.in_ok-v-in-Group.v c.args.env c.in-Some.m.now t added c.in_ok-v-in-Group.ensures.number h there (subst (λ (n : EnvNode). IsEntry p s c.args.self.now n t) c.in-Group.is (c.entry.ensures.stands p s t h))

pub returns-in_ok-v-in-Group-clause-kept : goal.returns-in_ok-v-in-Group-clause-kept
returns-in_ok-v-in-Group-clause-kept c = subst (λ (e : Stores). KeepsValues c.args.self.now e) (sym c.in_ok-v-in-Group.ensures.added) (values-value c.args.self.now _)
