use Rattle.std.proofs.Common.{◌+◌, ap, ◌∙◌}
use Rattle.ath_values.specs.declared.value.Value.TheVariants.{List as Listed}
use Rattle.ath_values.specs.Nodes.{IsValueIn, listed_nodes, listed_levels}
use Rattle.ath_values.specs.Stands.{is_list}
use Rattle.ath_values.specs.Values.{list_value}
use Rattle.ath_values.proofs.Made.{made_new, measured_by, inside_with}
use Rattle.ath_values.proofs.envs.Envs.list.Goals as goal

pub returns-clause-made : goal.returns-clause-made
returns-clause-made c = λ p s ts h.
    let e = c.args.self.now in
    made_new p s e c.made.new.self (Listed c.args.items) _ _ (list_value ts) c.made.result
    (ap (λ n. 1 + n) c.listed_nodes-nodes.ensures.same ∙ ap (λ l. 1 + listed_nodes e l) c.as_slice.ensures)
    (ap (λ n. 1 + n) c.listed_levels-levels.ensures.same ∙ ap (λ l. 1 + listed_levels e l) c.as_slice-2.ensures)
    (is_list h) c.made.ensures.made

pub returns-clause-limits : goal.returns-clause-limits
returns-clause-limits c =
    let e = c.args.self.now in
    measured_by _ (IsValueIn c.made.new.self) (λ i g. inside_with e c.made.new.self _ i g) c.made.result _ _ _ _
    (ap (λ n. 1 + n) c.listed_nodes-nodes.ensures.same ∙ ap (λ l. 1 + listed_nodes e l) c.as_slice.ensures)
    (ap (λ n. 1 + n) c.listed_levels-levels.ensures.same ∙ ap (λ l. 1 + listed_levels e l) c.as_slice-2.ensures)
    c.made.ensures.made
