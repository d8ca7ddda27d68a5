use Rattle.std.proofs.Common.{◌≡◌, ◌∙◌, List, ap, false, is_some, length, rules, subst, sym, true}
use Rattle.std.specs.Prelude.{find}
use Rattle.ath_sorts.proofs.SignatureLaws.{none_of}
use Rattle.ath_trees.specs.declared.node.Var.{Var}
use Rattle.ath_terms.specs.Firsts.{HasFirsts}
use Rattle.ath_terms.specs.Found.{var_key, same_var_key}
use Rattle.ath_terms.specs.declared.key.VarKey.{VarKey}
use Rattle.ath_terms.proofs.FirstLaws.{first_more, place_more, both_more}
use Rattle.ath_terms.proofs.KeyLaws.{var_key-true, var_key-turned, var-filed}
use Rattle.ath_terms.proofs.found.FoundVars.push.Goals as goal

pub invariant_of-self-then-is_some : goal.invariant_of-self-then-is_some
invariant_of-self-then-is_some c =
    let xs = c.self.inside.list.items in
    let places = c.self.inside.places.entries in
    let there : is_some (find (λ w. same_var_key c.var_key-key.result (var_key w)) c.args.self.now) ≡ true = search rules in
    subst (λ (x : List Var). HasFirsts same_var_key var_key x places) (sym c.in_ok-push.ensures.items)
    (first_more same_var_key var_key var_key-true c.args.v xs places c.self.invariant
    (ap (λ (k : VarKey). is_some (find (λ w. same_var_key k (var_key w)) xs)) (sym c.var_key-key.ensures) ∙ ap (λ (x : List Var). is_some (find (λ w. same_var_key c.var_key-key.result (var_key w)) x)) c.self.view_is ∙ there))

pub invariant_of-self-in_err-push-2 : goal.invariant_of-self-in_err-push-2
invariant_of-self-in_err-push-2 c =
    let xs = c.self.inside.list.items in
    let places = c.self.inside.places.entries in
    let more = c.insert.new.self.entries in
    let absent : is_some (find (λ w. same_var_key c.var_key-key.result (var_key w)) c.args.self.now) ≡ false = search rules in
    let none = none_of (find (λ w. same_var_key (var_key c.args.v) (var_key w)) xs) (ap (λ (k : VarKey). is_some (find (λ w. same_var_key k (var_key w)) xs)) (sym c.var_key-key.ensures) ∙ ap (λ (x : List Var). is_some (find (λ w. same_var_key c.var_key-key.result (var_key w)) x)) c.self.view_is ∙ absent) in
    let filed = var-filed places more c.var_key-key.result (length c.as_slice-at.result.now) (length xs) (λ q. c.in_ok-insert.ensures.updates.0 q) (ap length c.as_slice-at.ensures.value) in
    subst (λ (x : List Var). HasFirsts same_var_key var_key x more) (sym c.in_err-push-2.ensures.items) (place_more same_var_key var_key var_key-true c.args.v var_key-turned xs places more c.self.invariant none (rw c.var_key-key.ensures at filed))

pub invariant_of-self-2 : goal.invariant_of-self-2
invariant_of-self-2 c =
    let xs = c.self.inside.list.items in
    let places = c.self.inside.places.entries in
    let more = c.insert.new.self.entries in
    let absent : is_some (find (λ w. same_var_key c.var_key-key.result (var_key w)) c.args.self.now) ≡ false = search rules in
    let none = none_of (find (λ w. same_var_key (var_key c.args.v) (var_key w)) xs) (ap (λ (k : VarKey). is_some (find (λ w. same_var_key k (var_key w)) xs)) (sym c.var_key-key.ensures) ∙ ap (λ (x : List Var). is_some (find (λ w. same_var_key c.var_key-key.result (var_key w)) x)) c.self.view_is ∙ absent) in
    let filed = var-filed places more c.var_key-key.result (length c.as_slice-at.result.now) (length xs) (λ q. c.in_ok-insert.ensures.updates.0 q) (ap length c.as_slice-at.ensures.value) in
    subst (λ (x : List Var). HasFirsts same_var_key var_key x more) (sym c.in_ok-push-2.ensures.items) (both_more same_var_key var_key var_key-true c.args.v var_key-turned xs places more c.self.invariant none (rw c.var_key-key.ensures at filed))
