use Rattle.std.proofs.Common.{◌≡◌, ◌∙◌, List, ap, false, is_some, length, rules, subst, sym, true}
use Rattle.ath_sorts.specs.declared.sorts.SVar.{SVar}
use Rattle.ath_sorts.specs.declared.sorts.Sort.{Sort}
use Rattle.ath_sorts.specs.Places.{HasEntries, LeavesOthers}
use Rattle.ath_sorts.specs.Substitutions.{entry_of}
use Rattle.ath_sorts.proofs.EntryPlaces.{both_more, entry_more, place_more, leaves-fewer, leaves-more}
use Rattle.ath_sorts.proofs.VariablePlaces.{filed_at}
use Rattle.ath_sorts.proofs.SignatureLaws.{none_of}
use Rattle.ath_sorts.proofs.substitution.SortSubst.push.Goals as goal

pub invariant_of-self-then-is_some : goal.invariant_of-self-then-is_some
invariant_of-self-then-is_some c =
    let es = c.self.inside.entries.items in
    let fewer = leaves-fewer es c.self.inside.lowest_made c.lowest_with-self-inside.result c.self.inside.may_move_written c.written_with-self-inside.result c.self.invariant.1 c.lowest_with-self-inside.ensures.lower c.written_with-self-inside.ensures.kept in
    let places = c.self.inside.places.entries in
    let there : is_some (entry_of c.args.self.now c.args.v) ≡ true = search rules in (
      subst (λ (x : List (SVar × Sort)). HasEntries x places) (sym c.in_ok-push.ensures.items)
          (entry_more c.args.v c.args.sort es places c.self.invariant.0 (ap (λ (x : List (SVar × Sort)). is_some (entry_of x c.args.v)) c.self.view_is ∙ there)),
      subst (λ (x : List (SVar × Sort)). LeavesOthers x c.lowest_with-self-inside.result c.written_with-self-inside.result) (sym c.in_ok-push.ensures.items)
          (leaves-more es c.args.v c.args.sort _ _ fewer c.lowest_with-self-inside.ensures.other c.written_with-self-inside.ensures.other),
    )

pub invariant_of-self-in_err-push-2 : goal.invariant_of-self-in_err-push-2
invariant_of-self-in_err-push-2 c =
    let es = c.self.inside.entries.items in
    let fewer = leaves-fewer es c.self.inside.lowest_made c.lowest_with-self-inside.result c.self.inside.may_move_written c.written_with-self-inside.result c.self.invariant.1 c.lowest_with-self-inside.ensures.lower c.written_with-self-inside.ensures.kept in
    let places = c.self.inside.places.entries in
    let more = c.insert.new.self.entries in
    let absent : is_some (entry_of c.args.self.now c.args.v) ≡ false = search rules in
    let none = none_of (entry_of es c.args.v) (ap (λ (x : List (SVar × Sort)). is_some (entry_of x c.args.v)) c.self.view_is ∙ absent) in
    let filed = filed_at places more c.args.v (length c.as_slice-at.result.now) (length es) (λ q. c.in_ok-insert.ensures.updates.0 q) (ap length c.as_slice-at.ensures.value) in (
      subst (λ (x : List (SVar × Sort)). HasEntries x more) (sym c.in_err-push-2.ensures.items) (place_more c.args.v es places more c.self.invariant.0 none filed),
      subst (λ (x : List (SVar × Sort)). LeavesOthers x c.lowest_with-self-inside.result c.written_with-self-inside.result) (sym c.in_err-push-2.ensures.items) fewer,
    )

pub invariant_of-self-2 : goal.invariant_of-self-2
invariant_of-self-2 c =
    let es = c.self.inside.entries.items in
    let fewer = leaves-fewer es c.self.inside.lowest_made c.lowest_with-self-inside.result c.self.inside.may_move_written c.written_with-self-inside.result c.self.invariant.1 c.lowest_with-self-inside.ensures.lower c.written_with-self-inside.ensures.kept in
    let places = c.self.inside.places.entries in
    let more = c.insert.new.self.entries in
    let absent : is_some (entry_of c.args.self.now c.args.v) ≡ false = search rules in
    let none = none_of (entry_of es c.args.v) (ap (λ (x : List (SVar × Sort)). is_some (entry_of x c.args.v)) c.self.view_is ∙ absent) in
    let filed = filed_at places more c.args.v (length c.as_slice-at.result.now) (length es) (λ q. c.in_ok-insert.ensures.updates.0 q) (ap length c.as_slice-at.ensures.value) in (
      subst (λ (x : List (SVar × Sort)). HasEntries x more) (sym c.in_ok-push-2.ensures.items) (both_more c.args.v es places more c.self.invariant.0 none filed c.args.sort),
      subst (λ (x : List (SVar × Sort)). LeavesOthers x c.lowest_with-self-inside.result c.written_with-self-inside.result) (sym c.in_ok-push-2.ensures.items)
          (leaves-more es c.args.v c.args.sort _ _ fewer c.lowest_with-self-inside.ensures.other c.written_with-self-inside.ensures.other),
    )
