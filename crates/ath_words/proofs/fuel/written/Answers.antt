use Rattle.std.proofs.Common.{rules, ◌≡◌, true}
use Rattle.std.specs.Str.{all_ascii_digits}
use Rattle.ath_words.proofs.Numbers.{fuel_unread}
use Rattle.ath_words.proofs.fuel.written.Goals as goal

pub returns-in_default : goal.returns-in_default
returns-in_default c =
    let digits : all_ascii_digits c.args.text.now ≡ true = search rules in
    fuel_unread c.args.text.now c.parse.result c.in_default.field-0 digits c.parse.ensures.value.0 c.in_default.is
