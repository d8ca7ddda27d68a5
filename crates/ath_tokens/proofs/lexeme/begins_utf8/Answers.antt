-- What is UTF-8 is so to its end.
use Rattle.std.proofs.Common.{◌≡◌, ℕ, ◌<◌, List, length, take, true, not, sym, ap, ◌∙◌, arith, ◌==◌}
use Rattle.std.proofs.lemmas.Bool.{ne_eqb}
use Rattle.std.proofs.lemmas.List.{length-take}
use Rattle.std.proofs.lemmas.Str.{IsUtf8-from_is_utf8, utf8_valid_len-IsUtf8}
use Rattle.std.specs.Str.{is_utf8}
use Rattle.std.specs.Str.Lossy.{utf8_valid_len}
use Rattle.ath_tokens.proofs.lexeme.begins_utf8.Goals as goal

whole : (rest : List ℕ) → 0 < length rest → is_utf8 (take 4 rest) ≡ true → true ≡ not (utf8_valid_len (take 4 rest) == 0)
whole rest some e =
    let all = utf8_valid_len-IsUtf8 (take 4 rest) (IsUtf8-from_is_utf8 (take 4 rest) e) in
    sym (ap not (ne_eqb (utf8_valid_len (take 4 rest)) 0 (λ z. omega (arith, z, all, length-take 4 rest))))

pub returns-in-None : goal.returns-in-None
returns-in-None c = whole c.args.rest.now c.requires (ap is_utf8 (sym c.front.ensures) ∙ c.in-None.ensures)
