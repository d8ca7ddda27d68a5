use Rattle.std.proofs.Common.{◌≡◌, ◌∙◌, map, string_bytes}
use Rattle.std.proofs.lemmas.Result.{IfOk-weaker}
use Rattle.clap.specs.Words.{app_of, rows_of, found_of}
use Rattle.ath_words.specs.Command.{athena}
use Rattle.ath_words.proofs.Readings.{run_when_ok, no_run_when_err, texts_of, simple_when_athena, free_when_athena}
use Rattle.ath_words.proofs.read_words.Goals as goal

pub returns-in-Ok : goal.returns-in-Ok
returns-in-Ok c =
    let command = c.in_ok-command.command in
    let is : app_of command ≡ athena = c.in_ok-command.ensures in
    let same = run_when_ok (app_of command) (map string_bytes c.args.words.now) (rows_of (found_of c.in-Ok.matches)) is (texts_of c.args.words.now)
    (c.in-Ok.ensures.kinds (free_when_athena (app_of command) is)) (c.in-Ok.ensures.matches (simple_when_athena (app_of command) is)).0 in
    IfOk-weaker c.checked.result _ _ (λ run said. said ∙ same) c.checked.ensures

pub returns : goal.returns
returns c =
    let command = c.in_ok-command.command in
    let is : app_of command ≡ athena = c.in_ok-command.ensures in
    no_run_when_err (app_of command) (map string_bytes c.args.words.now) c.in-Err.error is (texts_of c.args.words.now)
    (c.in-Err.ensures.kinds (free_when_athena (app_of command) is)) (λ memory. c.in_default.not-OutOfMemory (c.kind.ensures ∙ memory))
