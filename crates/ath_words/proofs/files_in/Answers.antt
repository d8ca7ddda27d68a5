use Rattle.std.proofs.Common.{◌≡◌, ◌∙◌, [], Some, None, map, sym, ap, codes, unwrap_or}
use Rattle.std.proofs.lemmas.Result.{IfOk-weaker}
use Rattle.clap.proofs.WalkLemmas.{raw_values-rows}
use Rattle.clap.specs.Words.{all_of, found_of, rows_of}
use Rattle.ath_words.proofs.files_in.Goals as goal

pub returns-in-Some : goal.returns-in-Some
returns-in-Some c =
    let found = found_of c.args.matches.now in
    let files : all_of (codes "file") (rows_of found) ≡ Some (map (λ file. file.now) c.in-Some.files.now) = sym (c.in-Some.ensures ∙ raw_values-rows found (codes "file")) in
    IfOk-weaker c.to_vec.result _ _ (λ copy same. ap (map (λ file. file.now)) (same (λ x y e. e)) ∙ sym (ap (λ o. unwrap_or o []) files)) c.to_vec.ensures.items_if_clones_equal

pub returns-in-None : goal.returns-in-None
returns-in-None c =
    let found = found_of c.args.matches.now in
    let none : all_of (codes "file") (rows_of found) ≡ None = sym (c.in-None.ensures ∙ raw_values-rows found (codes "file")) in
    ap (map (λ file. file.now)) c.new.ensures.items ∙ sym (ap (λ o. unwrap_or o []) none)
