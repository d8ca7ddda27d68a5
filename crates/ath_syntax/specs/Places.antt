-- The places of phrases.
use Rattle.ath_syntax.specs.declared.place.Pos.{Pos}
use Rattle.ath_syntax.specs.Tree.{Phrase, name_at, variable_at, string_at, list_at, ascribe_at, apply_at, call_at, lambda_at, method_at, let_at, letrec_at, match_at, check_at, try_at, seq_at, assume_at, absurd_at, pick_any_at, pick_witness_at, induct_at, cases_at, conclude_at}

abbrev pub place : Phrase → Pos
place (name_at p n) = p
place (variable_at p x k s) = p
place (string_at p s) = p
place (list_at p xs) = p
place (ascribe_at p x s) = p
place (apply_at p f xs) = p
place (call_at p f xs) = p
place (lambda_at p xs x) = p
place (method_at p xs x) = p
place (let_at p bs x) = p
place (letrec_at p bs x) = p
place (match_at p x cs) = p
place (check_at p bs x) = p
place (try_at p xs) = p
place (seq_at p xs) = p
place (assume_at p n x y) = p
place (absurd_at p n x y) = p
place (pick_any_at p ns x) = p
place (pick_witness_at p n x y) = p
place (induct_at p x cs) = p
place (cases_at p x cs) = p
place (conclude_at p n x y) = p
