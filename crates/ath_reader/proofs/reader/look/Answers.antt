use Rattle.std.proofs.Common.{◌≡◌, ◌<◌, ◌≤◌, length, ℕ, Option, Ok, refl, sym, subst}
use Rattle.ath_grammar.specs.Tokens.{at}
use Rattle.ath_syntax.specs.declared.place.Pos.{Pos}
use Rattle.ath_tokens.specs.declared.tokens.Token.{Token}
use Rattle.ath_tokens.specs.Cutting.{Cutting}
use Rattle.ath_tokens.specs.Next.{Gives}
use Rattle.ath_reader.specs.Ahead.{a_token, ahead}
use Rattle.ath_reader.proofs.Seen.{token_ahead}
use Rattle.ath_reader.proofs.reader.look.Goals as goal

pub returns-in-Ok-Some : goal.returns-in-Ok-Some
returns-in-Ok-Some c =
    let old = c.args.tokens.now in
    let names = c.args.names.now in
    let g = subst (λ (o : Option (Token × Pos × ℕ × ℕ)). Gives old names (Ok o) c.next.new.self c.next.new.names) c.in-Ok-Some.field-0-is c.in-Ok-Some.ensures in
    let f = g.1 in
    let t = token_ahead old.file old.text names c.next.new.names old.at c.in-Ok-Some.field-0-0-2 c.in-Ok-Some.field-0-0-3 f.0 c.in-Ok-Some.token c.in-Ok-Some.pos c.lexeme.result f.1 f.2 f.3 g.2 c.lexeme.ensures c.requires.within in
    subst (λ (n : Cutting). (ahead old.file old.text names old.at ≡ a_token (at c.in-Ok-Some.pos c.lexeme.result) c.next.new.names n.at) × (old.at < n.at) × (n.at ≤ length old.text) × (n ≡ record old { at = n.at })) (sym g.3) (t.0, t.1, t.2, refl)
