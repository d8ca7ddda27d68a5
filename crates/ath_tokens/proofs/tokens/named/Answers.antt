-- What is read of the rest is what the cut has there; a name gets its number.
use Rattle.std.proofs.Common.{List, ℕ, subst, Ok}
use Rattle.ath_tokens.specs.Scan.{Lexes, Numbers}
use Rattle.ath_tokens.proofs.TellsLaws.{tells-word, tells-var, tells-sort_var, tells-str, tells-punct}
use Rattle.ath_tokens.proofs.tokens.named.Goals as goal

pub returns-in_ok-name-in-Word : goal.returns-in_ok-name-in-Word
returns-in_ok-name-in-Word c =
    let number = λ (name : List ℕ). Numbers c.args.names.now name (Ok c.in_ok-name-in-Word.name) c.intern.new.names in
    tells-word c.args.rest.now c.requires.some c.args.names.now c.intern.new.names c.in-Word.len c.in_ok-name-in-Word.name
    (subst (Lexes c.args.rest.now) c.in-Word.is c.requires.lexes) (subst number c.part_of.ensures c.in_ok-name-in-Word.ensures)

pub returns-in_ok-name-in-Var : goal.returns-in_ok-name-in-Var
returns-in_ok-name-in-Var c =
    let number = λ (name : List ℕ). Numbers c.args.names.now name (Ok c.in_ok-name-in-Var.name) c.intern-in-Var.new.names in
    tells-var c.args.rest.now c.requires.some c.args.names.now c.intern-in-Var.new.names c.in-Var.name_len c.in-Var.index c.in-Var.len c.in_ok-name-in-Var.name
    (subst (Lexes c.args.rest.now) c.in-Var.is c.requires.lexes) (subst number c.part_of-in-Var.ensures c.in_ok-name-in-Var.ensures)

pub returns-in_ok-name-in-SortVar : goal.returns-in_ok-name-in-SortVar
returns-in_ok-name-in-SortVar c =
    let number = λ (name : List ℕ). Numbers c.args.names.now name (Ok c.in_ok-name-in-SortVar.name) c.intern-in-SortVar.new.names in
    tells-sort_var c.args.rest.now c.requires.some c.args.names.now c.intern-in-SortVar.new.names c.in-SortVar.name_len c.in_ok-name-in-SortVar.name
    (subst (Lexes c.args.rest.now) c.in-SortVar.is c.requires.lexes) (subst number c.part_of-in-SortVar.ensures c.in_ok-name-in-SortVar.ensures)

pub returns-in-Str : goal.returns-in-Str
returns-in-Str c = tells-str c.args.rest.now c.requires.some c.args.names.now c.in-Str.text c.in-Str.len (subst (Lexes c.args.rest.now) c.in-Str.is c.requires.lexes)

pub returns-in-Punct : goal.returns-in-Punct
returns-in-Punct c = tells-punct c.args.rest.now c.requires.some c.args.names.now c.in-Punct.byte (subst (Lexes c.args.rest.now) c.in-Punct.is c.requires.lexes)
