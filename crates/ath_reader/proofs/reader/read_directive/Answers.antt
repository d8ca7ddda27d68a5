use Rattle.std.proofs.Common.{Option, Some, Ok, subst}
use Rattle.ath_numbering.specs.declared.tree.DirectiveTree.{DirectiveTree}
use Rattle.ath_reader.specs.Steps.{ReadsTree}
use Rattle.ath_reader.proofs.Numbered.{found_is_proper, found_numbered, found_wants}
use Rattle.ath_reader.proofs.reader.read_directive.Goals as goal

pub number_directive-requires : goal.number_directive-requires
number_directive-requires c =
    let found = subst (λ (o : Option DirectiveTree). ReadsTree c.args.tokens.now c.args.names.now (Ok o) c.read_tree.new.tokens c.read_tree.new.names) c.in-Some.is c.in_ok-tree.ensures in
    found_is_proper c.args.tokens.now c.args.names.now c.in-Some.tree c.read_tree.new.tokens c.read_tree.new.names found c.requires.short c.len-count.ensures.table c.requires.table

pub returns-in-Ok : goal.returns-in-Ok
returns-in-Ok c =
    let found = subst (λ (o : Option DirectiveTree). ReadsTree c.args.tokens.now c.args.names.now (Ok o) c.read_tree.new.tokens c.read_tree.new.names) c.in-Some.is c.in_ok-tree.ensures in
    found_numbered c.args.tokens.now c.args.names.now c.in-Some.tree c.read_tree.new.tokens c.read_tree.new.names found c.args.phrases.now c.number_directive.new.phrases c.in-Ok.directive c.in-Ok.ensures.stands c.in-Ok.ensures.kept

pub returns-in-Err : goal.returns-in-Err
returns-in-Err c =
    let found = subst (λ (o : Option DirectiveTree). ReadsTree c.args.tokens.now c.args.names.now (Ok o) c.read_tree.new.tokens c.read_tree.new.names) c.in-Some.is c.in_ok-tree.ensures in
    found_wants c.args.tokens.now c.args.names.now c.in-Some.tree c.read_tree.new.tokens c.read_tree.new.names found c.args.phrases.now c.number_directive.new.phrases c.wants_memory.result c.wants_memory.ensures c.in-Err.ensures.kept
