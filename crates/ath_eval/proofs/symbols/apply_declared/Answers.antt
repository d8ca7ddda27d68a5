use Rattle.std.proofs.Common.{length}
use Rattle.ath_sorts.specs.Signature.{symbol_of}
use Rattle.ath_eval.proofs.SymbolLaws.{declared_with}
use Rattle.ath_eval.proofs.symbols.apply_declared.Goals as goal

pub apply_terms-requires-clause-declared : goal.apply_terms-requires-clause-declared
apply_terms-requires-clause-declared c = let a = c.args in declared_with (symbol_of a.w.now.sig a.f) a.want (length a.args.now) c.requires.declared c.if-want-args.true
