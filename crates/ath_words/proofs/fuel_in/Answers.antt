use Rattle.std.proofs.Common.{◌∙◌, ap, codes}
use Rattle.clap.proofs.WalkLemmas.{first_value-rows}
use Rattle.clap.specs.Words.{found_of}
use Rattle.ath_words.specs.Words.{fuel_of}
use Rattle.ath_words.proofs.fuel_in.Goals as goal

pub returns : goal.returns
returns c = c.fuel.ensures ∙ ap fuel_of (c.get_str.ensures ∙ first_value-rows (found_of c.args.matches.now) (codes "fuel"))
