use Rattle.std.proofs.Common.{◌≡◌, ◌<◌, length, slice_get, Some, subst, sym, refl}
use Rattle.std.proofs.lemmas.Option.{slice_get_read}
use Rattle.ath_syntax.specs.Fits.{Fits, before}
use Rattle.ath_syntax.specs.Nodes.{Nodes}
use Rattle.ath_syntax.specs.Stands.{IsPhrase}
use Rattle.ath_syntax.specs.Tree.{Phrase}
use Rattle.ath_syntax.proofs.Exists.{phrase_exists}
use Rattle.ath_syntax.proofs.phrases.Phrases.node.Goals as goal

pub returns-clause-stands : goal.returns-clause-stands
returns-clause-stands c =
    subst (λ (s : Nodes). (t : Phrase) × IsPhrase s c.args.phrase t) c.self.view_is (phrase_exists _ c.self.invariant c.args.phrase (subst (λ (s : Nodes). c.args.phrase.0 < length s.phrases) (sym c.self.view_is) c.requires))

pub returns-clause-fits : goal.returns-clause-fits
returns-clause-fits c =
    let within : c.args.phrase.0 < length c.self.inside.phrases.items = subst (λ (s : Nodes). c.args.phrase.0 < length s.phrases) (sym c.self.view_is) c.requires in
    let e : slice_get c.self.inside.phrases.items c.args.phrase.0 ≡ Some c.index.result.now = slice_get_read _ _ _ _ refl within c.index.ensures in
    subst (λ (s : Nodes). Fits (before s c.args.phrase.0) c.index.result.now) c.self.view_is (c.self.invariant.phrase c.args.phrase.0 c.index.result.now e)
