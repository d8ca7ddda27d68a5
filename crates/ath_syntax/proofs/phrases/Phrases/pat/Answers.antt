use Rattle.std.proofs.Common.{◌≡◌, ◌<◌, length, slice_get, take, Some, subst, sym, refl}
use Rattle.std.proofs.lemmas.Option.{slice_get_read}
use Rattle.ath_syntax.specs.Fits.{PatternFits}
use Rattle.ath_syntax.specs.Nodes.{Nodes}
use Rattle.ath_syntax.specs.Stands.{IsPattern}
use Rattle.ath_syntax.specs.Tree.{Pattern}
use Rattle.ath_syntax.proofs.Exists.{pattern_exists}
use Rattle.ath_syntax.proofs.phrases.Phrases.pat.Goals as goal

pub returns-clause-stands : goal.returns-clause-stands
returns-clause-stands c =
    subst (λ (s : Nodes). (t : Pattern) × IsPattern s.patterns c.args.pattern t) c.self.view_is (pattern_exists _ c.self.invariant c.args.pattern (subst (λ (s : Nodes). c.args.pattern.0 < length s.patterns) (sym c.self.view_is) c.requires))

pub returns-clause-fits : goal.returns-clause-fits
returns-clause-fits c =
    let within : c.args.pattern.0 < length c.self.inside.patterns.items = subst (λ (s : Nodes). c.args.pattern.0 < length s.patterns) (sym c.self.view_is) c.requires in
    let e : slice_get c.self.inside.patterns.items c.args.pattern.0 ≡ Some c.index.result.now = slice_get_read _ _ _ _ refl within c.index.ensures in
    subst (λ (s : Nodes). PatternFits (take c.args.pattern.0 s.patterns) c.index.result.now) c.self.view_is (c.self.invariant.pattern c.args.pattern.0 c.index.result.now e)
