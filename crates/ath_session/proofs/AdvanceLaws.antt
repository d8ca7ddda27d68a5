-- The innermost text is taken off.
use Rattle.std.proofs.Common.{◌≡◌, List, [], ◌∷◌, ◌++◌, reverse, ◌∙◌, ap}
use Rattle.ath_reader.specs.Reading.{Reading}
use Rattle.ath_session.specs.Run.{Configuration}
use Rattle.ath_session.proofs.ReadLaws.{innermost}

-- a text is open
pub popped : (c : Configuration) (all rest : List Reading) (r : Reading) → c.stack ≡ reverse all → all ≡ rest ++ r ∷ [] → c ≡ record c { stack = r ∷ reverse rest }
popped c all rest r e f = ap (λ (rs : List Reading). record c { stack = rs }) (e ∙ ap (λ (rs : List Reading). reverse rs) f ∙ innermost rest r)
