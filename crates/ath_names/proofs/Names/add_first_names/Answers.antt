-- All the first names differ, so each goes to the end.
use Rattle.std.proofs.Common.{◌≡◌, [], refl, ap, ◌∙◌, fold, codes}
use Rattle.std.specs.Fmt.{digits}
use Rattle.ath_names.specs.Names.{first_names, fixed_words, interned, numbered}
use Rattle.ath_names.proofs.Names.add_first_names.Goals as goal

all_join : fold interned (fold interned (fold interned [] fixed_words) (numbered (codes "x") 64)) (numbered (codes "y") 64) ≡ first_names
unfolding digits
all_join = refl

pub returns : goal.returns
returns c =
    c.in_ok-add_numbered-2.ensures
    ∙ ap (λ t. fold interned t (numbered (codes "y") 64)) (c.in_ok-add_numbered.ensures
    ∙ ap (λ t. fold interned t (numbered (codes "x") 64)) (c.in_ok-add_words.ensures ∙ ap (λ t. fold interned t fixed_words) c.requires))
    ∙ all_join
