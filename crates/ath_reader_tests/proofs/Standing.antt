-- A directive that is answered stands for a tree, and the number of its phrase is there.
use Rattle.std.proofs.Common.{◌≡◌, ℕ, ◌<◌, List, length, slice_get, Some, Ok, Err, subst}
use Rattle.std.proofs.lemmas.Option.{slice_get_within}
use Rattle.ath_syntax.specs.declared.directive.Directive.{Directive}
use Rattle.ath_syntax.specs.declared.directive.What.{What}
use Rattle.ath_syntax.specs.declared.directive.What.TheVariants.{Phrase as Plain}
use Rattle.ath_syntax.specs.declared.node.PhraseId.{PhraseId}
use Rattle.ath_syntax.specs.Nodes as syntax
use Rattle.ath_syntax.specs.Stands.{is_phrase, IsStatement, says_domain, says_datatype, says_declare, says_define, says_define_fun, says_assert, says_load, says_phrase, IsDirective, is_directive}
use Rattle.ath_syntax.specs.Tree.{DirectiveTree, Statement}
use Rattle.ath_names.specs.Names.{KeepsNames}
use Rattle.ath_names.proofs.NamesLaws.{KeepsNames-trans}
use Rattle.ath_reader.specs.Reading.{Reading, Progress, reached, refused}
use Rattle.ath_reader.specs.Answering.{Answers}

-- a directive that is answered stands for a tree
pub answers_stand : (r : Reading) (p : Progress) (names : List (List ℕ)) (s : syntax.Nodes) (d : Directive) (new : Reading) (names' : List (List ℕ)) (s' : syntax.Nodes) → Answers r p names s (Ok (Some d)) new names' s' → (t : DirectiveTree) × IsDirective s' d t
answers_stand r (reached from) names s d new names' s' h = (h.1.tree, h.1.stands)
answers_stand r (refused e) names s d new names' s' h = let clash : Ok (Some d) ≡ Err e = h.0 in absurd cc

-- the number of a directive's phrase is there
module _ (s : syntax.Nodes) where
  phrase_there : (i : PhraseId) (w : What) (t : Statement) → w ≡ Plain i → IsStatement s w t → i.0 < length s.phrases
  phrase_there i w t e says_domain = absurd cc
  phrase_there i w t e says_datatype = absurd cc
  phrase_there i w t e says_declare = absurd cc
  phrase_there i w t e (says_define h) = absurd cc
  phrase_there i w t e (says_define_fun h) = absurd cc
  phrase_there i w t e (says_assert h) = absurd cc
  phrase_there i w t e says_load = absurd cc
  phrase_there i w t e (says_phrase {i = j} (is_phrase {n = n} h k)) =
      let same : j ≡ i = cc in
      slice_get_within s.phrases i.0 n (subst (λ (x : PhraseId). slice_get s.phrases x.0 ≡ Some n) same h)

  pub number_there : (d : Directive) (i : PhraseId) → d.what ≡ Plain i → ((t : DirectiveTree) × IsDirective s d t) → i.0 < length s.phrases
  number_there d i e (t, is_directive {t = statement} h) = phrase_there i d.what statement e h

pub names_grown : {first names more : List (List ℕ)} → KeepsNames first names → KeepsNames names more → KeepsNames first more
names_grown g h = KeepsNames-trans g h
