-- What a directive says, by its kind.
use Rattle.std.proofs.Common.{◌≡◌, List, [], Bool, false, Option, Some, None, is_some, ℕ, refl, subst}
use Rattle.ath_sorts.specs.declared.sorts.Sym.{Sym}
use Rattle.ath_syntax.specs.declared.place.Pos.{Pos}
use Rattle.ath_syntax.specs.declared.node.PhraseId.{PhraseId}
use Rattle.ath_syntax.specs.declared.node.SortText.{SortText}
use Rattle.ath_syntax.specs.declared.directive.What.{What}
use Rattle.ath_syntax.specs.declared.directive.What.TheVariants.{Domain, Declare, Assert, Load, Phrase as Plain}
use Rattle.ath_syntax.specs.declared.directive.Directive.{Directive}
use Rattle.ath_syntax.specs.Nodes.{Nodes}
use Rattle.ath_syntax.specs.Tree.{Phrase, Statement, domain_is, declare_is, assert_is, load_is, phrase_is, DirectiveTree, directive_at}
use Rattle.ath_syntax.specs.Stands.{IsPhrase, IsStatement, says_domain, says_datatype, says_declare, says_define, says_define_fun, says_assert, says_load, says_phrase, IsDirective, is_directive}
use Rattle.ath_print.specs.declared.fault.FaultKind.TheVariants.{NotBuilt}
use Rattle.ath_eval.specs.Outcomes.{refusal}
use Rattle.ath_session.specs.State.{State}
use Rattle.ath_session.specs.Unbuilt as built
use Rattle.ath_session.specs.Directives.{done, refusing}

module _ (s : Nodes) (w : What) (x : Statement) (h : IsStatement s w x) where
  pub declare_here : (ns : List Sym) (ps : Option (List Sym)) (os : List SortText) (o : SortText) → w ≡ Declare ns ps os o → x ≡ declare_is ns ps os o
  declare_here ns ps os o e = go x (subst (λ (u : What). IsStatement s u x) e h)
    where
      go : (x : Statement) → IsStatement s (Declare ns ps os o) x → x ≡ declare_is ns ps os o
      go x says_declare = refl

  pub domain_here : (n : Sym) (vs : List Sym) → w ≡ Domain n vs → x ≡ domain_is n vs
  domain_here n vs e = go x (subst (λ (u : What). IsStatement s u x) e h)
    where
      go : (x : Statement) → IsStatement s (Domain n vs) x → x ≡ domain_is n vs
      go x says_domain = refl

  pub load_here : (b : List ℕ) → w ≡ Load b → x ≡ load_is b
  load_here b e = go x (subst (λ (u : What). IsStatement s u x) e h)
    where
      go : (x : Statement) → IsStatement s (Load b) x → x ≡ load_is b
      go x says_load = refl

  pub assert_here : (n : Option Sym) (closed : Bool) (i : PhraseId) → w ≡ Assert n closed i → (t : Phrase) × IsPhrase s i t × (x ≡ assert_is n closed t)
  assert_here n closed i e = go x (subst (λ (u : What). IsStatement s u x) e h)
    where
      go : (x : Statement) → IsStatement s (Assert n closed i) x → (t : Phrase) × IsPhrase s i t × (x ≡ assert_is n closed t)
      go x (says_assert {t = t} k) = (t, k, refl)

  pub phrase_here : (i : PhraseId) → w ≡ Plain i → (t : Phrase) × IsPhrase s i t × (x ≡ phrase_is t)
  phrase_here i e = go x (subst (λ (u : What). IsStatement s u x) e h)
    where
      go : (x : Statement) → IsStatement s (Plain i) x → (t : Phrase) × IsPhrase s i t × (x ≡ phrase_is t)
      go x (says_phrase {t = t} k) = (t, k, refl)

-- a directive of another kind is told at its place, and is refused
pub record IsOther (x : Statement) : Type 0 where
  pub told : (names : List (List ℕ)) (at : Pos) → Some at ≡ built.unbuilt_in names at x
  pub refused : (st : State) (at : Pos) → refusing st at (refusal NotBuilt []) ≡ done st at x

pub other_here : (s : Nodes) (w : What) (x : Statement) → IsStatement s w x → ((n : Sym) (vs : List Sym) → w ≡ Domain n vs → ⊥) → ((ns : List Sym) (ps : Option (List Sym)) (os : List SortText) (o : SortText) → w ≡ Declare ns ps os o → ⊥) → ((n : Option Sym) (closed : Bool) (i : PhraseId) → w ≡ Assert n closed i → ⊥) → ((b : List ℕ) → w ≡ Load b → ⊥) → ((i : PhraseId) → w ≡ Plain i → ⊥) → IsOther x
other_here s w x (says_domain {x = n} {vs = vs}) nm nd na nl np = absurd (nm n vs refl)
other_here s w x says_datatype nm nd na nl np = record { told = λ names at. refl; refused = λ st at. refl }
other_here s w x (says_declare {xs = ns} {vs = ps} {os = os} {o = o}) nm nd na nl np = absurd (nd ns ps os o refl)
other_here s w x (says_define h) nm nd na nl np = record { told = λ names at. refl; refused = λ st at. refl }
other_here s w x (says_define_fun h) nm nd na nl np = record { told = λ names at. refl; refused = λ st at. refl }
other_here s w x (says_assert {x = n} {closed = c} {i = i} h) nm nd na nl np = absurd (na n c i refl)
other_here s w x (says_load {b = b}) nm nd na nl np = absurd (nl b refl)
other_here s w x (says_phrase {i = i} h) nm nd na nl np = absurd (np i refl)

-- an assertion without a name is told as its phrase
pub assert_bare : (names : List (List ℕ)) (at : Pos) (n : Option Sym) (closed : Bool) (t : Phrase) → is_some n ≡ false → built.unbuilt names t ≡ built.unbuilt_in names at (assert_is n closed t)
assert_bare names at None closed t e = refl
assert_bare names at (Some n) closed t e = absurd (cc)

-- the statement of a directive
pub statement_here : (s : Nodes) (d : Directive) (t : DirectiveTree) → IsDirective s d t → (x : Statement) × IsStatement s d.what x × (t ≡ directive_at d.pos x)
statement_here s d t (is_directive {t = x} h) = (x, h, refl)
