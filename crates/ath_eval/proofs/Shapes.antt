-- What the node of a phrase tells of its evaluation.
use Rattle.std.proofs.Common.{◌≡◌, ℕ, List, [], Option, Some, refl, sym, subst}
use Rattle.std.specs.Prelude.{slice_get}
use Rattle.ath_sorts.specs.declared.sorts.Sym.{Sym}
use Rattle.ath_syntax.specs.declared.place.Pos.{Pos}
use Rattle.ath_syntax.specs.declared.node.PhraseId.{PhraseId}
use Rattle.ath_syntax.specs.declared.node.Form.{Form}
use Rattle.ath_syntax.specs.declared.node.Form.TheVariants.{Name, Var, Ascribe, Apply, Call}
use Rattle.ath_syntax.specs.declared.node.Node.{Node}
use Rattle.ath_syntax.specs.Nodes.{Nodes}
use Rattle.ath_syntax.specs.declared.node.SortText.{SortText}
use Rattle.ath_syntax.specs.Tree.{Phrase, ascribe_at, apply_at, call_at, Phrases, no_phrases}
use Rattle.ath_syntax.specs.Stands.{IsPhrase, IsForm, is_name, is_variable, is_string, is_list, is_ascribe, is_apply, is_call, is_lambda, is_method, is_let, is_letrec, is_match, is_check, is_try, is_seq, is_assume, is_absurd, is_pick_any, is_pick_witness, is_induct, is_cases, is_conclude, ArePhrases, phrases_none}
use Rattle.ath_syntax.proofs.NodeLaws.{node_of, node_at, form_of}
use Rattle.ath_env.specs.LookUp.{looked_up}
use Rattle.ath_eval.specs.Evaluation.{found, variable, unbuilt, evaluated}
use Rattle.ath_syntax.specs.Places.{place}
use Rattle.ath_eval.specs.declared.frame.Use.{Use}
use Rattle.ath_eval.specs.declared.frame.Use.TheVariants as uses
use Rattle.ath_eval.specs.Machine.{forms, used, acts, form_arguments, node_arguments, arguments_at}
use Rattle.ath_eval.specs.Outcomes.{Context, Environment, Left, and_then, each}

-- the arguments of a phrase, where it has some
abbrev arguments : Phrase → Phrases
arguments (apply_at p f xs) = xs
arguments (call_at p f xs) = xs
arguments x = no_phrases

module _ (nodes : Nodes) where
  pub form_here : (i : PhraseId) (n : Node) (x : Phrase) → IsPhrase nodes i x → slice_get nodes.phrases i.0 ≡ Some n → IsForm nodes n.pos n.form x
  form_here i n x isp at = form_of nodes n x (node_at nodes i n x isp at)

  -- the place of a form, and its arguments
  form_tells : (p : Pos) (f : Form) (x : Phrase) → IsForm nodes p f x → (place x ≡ p) × ArePhrases nodes (form_arguments f) (arguments x)
  form_tells p f x is_name = (refl, phrases_none)
  form_tells p f x is_variable = (refl, phrases_none)
  form_tells p f x is_string = (refl, phrases_none)
  form_tells p f x (is_list h) = (refl, phrases_none)
  form_tells p f x (is_ascribe h) = (refl, phrases_none)
  form_tells p f x (is_apply h k) = (refl, k)
  form_tells p f x (is_call h k) = (refl, k)
  form_tells p f x (is_lambda h) = (refl, phrases_none)
  form_tells p f x (is_method h) = (refl, phrases_none)
  form_tells p f x (is_let h k) = (refl, phrases_none)
  form_tells p f x (is_letrec h k) = (refl, phrases_none)
  form_tells p f x (is_match h k) = (refl, phrases_none)
  form_tells p f x (is_check h k) = (refl, phrases_none)
  form_tells p f x (is_try h) = (refl, phrases_none)
  form_tells p f x (is_seq h) = (refl, phrases_none)
  form_tells p f x (is_assume h k) = (refl, phrases_none)
  form_tells p f x (is_absurd h k) = (refl, phrases_none)
  form_tells p f x (is_pick_any h) = (refl, phrases_none)
  form_tells p f x (is_pick_witness h k) = (refl, phrases_none)
  form_tells p f x (is_induct h k) = (refl, phrases_none)
  form_tells p f x (is_cases h k) = (refl, phrases_none)
  form_tells p f x (is_conclude h k) = (refl, phrases_none)

  pub place_of : (p : Pos) (f : Form) (x : Phrase) → IsForm nodes p f x → place x ≡ p
  place_of p f x h = (form_tells p f x h).0

  arguments_stand : (i : PhraseId) (x : Phrase) → IsPhrase nodes i x → ArePhrases nodes (arguments_at nodes i) (arguments x)
  arguments_stand i x isp =
      let n = node_of nodes i x isp in
      subst (λ (o : Option Node). ArePhrases nodes (node_arguments o) (arguments x)) (sym n.1) (form_tells n.0.pos n.0.form x (form_of nodes n.0 x n.2)).1

  -- the arguments of an application or a call
  pub used_stand : (u : Use) (i : PhraseId) (p : Pos) (f : Phrase) (xs : Phrases) → IsPhrase nodes i (used u p f xs) → ArePhrases nodes (arguments_at nodes i) xs
  used_stand uses.Apply i p f xs h = arguments_stand i (apply_at p f xs) h
  used_stand uses.Call i p f xs h = arguments_stand i (call_at p f xs) h

  -- its place
  pub used_place : (u : Use) (i : PhraseId) (n : Node) (p : Pos) (f : Phrase) (xs : Phrases) → IsPhrase nodes i (used u p f xs) → slice_get nodes.phrases i.0 ≡ Some n → p ≡ n.pos
  used_place uses.Apply i n p f xs h at = place_of n.pos n.form (apply_at p f xs) (form_here i n (apply_at p f xs) h at)
  used_place uses.Call i n p f xs h at = place_of n.pos n.form (call_at p f xs) (form_here i n (call_at p f xs) h at)

  -- the form of an ascription
  pub ascription_form : (p q : Pos) (f : Form) (x : Phrase) (s : SortText) → IsForm nodes p f (ascribe_at q x s) → (j : PhraseId) × (f ≡ Ascribe j s) × (p ≡ q)
  ascription_form p q f x s (is_ascribe {i = j} h) = (j, refl, refl)

  module _ (c : Context) (levels : ℕ) (env : Environment) where
    pub form_name : (p : Pos) (f : Form) (x : Phrase) (n : Sym) → f ≡ Name n → IsForm nodes p f x → forms c levels env x ≡ found c n p (looked_up c.names c.theory.signature n)
    form_name p f x n e h = go x (subst (λ (y : Form). IsForm nodes p y x) e h)
      where
        go : (x : Phrase) → IsForm nodes p (Name n) x → forms c levels env x ≡ found c n p (looked_up c.names c.theory.signature n)
        go x is_name = refl

    pub form_variable : (p : Pos) (f : Form) (x : Phrase) (n : Sym) (k : ℕ) (s : Option SortText) → f ≡ Var n k s → IsForm nodes p f x → forms c levels env x ≡ variable c n k s p
    form_variable p f x n k s e h = go x (subst (λ (y : Form). IsForm nodes p y x) e h)
      where
        go : (x : Phrase) → IsForm nodes p (Var n k s) x → forms c levels env x ≡ variable c n k s p
        go x is_variable = refl

    pub form_other : (p : Pos) (f : Form) (x : Phrase) → ((n : Sym) → f ≡ Name n → ⊥) → ((n : Sym) (k : ℕ) (s : Option SortText) → f ≡ Var n k s → ⊥) → ((j : PhraseId) (s : SortText) → f ≡ Ascribe j s → ⊥) → ((j : PhraseId) (is : List PhraseId) → f ≡ Apply j is → ⊥) → ((j : PhraseId) (is : List PhraseId) → f ≡ Call j is → ⊥) → IsForm nodes p f x → forms c levels env x ≡ unbuilt p
    form_other p f x nn nv ns na nc (is_name {x = n}) = absurd (nn n refl)
    form_other p f x nn nv ns na nc (is_variable {x = n} {k = k} {o = s}) = absurd (nv n k s refl)
    form_other p f x nn nv ns na nc is_string = refl
    form_other p f x nn nv ns na nc (is_list h) = refl
    form_other p f x nn nv ns na nc (is_ascribe {i = j} {o = s} h) = absurd (ns j s refl)
    form_other p f x nn nv ns na nc (is_apply {i = j} {is = js} h k) = absurd (na j js refl)
    form_other p f x nn nv ns na nc (is_call {i = j} {is = js} h k) = absurd (nc j js refl)
    form_other p f x nn nv ns na nc (is_lambda h) = refl
    form_other p f x nn nv ns na nc (is_method h) = refl
    form_other p f x nn nv ns na nc (is_let h k) = refl
    form_other p f x nn nv ns na nc (is_letrec h k) = refl
    form_other p f x nn nv ns na nc (is_match h k) = refl
    form_other p f x nn nv ns na nc (is_check h k) = refl
    form_other p f x nn nv ns na nc (is_try h) = refl
    form_other p f x nn nv ns na nc (is_seq h) = refl
    form_other p f x nn nv ns na nc (is_assume h k) = refl
    form_other p f x nn nv ns na nc (is_absurd h k) = refl
    form_other p f x nn nv ns na nc (is_pick_any h) = refl
    form_other p f x nn nv ns na nc (is_pick_witness h k) = refl
    form_other p f x nn nv ns na nc (is_induct h k) = refl
    form_other p f x nn nv ns na nc (is_cases h k) = refl
    form_other p f x nn nv ns na nc (is_conclude h k) = refl

    -- what is ascribed a sort
    abbrev pub PartOf : Pos → SortText → PhraseId → Phrase → Type 0
    PartOf p s j x = (h : Phrase) × IsPhrase nodes j h × (x ≡ ascribe_at p h s)

    pub part_ascribed : (p : Pos) (f : Form) (x : Phrase) (j : PhraseId) (s : SortText) → f ≡ Ascribe j s → IsForm nodes p f x → PartOf p s j x
    part_ascribed p f x j s e h = go x (subst (λ (y : Form). IsForm nodes p y x) e h)
      where
        go : (x : Phrase) → IsForm nodes p (Ascribe j s) x → PartOf p s j x
        go x (is_ascribe {t = t} a) = (t, a, refl)

    -- the head of an application or a call, and what becomes of its value
    abbrev pub HeadOf : Use → PhraseId → Phrase → Type 0
    HeadOf u j x =
        (p : Pos) × (h : Phrase) × (xs : Phrases) × (x ≡ used u p h xs) × IsPhrase nodes j h
        × ((left : Left) → forms c levels env x left ≡ and_then (evaluated c levels env h left) (λ v. each (evaluated c levels) env [] xs (acts c levels u p v)))

    pub head_applied : (p : Pos) (f : Form) (x : Phrase) (j : PhraseId) (is : List PhraseId) → f ≡ Apply j is → IsForm nodes p f x → HeadOf uses.Apply j x
    head_applied p f x j is e h = go x (subst (λ (y : Form). IsForm nodes p y x) e h)
      where
        go : (x : Phrase) → IsForm nodes p (Apply j is) x → HeadOf uses.Apply j x
        go x (is_apply {t = t} {ts = ts} a b) = (p, t, ts, refl, a, λ left. refl)

    pub head_called : (p : Pos) (f : Form) (x : Phrase) (j : PhraseId) (is : List PhraseId) → f ≡ Call j is → IsForm nodes p f x → HeadOf uses.Call j x
    head_called p f x j is e h = go x (subst (λ (y : Form). IsForm nodes p y x) e h)
      where
        go : (x : Phrase) → IsForm nodes p (Call j is) x → HeadOf uses.Call j x
        go x (is_call {t = t} {ts = ts} a b) = (p, t, ts, refl, a, λ left. refl)
