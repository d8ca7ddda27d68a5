-- What is built, by the nodes of phrases.
use Rattle.std.proofs.Common.{◌≡◌, ℕ, ◌<◌, ◌+◌, Bool, true, false, List, [], ◌∷◌, length, get_or, take, drop, Option, Some, None, is_some, cond, refl, sym, ◌∙◌, ap, subst, add-one, drop-cons, arith}
use Rattle.std.specs.Prelude.{slice_get}
use Rattle.std.specs.List.{All}
use Rattle.std.specs.Str.{bytes_eq}
use Rattle.std.proofs.lemmas.List.{length-take, drop_all}
use Rattle.std.proofs.lemmas.List.Elements.{All-weaker, All-nil, All-cons, All-same}
use Rattle.std.proofs.lemmas.Option.{slice_get_within}
use Rattle.ath_sorts.specs.declared.sorts.Sym.{Sym}
use Rattle.ath_syntax.specs.declared.place.Pos.{Pos}
use Rattle.ath_syntax.specs.declared.node.PhraseId.{PhraseId}
use Rattle.ath_syntax.specs.declared.node.Form.{Form}
use Rattle.ath_syntax.specs.declared.node.Form.TheVariants.{Name, Var, Ascribe, Apply, Call}
use Rattle.ath_syntax.specs.declared.node.SortText.{SortText}
use Rattle.ath_syntax.specs.declared.node.Node.{Node}
use Rattle.ath_syntax.specs.Nodes.{Nodes}
use Rattle.ath_syntax.specs.Fits.{IsPart, IsKind, FitsForm, before}
use Rattle.ath_syntax.specs.Tree.{Phrase, name_at, variable_at, ascribe_at, apply_at, call_at, Phrases, no_phrases, more_phrases}
use Rattle.ath_syntax.specs.Stands.{IsPhrase, IsForm, is_name, is_variable, is_string, is_list, is_ascribe, is_apply, is_call, is_lambda, is_method, is_let, is_letrec, is_match, is_check, is_try, is_seq, is_assume, is_absurd, is_pick_any, is_pick_witness, is_induct, is_cases, is_conclude, ArePhrases, phrases_none, phrases_more}
use Rattle.ath_syntax.proofs.Growth.{part_of_kind}
use Rattle.ath_syntax.proofs.One.{one_phrase}
use Rattle.ath_env.specs.LookUp.{text_of}
use Rattle.ath_syntax.specs.Places.{place}
use Rattle.ath_eval.proofs.Shapes.{form_here, place_of}
use Rattle.ath_session.specs.Unbuilt as built
use Rattle.ath_session.specs.Parts.{ArePartsOf, parts}

module _ (s : Nodes) where
  -- ---- parts have smaller numbers
  below : (n : ℕ) (i : PhraseId) → IsPart (before s n) i → i.0 < n
  below n i h = omega (arith, length-take n s.phrases, h)

  below_of_kind : (n : ℕ) (d : Bool) (i : PhraseId) → IsKind (before s n) d i → i.0 < n
  below_of_kind n d i h = let m = part_of_kind (before s n) d i h in below n i (slice_get_within (take n s.phrases) i.0 m.0 m.1)

  pub apply_below : (n : ℕ) (d : Bool) (f : Form) (j : PhraseId) (is : List PhraseId) → f ≡ Apply j is → FitsForm (before s n) d f → All (λ i. i.0 < n) is
  apply_below n d f j is e h =
      let k = subst (λ (g : Form). FitsForm (before s n) d g) e h in
      All-weaker (IsKind (before s n) false) (λ (i : PhraseId). i.0 < n) (below_of_kind n false) is k.2

  pub ascribe_below : (n : ℕ) (d : Bool) (f : Form) (j : PhraseId) (o : SortText) (is : List PhraseId) → f ≡ Ascribe j o → is ≡ j ∷ [] → FitsForm (before s n) d f → All (λ i. i.0 < n) is
  ascribe_below n d f j o is e same h =
      let k = subst (λ (g : Form). FitsForm (before s n) d g) e h in
      All-same (λ (i : PhraseId). i.0 < n) is (j ∷ []) same (All-cons (λ (i : PhraseId). i.0 < n) j [] (below_of_kind n false j k.1) (All-nil (λ (i : PhraseId). i.0 < n)))

  pub call_below : (n : ℕ) (d : Bool) (f : Form) (j : PhraseId) (is : List PhraseId) → f ≡ Call j is → FitsForm (before s n) d f → All (λ i. i.0 < n) is
  call_below n d f j is e h =
      let k = subst (λ (g : Form). FitsForm (before s n) d g) e h in
      All-weaker (IsPart (before s n)) (λ (i : PhraseId). i.0 < n) (below n) is k.2

  -- ---- the node of a phrase
  pub place_here : (i : PhraseId) (n : Node) (x : Phrase) → slice_get s.phrases i.0 ≡ Some n → IsPhrase s i x → place x ≡ n.pos
  place_here i n x at h = place_of s n.pos n.form x (form_here s i n x h at)

  pub name_here : (names : List (List ℕ)) (text : List ℕ) (i : PhraseId) (n : Node) (y : Sym) → slice_get s.phrases i.0 ≡ Some n → n.form ≡ Name y → (x : Phrase) → IsPhrase s i x → bytes_eq (text_of names y) text ≡ built.is_name names text x
  name_here names text i n y at e x h = go x (subst (λ (f : Form). IsForm s n.pos f x) e (form_here s i n x h at))
    where
      go : (x : Phrase) → IsForm s n.pos (Name y) x → bytes_eq (text_of names y) text ≡ built.is_name names text x
      go x is_name = refl

  pub head_here : (i : PhraseId) (n : Node) (y : Sym) → slice_get s.phrases i.0 ≡ Some n → n.form ≡ Name y → (x : Phrase) → IsPhrase s i x → true ≡ built.is_head x
  head_here i n y at e x h = go x (subst (λ (f : Form). IsForm s n.pos f x) e (form_here s i n x h at))
    where
      go : (x : Phrase) → IsForm s n.pos (Name y) x → true ≡ built.is_head x
      go x is_name = refl

  no_head_form : (p : Pos) (f : Form) (x : Phrase) → ((y : Sym) → f ≡ Name y → ⊥) → IsForm s p f x → false ≡ built.is_head x
  no_head_form p f x nn (is_name {x = y}) = absurd (nn y refl)
  no_head_form p f x nn is_variable = refl
  no_head_form p f x nn is_string = refl
  no_head_form p f x nn (is_list h) = refl
  no_head_form p f x nn (is_ascribe h) = refl
  no_head_form p f x nn (is_apply h k) = refl
  no_head_form p f x nn (is_call h k) = refl
  no_head_form p f x nn (is_lambda h) = refl
  no_head_form p f x nn (is_method h) = refl
  no_head_form p f x nn (is_let h k) = refl
  no_head_form p f x nn (is_letrec h k) = refl
  no_head_form p f x nn (is_match h k) = refl
  no_head_form p f x nn (is_check h k) = refl
  no_head_form p f x nn (is_try h) = refl
  no_head_form p f x nn (is_seq h) = refl
  no_head_form p f x nn (is_assume h k) = refl
  no_head_form p f x nn (is_absurd h k) = refl
  no_head_form p f x nn (is_pick_any h) = refl
  no_head_form p f x nn (is_pick_witness h k) = refl
  no_head_form p f x nn (is_induct h k) = refl
  no_head_form p f x nn (is_cases h k) = refl
  no_head_form p f x nn (is_conclude h k) = refl

  pub no_head_here : (i : PhraseId) (n : Node) → slice_get s.phrases i.0 ≡ Some n → ((y : Sym) → n.form ≡ Name y → ⊥) → (x : Phrase) → IsPhrase s i x → false ≡ built.is_head x
  no_head_here i n at nn x h = no_head_form n.pos n.form x nn (form_here s i n x h at)

  no_name : (names : List (List ℕ)) (text : List ℕ) (x : Phrase) → false ≡ built.is_head x → false ≡ built.is_name names text x
  no_name names text (name_at p y) e = absurd (cc)
  no_name names text x e = refl

  pub no_name_here : (names : List (List ℕ)) (text : List ℕ) (i : PhraseId) (n : Node) → slice_get s.phrases i.0 ≡ Some n → ((y : Sym) → n.form ≡ Name y → ⊥) → (x : Phrase) → IsPhrase s i x → false ≡ built.is_name names text x
  no_name_here names text i n at nn x h = no_name names text x (no_head_here i n at nn x h)

  -- ---- heads and parts
  pub record Application (p : Pos) (j : PhraseId) (is : List PhraseId) (x : Phrase) : Type 0 where
    pub head : Phrase
    pub args : Phrases
    pub is_head : IsPhrase s j head
    pub are_args : ArePhrases s is args
    pub whole : x ≡ apply_at p head args

  pub record MethodCall (p : Pos) (j : PhraseId) (is : List PhraseId) (x : Phrase) : Type 0 where
    pub head : Phrase
    pub args : Phrases
    pub is_head : IsPhrase s j head
    pub are_args : ArePhrases s is args
    pub whole : x ≡ call_at p head args

  pub apply_here : (i : PhraseId) (n : Node) (j : PhraseId) (is : List PhraseId) → slice_get s.phrases i.0 ≡ Some n → n.form ≡ Apply j is → (x : Phrase) → IsPhrase s i x → Application n.pos j is x
  apply_here i n j is at e x h = go x (subst (λ (f : Form). IsForm s n.pos f x) e (form_here s i n x h at))
    where
      go : (x : Phrase) → IsForm s n.pos (Apply j is) x → Application n.pos j is x
      go x (is_apply {t = t} {ts = ts} a b) = record { head = t; args = ts; is_head = a; are_args = b; whole = refl }

  pub call_here : (i : PhraseId) (n : Node) (j : PhraseId) (is : List PhraseId) → slice_get s.phrases i.0 ≡ Some n → n.form ≡ Call j is → (x : Phrase) → IsPhrase s i x → MethodCall n.pos j is x
  call_here i n j is at e x h = go x (subst (λ (f : Form). IsForm s n.pos f x) e (form_here s i n x h at))
    where
      go : (x : Phrase) → IsForm s n.pos (Call j is) x → MethodCall n.pos j is x
      go x (is_call {t = t} {ts = ts} a b) = record { head = t; args = ts; is_head = a; are_args = b; whole = refl }

  pub name_parts : (names : List (List ℕ)) (i : PhraseId) (n : Node) (y : Sym) → slice_get s.phrases i.0 ≡ Some n → n.form ≡ Name y → (x : Phrase) → IsPhrase s i x → ArePartsOf s (Some []) (parts names x)
  name_parts names i n y at e x h = go x (subst (λ (f : Form). IsForm s n.pos f x) e (form_here s i n x h at))
    where
      go : (x : Phrase) → IsForm s n.pos (Name y) x → ArePartsOf s (Some []) (parts names x)
      go x is_name = phrases_none

  pub variable_parts : (names : List (List ℕ)) (i : PhraseId) (n : Node) (y : Sym) (k : ℕ) (o : Option SortText) → slice_get s.phrases i.0 ≡ Some n → n.form ≡ Var y k o → (x : Phrase) → IsPhrase s i x → ArePartsOf s (Some []) (parts names x)
  variable_parts names i n y k o at e x h = go x (subst (λ (f : Form). IsForm s n.pos f x) e (form_here s i n x h at))
    where
      go : (x : Phrase) → IsForm s n.pos (Var y k o) x → ArePartsOf s (Some []) (parts names x)
      go x is_variable = phrases_none

  pub ascribe_parts : (names : List (List ℕ)) (i : PhraseId) (n : Node) (j : PhraseId) (o : SortText) (is : List PhraseId) → slice_get s.phrases i.0 ≡ Some n → n.form ≡ Ascribe j o → is ≡ j ∷ [] → (x : Phrase) → IsPhrase s i x → ArePartsOf s (Some is) (parts names x)
  ascribe_parts names i n j o is at e same x h = subst (λ (is : List PhraseId). ArePartsOf s (Some is) (parts names x)) (sym same) (go x (subst (λ (f : Form). IsForm s n.pos f x) e (form_here s i n x h at)))
    where
      go : (x : Phrase) → IsForm s n.pos (Ascribe j o) x → ArePartsOf s (Some (j ∷ [])) (parts names x)
      go x (is_ascribe a) = phrases_more a phrases_none

  parts_where : (is : List PhraseId) (xs : Phrases) → ArePhrases s is xs → (b : Bool) → ArePartsOf s (cond b (Some is) None) (cond b (Some xs) None)
  parts_where is xs h true = h
  parts_where is xs h false = tt

  pub apply_parts : (names : List (List ℕ)) (b : Bool) (i : PhraseId) (n : Node) (j : PhraseId) (is : List PhraseId) → slice_get s.phrases i.0 ≡ Some n → n.form ≡ Apply j is → ((y : Phrase) → IsPhrase s j y → b ≡ built.is_head y) → (x : Phrase) → IsPhrase s i x → ArePartsOf s (cond b (Some is) None) (parts names x)
  apply_parts names b i n j is at e f x h =
      let a = apply_here i n j is at e x h in
      let k = parts_where is a.args a.are_args b in
      subst (λ (y : Phrase). ArePartsOf s (cond b (Some is) None) (parts names y)) (sym a.whole) (subst (λ (c : Bool). ArePartsOf s (cond b (Some is) None) (cond c (Some a.args) None)) (f a.head a.is_head) k)

  pub call_parts : (names : List (List ℕ)) (b : Bool) (i : PhraseId) (n : Node) (j : PhraseId) (is : List PhraseId) → slice_get s.phrases i.0 ≡ Some n → n.form ≡ Call j is → ((y : Phrase) → IsPhrase s j y → b ≡ built.is_method_name names y) → (x : Phrase) → IsPhrase s i x → ArePartsOf s (cond b (Some is) None) (parts names x)
  call_parts names b i n j is at e f x h =
      let a = call_here i n j is at e x h in
      let k = parts_where is a.args a.are_args b in
      subst (λ (y : Phrase). ArePartsOf s (cond b (Some is) None) (parts names y)) (sym a.whole) (subst (λ (c : Bool). ArePartsOf s (cond b (Some is) None) (cond c (Some a.args) None)) (f a.head a.is_head) k)

  other_parts : (names : List (List ℕ)) (p : Pos) (f : Form) (x : Phrase) → ((y : Sym) → f ≡ Name y → ⊥) → ((y : Sym) (k : ℕ) (o : Option SortText) → f ≡ Var y k o → ⊥) → ((j : PhraseId) (o : SortText) → f ≡ Ascribe j o → ⊥) → ((j : PhraseId) (is : List PhraseId) → f ≡ Apply j is → ⊥) → ((j : PhraseId) (is : List PhraseId) → f ≡ Call j is → ⊥) → IsForm s p f x → ArePartsOf s None (parts names x)
  other_parts names p f x nn nv ns na nc (is_name {x = y}) = absurd (nn y refl)
  other_parts names p f x nn nv ns na nc (is_variable {x = y} {k = k} {o = o}) = absurd (nv y k o refl)
  other_parts names p f x nn nv ns na nc is_string = tt
  other_parts names p f x nn nv ns na nc (is_list h) = tt
  other_parts names p f x nn nv ns na nc (is_ascribe {i = j} {o = o} h) = absurd (ns j o refl)
  other_parts names p f x nn nv ns na nc (is_apply {i = j} {is = js} h k) = absurd (na j js refl)
  other_parts names p f x nn nv ns na nc (is_call {i = j} {is = js} h k) = absurd (nc j js refl)
  other_parts names p f x nn nv ns na nc (is_lambda h) = tt
  other_parts names p f x nn nv ns na nc (is_method h) = tt
  other_parts names p f x nn nv ns na nc (is_let h k) = tt
  other_parts names p f x nn nv ns na nc (is_letrec h k) = tt
  other_parts names p f x nn nv ns na nc (is_match h k) = tt
  other_parts names p f x nn nv ns na nc (is_check h k) = tt
  other_parts names p f x nn nv ns na nc (is_try h) = tt
  other_parts names p f x nn nv ns na nc (is_seq h) = tt
  other_parts names p f x nn nv ns na nc (is_assume h k) = tt
  other_parts names p f x nn nv ns na nc (is_absurd h k) = tt
  other_parts names p f x nn nv ns na nc (is_pick_any h) = tt
  other_parts names p f x nn nv ns na nc (is_pick_witness h k) = tt
  other_parts names p f x nn nv ns na nc (is_induct h k) = tt
  other_parts names p f x nn nv ns na nc (is_cases h k) = tt
  other_parts names p f x nn nv ns na nc (is_conclude h k) = tt

  pub no_parts_here : (names : List (List ℕ)) (i : PhraseId) (n : Node) → slice_get s.phrases i.0 ≡ Some n → ((y : Sym) → n.form ≡ Name y → ⊥) → ((y : Sym) (k : ℕ) (o : Option SortText) → n.form ≡ Var y k o → ⊥) → ((j : PhraseId) (o : SortText) → n.form ≡ Ascribe j o → ⊥) → ((j : PhraseId) (is : List PhraseId) → n.form ≡ Apply j is → ⊥) → ((j : PhraseId) (is : List PhraseId) → n.form ≡ Call j is → ⊥) → (x : Phrase) → IsPhrase s i x → ArePartsOf s None (parts names x)
  no_parts_here names i n at nn nv ns na nc x h = other_parts names n.pos n.form x nn nv ns na nc (form_here s i n x h at)

  -- ---- lists of phrases, from a place on
  pub record Front (is : List PhraseId) (k : ℕ) (i : PhraseId) (xs : Phrases) : Type 0 where
    pub first : Phrase
    pub rest : Phrases
    pub is_first : IsPhrase s i first
    pub are_rest : ArePhrases s (drop (k + 1) is) rest
    pub whole : xs ≡ more_phrases first rest

  pub front : (is : List PhraseId) (k : ℕ) (d : PhraseId) (xs : Phrases) → k < length is → ArePhrases s (drop k is) xs → Front is k (get_or is k d) xs
  front is k d xs lt h = go xs (subst (λ (js : List PhraseId). ArePhrases s js xs) (rw add-one (drop-cons is k d lt)) h)
    where
      go : (xs : Phrases) → ArePhrases s (get_or is k d ∷ drop (k + 1) is) xs → Front is k (get_or is k d) xs
      go xs (phrases_more {t = t} {ts = ts} a b) = record { first = t; rest = ts; is_first = a; are_rest = b; whole = refl }

  pub at_end : (is : List PhraseId) (k : ℕ) (xs : Phrases) → length is < k + 1 → ArePhrases s (drop k is) xs → xs ≡ no_phrases
  at_end is k xs le h = go xs (subst (λ (js : List PhraseId). ArePhrases s js xs) (drop_all k is (omega (arith, le))) h)
    where
      go : (xs : Phrases) → ArePhrases s [] xs → xs ≡ no_phrases
      go xs phrases_none = refl

-- ---- the first node that isn't built, by the parts
abbrev told : List (List ℕ) → Phrase → Option Phrases → Option Pos
told names x None = Some (place x)
told names x (Some xs) = built.unbuilt_among names xs

told_where : (names : List (List ℕ)) (x : Phrase) (xs : Phrases) (b : Bool) → cond b (built.unbuilt_among names xs) (Some (place x)) ≡ told names x (cond b (Some xs) None)
told_where names x xs true = refl
told_where names x xs false = refl

or_none : (o : Option Pos) → built.or_else o None ≡ o
or_none None = refl
or_none (Some p) = refl

unbuilt_by_parts : (names : List (List ℕ)) (x : Phrase) → built.unbuilt names x ≡ told names x (parts names x)
unbuilt_by_parts names (name_at p n) = refl
unbuilt_by_parts names (variable_at p x k s) = refl
unbuilt_by_parts names (ascribe_at p x s) = sym (or_none (built.unbuilt names x))
unbuilt_by_parts names (apply_at p f xs) = told_where names (apply_at p f xs) xs (built.is_head f)
unbuilt_by_parts names (call_at p f xs) = told_where names (call_at p f xs) xs (built.is_method_name names f)
unbuilt_by_parts names x = refl

module _ (s : Nodes) (names : List (List ℕ)) (i : PhraseId) where
  pub unbuilt_here : (n : Node) → slice_get s.phrases i.0 ≡ Some n → (x : Phrase) → IsPhrase s i x → ArePartsOf s None (parts names x) → Some n.pos ≡ built.unbuilt names x
  unbuilt_here n at x h a = sym (unbuilt_by_parts names x ∙ by (parts names x) a)
    where
      by : (o : Option Phrases) → ArePartsOf s None o → told names x o ≡ Some n.pos
      by None a = ap Some (place_here s i n x at h)
      by (Some xs) a = absurd a

  -- the parts before this place are built
  pub record BuiltTo (is : List PhraseId) (k : ℕ) : Type 0 where
    pub rest : Phrases
    pub stand : ArePhrases s (drop k is) rest
    pub same : (x : Phrase) → IsPhrase s i x → built.unbuilt names x ≡ built.unbuilt_among names rest

  pub built_init : (is : List PhraseId) → ((x : Phrase) × IsPhrase s i x) → ((x : Phrase) → IsPhrase s i x → ArePartsOf s (Some is) (parts names x)) → BuiltTo is 0
  built_init is h a = by (parts names h.0) refl (a h.0 h.1)
    where
      by : (o : Option Phrases) → parts names h.0 ≡ o → ArePartsOf s (Some is) o → BuiltTo is 0
      by None e a = absurd a
      by (Some xs) e a = record {
        rest = xs;
        stand = a;
        same = λ x k. ap (built.unbuilt names) (one_phrase s i x h.0 k h.1) ∙ unbuilt_by_parts names h.0 ∙ ap (told names h.0) e;
      }

  pub next_part : (is : List PhraseId) (k : ℕ) (d : PhraseId) → k < length is → BuiltTo is k → (x : Phrase) × IsPhrase s (get_or is k d) x
  next_part is k d lt b = let f = front s is k d b.rest lt b.stand in (f.first, f.is_first)

  found_next : (is : List PhraseId) (k : ℕ) (d : PhraseId) (o : Option Pos) (lt : k < length is) (b : BuiltTo is k) → ((y : Phrase) → IsPhrase s (get_or is k d) y → o ≡ built.unbuilt names y) → (x : Phrase) → IsPhrase s i x → built.unbuilt names x ≡ built.or_else o (built.unbuilt_among names (front s is k d b.rest lt b.stand).rest)
  found_next is k d o lt b g x h =
      let f = front s is k d b.rest lt b.stand in
      b.same x h ∙ ap (built.unbuilt_among names) f.whole ∙ ap (λ q. built.or_else q (built.unbuilt_among names f.rest)) (sym (g f.first f.is_first))

  found_some : (o q : Option Pos) → is_some o ≡ true → built.or_else o q ≡ o
  found_some (Some p) q e = refl
  found_some None q e = absurd (cc)

  found_none : (o q : Option Pos) → is_some o ≡ false → built.or_else o q ≡ q
  found_none None q e = refl
  found_none (Some p) q e = absurd (cc)

  pub found_unbuilt : (is : List PhraseId) (k : ℕ) (d : PhraseId) (o : Option Pos) → is_some o ≡ true → k < length is → BuiltTo is k → ((y : Phrase) → IsPhrase s (get_or is k d) y → o ≡ built.unbuilt names y) → (x : Phrase) → IsPhrase s i x → o ≡ built.unbuilt names x
  found_unbuilt is k d o e lt b g x h = sym (found_next is k d o lt b g x h ∙ found_some o (built.unbuilt_among names (front s is k d b.rest lt b.stand).rest) e)

  pub built_next : (is : List PhraseId) (k : ℕ) (d : PhraseId) (o : Option Pos) → is_some o ≡ false → k < length is → BuiltTo is k → ((y : Phrase) → IsPhrase s (get_or is k d) y → o ≡ built.unbuilt names y) → BuiltTo is (k + 1)
  built_next is k d o e lt b g =
      let f = front s is k d b.rest lt b.stand in
      record {
        rest = f.rest;
        stand = f.are_rest;
        same = λ x h. found_next is k d o lt b g x h ∙ found_none o (built.unbuilt_among names f.rest) e;
      }

  pub all_built : (is : List PhraseId) (k : ℕ) → length is < k + 1 → BuiltTo is k → (x : Phrase) → IsPhrase s i x → None ≡ built.unbuilt names x
  all_built is k le b x h = sym (b.same x h ∙ ap (built.unbuilt_among names) (at_end s is k b.rest le b.stand))
