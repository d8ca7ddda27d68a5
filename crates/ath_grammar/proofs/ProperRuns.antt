-- What is spelled where kinds are told apart keeps to the types of the grammar's symbols.
use Rattle.std.proofs.Common.{◌≡◌, ℕ, zero, suc, ◌+◌, ◌≤◌, List, [], ◌∷◌, ◌++◌, length, Bool, true, false, Option, Some, None, refl, sym, ap, ◌∙◌, subst, append_assoc, arith, if◌then◌else◌}
use Rattle.ath_sorts.specs.declared.sorts.Sym.{Sym}
use Rattle.std.specs.List.{IsDistinct}
use Rattle.ath_syntax.specs.Fits.{most}
use Rattle.ath_syntax.specs.Proper.{ProperPhrases, ProperClosures, bindings_count}
use Rattle.ath_syntax.specs.Tree.{Phrases, no_phrases, more_phrases, Bindings, same_name, bound_names}
use Rattle.ath_grammar.specs.declared.class.Class.{Class}
use Rattle.ath_grammar.specs.declared.symbol.Symbol.{Symbol}
use Rattle.ath_grammar.specs.declared.symbol.Symbol.TheVariants as S
use Rattle.ath_grammar.specs.declared.action.Action.{Action}
use Rattle.ath_grammar.specs.declared.action.Guard.TheVariants.{Free}
use Rattle.ath_grammar.specs.declared.item.Want.{Want}
use Rattle.ath_grammar.specs.declared.item.Want.TheVariants.{Any, Only}
use Rattle.ath_grammar.specs.declared.item.Rule.TheVariants.{Same, AsTop, Bound, After}
use Rattle.ath_grammar.specs.declared.item.Attr.{Attr}
use Rattle.ath_grammar.specs.declared.item.Attr.TheVariants.{Is, Given}
use Rattle.ath_grammar.specs.declared.item.Item.{Item}
use Rattle.ath_grammar.specs.declared.item.Item.TheVariants as I
use Rattle.ath_grammar.specs.Known.{Known}
use Rattle.ath_grammar.specs.Tokens.{Placed, class_of, next_class}
use Rattle.ath_grammar.specs.Tables.{Row, same_kind, none, take, skip, begin_as, Start, no_start, begin, pass, fits, bound, after, want_of, told, told_all, behind, by_token, start, acts}
use Rattle.ath_grammar.specs.Spells.{Spells, spelled, a_token, a_symbol, an_act, Starts, begun, passed}
use Rattle.ath_grammar.specs.Grammar.{grammar}
use Rattle.ath_grammar.specs.Trees.{Value, act_on, saved, deduces, v1, rest, trees}
use Rattle.ath_grammar.proofs.Completes.{both_left, both_right}
use Rattle.ath_grammar.proofs.ProperTypes.{Ty, plain, thing, fresh, wild, some_word, a_pattern, patterns, names, params, binders, a_phrase, closure, phrases, some_phrases, unbound, added, bindings, closures, some_closures, unmatched, clauses, unchecked, branches, a_directive, Tys, size, weight, wanted_kind, Fits, All, sub, le, Effect, effects, saves, signature, allowed, strip, on_some, or_else, made, called, alike, behind_binding, symbol_made, subs, holds, leads, acted, is_static, static, if_fits, keeps}
use Rattle.ath_grammar.proofs.ProperActions.{Does, Each, do_all, saves_on, saved_weight}
use Rattle.ath_grammar.proofs.ProperTable.{rows_keep}

found : {A : Type 0} (a b : A) → Some a ≡ Some b → a ≡ b
found a b q = ap (λ (o : Option _). elim o [ None ↦ a | Some x ↦ x ]) q

-- what an option has to be where something holds of it
kept : (o : Option Tys) (go : Tys → Bool) → holds o go ≡ true → (σ : Tys) × (o ≡ Some σ) × (go σ ≡ true)
kept None go e = cc
kept (Some σ) go e = (σ, refl, e)

chain : {A B : Type 0} (o : Option A) (go : A → Option B) (b : B) → on_some o go ≡ Some b → (a : A) × (o ≡ Some a) × (go a ≡ Some b)
chain None go b e = cc
chain (Some a) go b e = (a, refl, e)

where_true : (b : Bool) (o : Option Tys) (σ : Tys) → (if b then o else None) ≡ Some σ → (b ≡ true) × (o ≡ Some σ)
where_true true o σ e = (refl, e)
where_true false o σ e = cc

where_fits : (b c : Bool) → if_fits b c ≡ true → b ≡ true → c ≡ true
where_fits true c e f = e
where_fits false c e f = cc

kind_is : (j k : Bool) → same_kind j k ≡ true → k ≡ j
kind_is true k e = e
kind_is false true e = sym e
kind_is false false e = refl

loose : (k : Option Bool) (xs : Phrases) → ProperPhrases k xs → ProperPhrases None xs
loose k no_phrases p = tt
loose k (more_phrases x xs) p = (tt, p.1, loose k xs p.2)

module _ (w₀ : Sym) where
  -- what is of the first types, and anything beneath, is of the second
  abbrev pub Le : Tys → Tys → Type 0
  Le σ ρ = (τ : Tys) (vs : List Value) → All w₀ (σ ++ τ) vs → All w₀ (ρ ++ τ) vs

  before_le : (α σ ρ : Tys) → Le σ ρ → Le (α ++ σ) (α ++ ρ)
  before_le [] σ ρ f τ vs h = f τ vs h
  before_le (t ∷ α) σ ρ f τ vs h = (h.0, before_le α σ ρ f τ (rest vs) h.1)

  in_all : {σ ρ : Tys} (vs : List Value) → σ ≡ ρ → All w₀ σ vs → All w₀ ρ vs
  in_all vs e h = subst (λ (σ : Tys). All w₀ σ vs) e h

  -- a symbol with these beneath what it takes
  pub record Called (s : Symbol) (x : Attr) (vs : List Value) (β σ τ : Tys) : Type 0 where
    pub may : allowed s (want_of x (deduces (v1 vs))) ≡ true
    pub before : All w₀ ((signature s (want_of x (deduces (v1 vs)))).takes ++ (β ++ τ)) vs
    pub behind : (ρ : Tys) (us : List Value) → All w₀ ((signature s (want_of x (deduces (v1 vs)))).leaves ++ (β ++ ρ)) us → All w₀ (σ ++ ρ) us

  abbrev pub Calls : Symbol → Attr → Tys → Tys → Tys → Type 0
  Calls s x σ β ρ = (τ : Tys) (vs : List Value) → All w₀ (σ ++ τ) vs → Called s x vs β ρ τ

  -- items that lead from types to types
  abbrev pub Goes : List Item → Tys → Tys → Type 0
  Goes [] σ ρ = Le σ ρ
  Goes (I.Token c ∷ is) σ ρ = Goes is (saves Free c ++ σ) ρ
  Goes (I.Act x ∷ is) σ ρ = (τ : Tys) × Does w₀ x σ τ × Goes is τ ρ
  Goes (I.Symbol s x ∷ is) σ ρ = (β : Tys) × (τ : Tys) × Calls s x σ β τ × Goes is τ ρ

  abbrev pub Done : List Action → Tys → Tys → Type 0
  Done [] σ ρ = Le σ ρ
  Done (x ∷ xs) σ ρ = (τ : Tys) × Does w₀ x σ τ × Done xs τ ρ

  weaker : (is : List Item) (σ τ ρ : Tys) → Le σ τ → Goes is τ ρ → Goes is σ ρ
  weaker [] σ τ ρ f g = λ α vs h. g α vs (f α vs h)
  weaker (I.Token c ∷ is) σ τ ρ f g = weaker is (saves Free c ++ σ) (saves Free c ++ τ) ρ (before_le (saves Free c) σ τ f) g
  weaker (I.Act x ∷ is) σ τ ρ f g = (g.0, (λ α vs h b. g.1 α vs (f α vs h) b), g.2)
  weaker (I.Symbol s x ∷ is) σ τ ρ f g = (g.0, g.1, (λ α vs h. g.2 α vs (f α vs h)), g.3)

  more_does : (x : Action) (σ ρ β : Tys) → Does w₀ x σ ρ → Does w₀ x (σ ++ β) (ρ ++ β)
  more_does x σ ρ β f τ vs h b = let m = f (β ++ τ) vs (in_all vs (append_assoc σ β τ) h) b in (in_all (act_on x vs) (sym (append_assoc ρ β τ)) m.0, m.1)

  more_calls : (s : Symbol) (x : Attr) (σ β ρ α : Tys) → Calls s x σ β ρ → Calls s x (σ ++ α) (β ++ α) (ρ ++ α)
  more_calls s x σ β ρ α f τ vs h =
      let m = f (α ++ τ) vs (in_all vs (append_assoc σ α τ) h) in
      let w = want_of x (deduces (v1 vs)) in
      record {
        may = m.may;
        before = in_all vs (ap (λ (y : Tys). (signature s w).takes ++ y) (sym (append_assoc β α τ))) m.before;
        behind = λ γ us k. in_all us (sym (append_assoc ρ α γ)) (m.behind (α ++ γ) us (in_all us (ap (λ (y : Tys). (signature s w).leaves ++ y) (append_assoc β α γ)) k));
      }

  appended : (js is : List Item) (σ mid β ρ : Tys) → Goes js σ mid → Goes is (mid ++ β) ρ → Goes (js ++ is) (σ ++ β) ρ
  appended [] is σ mid β ρ g k = weaker is (σ ++ β) (mid ++ β) ρ (λ τ vs h. in_all vs (sym (append_assoc mid β τ)) (g (β ++ τ) vs (in_all vs (append_assoc σ β τ) h))) k
  appended (I.Token c ∷ js) is σ mid β ρ g k = subst (λ (y : Tys). Goes (js ++ is) y ρ) (append_assoc (saves Free c) σ β) (appended js is (saves Free c ++ σ) mid β ρ g k)
  appended (I.Act x ∷ js) is σ mid β ρ g k = (g.0 ++ β, more_does x σ g.0 β g.1, appended js is g.0 mid β ρ g.2 k)
  appended (I.Symbol s x ∷ js) is σ mid β ρ g k = (g.0 ++ β, g.1 ++ β, more_calls s x σ g.0 g.1 β g.2, appended js is g.1 mid β ρ g.3 k)

  le_fits : (w v : Want) (k : Bool) → le w v ≡ true → fits w (Only k) ≡ true → fits v (Only k) ≡ true
  le_fits w Any k e f = refl
  le_fits Any (Only true) k e f = cc
  le_fits Any (Only false) k e f = cc
  le_fits (Only true) (Only true) k e f = f
  le_fits (Only true) (Only false) k e f = cc
  le_fits (Only false) (Only true) k e f = cc
  le_fits (Only false) (Only false) k e f = f

  le_same : (w : Want) → le w w ≡ true
  le_same Any = refl
  le_same (Only true) = refl
  le_same (Only false) = refl

  le_of : (w : Want) (k : Bool) → fits w (Only k) ≡ true → le (Only k) w ≡ true
  le_of Any k e = refl
  le_of (Only true) true e = refl
  le_of (Only true) false e = cc
  le_of (Only false) true e = cc
  le_of (Only false) false e = refl

  after_le : (w : Want) (k : Bool) → (k ≡ true → fits w (Only true) ≡ true) → le (after w k) w ≡ true
  after_le w true f = le_of w true (f refl)
  after_le w false f = le_same w

  fits_own : (k : Bool) → fits (Only k) (Only k) ≡ true
  fits_own true = refl
  fits_own false = refl

  of_want : (v : Want) (d : Bool) (xs : Phrases) → fits v (Only d) ≡ true → ProperPhrases (Some d) xs → ProperPhrases (wanted_kind v) xs
  of_want Any d xs e p = loose (Some d) xs p
  of_want (Only k) d xs e p = subst (λ (b : Bool). ProperPhrases (Some b) xs) (kind_is k d e) p

  phrases_le : (w v : Want) (xs : Phrases) → le w v ≡ true → ProperPhrases (wanted_kind w) xs → ProperPhrases (wanted_kind v) xs
  phrases_le w Any xs e p = loose (wanted_kind w) xs p
  phrases_le Any (Only true) xs e p = cc
  phrases_le Any (Only false) xs e p = cc
  phrases_le (Only true) (Only true) xs e p = p
  phrases_le (Only true) (Only false) xs e p = cc
  phrases_le (Only false) (Only true) xs e p = cc
  phrases_le (Only false) (Only false) xs e p = p

  none_distinct : IsDistinct same_name []
  unfolding IsDistinct
  none_distinct = tt

  after_any : (k d : Bool) → fits (after (Only true) k) (Only d) ≡ true → fits (after Any k) (Only d) ≡ true
  after_any true d e = e
  after_any false d e = refl

  sub_is : (t u : Ty) → sub t u ≡ true → (v : Value) (vs : List Value) → Fits w₀ t v vs → Fits w₀ u v vs
  sub_is thing thing e v vs h = h
  sub_is fresh thing e v vs h = h.0
  sub_is fresh fresh e v vs h = h
  sub_is wild thing e v vs h = h.0
  sub_is wild wild e v vs h = h
  sub_is some_word thing e v vs h = h.0
  sub_is some_word some_word e v vs h = h
  sub_is a_pattern a_pattern e v vs h = h
  sub_is patterns patterns e v vs h = h
  sub_is names names e v vs h = h
  sub_is params names e v vs h = h.0
  sub_is params params e v vs h = h
  sub_is binders binders e v vs h = h
  sub_is (a_phrase w) (a_phrase u) e v vs h = (h.0, h.1, le_fits w u _ e h.2, h.3)
  sub_is closure (a_phrase u) e v vs h = (h.0, h.1, le_fits (Only false) u _ e (subst (λ (b : Bool). fits (Only false) (Only b) ≡ true) (sym h.2) refl), h.3)
  sub_is closure closure e v vs h = h
  sub_is (phrases w) (phrases u) e v vs h = (h.0, phrases_le w u _ e h.1)
  sub_is (some_phrases w) (phrases u) e v vs h = (h.0, of_want u _ _ (le_fits w u _ e h.3) h.2)
  sub_is (some_phrases w) (some_phrases u) e v vs h = (h.0, h.1, h.2, le_fits w u _ e h.3, h.4)
  sub_is unbound unbound e v vs h = h
  sub_is unbound closures e v vs h =
      (subst (λ (bs : Bindings). bindings_count bs + bindings_count bs ≤ size v) (sym h.0) (omega arith), h.1 ∙ ap bound_names (sym h.0), subst ProperClosures (sym h.0) tt, subst (λ (bs : Bindings). IsDistinct same_name (bound_names bs)) (sym h.0) none_distinct)
  sub_is (added Any) (added Any) e v vs h = h
  sub_is (added Any) (added (Only true)) e v vs h = (h.0, h.1, (λ q. refl), (λ d f. h.3 d (after_any (deduces v) d f)))
  sub_is (added (Only true)) (added (Only true)) e v vs h = h
  sub_is (added (Only false)) (added (Only false)) e v vs h = h
  sub_is (bindings Any) (bindings u) e v vs h = (h.0, h.1, (λ d f. h.2 d refl))
  sub_is (bindings (Only true)) (bindings (Only true)) e v vs h = h
  sub_is (bindings (Only false)) (bindings (Only false)) e v vs h = h
  sub_is closures closures e v vs h = h
  sub_is some_closures closures e v vs h = (h.0, h.1, h.2, h.3)
  sub_is some_closures some_closures e v vs h = h
  sub_is unmatched unmatched e v vs h = h
  sub_is (clauses w) (clauses u) e v vs h = (h.0, h.1, h.2, le_fits w u _ e h.3, h.4)
  sub_is unchecked unchecked e v vs h = h
  sub_is (branches w) (branches u) e v vs h = (h.0, h.1, h.2, le_fits w u _ e h.3, h.4)
  sub_is a_directive a_directive e v vs h = h
  sub_is t plain e v vs h = tt
  sub_is _ _ e v vs h = cc

  subs_le : (σ ρ : Tys) → subs σ ρ ≡ true → Le σ ρ
  subs_le [] [] e = λ τ vs h. h
  subs_le [] (u ∷ ρ) e = cc
  subs_le (t ∷ σ) [] e = cc
  subs_le (t ∷ σ) (u ∷ ρ) e = λ τ vs h. (sub_is t u (both_left (sub t u) (subs σ ρ) e) (v1 vs) (rest vs) h.0, subs_le σ ρ (both_right (sub t u) (subs σ ρ) e) τ (rest vs) h.1)

  strip_le : (pre σ ρ : Tys) → strip pre σ ≡ Some ρ → Le σ (pre ++ ρ)
  strip_le [] σ ρ e = λ τ vs h. in_all vs (ap (λ (y : Tys). y ++ τ) (found σ ρ e)) h
  strip_le (u ∷ us) [] ρ e = cc
  strip_le (u ∷ us) (t ∷ σ) ρ e = let m = where_true (sub t u) (strip us σ) ρ e in λ τ vs h. (sub_is t u m.0 (v1 vs) (rest vs) h.0, strip_le us σ ρ m.1 τ (rest vs) h.1)

  by_effect : (x : Action) (f : Effect) (σ ρ τ : Tys) → Does w₀ x f.takes f.leaves → strip f.takes σ ≡ Some ρ → f.leaves ++ ρ ≡ τ → Does w₀ x σ τ
  by_effect x f σ ρ τ d q e α vs h b =
      let m = d (ρ ++ α) vs (in_all vs (append_assoc f.takes ρ α) (strip_le f.takes σ ρ q α vs h)) b in
      (in_all (act_on x vs) (sym (append_assoc f.leaves ρ α) ∙ ap (λ (y : Tys). y ++ α) e) m.0, m.1)

  does_of : (x : Action) (fs : List Effect) → Each (λ f. Does w₀ x f.takes f.leaves) fs → (σ τ : Tys) → made fs σ ≡ Some τ → Does w₀ x σ τ
  does_of x [] d σ τ e = cc
  does_of x (f ∷ fs) d σ τ e = go (strip f.takes σ) refl e (does_of x fs d.1 σ τ)
    where
      go : (o : Option Tys) → strip f.takes σ ≡ o → or_else o f.leaves (made fs σ) ≡ Some τ → (made fs σ ≡ Some τ → Does w₀ x σ τ) → Does w₀ x σ τ
      go None q h later = later h
      go (Some ρ) q h later = by_effect x f σ ρ τ d.0 q (found (f.leaves ++ ρ) τ h)

  -- a symbol that is told this whatever was read
  known : (s : Symbol) (x : Attr) (w : Want) → ((k : Bool) → want_of x k ≡ w) → (σ τ : Tys) → called s w σ ≡ Some τ → (β : Tys) × Calls s x σ β τ
  known s x w told σ τ e =
      let a = where_true (allowed s w) (on_some (strip (signature s w).takes σ) (λ ρ. Some ((signature s w).leaves ++ ρ))) τ e in
      let c = chain (strip (signature s w).takes σ) (λ ρ. Some ((signature s w).leaves ++ ρ)) τ a.1 in (
        c.0,
        λ α vs h. record {
          may = subst (λ (v : Want). allowed s v ≡ true) (sym (told (deduces (v1 vs)))) a.0;
          before = subst (λ (v : Want). All w₀ ((signature s v).takes ++ (c.0 ++ α)) vs) (sym (told (deduces (v1 vs)))) (in_all vs (append_assoc (signature s w).takes c.0 α) (strip_le (signature s w).takes σ c.0 c.1 α vs h));
          behind = λ γ us k. in_all us (sym (append_assoc (signature s w).leaves c.0 γ) ∙ ap (λ (y : Tys). y ++ γ) (found ((signature s w).leaves ++ c.0) τ c.2)) (subst (λ (v : Want). All w₀ ((signature s v).leaves ++ (c.0 ++ γ)) us) (told (deduces (v1 vs))) k);
        },
      )

  -- what is of the kind of the newest value
  newest_fits : (w : Want) (k j : Bool) → k ≡ j → fits w (Only j) ≡ true → fits w (Only k) ≡ true
  newest_fits w k j e f = subst (λ (b : Bool). fits w (Only b) ≡ true) (sym e) f

  own_kind : (k j : Bool) → k ≡ j → fits (Only k) (Only j) ≡ true
  own_kind k j e = subst (λ (b : Bool). fits (Only k) (Only b) ≡ true) e (fits_own k)

  alike_phrases : (s : Symbol) (w v : Want) (σ τ : Tys) → ((k : Bool) → allowed s (Only k) ≡ true) → ((k : Bool) → (signature s (Only k)).takes ≡ some_phrases (Only k) ∷ []) → ((k : Bool) → (signature s (Only k)).leaves ≡ some_phrases (Only k) ∷ []) → some_phrases v ∷ σ ≡ τ → Calls s (Given AsTop w) (some_phrases v ∷ σ) σ τ
  alike_phrases s w v σ τ may takes leaves e α vs h =
      let k = deduces (v1 vs) in
      let f = newest_fits v k _ h.0.4 h.0.3 in
      record {
        may = may k;
        before = in_all vs (ap (λ (y : Tys). y ++ (σ ++ α)) (sym (takes k))) ((h.0.0, h.0.1, h.0.2, own_kind k _ h.0.4, h.0.4), h.1);
        behind = λ γ us g. let m : All w₀ (some_phrases (Only k) ∷ (σ ++ γ)) us = in_all us (ap (λ (y : Tys). y ++ (σ ++ γ)) (leaves k)) g in in_all us (ap (λ (y : Tys). y ++ γ) e) (sub_is (some_phrases (Only k)) (some_phrases v) (le_of v k f) (v1 us) (rest us) m.0, m.1);
      }

  alike_clauses : (s : Symbol) (w v : Want) (σ τ : Tys) → ((k : Bool) → allowed s (Only k) ≡ true) → ((k : Bool) → (signature s (Only k)).takes ≡ clauses (Only k) ∷ []) → ((k : Bool) → (signature s (Only k)).leaves ≡ clauses (Only k) ∷ []) → clauses v ∷ σ ≡ τ → Calls s (Given AsTop w) (clauses v ∷ σ) σ τ
  alike_clauses s w v σ τ may takes leaves e α vs h =
      let k = deduces (v1 vs) in
      let f = newest_fits v k _ h.0.4 h.0.3 in
      record {
        may = may k;
        before = in_all vs (ap (λ (y : Tys). y ++ (σ ++ α)) (sym (takes k))) ((h.0.0, h.0.1, h.0.2, own_kind k _ h.0.4, h.0.4), h.1);
        behind = λ γ us g. let m : All w₀ (clauses (Only k) ∷ (σ ++ γ)) us = in_all us (ap (λ (y : Tys). y ++ (σ ++ γ)) (leaves k)) g in in_all us (ap (λ (y : Tys). y ++ γ) e) (sub_is (clauses (Only k)) (clauses v) (le_of v k f) (v1 us) (rest us) m.0, m.1);
      }

  alike_branches : (s : Symbol) (w v : Want) (σ τ : Tys) → ((k : Bool) → allowed s (Only k) ≡ true) → ((k : Bool) → (signature s (Only k)).takes ≡ branches (Only k) ∷ thing ∷ []) → ((k : Bool) → (signature s (Only k)).leaves ≡ a_phrase (Only k) ∷ []) → a_phrase v ∷ σ ≡ τ → Calls s (Given AsTop w) (branches v ∷ thing ∷ σ) σ τ
  alike_branches s w v σ τ may takes leaves e α vs h =
      let k = deduces (v1 vs) in
      let f = newest_fits v k _ h.0.4 h.0.3 in
      record {
        may = may k;
        before = in_all vs (ap (λ (y : Tys). y ++ (σ ++ α)) (sym (takes k))) ((h.0.0, h.0.1, h.0.2, own_kind k _ h.0.4, h.0.4), (h.1.0, h.1.1));
        behind = λ γ us g. let m : All w₀ (a_phrase (Only k) ∷ (σ ++ γ)) us = in_all us (ap (λ (y : Tys). y ++ (σ ++ γ)) (leaves k)) g in in_all us (ap (λ (y : Tys). y ++ γ) e) (sub_is (a_phrase (Only k)) (a_phrase v) (le_of v k f) (v1 us) (rest us) m.0, m.1);
      }

  alike_first : (w v : Want) (σ τ : Tys) → a_phrase v ∷ σ ≡ τ → Calls S.AfterFirst (Given AsTop w) (a_phrase v ∷ thing ∷ σ) σ τ
  alike_first w v σ τ e α vs h =
      let k = deduces (v1 vs) in
      let f = newest_fits v k _ h.0.3 h.0.2 in
      record {
        may = refl;
        before = ((h.0.0, h.0.1, own_kind k _ h.0.3, h.0.3), (h.1.0, h.1.1));
        behind = λ γ us g. in_all us (ap (λ (y : Tys). y ++ γ) e) (sub_is (a_phrase (Only k)) (a_phrase v) (le_of v k f) (v1 us) (rest us) g.0, g.1);
      }

  alike_calls : (s : Symbol) (w : Want) (σ τ : Tys) → alike s σ ≡ Some τ → (β : Tys) × Calls s (Given AsTop w) σ β τ
  alike_calls S.Parts w (some_phrases v ∷ σ) τ e = (σ, alike_phrases S.Parts w v σ τ (λ k. refl) (λ k. refl) (λ k. refl) (found _ _ e))
  alike_calls S.Alternatives w (some_phrases v ∷ σ) τ e = (σ, alike_phrases S.Alternatives w v σ τ (λ k. refl) (λ k. refl) (λ k. refl) (found _ _ e))
  alike_calls S.ClauseRows w (clauses v ∷ σ) τ e = (σ, alike_clauses S.ClauseRows w v σ τ (λ k. refl) (λ k. refl) (λ k. refl) (found _ _ e))
  alike_calls S.ClausePairs w (clauses v ∷ σ) τ e = (σ, alike_clauses S.ClausePairs w v σ τ (λ k. refl) (λ k. refl) (λ k. refl) (found _ _ e))
  alike_calls S.BranchRows w (branches v ∷ thing ∷ σ) τ e = (σ, alike_branches S.BranchRows w v σ τ (λ k. refl) (λ k. refl) (λ k. refl) (found _ _ e))
  alike_calls S.BranchPairs w (branches v ∷ thing ∷ σ) τ e = (σ, alike_branches S.BranchPairs w v σ τ (λ k. refl) (λ k. refl) (λ k. refl) (found _ _ e))
  alike_calls S.AfterFirst w (a_phrase v ∷ thing ∷ σ) τ e = (σ, alike_first w v σ τ (found _ _ e))
  alike_calls _ w _ τ e = cc

  bound_before : (s : Symbol) (w u : Want) (σ τ : Tys) → ((v : Want) → allowed s v ≡ true) → ((v : Want) → (signature s v).takes ≡ bindings v ∷ thing ∷ []) → ((v : Want) → (signature s v).leaves ≡ a_phrase v ∷ []) → sub (added u) (added w) ≡ true → a_phrase w ∷ σ ≡ τ → Calls s (Given After w) (added u ∷ thing ∷ σ) σ τ
  bound_before s w u σ τ may takes leaves q e α vs h =
      let k = deduces (v1 vs) in
      let b = sub_is (added u) (added w) q (v1 vs) (rest vs) h.0 in
      record {
        may = may (after w k);
        before = in_all vs (ap (λ (y : Tys). y ++ (σ ++ α)) (sym (takes (after w k)))) ((b.0, b.1, b.3), (h.1.0, h.1.1));
        behind = λ γ us g. let m : All w₀ (a_phrase (after w k) ∷ (σ ++ γ)) us = in_all us (ap (λ (y : Tys). y ++ (σ ++ γ)) (leaves (after w k))) g in in_all us (ap (λ (y : Tys). y ++ γ) e) (sub_is (a_phrase (after w k)) (a_phrase w) (after_le w k b.2) (v1 us) (rest us) m.0, m.1);
      }

  after_calls : (s : Symbol) (w : Want) (σ τ : Tys) → behind_binding s w σ ≡ Some τ → (β : Tys) × Calls s (Given After w) σ β τ
  after_calls S.LetPairs w (added u ∷ thing ∷ σ) τ e = let m = where_true (sub (added u) (added w)) (Some (a_phrase w ∷ σ)) τ e in (σ, bound_before S.LetPairs w u σ τ (λ v. refl) (λ v. refl) (λ v. refl) m.0 (found _ _ m.1))
  after_calls S.LetRows w (added u ∷ thing ∷ σ) τ e = let m = where_true (sub (added u) (added w)) (Some (a_phrase w ∷ σ)) τ e in (σ, bound_before S.LetRows w u σ τ (λ v. refl) (λ v. refl) (λ v. refl) m.0 (found _ _ m.1))
  after_calls _ w _ τ e = cc

  calls_made : (s : Symbol) (x : Attr) (σ τ : Tys) → symbol_made s x σ ≡ Some τ → (β : Tys) × Calls s x σ β τ
  calls_made s (Is w) σ τ e = known s (Is w) w (λ k. refl) σ τ e
  calls_made s (Given Same w) σ τ e = known s (Given Same w) w (λ k. refl) σ τ e
  calls_made s (Given Bound w) σ τ e = known s (Given Bound w) (bound w) (λ k. refl) σ τ e
  calls_made s (Given AsTop w) σ τ e = alike_calls s w σ τ e
  calls_made s (Given After w) σ τ e = after_calls s w σ τ e

  pub leads_goes : (is : List Item) (σ ρ : Tys) → leads is σ ρ ≡ true → Goes is σ ρ
  leads_goes [] σ ρ e = subs_le σ ρ e
  leads_goes (I.Token c ∷ is) σ ρ e = leads_goes is (saves Free c ++ σ) ρ e
  leads_goes (I.Act x ∷ is) σ ρ e = let m = kept (made (effects x) σ) (λ τ. leads is τ ρ) e in (m.0, does_of x (effects x) (do_all w₀ x) σ m.0 m.1, leads_goes is m.0 ρ m.2)
  leads_goes (I.Symbol s x ∷ is) σ ρ e = let m = kept (symbol_made s x σ) (λ τ. leads is τ ρ) e in let c = calls_made s x σ m.0 m.1 in (c.0, m.0, c.1, leads_goes is m.0 ρ m.2)

  acted_done : (xs : List Action) (σ ρ : Tys) → acted xs σ ρ ≡ true → Done xs σ ρ
  acted_done [] σ ρ e = subs_le σ ρ e
  acted_done (x ∷ xs) σ ρ e = let m = kept (made (effects x) σ) (λ τ. acted xs τ ρ) e in (m.0, does_of x (effects x) (do_all w₀ x) σ m.0 m.1, acted_done xs m.0 ρ m.2)

  abbrev pub StartGoes : Symbol → Want → Class → Start → Type 0
  StartGoes s w c no_start = Unit {0}
  StartGoes s w c (begin f g js) = f ≡ true → Goes js (saves g c ++ (signature s w).takes) (signature s w).leaves
  StartGoes s w c (pass f xs) = f ≡ true → Done xs (signature s w).takes (signature s w).leaves

  static_told : (w : Want) (x : Attr) (k : Bool) → is_static x ≡ true → want_of (told w x) k ≡ static w x
  static_told w (Is v) k e = refl
  static_told w (Given Same v) k e = refl
  static_told w (Given AsTop v) k e = cc
  static_told w (Given Bound v) k e = cc
  static_told w (Given After v) k e = cc

  behind_goes : (s s₁ : Symbol) (w w₁ : Want) (c : Class) (f : Bool) (js : List Item) (S : Start) → (f ≡ true → StartGoes s₁ w₁ c S) → (f ≡ true → (τ : Tys) × (called s₁ w₁ (signature s w).takes ≡ Some τ) × Goes js τ (signature s w).leaves) → StartGoes s w c (behind f js S)
  behind_goes s s₁ w w₁ c f js no_start h l = tt
  behind_goes s s₁ w w₁ c f js (pass g xs) h l = tt
  behind_goes s s₁ w w₁ c f js (begin g d is) h l = λ e.
      let p = both_left f g e in
      let m = l p in
      let takes = (signature s w).takes in
      let a = where_true (allowed s₁ w₁) (on_some (strip (signature s₁ w₁).takes takes) (λ ρ. Some ((signature s₁ w₁).leaves ++ ρ))) m.0 m.1 in
      let q = chain (strip (signature s₁ w₁).takes takes) (λ ρ. Some ((signature s₁ w₁).leaves ++ ρ)) m.0 a.1 in
      let own = subst (λ (y : Tys). Goes js y (signature s w).leaves) (sym (found ((signature s₁ w₁).leaves ++ q.0) m.0 q.2)) m.2 in
      let g₁ = appended is js (saves d c ++ (signature s₁ w₁).takes) (signature s₁ w₁).leaves q.0 (signature s w).leaves (h p (both_right f g e)) own in
      weaker (is ++ js) (saves d c ++ takes) ((saves d c ++ (signature s₁ w₁).takes) ++ q.0) (signature s w).leaves
      (λ τ vs k. in_all vs (ap (λ (y : Tys). y ++ τ) (sym (append_assoc (saves d c) (signature s₁ w₁).takes q.0))) (before_le (saves d c) takes ((signature s₁ w₁).takes ++ q.0) (strip_le (signature s₁ w₁).takes takes q.0 q.1) τ vs k)) g₁

  by_goes : (n : ℕ) (c : Class) (k : Bool) (s : Symbol) (w : Want) (R : Row) → keeps s w c R ≡ true → StartGoes s w c (by_token n grammar c k w R)
  by_goes n c k s w none e = tt
  by_goes n c k s w (take m g is) e = λ f. leads_goes (told_all w is) _ _ (where_fits (fits w m) _ e f)
  by_goes n c k s w (skip m xs) e = tt
  by_goes zero c k s w (begin_as m s₁ x is) e = tt
  by_goes (suc n) c k s w (begin_as m s₁ x is) e =
      behind_goes s s₁ w (want_of (told w x) k) c (fits w m) (told_all w is) (by_token n grammar c k (want_of (told w x) k) (grammar s₁ c))
      (λ f. let l = leading f in by_goes n c k s₁ (want_of (told w x) k) (grammar s₁ c) (rows_keep s₁ (want_of (told w x) k) (where_true _ _ _ l.1).0 c)) leading
    where
      leading : fits w m ≡ true → (τ : Tys) × (called s₁ (want_of (told w x) k) (signature s w).takes ≡ Some τ) × Goes (told_all w is) τ (signature s w).leaves
      leading f =
          let b = where_fits (fits w m) _ e f in
          let st = static_told w x k (both_left (is_static x) _ b) in
          let r = kept (called s₁ (static w x) (signature s w).takes) (λ τ. leads (told_all w is) τ (signature s w).leaves) (both_right (is_static x) _ b) in
          (r.0, subst (λ (v : Want). called s₁ v (signature s w).takes ≡ Some r.0) (sym st) r.1, leads_goes (told_all w is) r.0 (signature s w).leaves r.2)

  pub start_goes : (c : Class) (k : Bool) (s : Symbol) (w : Want) (R : Row) → keeps s w c R ≡ true → StartGoes s w c (start grammar c k w R)
  start_goes c k s w none e = tt
  start_goes c k s w (take m g is) e = by_goes 2 c k s w (take m g is) e
  start_goes c k s w (skip m xs) e = λ f. acted_done xs _ _ (where_fits (fits w m) _ e f)
  start_goes c k s w (begin_as m s₁ x is) e = by_goes 2 c k s w (begin_as m s₁ x is) e

  -- tokens that are known, and few enough for what weighs so much
  pub record Fair (vs : List Value) (ts : List Placed) : Type 0 where
    pub known_all : Known w₀ ts
    pub count : weight vs + length ts ≤ suc most

  fair_next : (t : Placed) (vs : List Value) (ts : List Placed) → Fair vs (t ∷ ts) → Fair (saved t vs) ts
  fair_next t vs ts f = record { known_all = f.known_all.1; count = omega (arith, saved_weight t vs, f.count) }

  lighter : (vs us : List Value) (ts : List Placed) → weight us ≤ weight vs → Fair vs ts → Fair us ts
  lighter vs us ts l f = record { known_all = f.known_all; count = omega (arith, l, f.count) }

  light : (vs : List Value) (ts : List Placed) → Fair vs ts → weight vs ≤ suc most
  light vs ts f = omega (arith, f.count)

  done_acts : (xs : List Action) (σ ρ τ : Tys) (vs : List Value) → Done xs σ ρ → All w₀ (σ ++ τ) vs → weight vs ≤ suc most → All w₀ (ρ ++ τ) (acts trees xs vs) × (weight (acts trees xs vs) ≤ weight vs)
  done_acts [] σ ρ τ vs d h b = (d τ vs h, omega arith)
  done_acts (x ∷ xs) σ ρ τ vs d h b = let m = d.1 τ vs h b in let n = done_acts xs d.0 ρ τ (act_on x vs) d.2 m.0 (omega (arith, m.1, b)) in (n.0, omega (arith, m.1, n.1))

  mutual
    pub sound : (is : List Item) (vs : List Value) (ts : List Placed) (ws : List Value) (r : List Placed) → Spells trees grammar true is vs ts ws r → (σ ρ τ : Tys) → Goes is σ ρ → All w₀ (σ ++ τ) vs → Fair vs ts → All w₀ (ρ ++ τ) ws
    sound is vs ts ws r spelled σ ρ τ g h f = g τ vs h
    sound is vs ts ws r (a_token {c = c} {is = js} {t = t} {ts = more} q k) σ ρ τ g h f =
        sound _ _ _ _ _ k (saves Free c ++ σ) ρ τ g
        (in_all (saved t vs) (sym (append_assoc (saves Free c) σ τ)) (subst (λ (d : Class). All w₀ (saves Free d ++ (σ ++ τ)) (saved t vs)) (sym q) (saves_on w₀ Free t vs (σ ++ τ) refl f.known_all.0 h)))
        (fair_next t vs more f)
    sound is vs ts ws r (an_act {x = x} {is = js} k) σ ρ τ g h f = let m = g.1 τ vs h (light vs ts f) in sound _ _ _ _ _ k g.0 ρ τ g.2 m.0 (lighter vs (act_on x vs) ts m.1 f)
    sound is vs ts ws r (a_symbol {s = s} {x = x} {is = js} k) σ ρ τ g h f =
        let m = g.2 τ vs h in
        let w = want_of x (deduces (v1 vs)) in
        sound_start _ _ _ _ _ _ k s w (start_goes (next_class ts) (deduces (v1 vs)) s w (grammar s (next_class ts)) (rows_keep s w m.may (next_class ts))) g.0 g.1 ρ τ g.3 m.before m.behind f

    pub sound_start : (S : Start) (is : List Item) (vs : List Value) (ts : List Placed) (ws : List Value) (r : List Placed) → Starts trees grammar true S is vs ts ws r → (s : Symbol) (w : Want) → StartGoes s w (next_class ts) S → (β σ ρ τ : Tys) → Goes is σ ρ
        → All w₀ ((signature s w).takes ++ (β ++ τ)) vs → ((γ : Tys) (us : List Value) → All w₀ ((signature s w).leaves ++ (β ++ γ)) us → All w₀ (σ ++ γ) us) → Fair vs ts → All w₀ (ρ ++ τ) ws
    sound_start S is vs ts ws r (begun {g = d} {js = js} {t = t} {ts = more} p l k) s w keep β σ ρ τ g h out f =
        let leaves = (signature s w).leaves in
        let takes = (signature s w).takes in
        let left = saves d (class_of t) in
        sound _ _ _ _ _ k ((left ++ takes) ++ β) ρ τ
        (appended js is (left ++ takes) leaves β ρ (keep p) (weaker is (leaves ++ β) σ ρ (λ γ us q. out γ us (in_all us (append_assoc leaves β γ) q)) g))
        (in_all (saved t vs) (sym (append_assoc left takes (β ++ τ)) ∙ sym (append_assoc (left ++ takes) β τ)) (saves_on w₀ d t vs (takes ++ (β ++ τ)) l f.known_all.0 h))
        (fair_next t vs more f)
    sound_start S is vs ts ws r (passed {xs = xs} p k) s w keep β σ ρ τ g h out f =
        let m = done_acts xs (signature s w).takes (signature s w).leaves (β ++ τ) vs (keep p) h (light vs ts f) in
        sound _ _ _ _ _ k σ ρ τ g (out τ (acts trees xs vs) m.0) (lighter vs (acts trees xs vs) ts m.1 f)
