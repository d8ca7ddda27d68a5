-- One thing alone is next in a text.
use Rattle.std.proofs.Common.{◌≡◌, ℕ, ◌≤◌, List, [], ◌∷◌, ◌++◌, length, take, true, false, Option, Some, None, refl, sym, ap, ◌∙◌, subst, append_assoc, arith, ◌⊎◌, inl, inr}
use Rattle.ath_syntax.specs.declared.place.Pos.{Pos}
use Rattle.ath_syntax.specs.Tree.{DirectiveTree}
use Rattle.ath_grammar.specs.Tokens.{Placed}
use Rattle.ath_grammar.specs.declared.item.Item.{Item}
use Rattle.ath_grammar.specs.Levels.{depth}
use Rattle.ath_grammar.specs.Trees.{Value}
use Rattle.ath_grammar.specs.Directives.{SpellsDirective, Begins}
use Rattle.ath_grammar.specs.Laws.{after}
use Rattle.ath_grammar.proofs.Readings.{begins, unread, no_two}
use Rattle.ath_reader.specs.declared.limits.TheConstants.{MOST_LEVELS}
use Rattle.ath_reader.specs.declared.reader.SyntaxError.{SyntaxError}
use Rattle.ath_reader.specs.declared.reader.SyntaxKind.{SyntaxKind}
use Rattle.ath_reader.specs.declared.reader.SyntaxKind.TheVariants.{Lex, Unexpected, Unclosed, KindMix, TooDeep}
use Rattle.ath_reader.specs.Ahead.{Ahead, a_token, the_end, a_fault, ahead, Reads, reads_none, reads_more, Follows, follows_token, follows_end, follows_fault, names_past}
use Rattle.ath_reader.specs.Reading.{Reading, Front, IsWhole, IsCut, Fails, Refuses}
use Rattle.ath_reader.specs.Next.{whole, ended, stopped, Spelled}
use Rattle.ath_reader.specs.Laws.{OneNext}
use Rattle.ath_reader.proofs.Advance.{none_whole}
use Rattle.ath_reader.proofs.KnownTokens.{same_token}

-- Fronts of tokens.

loose : (ts : List Placed) → Begins true ts → Begins false ts
loose ts h = by (after ts) refl
  where
    by : (o : Option (List Item × List Value)) → after ts ≡ o → Begins false ts
    by None e = absurd (unread ts e h)
    by (Some s) e = begins false ts s.0 s.1 e

begins_front : (ts : List Placed) (t : Placed) (rest : List Placed) → Begins true (ts ++ t ∷ rest) → Begins true (ts ++ t ∷ [])
begins_front ts t rest (more, d, h) = (rest ++ more, d, subst (λ (us : List Placed). SpellsDirective true us d []) (append_assoc ts (t ∷ rest) more ∙ sym (append_assoc ts (t ∷ []) (rest ++ more))) h)

take_front : (ts : List Placed) (t : Placed) (rest : List Placed) → take (length (ts ++ t ∷ [])) (ts ++ t ∷ rest) ≡ ts ++ t ∷ []
take_front [] t rest = refl
take_front (u ∷ ts) t rest = ap (λ (us : List Placed). u ∷ us) (take_front ts t rest)

-- tokens that may stand behind what comes next
some_follow : (next : Ahead) → (more : List Placed) × Follows next more
some_follow (a_token t known to) = (t ∷ [], follows_token)
some_follow the_end = ([], follows_end)
some_follow (a_fault kind byte) = ([], follows_fault)

-- behind these tokens stands another, and these and that and more are those
record Longer (ts : List Placed) (next : Ahead) (us : List Placed) : Type 0 where
  token : Placed
  known : List (List ℕ)
  to : ℕ
  rest : List Placed
  comes : next ≡ a_token token known to
  more : us ≡ ts ++ token ∷ rest

-- the same tokens, or one list is a front of the other
data Compared (file : ℕ) (text : List ℕ) (ts us : List Placed) (known last : List (List ℕ)) (to end : ℕ) : Type 0 where
  the_same : ts ≡ us → known ≡ last → to ≡ end → Compared file text ts us known last to end
  shorter : Longer ts (ahead file text known to) us → Compared file text ts us known last to end
  longer : Longer us (ahead file text last end) ts → Compared file text ts us known last to end

longer_with : (t u : Placed) (ts us : List Placed) (next : Ahead) → t ≡ u → Longer ts next us → Longer (t ∷ ts) next (u ∷ us)
longer_with t u ts us next e l = record {
  token = l.token;
  known = l.known;
  to = l.to;
  rest = l.rest;
  comes = l.comes;
  more = ap (λ (vs : List Placed). u ∷ vs) l.more ∙ ap (λ (v : Placed). v ∷ (ts ++ l.token ∷ l.rest)) (sym e);
}

module _ (file : ℕ) (text : List ℕ) where
  compared_with : (t u : Placed) (ts us : List Placed) (known last : List (List ℕ)) (to end : ℕ) → t ≡ u → Compared file text ts us known last to end → Compared file text (t ∷ ts) (u ∷ us) known last to end
  compared_with t u ts us known last to end e (the_same a b c) = the_same (ap (λ (vs : List Placed). t ∷ vs) a ∙ ap (λ (v : Placed). v ∷ us) e) b c
  compared_with t u ts us known last to end e (shorter l) = shorter (longer_with t u ts us (ahead file text known to) e l)
  compared_with t u ts us known last to end e (longer l) = longer (longer_with u t us ts (ahead file text last end) (sym e) l)

  compare : (names : List (List ℕ)) (from : ℕ) (ts us : List Placed) (known last : List (List ℕ)) (to end : ℕ) → Reads file text names from ts known to → Reads file text names from us last end → Compared file text ts us known last to end
  compare names from [] [] known last to end reads_none reads_none = the_same refl refl refl
  compare names from [] (u ∷ us) known last to end reads_none (reads_more {known = next} {mid = mid} e r) = shorter (record { token = u; known = next; to = mid; rest = us; comes = e; more = refl })
  compare names from (t ∷ ts) [] known last to end (reads_more {known = next} {mid = mid} e r) reads_none = longer (record { token = t; known = next; to = mid; rest = ts; comes = e; more = refl })
  compare names from (t ∷ ts) (u ∷ us) known last to end (reads_more {known = next} {mid = mid} e r) (reads_more {known = other} {mid = byte} f q) =
      let s = same_token t u next other mid byte (sym e ∙ f) in
      compared_with t u ts us known last to end s.0
      (compare next mid ts us known last to end r (subst (λ (n : ℕ). Reads file text next n us last end) (sym s.2) (subst (λ (ks : List (List ℕ)). Reads file text ks byte us last end) (sym s.1) q)))

module _ (r : Reading) (names : List (List ℕ)) (from : ℕ) where
  -- two fronts from one byte on
  record Same (f g : Front r names from) : Type 0 where
    tokens : f.tokens ≡ g.tokens
    known : f.known ≡ g.known
    to : f.to ≡ g.to
    next : f.next ≡ g.next

  abbrev FrontIn : Front r names from → Front r names from → Type 0
  FrontIn f g = Longer f.tokens f.next g.tokens

  same_fronts : (f g : Front r names from) → f.tokens ≡ g.tokens → f.known ≡ g.known → f.to ≡ g.to → Same f g
  same_fronts f g e k t = record {
    tokens = e;
    known = k;
    to = t;
    next = sym f.comes ∙ ap (λ (ks : List (List ℕ)). ahead r.file r.text ks f.to) k ∙ ap (λ (n : ℕ). ahead r.file r.text g.known n) t ∙ g.comes;
  }

  fronts : (f g : Front r names from) → Same f g ⊎ FrontIn f g ⊎ FrontIn g f
  fronts f g = by (compare r.file r.text names from f.tokens g.tokens f.known g.known f.to g.to f.read g.read)
    where
      by : Compared r.file r.text f.tokens g.tokens f.known g.known f.to g.to → Same f g ⊎ FrontIn f g ⊎ FrontIn g f
      by (the_same e k t) = inl (same_fronts f g e k t)
      by (shorter l) = inr (inl (subst (λ (n : Ahead). Longer f.tokens n g.tokens) f.comes l))
      by (longer l) = inr (inr (subst (λ (n : Ahead). Longer g.tokens n f.tokens) g.comes l))

  -- a front that a longer one goes on from is no whole directive, and no refusal comes behind it
  longer_begins : (f g : Front r names from) (l : FrontIn f g) → Begins true (f.tokens ++ l.token ∷ l.rest)
  longer_begins f g l = subst (Begins true) l.more g.begins

  longer_not_whole : (f g : Front r names from) (d : DirectiveTree) → FrontIn f g → IsWhole f.tokens f.next d → ⊥
  longer_not_whole f g d l w = by (longer_begins f g l)
    where
      by : Begins true (f.tokens ++ l.token ∷ l.rest) → ⊥
      by (more, e, h) = clash (no_two true (f.tokens ++ (l.token ∷ (l.rest ++ more))) d e (l.token ∷ (l.rest ++ more)) [] (subst (λ (n : Ahead). IsWhole f.tokens n d) l.comes w (l.token ∷ (l.rest ++ more)) follows_token) (subst (λ (us : List Placed). SpellsDirective true us e []) (append_assoc f.tokens (l.token ∷ l.rest) more) h)).1
        where
          clash : l.token ∷ (l.rest ++ more) ≡ [] → ⊥
          clash e = cc

  not_failed : (ts : List Placed) (t : Placed) (known : List (List ℕ)) (to : ℕ) (kind : SyntaxKind) (pos : Pos) → Begins true (ts ++ t ∷ []) → depth (ts ++ t ∷ []) ≤ MOST_LEVELS → Fails r ts (a_token t known to) kind pos → ⊥
  not_failed ts t known to Unexpected pos b shallow h = h.0 (loose (ts ++ t ∷ []) b)
  not_failed ts t known to KindMix pos b shallow h = h.0 b
  not_failed ts t known to TooDeep pos b shallow h = omega (arith, shallow, h.1)
  not_failed ts t known to kind pos b shallow h = h

  longer_not_failed : (f g : Front r names from) (kind : SyntaxKind) (pos : Pos) → FrontIn f g → Fails r f.tokens f.next kind pos → ⊥
  longer_not_failed f g kind pos l h = not_failed f.tokens l.token l.known l.to kind pos (begins_front f.tokens l.token l.rest (longer_begins f g l)) shallow (subst (λ (n : Ahead). Fails r f.tokens n kind pos) l.comes h)
    where
      shallow : depth (f.tokens ++ l.token ∷ []) ≤ MOST_LEVELS
      shallow = subst (λ (us : List Placed). depth us ≤ MOST_LEVELS) (ap (take (length (f.tokens ++ l.token ∷ []))) l.more ∙ take_front f.tokens l.token l.rest) (g.shallow (length (f.tokens ++ l.token ∷ [])))

  -- what is known behind the same front
  same_past : (f g : Front r names from) → Same f g → names_past f.next f.known ≡ names_past g.next g.known
  same_past f g s = ap (λ (n : Ahead). names_past n f.known) s.next ∙ ap (names_past g.next) s.known

  same_whole : (f g : Front r names from) (d : DirectiveTree) → Same f g → IsWhole f.tokens f.next d → IsWhole g.tokens g.next d
  same_whole f g d s w = subst (λ (ts : List Placed). IsWhole ts g.next d) s.tokens (subst (λ (n : Ahead). IsWhole f.tokens n d) s.next w)

  same_fails : (f g : Front r names from) (kind : SyntaxKind) (pos : Pos) → Same f g → Fails r f.tokens f.next kind pos → Fails r g.tokens g.next kind pos
  same_fails f g kind pos s h = subst (λ (ts : List Placed). Fails r ts g.next kind pos) s.tokens (subst (λ (n : Ahead). Fails r f.tokens n kind pos) s.next h)

  one_tree : (ts : List Placed) (next : Ahead) (d e : DirectiveTree) → IsWhole ts next d → IsWhole ts next e → d ≡ e
  one_tree ts next d e w v = let (more, h) = some_follow next in (no_two true (ts ++ more) d e more more (w more h) (v more h)).0

  whole_not_cut : (ts : List Placed) (next : Ahead) (d : DirectiveTree) → IsWhole ts next d → IsCut ts next → ⊥
  whole_not_cut ts next d w c = let (more, h) = some_follow next in c more d h (w more h)

  -- a refusal has one kind and place
  one_cause : (ts : List Placed) (next : Ahead) (k j : SyntaxKind) (p q : Pos) → Fails r ts next k p → Fails r ts next j q → (k ≡ j) × (p ≡ q)
  one_cause ts (a_fault found byte) (Lex k) (Lex j) p q h i = (ap Lex (h.0 ∙ sym i.0), h.1 ∙ sym i.1)
  one_cause ts (a_fault found byte) (Lex k) j p q h i = absurd i
  one_cause ts (a_fault found byte) k j p q h i = absurd h
  one_cause ts the_end Unclosed Unclosed p q h i = (refl, h.1 ∙ sym i.1)
  one_cause ts the_end Unclosed j p q h i = absurd i
  one_cause ts the_end k j p q h i = absurd h
  one_cause ts (a_token t known to) Unexpected Unexpected p q h i = (refl, h.1 ∙ sym i.1)
  one_cause ts (a_token t known to) Unexpected KindMix p q h i = absurd (h.0 i.1)
  one_cause ts (a_token t known to) Unexpected TooDeep p q h i = absurd (h.0 (loose (ts ++ t ∷ []) i.0))
  one_cause ts (a_token t known to) Unexpected j p q h i = absurd i
  one_cause ts (a_token t known to) KindMix Unexpected p q h i = absurd (i.0 h.1)
  one_cause ts (a_token t known to) KindMix KindMix p q h i = (refl, h.2 ∙ sym i.2)
  one_cause ts (a_token t known to) KindMix TooDeep p q h i = absurd (h.0 i.0)
  one_cause ts (a_token t known to) KindMix j p q h i = absurd i
  one_cause ts (a_token t known to) TooDeep Unexpected p q h i = absurd (i.0 (loose (ts ++ t ∷ []) h.0))
  one_cause ts (a_token t known to) TooDeep KindMix p q h i = absurd (i.0 h.0)
  one_cause ts (a_token t known to) TooDeep TooDeep p q h i = (refl, h.2 ∙ sym i.2)
  one_cause ts (a_token t known to) TooDeep j p q h i = absurd i
  one_cause ts (a_token t known to) k j p q h i = absurd h

  -- at the end of the text
  at_the_end : (ts : List Placed) (known : List (List ℕ)) (to : ℕ) → Reads r.file r.text names from ts known to → ahead r.file r.text names from ≡ the_end → (ts ≡ []) × (ahead r.file r.text known to ≡ the_end)
  at_the_end [] known to reads_none e = (refl, e)
  at_the_end (t ∷ ts) known to (reads_more {known = next} {mid = mid} f read) e = absurd (clash (sym f ∙ e))
    where
      clash : a_token t next mid ≡ the_end → ⊥
      clash h = cc

  ended_not_whole : (d : DirectiveTree) (to : ℕ) (names' : List (List ℕ)) → ahead r.file r.text names from ≡ the_end → Spelled r names from d to names' → ⊥
  ended_not_whole d to names' e s =
      let f = s.front in
      none_whole f.next d (subst (λ (ts : List Placed). IsWhole ts f.next d) (at_the_end f.tokens f.known f.to f.read e).0 s.whole)

  none_unclosed : (kind : SyntaxKind) (pos : Pos) → Fails r [] the_end kind pos → ⊥
  none_unclosed Unclosed pos h = h.0 refl
  none_unclosed kind pos h = h

  ended_not_stopped : (x : SyntaxError) (names' : List (List ℕ)) → ahead r.file r.text names from ≡ the_end → Refuses r names from x names' → ⊥
  ended_not_stopped x names' e s =
      let f = s.front in
      let g = at_the_end f.tokens f.known f.to f.read e in
      none_unclosed x.kind x.pos
      (subst (λ (ts : List Placed). Fails r ts the_end x.kind x.pos) g.0
      (subst (λ (n : Ahead). Fails r f.tokens n x.kind x.pos) (sym f.comes ∙ g.1) s.cause))

  module _ (d : DirectiveTree) (to : ℕ) (names₁ : List (List ℕ)) (s : Spelled r names from d to names₁) where
    one_whole : (e : DirectiveTree) (end : ℕ) (names₂ : List (List ℕ)) → Spelled r names from e end names₂ → whole d to names₁ ≡ whole e end names₂
    one_whole e end names₂ q = by (fronts s.front q.front)
      where
        by : Same s.front q.front ⊎ FrontIn s.front q.front ⊎ FrontIn q.front s.front → whole d to names₁ ≡ whole e end names₂
        by (inl m) =
            ap (λ (x : DirectiveTree). whole x to names₁) (one_tree q.front.tokens q.front.next d e (same_whole s.front q.front d m s.whole) q.whole)
            ∙ ap (λ (n : ℕ). whole e n names₁) (sym s.end ∙ m.to ∙ q.end)
            ∙ ap (whole e end) (s.after ∙ same_past s.front q.front m ∙ sym q.after)
        by (inr (inl l)) = absurd (longer_not_whole s.front q.front d l s.whole)
        by (inr (inr l)) = absurd (longer_not_whole q.front s.front e l q.whole)

    whole_not_stopped : (x : SyntaxError) (names₂ : List (List ℕ)) → Refuses r names from x names₂ → ⊥
    whole_not_stopped x names₂ q = by (fronts s.front q.front)
      where
        by : Same s.front q.front ⊎ FrontIn s.front q.front ⊎ FrontIn q.front s.front → ⊥
        by (inl m) = whole_not_cut q.front.tokens q.front.next d (same_whole s.front q.front d m s.whole) q.cut
        by (inr (inl l)) = longer_not_whole s.front q.front d l s.whole
        by (inr (inr l)) = longer_not_failed q.front s.front x.kind x.pos l q.cause

  same_error : (x y : SyntaxError) → x.kind ≡ y.kind → x.pos ≡ y.pos → x ≡ y
  same_error x y k p = ap (λ (kind : SyntaxKind). record { kind = kind; pos = x.pos }) k ∙ ap (λ (pos : Pos). record { kind = y.kind; pos = pos }) p

  one_stopped : (x y : SyntaxError) (names₁ names₂ : List (List ℕ)) → Refuses r names from x names₁ → Refuses r names from y names₂ → stopped x names₁ ≡ stopped y names₂
  one_stopped x y names₁ names₂ s q = by (fronts s.front q.front)
    where
      by : Same s.front q.front ⊎ FrontIn s.front q.front ⊎ FrontIn q.front s.front → stopped x names₁ ≡ stopped y names₂
      by (inl m) =
          let c = one_cause q.front.tokens q.front.next x.kind y.kind x.pos y.pos (same_fails s.front q.front x.kind x.pos m s.cause) q.cause in
          ap (λ (e : SyntaxError). stopped e names₁) (same_error x y c.0 c.1)
          ∙ ap (stopped y) (s.after ∙ same_past s.front q.front m ∙ sym q.after)
      by (inr (inl l)) = absurd (longer_not_failed s.front q.front x.kind x.pos l s.cause)
      by (inr (inr l)) = absurd (longer_not_failed q.front s.front y.kind y.pos l q.cause)

pub one_next : OneNext
one_next r names from (whole d to n) (whole e end m) h i = one_whole r names from d to n h e end m i
one_next r names from (whole d to n) ended h i = absurd (ended_not_whole r names from d to n i h)
one_next r names from (whole d to n) (stopped x m) h i = absurd (whole_not_stopped r names from d to n h x m i)
one_next r names from ended (whole e end m) h i = absurd (ended_not_whole r names from e end m h i)
one_next r names from ended ended h i = refl
one_next r names from ended (stopped x m) h i = absurd (ended_not_stopped r names from x m h i)
one_next r names from (stopped x n) (whole e end m) h i = absurd (whole_not_stopped r names from e end m i x n h)
one_next r names from (stopped x n) ended h i = absurd (ended_not_stopped r names from x n i h)
one_next r names from (stopped x n) (stopped y m) h i = one_stopped r names from x y n m h i
