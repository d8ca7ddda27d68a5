-- What the tokens that are read so far carry, from turn to turn.
use Rattle.std.proofs.Common.{◌≡◌, ℕ, zero, suc, take, ◌<◌, ◌≤◌, List, [], ◌∷◌, ◌++◌, length, Bool, true, false, Some, None, Ok, Err, inl, inr, refl, sym, ap, ◌∙◌, subst, arith}
use Rattle.ath_syntax.specs.Tree.{DirectiveTree}
use Rattle.ath_grammar.specs.declared.item.Item.{Item}
use Rattle.ath_grammar.specs.declared.lexeme.Lexeme.{Lexeme}
use Rattle.ath_grammar.specs.Tokens.{Placed, at, class_of_lexeme}
use Rattle.ath_grammar.specs.Trees.{Value, v1, trees}
use Rattle.ath_grammar.specs.Grammar.{grammar}
use Rattle.ath_grammar.specs.declared.levels.Open.{Open}
use Rattle.ath_grammar.specs.Levels.{take_class, take_all, depth_of, depth}
use Rattle.ath_grammar.specs.Machine.{Outcome, over, took, refused as no_way, advance, settle}
use Rattle.ath_grammar.specs.Directives.{directive_items}
use Rattle.ath_grammar.specs.Laws.{after}
use Rattle.ath_names.specs.Names.{KeepsNames}
use Rattle.ath_names.proofs.NamesLaws.{KeepsNames-refl, KeepsNames-trans}
use Rattle.ath_tokens.specs.Cut.{place_of}
use Rattle.ath_syntax.specs.declared.place.Pos.{Pos}
use Rattle.ath_tokens.specs.declared.tokens.LexError.{LexError}
use Rattle.ath_tokens.specs.Cutting.{Cutting}
use Rattle.ath_numbering.specs.declared.tree.DirectiveTree as read
use Rattle.ath_numbering.specs.Trees.{directive_of}
use Rattle.ath_builder.specs.Values.{held, directive_in}
use Rattle.ath_reader.specs.declared.limits.TheConstants.{MOST_LEVELS}
use Rattle.ath_reader.specs.declared.reader.Begun.{Begun}
use Rattle.ath_reader.specs.declared.reader.Seen.{Seen}
use Rattle.ath_reader.specs.declared.reader.Seen.TheVariants.{Token, End, Fault}
use Rattle.ath_reader.specs.declared.reader.Taken.TheVariants.{On, Whole}
use Rattle.ath_reader.specs.declared.reader.SyntaxError.{SyntaxError}
use Rattle.ath_reader.specs.declared.reader.SyntaxKind.{SyntaxKind}
use Rattle.ath_reader.specs.declared.reader.SyntaxKind.TheVariants.{Lex, Unexpected, Unclosed, KindMix, TooDeep, Memory}
use Rattle.ath_reader.specs.Ahead.{Ahead, a_token, the_end, a_fault, ahead, Reads, reads_none, reads_more}
use Rattle.ath_reader.specs.Runs.{left}
use Rattle.ath_reader.specs.Reading.{Shallow, Front, IsWhole, IsCut, place, Fails}
use Rattle.ath_reader.specs.Steps.{next_of, outcome, IsNotOver, Looks, Rejects, Turns, is_end, reading_of, ReadsTree}
use Rattle.ath_reader.proofs.KnownTokens.{reads_grow}
use Rattle.ath_reader.proofs.Carried.{reads_snoc, levels_snoc, shallow_snoc, begins_here, over_whole, end_whole, fault_whole, end_cut, fault_cut, token_cut, refused_not_over, mixed_not_over, took_not_over, refused_here, behind_here, mixed, read_next, begins_next}

-- the items that are still to be read, and the values of what was
abbrev pub items_in : Begun → List Item
items_in b = left b.machine

abbrev pub values_in : Begun → List Value
values_in b = held b.machine.values

-- the tokens from old on as far as c are read, and this is left behind them
pub record Carried (old : Cutting) (names : List (List ℕ)) (c : Cutting) (known : List (List ℕ)) (b : Begun) (begun : Bool) : Type 0 where
  pub tokens : List Placed
  pub read : Reads old.file old.text names old.at tokens known c.at
  pub leads : after tokens ≡ Some (settle trees (items_in b) (values_in b))
  pub levels : b.levels ≡ take_all [] tokens
  pub shallow : Shallow tokens
  pub low : depth_of b.levels ≤ MOST_LEVELS
  pub same : c ≡ record old { at = c.at }
  pub some : begun ≡ true → tokens ≡ [] → ⊥
  pub none : begun ≡ false → (c ≡ old) × (known ≡ names)

pub begins_carried : (c : Cutting) (names : List (List ℕ)) (b : Begun) → after [] ≡ Some (settle trees (items_in b) (values_in b)) → b.levels ≡ [] → Carried c names c names b false
begins_carried c names b e l = record {
  tokens = [];
  read = reads_none;
  leads = e;
  levels = l;
  shallow = λ n. first n;
  low = subst (λ (os : List Open). depth_of os ≤ MOST_LEVELS) (sym l) (omega arith);
  same = refl;
  some = λ b f. cc;
  none = λ b. (refl, refl);
}
  where
    first : (n : ℕ) → depth (take n []) ≤ MOST_LEVELS
    first zero = omega arith
    first (suc n) = omega arith

-- before the first token
pub begun_first : (is : List Item) (vs : List Value) → is ≡ directive_items → vs ≡ [] → after [] ≡ Some (settle trees is vs)
begun_first is vs e f = sym (ap (λ (js : List Item). Some (settle trees js vs)) e ∙ ap (λ (us : List Value). Some (settle trees directive_items us)) f)

snoc_some : (ts : List Placed) (t : Placed) → ts ++ t ∷ [] ≡ [] → ⊥
snoc_some [] t e = absurd (grind (arith, e))
snoc_some (x ∷ ts) t e = absurd (grind (arith, e))

same_grows : (known known' : List (List ℕ)) → known' ≡ known → KeepsNames known known'
same_grows known known' k = subst (KeepsNames known) (sym k) (KeepsNames-refl known)

has_begun : (b : Bool) → (b ≡ false → true ≡ false) → b ≡ true
has_begun true f = refl
has_begun false f = sym (f refl)

module _ (old : Cutting) (names : List (List ℕ)) (c : Cutting) (known : List (List ℕ)) (b : Begun) (begun : Bool) (carried : Carried old names c known b begun) where
  -- what is ahead from here on, in the text that is read
  from_old : (next : Ahead) → next_of c known ≡ next → ahead old.file old.text known c.at ≡ next
  from_old next e = ap (λ (d : Cutting). ahead d.file d.text known c.at) (sym carried.same) ∙ e

  text_same : c.text ≡ old.text
  text_same = ap (λ (d : Cutting). d.text) carried.same

  file_same : c.file ≡ old.file
  file_same = ap (λ (d : Cutting). d.file) carried.same

  front : (next : Ahead) → next_of c known ≡ next → Front (reading_of old) names old.at
  front next e = record {
    tokens = carried.tokens;
    known = known;
    to = c.at;
    read = carried.read;
    begins = begins_here carried.tokens (items_in b) (values_in b) carried.leads true;
    shallow = carried.shallow;
    next = next;
    comes = from_old next e;
  }

  levels_next : (p : Pos) (l : Lexeme) → take_all [] (carried.tokens ++ at p l ∷ []) ≡ take_class (class_of_lexeme l) b.levels
  levels_next p l = levels_snoc [] carried.tokens (at p l) ∙ ap (λ (os : List Open). take_class (class_of_lexeme l) os) (sym carried.levels)

  depth_next : (p : Pos) (l : Lexeme) → depth (carried.tokens ++ at p l ∷ []) ≡ depth_of (take_class (class_of_lexeme l) b.levels)
  depth_next p l = ap depth_of (levels_next p l)

  pub turned_on : (seen : Seen) (new : Cutting) (known' : List (List ℕ)) (a : Begun) → Looks c known (Ok seen) new known' → Turns new b seen (Ok (On a)) → Carried old names new known' a true
  turned_on (Token l p) new known' a looks takes = record {
    tokens = carried.tokens ++ at p l ∷ [];
    read = reads_snoc old.file old.text carried.read (from_old (a_token (at p l) known' new.at) looks.0);
    leads = read_next carried.tokens (items_in b) (values_in b) carried.leads (at p l) (items_in a) (values_in a) takes.0;
    levels = takes.1 ∙ sym (levels_next p l);
    shallow = shallow_snoc carried.tokens (at p l) carried.shallow (subst (λ (n : ℕ). n ≤ MOST_LEVELS) (ap depth_of takes.1 ∙ sym (depth_next p l)) takes.2);
    low = takes.2;
    same = looks.3 ∙ ap (λ (d : Cutting). record d { at = new.at }) carried.same;
    some = λ b f. snoc_some carried.tokens (at p l) f;
    none = λ b. cc;
  }
  turned_on End new known' a looks lasts = absurd lasts
  turned_on (Fault e) new known' a looks lasts = absurd lasts

  -- the tokens go back to the byte behind the directive
  went_back : (new back : Cutting) → new.text ≡ old.text → new.file ≡ old.file → old.refused ≡ None → back ≡ record new { at = c.at; refused = None } → back ≡ record old { at = c.at }
  went_back new back t f r e = e ∙ grind (arith, t, f, r)

  -- a tree that is whole, by the code's
  as_read : (ts : List Placed) (next : Ahead) (d : read.DirectiveTree) (us : List Value) → directive_of d ≡ directive_in (v1 us) → IsWhole ts next (directive_in (v1 us)) → IsWhole ts next (directive_of d)
  as_read ts next d us e w = subst (λ (x : DirectiveTree). IsWhole ts next x) (sym e) w

  pub turned_whole : (seen : Seen) (new back : Cutting) (known' : List (List ℕ)) (d : read.DirectiveTree) → old.refused ≡ None → Looks c known (Ok seen) new known' → Turns new b seen (Ok (Whole d)) → back ≡ record new { at = c.at; refused = None } → ReadsTree old names (Ok (Some d)) back known'
  unfolding front
  turned_whole (Token l p) new back known' d r looks (us, o, e) g = (
    front (a_token (at p l) known' new.at) looks.0,
    as_read carried.tokens (a_token (at p l) known' new.at) d us e (over_whole carried.tokens (items_in b) (values_in b) carried.leads (at p l) known' new.at us o),
    refl,
    went_back new back (ap (λ (x : Cutting). x.text) looks.3 ∙ text_same) (ap (λ (x : Cutting). x.file) looks.3 ∙ file_same) r g,
  )
  turned_whole End new back known' d r looks (us, o, e) g = (
    front the_end looks.0,
    as_read carried.tokens the_end d us e (end_whole carried.tokens (items_in b) (values_in b) carried.leads us o),
    looks.1,
    went_back new back (ap (λ (x : Cutting). x.text) looks.2 ∙ text_same) (ap (λ (x : Cutting). x.file) looks.2 ∙ file_same) r g,
  )
  turned_whole (Fault x) new back known' d r (n, f, p, k, t, y) (us, o, e) g = (
    front (a_fault x.kind n) f,
    as_read carried.tokens (a_fault x.kind n) d us e (fault_whole carried.tokens (items_in b) (values_in b) carried.leads x.kind n us o),
    k,
    went_back new back (t ∙ text_same) (y ∙ file_same) r g,
  )

  abbrev Fault_at : Placed → List (List ℕ) → ℕ → SyntaxKind → Type 0
  Fault_at t known' to kind = IsCut carried.tokens (a_token t known' to) × Fails (reading_of old) carried.tokens (a_token t known' to) kind (place t)

  cuts : (t : Placed) (known' : List (List ℕ)) (to : ℕ) (o : Outcome (List Value)) → advance trees grammar (Some t) (items_in b) (values_in b) ≡ o → IsNotOver o → IsCut carried.tokens (a_token t known' to)
  cuts t known' to o s n = token_cut carried.tokens (items_in b) (values_in b) carried.leads t known' to (λ us f. n us (sym s ∙ f))

  rejects : (p : Pos) (l : Lexeme) (known' : List (List ℕ)) (to : ℕ) (o : Outcome (List Value)) (kind : SyntaxKind) → advance trees grammar (Some (at p l)) (items_in b) (values_in b) ≡ o → Rejects o (depth_of (take_class (class_of_lexeme l) b.levels)) kind → Fault_at (at p l) known' to kind
  rejects p l known' to no_way Unexpected s h = (cuts (at p l) known' to no_way s refused_not_over, (refused_here carried.tokens (items_in b) (values_in b) carried.leads (at p l) s, refl))
  rejects p l known' to (over false us) Unexpected s h = (cuts (at p l) known' to (over false us) s (mixed_not_over us), (behind_here carried.tokens (items_in b) (values_in b) carried.leads (at p l) us s, refl))
  rejects p l known' to (took false js us) KindMix s h = let m = mixed carried.tokens (items_in b) (values_in b) carried.leads (at p l) js us s in (cuts (at p l) known' to (took false js us) s (took_not_over false js us), (m.0, m.1, refl))
  rejects p l known' to (took true js us) TooDeep s h = (
    cuts (at p l) known' to (took true js us) s (took_not_over true js us),
    (begins_next carried.tokens (items_in b) (values_in b) carried.leads (at p l) js us s, subst (λ (n : ℕ). MOST_LEVELS < n) (sym (depth_next p l)) h, refl),
  )
  rejects p l known' to o kind s h = absurd h

  -- memory is wanted
  pub turned_wants : (new : Cutting) (known' : List (List ℕ)) (e : SyntaxError) → KeepsNames known known' → new.text ≡ old.text → new.file ≡ old.file → e.kind ≡ Memory → ReadsTree old names (Err e) new known'
  turned_wants new known' e g t f m = (t, f, inl (m, KeepsNames-trans (reads_grow old.file old.text names old.at carried.tokens known c.at carried.read) g))

  refuses_token : (p : Pos) (l : Lexeme) (new : Cutting) (known' : List (List ℕ)) (e : SyntaxError) → next_of c known ≡ a_token (at p l) known' new.at → new.text ≡ c.text → new.file ≡ c.file → e.pos ≡ p → Rejects (outcome b (Token l p)) (depth_of (take_class (class_of_lexeme l) b.levels)) e.kind → ReadsTree old names (Err e) new known'
  unfolding front
  refuses_token p l new known' e a x f q h =
      let r = rejects p l known' new.at (outcome b (Token l p)) e.kind refl h in (
        x ∙ text_same,
        f ∙ file_same,
        inr (record {
          front = front (a_token (at p l) known' new.at) a;
          cut = r.0;
          cause = subst (λ (o : Pos). Fails (reading_of old) carried.tokens (a_token (at p l) known' new.at) e.kind o) (sym q) r.1;
          after = refl;
        }),
      )

  -- the tokens end within a directive
  refuses_end : (new : Cutting) (e : SyntaxError) → next_of c known ≡ the_end → new.text ≡ c.text → new.file ≡ c.file → e ≡ record { kind = Unclosed; pos = place_of new.file new.text (length new.text) } → (carried.tokens ≡ [] → ⊥) → IsNotOver (advance trees grammar None (items_in b) (values_in b)) → ReadsTree old names (Err e) new known
  unfolding front
  refuses_end new e a x f same some n = (
    x ∙ text_same,
    f ∙ file_same,
    inr (record {
      front = front the_end a;
      cut = end_cut carried.tokens (items_in b) (values_in b) carried.leads n;
      cause = subst (λ (g : SyntaxError). Fails (reading_of old) carried.tokens the_end g.kind g.pos) (sym same) (some, grind (arith, x, f, text_same, file_same));
      after = refl;
    }),
  )

  refuses_fault : (new : Cutting) (e : SyntaxError) (g : LexError) (n : ℕ) → next_of c known ≡ a_fault g.kind n → new.text ≡ c.text → new.file ≡ c.file → g.pos ≡ place_of c.file c.text n → e ≡ record { kind = Lex g.kind; pos = g.pos } → IsNotOver (advance trees grammar None (items_in b) (values_in b)) → ReadsTree old names (Err e) new known
  unfolding front
  refuses_fault new e g n a x f p same k = (
    x ∙ text_same,
    f ∙ file_same,
    inr (record {
      front = front (a_fault g.kind n) a;
      cut = fault_cut carried.tokens (items_in b) (values_in b) carried.leads g.kind n k;
      cause = subst (λ (h : SyntaxError). Fails (reading_of old) carried.tokens (a_fault g.kind n) h.kind h.pos) (sym same) (refl, p ∙ grind (arith, text_same, file_same));
      after = refl;
    }),
  )

  -- a refusal
  pub turned_err : (seen : Seen) (new : Cutting) (known' : List (List ℕ)) (e : SyntaxError) → Looks c known (Ok seen) new known' → (begun ≡ false → is_end seen ≡ false) → Turns new b seen (Err e) → ReadsTree old names (Err e) new known'
  turned_err (Token l p) new known' e looks ends (inl m) =
      turned_wants new known' e (reads_grow old.file old.text known c.at (at p l ∷ []) known' new.at (reads_more (from_old (a_token (at p l) known' new.at) looks.0) reads_none)) (ap (λ (d : Cutting). d.text) looks.3 ∙ text_same) (ap (λ (d : Cutting). d.file) looks.3 ∙ file_same) m
  turned_err (Token l p) new known' e looks ends (inr h) = refuses_token p l new known' e looks.0 (ap (λ (d : Cutting). d.text) looks.3) (ap (λ (d : Cutting). d.file) looks.3) h.0 h.1
  turned_err End new known' e (a, k, n) ends (inl m) = turned_wants new known' e (same_grows known known' k) (ap (λ (d : Cutting). d.text) n ∙ text_same) (ap (λ (d : Cutting). d.file) n ∙ file_same) m
  turned_err End new known' e (a, k, n) ends (inr h) = subst (λ (ns : List (List ℕ)). ReadsTree old names (Err e) new ns) (sym k) (refuses_end new e a (ap (λ (d : Cutting). d.text) n) (ap (λ (d : Cutting). d.file) n) h.0 (carried.some (has_begun begun ends)) h.1)
  turned_err (Fault g) new known' e (n, a, p, k, x, f) ends (inl m) = turned_wants new known' e (same_grows known known' k) (x ∙ text_same) (f ∙ file_same) m
  turned_err (Fault g) new known' e (n, a, p, k, x, f) ends (inr h) = subst (λ (ns : List (List ℕ)). ReadsTree old names (Err e) new ns) (sym k) (refuses_fault new e g n a x f p h.0 h.1)
