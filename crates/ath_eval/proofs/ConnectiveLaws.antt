-- Applications of connectives.
use Rattle.std.proofs.Common.{◌≡◌, ℕ, zero, suc, ◌+◌, ◌<◌, ◌≤◌, Bool, true, cond, List, [], ◌∷◌, ◌++◌, length, map, drop, get_or, Result, Ok, Err, refl, sym, ◌∙◌, ap, subst, add-one, drop-cons, length-append, arith}
use Rattle.std.specs.List.{All}
use Rattle.std.proofs.lemmas.List.Elements.{All-head, All-tail, All-weaker}
use Rattle.ath_sorts.specs.Signature.{Signature}
use Rattle.ath_syntax.specs.declared.place.Pos.{Pos}
use Rattle.ath_terms.specs.declared.measure.BuildError.{BuildError}
use Rattle.ath_terms.specs.declared.measure.BuildError.TheVariants.{SortClash, ArgCount, NotBoolean, TooLarge, TooDeep, SortTooLarge, Memory}
use Rattle.ath_trees.specs.declared.node.Conn.{Conn}
use Rattle.ath_trees.specs.declared.node.SentId.{SentId}
use Rattle.ath_trees.specs.declared.node.TermId.{TermId}
use Rattle.ath_construction.specs.Construction.{takes, Unbuilt, counts, not_boolean, clash, sort_above, nodes_above, levels_above, Built, builds, refuses, made_atom, made_connective}
use Rattle.ath_construction.specs.Answers.{IsRefused, IsSentBuilt}
use Rattle.ath_trees.specs.Tree.{Sent}
use Rattle.ath_terms.specs.Trees.{Trees, term_at, sent_at, Grows}
use Rattle.ath_env.specs.declared.value.Value as value
use Rattle.ath_env.specs.declared.value.Value.TheVariants as code
use Rattle.ath_env.specs.Stands.{value_at}
use Rattle.ath_eval.specs.declared.kinds.Part.{Part as Piece}
use Rattle.ath_eval.specs.declared.kinds.Part.TheVariants as piece
use Rattle.ath_eval.specs.declared.world.Outcome as outcome
use Rattle.ath_eval.specs.Applying.{Kinds, kinds_of, Part, part_of, term_part, sentence_part, sentence_made, and_sentence, sentences_made, connective_of, connective_to, connective_applied}
use Rattle.ath_eval.specs.Arguments.{IsPieceIn, values_at, piece_tree}
use Rattle.ath_eval.specs.Stands.{AreSentsIn}
use Rattle.ath_eval.specs.Outcomes.{Left, Outcome}
use Rattle.ath_eval.specs.World.{IsSteady}
use Rattle.ath_env.proofs.ValueLaws.{is_in-kept}
use Rattle.ath_eval.proofs.KindLaws.{length_map}

-- ---- one part
pub atom_part : (sig : Signature) (s u : Trees) (part : Piece) (t : TermId) (r : Result SentId BuildError) → part ≡ piece.Term t → IsSentBuilt u (made_atom sig (term_at s.terms t.0)) r → IsSentBuilt u (sentence_made sig (piece_tree s part)) r
atom_part sig s u part t r e m = subst (λ (p : Piece). IsSentBuilt u (sentence_made sig (piece_tree s p)) r) (sym e) m

-- the number of a sentence of the store
abbrev pub IsSentIn : Trees → SentId → Type 0
IsSentIn s p = p.0 < length s.sents

-- ---- parts one by one
abbrev pub with_front : List Sent → Built (List Sent) → Built (List Sent)
with_front ps (builds qs) = builds (ps ++ qs)
with_front ps (refuses why) = refuses why

front_more : (ps : List Sent) (p : Sent) (b : Built (List Sent)) → with_front ps (and_sentence (builds p) b) ≡ with_front (ps ++ p ∷ []) b
front_more ps p (refuses why) = refl
front_more ps p (builds qs) = ap builds (appended ps p qs)
  where
    appended : (ps : List Sent) (p : Sent) (qs : List Sent) → ps ++ p ∷ qs ≡ (ps ++ p ∷ []) ++ qs
    appended [] p qs = refl
    appended (q ∷ ps) p qs = ap (λ (rs : List Sent). q ∷ rs) (appended ps p qs)

pub front_none : (b : Built (List Sent)) → b ≡ with_front [] b
front_none (builds ps) = refl
front_none (refuses why) = refl

abbrev pub trees_of : Trees → List SentId → List Sent
trees_of s ids = map (λ p. sent_at s.sents p.0) ids

trees_push : (s : Trees) (ids : List SentId) (p : SentId) → trees_of s (ids ++ p ∷ []) ≡ trees_of s ids ++ sent_at s.sents p.0 ∷ []
trees_push s [] p = refl
trees_push s (q ∷ ids) p = ap (λ (rs : List Sent). sent_at s.sents q.0 ∷ rs) (trees_push s ids p)

module _ (s t : Trees) (g : Grows s t) where
  sent_in_grows : (p : SentId) → IsSentIn s p → IsSentIn t p
  sent_in_grows p h = omega (arith, g.sents, h)

  pub sents_in_grow : (ids : List SentId) → All (IsSentIn s) ids → All (IsSentIn t) ids
  sents_in_grow ids h = All-weaker (IsSentIn s) (IsSentIn t) sent_in_grows ids h

  trees_grow : (ids : List SentId) → All (IsSentIn s) ids → trees_of t ids ≡ trees_of s ids
  trees_grow [] h = refl
  trees_grow (p ∷ ids) h =
      let a = All-head (IsSentIn s) p ids h in
      let b = trees_grow ids (All-tail (IsSentIn s) p ids h) in
      λ i. g.same_sents p.0 a i ∷ b i

  piece_grows : (p : Piece) → IsPieceIn s p → piece_tree t p ≡ piece_tree s p
  piece_grows (piece.Term i) h = ap term_part (g.same_terms i.0 h)
  piece_grows (piece.Sent i) h = ap sentence_part (g.same_sents i.0 h)

  pub piece_in_grows : (p : Piece) → IsPieceIn s p → IsPieceIn t p
  piece_in_grows (piece.Term i) h = is_in-kept s t (code.Term i) g h
  piece_in_grows (piece.Sent i) h = is_in-kept s t (code.Sent i) g h

-- what is refused where another is, with the same refusal
pub refused_same : {A B : Type 0} (u : Trees) (a : Built A) (b : Built B) (e : BuildError) → ((why : Unbuilt) → a ≡ refuses why → b ≡ refuses why) → IsRefused u a e → IsRefused u b e
refused_same u a b (SortClash l r) f h = f (clash (l, r)) h
refused_same u a b (ArgCount want given) f h = f (counts want given) h
refused_same u a b (NotBoolean t) f (x, h, is) = (x, f (not_boolean x) h, is)
refused_same u a b (TooLarge n) f h = f (nodes_above n) h
refused_same u a b (TooDeep n) f h = f (levels_above n) h
refused_same u a b SortTooLarge f h = f sort_above h
refused_same u a b Memory f h = tt

-- a part after others, whose sentences are known: s is the store at first, t that before the part, and u that after it
module _ (sig : Signature) (s t u : Trees) (g : Grows s t) (k : Grows t u) (parts : List Piece) (i : ℕ) (d : Piece) (lt : i < length parts) (good : All (IsPieceIn s) parts) (ids : List SentId) (so_far : All (IsSentIn t) ids) (whole : Built (List Sent)) (inv : whole ≡ with_front (trees_of t ids) (sentences_made sig (map (piece_tree s) (drop i parts)))) where
  at_here : whole ≡ with_front (trees_of t ids) (and_sentence (sentence_made sig (piece_tree t (get_or parts i d))) (sentences_made sig (map (piece_tree s) (drop (i + 1) parts))))
  at_here =
      let e : drop i parts ≡ get_or parts i d ∷ drop (i + 1) parts = rw add-one (drop-cons parts i d lt) in
      inv ∙ ap (λ (ps : List Piece). with_front (trees_of t ids) (sentences_made sig (map (piece_tree s) ps))) e
      ∙ ap (λ (x : Part). with_front (trees_of t ids) (and_sentence (sentence_made sig x) (sentences_made sig (map (piece_tree s) (drop (i + 1) parts))))) (sym (piece_grows s t g (get_or parts i d) (good i d lt)))

  pub part_next : (p : SentId) → IsSentBuilt u (sentence_made sig (piece_tree t (get_or parts i d))) (Ok p) → (whole ≡ with_front (trees_of u (ids ++ p ∷ [])) (sentences_made sig (map (piece_tree s) (drop (i + 1) parts)))) × IsSentIn u p
  part_next p (x, b, is) =
      let e : x ≡ sent_at u.sents p.0 = sym is.1 in
      let f : trees_of t ids ++ x ∷ [] ≡ trees_of u (ids ++ p ∷ []) = (λ j. sym (trees_grow t u k ids so_far) j ++ e j ∷ []) ∙ sym (trees_push u ids p) in (
        at_here
            ∙ ap (λ (y : Built Sent). with_front (trees_of t ids) (and_sentence y (sentences_made sig (map (piece_tree s) (drop (i + 1) parts))))) b
            ∙ front_more (trees_of t ids) x (sentences_made sig (map (piece_tree s) (drop (i + 1) parts)))
            ∙ ap (λ (ps : List Sent). with_front ps (sentences_made sig (map (piece_tree s) (drop (i + 1) parts)))) f,
        is.0,
      )

  pub part_refused : (e : BuildError) → IsSentBuilt u (sentence_made sig (piece_tree t (get_or parts i d))) (Err e) → IsRefused u whole e
  part_refused e h = refused_same u (sentence_made sig (piece_tree t (get_or parts i d))) whole e (λ why r. at_here ∙ ap (λ (y : Built Sent). with_front (trees_of t ids) (and_sentence y (sentences_made sig (map (piece_tree s) (drop (i + 1) parts))))) r) h

pub length_push : (ids : List SentId) (p : SentId) (n : ℕ) → length ids ≡ n → length (ids ++ p ∷ []) ≡ n + 1
length_push ids p n e = omega (arith, length-append ids (p ∷ []), e)

-- a push that ends well
pub pushed_items : (b : Bool) (new old : List SentId) (p : SentId) → b ≡ true → new ≡ cond b (old ++ p ∷ []) old → new ≡ old ++ p ∷ []
pushed_items b new old p e h = h ∙ ap (λ (c : Bool). cond c (old ++ p ∷ []) old) e

drop_all : (parts : List Piece) (n : ℕ) → length parts ≤ n → drop n parts ≡ []
drop_all [] zero h = refl
drop_all [] (suc n) h = refl
drop_all (p ∷ parts) zero h = absurd (omega arith)
drop_all (p ∷ parts) (suc n) h = drop_all parts n (omega arith)

pub parts_done : (sig : Signature) (s t : Trees) (parts : List Piece) (n : ℕ) (ids : List SentId) (whole : Built (List Sent)) → length parts ≤ n → whole ≡ with_front (trees_of t ids) (sentences_made sig (map (piece_tree s) (drop n parts))) → All (IsSentIn t) ids → AreSentsIn t whole ids
parts_done sig s t parts n ids whole le inv h =
    (inv ∙ ap (λ (ps : List Piece). with_front (trees_of t ids) (sentences_made sig (map (piece_tree s) ps))) (drop_all parts n le) ∙ ap builds (no_more (trees_of t ids)), h)
  where
    no_more : (ps : List Sent) → ps ++ [] ≡ ps
    no_more [] = refl
    no_more (p ∷ ps) = ap (λ (qs : List Sent). p ∷ qs) (no_more ps)

-- ---- the connective
module _ (sig : Signature) (c : Conn) (whole : Built (List Sent)) where
  pub connective_made : (t u : Trees) (ids : List SentId) (r : Result SentId BuildError) → AreSentsIn t whole ids → IsSentBuilt u (made_connective sig c (trees_of t ids)) r → IsSentBuilt u (connective_of sig c whole) r
  connective_made t u ids r h m = subst (λ (b : Built Sent). IsSentBuilt u b r) (sym (ap (connective_of sig c) h.0)) m

  pub connective_refused : (u : Trees) (e : BuildError) → IsRefused u whole e → IsRefused u (connective_of sig c whole) e
  connective_refused u e h = refused_same u whole (connective_of sig c whole) e (λ why r. ap (connective_of sig c) r) h

-- ---- its arguments
module _ (sig : Signature) (c : Conn) (s u : Trees) (vs : List value.Value) (at : Pos) (o : outcome.Outcome) (many : takes c (length vs) ≡ true) where
  pub connective_is : (k : Kinds Part) → kinds_of part_of 1 (values_at s vs) ≡ k → IsSteady u o (connective_to sig c k at) → IsSteady u o (connective_applied sig c (values_at s vs) at)
  connective_is k e h =
      let t : takes c (length (values_at s vs)) ≡ true = ap (takes c) (length_map (value_at s) vs) ∙ many in
      let f : connective_applied sig c (values_at s vs) ≡ connective_to sig c k = rw t (ap (connective_to sig c) e) in
      subst (λ (f : Pos → Left → Outcome). IsSteady u o (f at)) (sym f) h
