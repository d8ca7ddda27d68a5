-- Values by their kinds.
use Rattle.std.proofs.Common.{◌≡◌, ℕ, suc, ◌+◌, ◌<◌, List, [], ◌∷◌, ◌++◌, length, map, drop, get_or, Option, Some, None, refl, sym, ◌∙◌, ap, subst, add-one, drop-cons, arith}
use Rattle.std.specs.List.{All}
use Rattle.std.proofs.lemmas.List.Elements.{All-nil, All-head, All-tail, All-cons}
use Rattle.ath_trees.specs.declared.node.TermId.{TermId}
use Rattle.ath_trees.specs.declared.node.Var.{Var}
use Rattle.ath_trees.specs.Tree.{Term}
use Rattle.ath_terms.specs.Trees.{Trees, term_at}
use Rattle.ath_env.specs.declared.value.Value as value
use Rattle.ath_env.specs.declared.value.Value.TheVariants as code
use Rattle.ath_env.specs.Values.{term_of}
use Rattle.ath_env.specs.Stands.{IsIn, value_at}
use Rattle.ath_eval.specs.declared.kinds.Part.{Part as Piece}
use Rattle.ath_eval.specs.declared.kinds.Part.TheVariants as piece
use Rattle.ath_eval.specs.Applying.{Kinds, all_are, wrong_at, and_kind, kinds_of, Part, part_of, variable_in}
use Rattle.ath_eval.specs.Arguments.{IsPieceIn, values_at, piece_value, piece_tree, IsNoPiece}

pub front_at : (vs front : List value.Value) (k : ℕ) (d : value.Value) → k < length vs → vs ≡ front ++ drop k vs → vs ≡ front ++ get_or vs k d ∷ drop (k + 1) vs
front_at vs front k d h e = let f : drop k vs ≡ get_or vs k d ∷ drop (k + 1) vs = rw add-one (drop-cons vs k d h) in e ∙ ap (λ (rest : List value.Value). front ++ rest) f

-- ---- variables, one by one
abbrev pub after_those : List Var → Kinds Var → Kinds Var
after_those vs (all_are ws) = all_are (vs ++ ws)
after_those vs (wrong_at i) = wrong_at i

-- what the values from a number on are
abbrev pub kinds_from : Trees → ℕ → List value.Value → Kinds Var
kinds_from s i vs = kinds_of variable_in (i + 1) (values_at s (drop i vs))

module _ (s : Trees) where
  -- a value that is no term is none in the store
  no_term : (v : value.Value) → ((t : TermId) → v ≡ code.Term t → ⊥) → term_of (value_at s v) ≡ None
  no_term (code.Term t) h = absurd (h t refl)
  no_term (code.Sent p) h = refl
  no_term (code.Symbol f) h = refl
  no_term (code.Conn c) h = refl
  no_term (code.Quant q) h = refl
  no_term code.Back h = refl
  no_term (code.PrimMethod n) h = refl

  abbrev terms_at : List TermId → List Term
  terms_at ids = map (λ i. term_at s.terms i.0) ids

  all_terms : (i : ℕ) (ids : List TermId) → kinds_of term_of i (values_at s (map (λ t. code.Term t) ids)) ≡ all_are (terms_at ids)
  all_terms i [] = refl
  all_terms i (t ∷ ids) = ap (λ (k : Kinds Term). and_kind i (Some (term_at s.terms t.0)) k) (all_terms (suc i) ids)

  wrong_term : (i : ℕ) (ids : List TermId) (v : value.Value) (rest : List value.Value) → ((t : TermId) → v ≡ code.Term t → ⊥) → kinds_of term_of i (values_at s (map (λ t. code.Term t) ids ++ v ∷ rest)) ≡ wrong_at (length ids + i)
  wrong_term i [] v rest h = ap (λ (o : Option Term). and_kind i o (kinds_of term_of (suc i) (values_at s rest))) (no_term v h) ∙ (let n : i ≡ 0 + i = omega arith in ap (λ (k : ℕ). wrong_at k) n)
  wrong_term i (t ∷ ids) v rest h = ap (λ (k : Kinds Term). and_kind i (Some (term_at s.terms t.0)) k) (wrong_term (suc i) ids v rest h ∙ (let n : length ids + suc i ≡ suc (length ids) + i = omega arith in ap (λ (k : ℕ). wrong_at k) n))

  pub no_part : (v : value.Value) → IsNoPiece v → part_of (value_at s v) ≡ None
  no_part (code.Term t) h = absurd (h (piece.Term t) refl)
  no_part (code.Sent p) h = absurd (h (piece.Sent p) refl)
  no_part (code.Symbol f) h = refl
  no_part (code.Conn c) h = refl
  no_part (code.Quant q) h = refl
  no_part code.Back h = refl
  no_part (code.PrimMethod n) h = refl

  a_part : (p : Piece) → part_of (value_at s (piece_value p)) ≡ Some (piece_tree s p)
  a_part (piece.Term t) = refl
  a_part (piece.Sent p) = refl

  all_parts : (i : ℕ) (ps : List Piece) → kinds_of part_of i (values_at s (map piece_value ps)) ≡ all_are (map (piece_tree s) ps)
  all_parts i [] = refl
  all_parts i (p ∷ ps) = λ j. and_kind i (a_part p j) (all_parts (suc i) ps j)

  wrong_part : (i : ℕ) (ps : List Piece) (v : value.Value) (rest : List value.Value) → IsNoPiece v → kinds_of part_of i (values_at s (map piece_value ps ++ v ∷ rest)) ≡ wrong_at (length ps + i)
  wrong_part i [] v rest h = ap (λ (o : Option Part). and_kind i o (kinds_of part_of (suc i) (values_at s rest))) (no_part v h) ∙ (let n : i ≡ 0 + i = omega arith in ap (λ (k : ℕ). wrong_at k) n)
  wrong_part i (p ∷ ps) v rest h =
      let n : length ps + suc i ≡ suc (length ps) + i = omega arith in
      let e : kinds_of part_of (suc i) (values_at s (map piece_value ps ++ v ∷ rest)) ≡ wrong_at (suc (length ps) + i) = wrong_part (suc i) ps v rest h ∙ ap (λ (k : ℕ). wrong_at k) n in
      λ j. and_kind i (a_part p j) (e j)

  -- ---- of the arguments
  module _ (vs : List value.Value) where
    pub kinds_terms : (ids : List TermId) → vs ≡ map (λ t. code.Term t) ids → kinds_of term_of 1 (values_at s vs) ≡ all_are (terms_at ids)
    kinds_terms ids e = ap (λ (us : List value.Value). kinds_of term_of 1 (values_at s us)) e ∙ all_terms 1 ids

    pub kinds_no_terms : (n : ℕ) → (ids : List TermId) × (v : value.Value) × (rest : List value.Value) × (vs ≡ map (λ t. code.Term t) ids ++ v ∷ rest) × ((t : TermId) → v ≡ code.Term t → ⊥) × (n ≡ length ids + 1) → kinds_of term_of 1 (values_at s vs) ≡ wrong_at n
    kinds_no_terms n (ids, v, rest, e, h, i) = ap (λ (us : List value.Value). kinds_of term_of 1 (values_at s us)) e ∙ wrong_term 1 ids v rest h ∙ ap wrong_at (sym i)

    pub kinds_parts : (ps : List Piece) → vs ≡ map piece_value ps → kinds_of part_of 1 (values_at s vs) ≡ all_are (map (piece_tree s) ps)
    kinds_parts ps e = ap (λ (us : List value.Value). kinds_of part_of 1 (values_at s us)) e ∙ all_parts 1 ps

    pub kinds_no_parts : (n : ℕ) → (ps : List Piece) × (v : value.Value) × (rest : List value.Value) × (vs ≡ map piece_value ps ++ v ∷ rest) × IsNoPiece v × (n ≡ length ps + 1) → kinds_of part_of 1 (values_at s vs) ≡ wrong_at n
    kinds_no_parts n (ps, v, rest, e, h, i) = ap (λ (us : List value.Value). kinds_of part_of 1 (values_at s us)) e ∙ wrong_part 1 ps v rest h ∙ ap wrong_at (sym i)

  -- ---- those that are numbers of the store
  ids_in : (ids : List TermId) → All (IsIn s) (map (λ t. code.Term t) ids) → All (λ i. i.0 < length s.terms) ids
  ids_in [] h = All-nil (λ (i : TermId). i.0 < length s.terms)
  ids_in (t ∷ ids) h = All-cons (λ (i : TermId). i.0 < length s.terms) t ids (All-head (IsIn s) (code.Term t) (map (λ t. code.Term t) ids) h) (ids_in ids (All-tail (IsIn s) (code.Term t) (map (λ t. code.Term t) ids) h))

  pub terms_in : (vs : List value.Value) (ids : List TermId) → vs ≡ map (λ t. code.Term t) ids → All (IsIn s) vs → All (λ i. i.0 < length s.terms) ids
  terms_in vs ids e h = ids_in ids (subst (λ (us : List value.Value). All (IsIn s) us) e h)

  pieces_in : (ps : List Piece) → All (IsIn s) (map piece_value ps) → All (IsPieceIn s) ps
  pieces_in [] h = All-nil (IsPieceIn s)
  pieces_in (p ∷ ps) h = All-cons (IsPieceIn s) p ps (All-head (IsIn s) (piece_value p) (map piece_value ps) h) (pieces_in ps (All-tail (IsIn s) (piece_value p) (map piece_value ps) h))

  pub parts_in : (vs : List value.Value) (ps : List Piece) → vs ≡ map piece_value ps → All (IsIn s) vs → All (IsPieceIn s) ps
  parts_in vs ps e h = pieces_in ps (subst (λ (us : List value.Value). All (IsIn s) us) e h)

pub length_map : {A B : Type 0} (f : A → B) (xs : List A) → length (map f xs) ≡ length xs
length_map f [] = refl
length_map f (x ∷ xs) = let e = length_map f xs in omega arith
