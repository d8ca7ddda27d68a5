-- The bytes of a print are those of its shape's pieces.
use Rattle.std.proofs.Common.{◌≡◌, ℕ, Bool, true, false, List, [], ◌∷◌, ◌++◌, map, Option, Some, None, refl, sym, ap, ◌∙◌, append_assoc, append-nil, codes, if◌then◌else◌}
use Rattle.std.specs.Prelude.{position}
use Rattle.std.specs.List.{list_any, AllByRecursion}
use Rattle.ath_sorts.specs.declared.sorts.Sym.{Sym}
use Rattle.ath_sorts.specs.declared.sorts.SVar.{SVar}
use Rattle.ath_sorts.specs.declared.sorts.Sort.{Sort, Var, Con}
use Rattle.ath_sorts.specs.declared.sorts.Sort.TheOpen as one
use Rattle.ath_sorts.specs.declared.sorts.Sort.TheVariants.{rolls-Var, rolls-Con}
use Rattle.ath_sorts.specs.declared.sorts.Sort.TheFolds.{fold-roll-Sort}
use Rattle.ath_sorts.specs.Sorts.{same_svar}
use Rattle.ath_sorts.specs.Signature.{Signature, symbol_of}
use Rattle.ath_sorts.proofs.SortLaws.{sort_induction}
use Rattle.ath_trees.specs.declared.node.Var.{Var as Variable}
use Rattle.ath_trees.specs.declared.node.Conn.TheVariants.{Not}
use Rattle.ath_trees.specs.SortsIn.{result_sort}
use Rattle.ath_trees.specs.Tree.{Term, Terms, var, app, none, more, Sent, atom, equal, negated, joined, bound, conn_of}
use Rattle.ath_trees.specs.Variables.{same_var}
use Rattle.ath_env.specs.LookUp.{text_of}
use Rattle.ath_print.specs.Printers as print
use Rattle.ath_print.specs.Printers.{Printed, Printer}
use Rattle.ath_print.specs.Prefix.{conn_text, quant_text, numbered, svar_printed, sort_step as printed_step, sort_printed, index_text, var_text, with_sort, occurrence, leaves_unsaid, ascribed as printed_ascribed, term_printed, terms_printed, sent_printed}
use Rattle.ath_print.specs.Lines.{printed}
use Rattle.ath_reading_back.specs.Shapes.{SortShape, sort_item, sort_variable, SortShapes, no_sorts, more_sorts, Shape, variable, item, ascribed, Shapes, no_shapes, more_shapes, SortShaper, Shaper, numbered_shape, sorts_in_turn, sort_step, sort_shape, in_turn, item_shape, sorted_shape, bound_shape, occurrence_shape, app_shape, term_shape, terms_shapes, sent_shape, shape_of}
use Rattle.ath_reading_back.specs.Pieces.{Piece, closing, colon, sort_pieces, sorts_pieces, shape_pieces, shapes_pieces, gap_text, bytes_of}

-- ---- the bytes of a shape
abbrev mutual
  pub sort_bytes : SortShape → List ℕ
  sort_bytes (sort_item w no_sorts) = w
  sort_bytes (sort_item w (more_sorts s ss)) = 40 ∷ (w ++ ((32 ∷ (sort_bytes s ++ sorts_bytes ss)) ++ (41 ∷ [])))
  sort_bytes (sort_variable w) = 39 ∷ w

  pub sorts_bytes : SortShapes → List ℕ
  sorts_bytes no_sorts = []
  sorts_bytes (more_sorts s ss) = 32 ∷ (sort_bytes s ++ sorts_bytes ss)

abbrev mutual
  pub shape_bytes : Shape → List ℕ
  shape_bytes (variable w k None) = 63 ∷ (w ++ index_text k)
  shape_bytes (variable w k (Some s)) = (63 ∷ (w ++ index_text k)) ++ (58 ∷ sort_bytes s)
  shape_bytes (item w no_shapes) = w
  shape_bytes (item w (more_shapes t ts)) = 40 ∷ (w ++ ((32 ∷ (shape_bytes t ++ shapes_bytes ts)) ++ (41 ∷ [])))
  shape_bytes (ascribed w no_shapes s) = 40 ∷ (w ++ (32 ∷ 58 ∷ 32 ∷ (sort_bytes s ++ (41 ∷ []))))
  shape_bytes (ascribed w (more_shapes t ts) s) = 40 ∷ ((40 ∷ (w ++ ((32 ∷ (shape_bytes t ++ shapes_bytes ts)) ++ (41 ∷ [])))) ++ (32 ∷ 58 ∷ 32 ∷ (sort_bytes s ++ (41 ∷ []))))

  pub shapes_bytes : Shapes → List ℕ
  shapes_bytes no_shapes = []
  shapes_bytes (more_shapes t ts) = 32 ∷ (shape_bytes t ++ shapes_bytes ts)

-- ---- the pieces of a shape have its bytes
wrapped : (w a b r : List ℕ) → w ++ (32 ∷ (a ++ (b ++ (41 ∷ r)))) ≡ (w ++ ((32 ∷ (a ++ b)) ++ (41 ∷ []))) ++ r
wrapped w a b r = simp append_assoc

with_colon : (w a r : List ℕ) → w ++ (32 ∷ 58 ∷ 32 ∷ (a ++ (41 ∷ r))) ≡ (w ++ (32 ∷ 58 ∷ 32 ∷ (a ++ (41 ∷ [])))) ++ r
with_colon w a r = simp append_assoc

wrapped_colon : (w a b c r : List ℕ) → w ++ (32 ∷ (a ++ (b ++ (41 ∷ 32 ∷ 58 ∷ 32 ∷ (c ++ (41 ∷ r)))))) ≡ ((w ++ ((32 ∷ (a ++ b)) ++ (41 ∷ []))) ++ (32 ∷ 58 ∷ 32 ∷ (c ++ (41 ∷ [])))) ++ r
wrapped_colon w a b c r = simp append_assoc

mutual
  sort-bytes : (gap : Bool) (s : SortShape) (rest : List Piece) → bytes_of (sort_pieces gap s rest) ≡ gap_text gap ++ (sort_bytes s ++ bytes_of rest)
  sort-bytes gap (sort_item w no_sorts) rest = refl
  sort-bytes gap (sort_item w (more_sorts s ss)) rest =
      ap (λ t. gap_text gap ++ (40 ∷ (w ++ t))) (sort-bytes true s (sorts_pieces ss ((false, closing) ∷ rest)) ∙ ap (λ t. 32 ∷ (sort_bytes s ++ t)) (sorts-bytes ss ((false, closing) ∷ rest)))
      ∙ ap (λ t. gap_text gap ++ (40 ∷ t)) (wrapped w (sort_bytes s) (sorts_bytes ss) (bytes_of rest))
  sort-bytes gap (sort_variable w) rest = refl

  sorts-bytes : (ss : SortShapes) (rest : List Piece) → bytes_of (sorts_pieces ss rest) ≡ sorts_bytes ss ++ bytes_of rest
  sorts-bytes no_sorts rest = refl
  sorts-bytes (more_sorts s ss) rest =
      sort-bytes true s (sorts_pieces ss rest) ∙ ap (λ t. 32 ∷ (sort_bytes s ++ t)) (sorts-bytes ss rest) ∙ ap (λ t. 32 ∷ t) (sym (append_assoc (sort_bytes s) (sorts_bytes ss) (bytes_of rest)))

mutual
  pub shape-bytes : (gap : Bool) (s : Shape) (rest : List Piece) → bytes_of (shape_pieces gap s rest) ≡ gap_text gap ++ (shape_bytes s ++ bytes_of rest)
  shape-bytes gap (variable w k None) rest = refl
  shape-bytes gap (variable w k (Some s)) rest =
      ap (λ t. gap_text gap ++ (63 ∷ ((w ++ index_text k) ++ (58 ∷ t)))) (sort-bytes false s rest)
      ∙ ap (λ t. gap_text gap ++ (63 ∷ t)) (sym (append_assoc (w ++ index_text k) (58 ∷ sort_bytes s) (bytes_of rest)))
  shape-bytes gap (item w no_shapes) rest = refl
  shape-bytes gap (item w (more_shapes t ts)) rest =
      ap (λ u. gap_text gap ++ (40 ∷ (w ++ u))) (shape-bytes true t (shapes_pieces ts ((false, closing) ∷ rest)) ∙ ap (λ u. 32 ∷ (shape_bytes t ++ u)) (shapes-bytes ts ((false, closing) ∷ rest)))
      ∙ ap (λ u. gap_text gap ++ (40 ∷ u)) (wrapped w (shape_bytes t) (shapes_bytes ts) (bytes_of rest))
  shape-bytes gap (ascribed w no_shapes s) rest =
      ap (λ u. gap_text gap ++ (40 ∷ (w ++ (32 ∷ 58 ∷ u)))) (sort-bytes true s ((false, closing) ∷ rest)) ∙ ap (λ u. gap_text gap ++ (40 ∷ u)) (with_colon w (sort_bytes s) (bytes_of rest))
  shape-bytes gap (ascribed w (more_shapes t ts) s) rest =
      let last : List Piece = (false, closing) ∷ (true, colon) ∷ sort_pieces true s ((false, closing) ∷ rest) in
      ap (λ u. gap_text gap ++ (40 ∷ 40 ∷ (w ++ u)))
      (shape-bytes true t (shapes_pieces ts last) ∙ ap (λ u. 32 ∷ (shape_bytes t ++ u)) (shapes-bytes ts last ∙ ap (λ u. shapes_bytes ts ++ (41 ∷ 32 ∷ 58 ∷ u)) (sort-bytes true s ((false, closing) ∷ rest))))
      ∙ ap (λ u. gap_text gap ++ (40 ∷ 40 ∷ u)) (wrapped_colon w (shape_bytes t) (shapes_bytes ts) (sort_bytes s) (bytes_of rest))

  pub shapes-bytes : (ts : Shapes) (rest : List Piece) → bytes_of (shapes_pieces ts rest) ≡ shapes_bytes ts ++ bytes_of rest
  shapes-bytes no_shapes rest = refl
  shapes-bytes (more_shapes t ts) rest =
      shape-bytes true t (shapes_pieces ts rest) ∙ ap (λ u. 32 ∷ (shape_bytes t ++ u)) (shapes-bytes ts rest) ∙ ap (λ u. 32 ∷ u) (sym (append_assoc (shape_bytes t) (shapes_bytes ts) (bytes_of rest)))

-- ---- what is printed is the shape
abbrev printed_sort : SortShape × List SVar → Printed
printed_sort s = record { text = sort_bytes s.0; seen = s.1 }

abbrev printed_sorts : SortShapes × List SVar → Printed
printed_sorts s = record { text = sorts_bytes s.0; seen = s.1 }

abbrev pub printed_shape : Shape × List SVar → Printed
printed_shape s = record { text = shape_bytes s.0; seen = s.1 }

abbrev printed_shapes : Shapes × List SVar → Printed
printed_shapes s = record { text = shapes_bytes s.0; seen = s.1 }

abbrev PrintsSort : Printer → SortShaper → Type 0
PrintsSort p f = (seen : List SVar) → p seen ≡ printed_sort (f seen)

abbrev pub Prints : Printer → Shaper → Type 0
Prints p f = (seen : List SVar) → p seen ≡ printed_shape (f seen)

abbrev PrintAll : List Printer → List Shaper → Type 0
PrintAll [] [] = Unit {0}
PrintAll (p ∷ ps) (f ∷ fs) = Prints p f × PrintAll ps fs
PrintAll _ _ = ⊥

-- one part and the others, behind spaces
abbrev joined_on : List ℕ → Printed → Printed
joined_on a q = record { text = 32 ∷ (a ++ (q.text ++ [])); seen = q.seen }

none_left : (a : List ℕ) (q : Printed) → joined_on a q ≡ record { text = 32 ∷ (a ++ q.text); seen = q.seen }
none_left a q = ap (λ t. record { text = 32 ∷ (a ++ t); seen = q.seen }) (append-nil q.text)

spaced-sorts : (names : List (List ℕ)) (ss : List Sort) → AllByRecursion (λ s. PrintsSort (sort_printed names s) (sort_shape names s)) ss → (seen : List SVar) → print.spaced (map (sort_printed names) ss) seen ≡ printed_sorts (sorts_in_turn (map (sort_shape names) ss) seen)
spaced-sorts names [] h seen = refl
spaced-sorts names (s ∷ ss) h seen =
    let f = sort_shape names s seen in
    ap (λ (q : Printed). joined_on q.text (print.spaced (map (sort_printed names) ss) q.seen)) (h.0 seen)
    ∙ ap (joined_on (sort_bytes f.0)) (spaced-sorts names ss h.1 f.1)
    ∙ none_left (sort_bytes f.0) (printed_sorts (sorts_in_turn (map (sort_shape names) ss) f.1))

spaced-shapes : (ps : List Printer) (fs : List Shaper) → PrintAll ps fs → (seen : List SVar) → print.spaced ps seen ≡ printed_shapes (in_turn fs seen)
spaced-shapes [] [] h seen = refl
spaced-shapes (p ∷ ps) [] h seen = absurd h
spaced-shapes [] (f ∷ fs) h seen = absurd h
spaced-shapes (p ∷ ps) (f ∷ fs) h seen =
    ap (λ (q : Printed). joined_on q.text (print.spaced ps q.seen)) (h.0 seen)
    ∙ ap (joined_on (shape_bytes (f seen).0)) (spaced-shapes ps fs h.1 (f seen).1)
    ∙ none_left (shape_bytes (f seen).0) (printed_shapes (in_turn fs (f seen).1))

-- in parentheses, behind a head
abbrev enclosed : List ℕ → Printed → Printed
enclosed head q = record { text = 40 ∷ (head ++ (q.text ++ (41 ∷ []))); seen = q.seen }

pub item-prints : (head : List ℕ) (ps : List Printer) (fs : List Shaper) → PrintAll ps fs → Prints (print.item head ps) (item_shape head fs)
item-prints head [] [] h seen = refl
item-prints head (p ∷ ps) [] h seen = absurd h
item-prints head [] (f ∷ fs) h seen = absurd h
item-prints head (p ∷ ps) (f ∷ fs) h seen = ap (enclosed head) (spaced-shapes (p ∷ ps) (f ∷ fs) h seen)

-- ---- sorts
numbered-prints : (seen : List SVar) (v : SVar) (o : Option ℕ) → numbered seen v o ≡ printed_sort (numbered_shape seen v o)
numbered-prints seen v (Some n) = refl
numbered-prints seen v None = refl

sort-item : (names : List (List ℕ)) (c : Sym) (ss : List Sort) → AllByRecursion (λ s. PrintsSort (sort_printed names s) (sort_shape names s)) ss → PrintsSort (print.item (text_of names c) (map (sort_printed names) ss)) (sort_step names (one.Con c (map (sort_shape names) ss)))
sort-item names c [] h seen = refl
sort-item names c (s ∷ ss) h seen = ap (enclosed (text_of names c)) (spaced-sorts names (s ∷ ss) h seen)

pub shaped_var : (names : List (List ℕ)) (v : SVar) → sort_shape names (Var v) ≡ sort_step names (one.Var v)
shaped_var names v = ap (sort_shape names) (sym (rolls-Var v)) ∙ fold-roll-Sort SortShaper (sort_step names) (one.Var v)

pub shaped_con : (names : List (List ℕ)) (c : Sym) (ss : List Sort) → sort_shape names (Con c ss) ≡ sort_step names (one.Con c (map (sort_shape names) ss))
shaped_con names c ss = ap (sort_shape names) (sym (rolls-Con c ss)) ∙ fold-roll-Sort SortShaper (sort_step names) (one.Con c ss)

pub sort-prints : (names : List (List ℕ)) (s : Sort) → PrintsSort (sort_printed names s) (sort_shape names s)
sort-prints names = sort_induction (λ s. PrintsSort (sort_printed names s) (sort_shape names s))
    (λ v seen. ap (λ (p : Printer). p seen) (printed_var v) ∙ numbered-prints seen v (position (same_svar v) seen) ∙ sym (ap (λ (f : SortShaper). printed_sort (f seen)) (shaped_var names v)))
    (λ c ss h seen. ap (λ (p : Printer). p seen) (printed_con c ss) ∙ sort-item names c ss h seen ∙ sym (ap (λ (f : SortShaper). printed_sort (f seen)) (shaped_con names c ss)))
  where
    printed_var : (v : SVar) → sort_printed names (Var v) ≡ svar_printed v
    printed_var v = ap (sort_printed names) (sym (rolls-Var v)) ∙ fold-roll-Sort Printer (printed_step names) (one.Var v)

    printed_con : (c : Sym) (ss : List Sort) → sort_printed names (Con c ss) ≡ print.item (text_of names c) (map (sort_printed names) ss)
    printed_con c ss = ap (sort_printed names) (sym (rolls-Con c ss)) ∙ fold-roll-Sort Printer (printed_step names) (one.Con c ss)

-- ---- terms and sentences
abbrev with_its_sort : List ℕ → Printed → Printed
with_its_sort a q = record { text = a ++ (58 ∷ (q.text ++ [])); seen = q.seen }

module _ (names : List (List ℕ)) where
  sorted-prints : (v : Variable) → Prints (with_sort names v) (sorted_shape names v)
  sorted-prints v seen =
      let s = sort_shape names v.sort seen in
      ap (with_its_sort (var_text names v)) (sort-prints names v.sort seen)
      ∙ ap (λ t. record { text = var_text names v ++ (58 ∷ t); seen = s.1 }) (append-nil (sort_bytes s.0))

  occurrence-prints : (binders : List Variable) (v : Variable) → Prints (occurrence names binders v) (occurrence_shape names binders v)
  occurrence-prints binders v = go (list_any (same_var v) binders)
    where
      go : (b : Bool) → Prints (if b then print.word (var_text names v) else with_sort names v) (if b then bound_shape names v else sorted_shape names v)
      go true seen = refl
      go false seen = sorted-prints v seen

  abbrev ascribed_text : List ℕ → Printed → Printed
  ascribed_text a q = record { text = 40 ∷ (a ++ (32 ∷ 58 ∷ 32 ∷ (q.text ++ (41 ∷ [])))); seen = q.seen }

  sorted-item : (head : List ℕ) (t : Shapes) (s : SortShape) (seen : List SVar) → record { text = 40 ∷ (shape_bytes (item head t) ++ (32 ∷ 58 ∷ 32 ∷ (sort_bytes s ++ (41 ∷ [])))); seen = seen } ≡ printed_shape (ascribed head t s, seen)
  sorted-item head no_shapes s seen = refl
  sorted-item head (more_shapes t ts) s seen = refl

  app-prints : (b : Bool) (sort : Sort) (head : List ℕ) (ps : List Printer) (fs : List Shaper) → PrintAll ps fs → Prints (printed_ascribed names b sort (print.item head ps)) (app_shape names b sort head fs)
  app-prints true sort head ps fs h seen =
      let these = in_turn fs seen in
      let s = sort_shape names sort these.1 in
      ap (λ (q : Printed). ascribed_text q.text (sort_printed names sort q.seen)) (item-prints head ps fs h seen)
      ∙ ap (ascribed_text (shape_bytes (item head these.0))) (sort-prints names sort these.1)
      ∙ sorted-item head these.0 s.0 s.1
  app-prints false sort head ps fs h seen = item-prints head ps fs h seen

  module _ (sig : Signature) where
    mutual
      pub term-prints : (binders : List Variable) (t : Term) → Prints (term_printed names sig binders t) (term_shape names sig binders t)
      term-prints binders (var v) = occurrence-prints binders v
      term-prints binders (app f sorts args) = app-prints (leaves_unsaid (symbol_of sig f)) (result_sort (symbol_of sig f) sorts) (text_of names f) (terms_printed names sig binders args) (terms_shapes names sig binders args) (terms-print binders args)

      terms-print : (binders : List Variable) (ts : Terms) → PrintAll (terms_printed names sig binders ts) (terms_shapes names sig binders ts)
      terms-print binders none = tt
      terms-print binders (more t ts) = (term-prints binders t, terms-print binders ts)

    pub sent-prints : (binders : List Variable) (p : Sent) → Prints (sent_printed names sig binders p) (sent_shape names sig binders p)
    sent-prints binders (atom t) = term-prints binders t
    sent-prints binders (equal s t) = item-prints (codes "=") (term_printed names sig binders s ∷ term_printed names sig binders t ∷ []) (term_shape names sig binders s ∷ term_shape names sig binders t ∷ []) (term-prints binders s, (term-prints binders t, tt))
    sent-prints binders (negated p) = item-prints (conn_text Not) (sent_printed names sig binders p ∷ []) (sent_shape names sig binders p ∷ []) (sent-prints binders p, tt)
    sent-prints binders (joined c p q) = item-prints (conn_text (conn_of c)) (sent_printed names sig binders p ∷ sent_printed names sig binders q ∷ []) (sent_shape names sig binders p ∷ sent_shape names sig binders q ∷ []) (sent-prints binders p, (sent-prints binders q, tt))
    sent-prints binders (bound k v p) = item-prints (quant_text k) (with_sort names v ∷ sent_printed names sig (binders ++ v ∷ []) p ∷ []) (sorted_shape names v ∷ sent_shape names sig (binders ++ v ∷ []) p ∷ []) (sorted-prints v, (sent-prints (binders ++ v ∷ []) p, tt))

    -- the bytes of a printed sentence are those of its pieces
    pub printed-pieces : (p : Sent) → printed names sig p ≡ bytes_of (shape_pieces false (shape_of names sig p) [])
    printed-pieces p =
        let s = shape_of names sig p in
        ap (λ (q : Printed). q.text) (sent-prints [] p []) ∙ sym (shape-bytes false s [] ∙ append-nil (shape_bytes s))
