-- Pieces of lines, one after the other.
use Rattle.std.proofs.Common.{◌≡◌, ℕ, ◌+◌, ◌-◌, ◌<◌, ◌≤◌, nat_lt, Bool, true, false, List, [], ◌∷◌, ◌++◌, length, map, drop, get_or, codes, append_assoc, append-nil, length-append, refl, sym, ◌∙◌, ap, arith, if◌then◌else◌}
use Rattle.std.proofs.lemmas.Bool.{lt-ltb, le-ltb, ltb-true, ltb-false}
use Rattle.std.proofs.lemmas.List.{drop_more, drop_all}
use Rattle.ath_sorts.specs.declared.sorts.SVar.{SVar}
use Rattle.ath_print.specs.Printers.{Printer, word, in_turn, spaced, item, Line, built, counted, too_long, after, is_too_long}

-- a counted line goes on by some bytes
abbrev counting : ℕ → ℕ → List SVar → Line
counting room n seen = if nat_lt room n then too_long else counted (room - n) seen

counting_none : (room : ℕ) (seen : List SVar) → counting room 0 seen ≡ counted room seen
counting_none room seen = ap (λ b. if b then too_long else counted (room - 0) seen) (le-ltb room 0 (omega arith)) ∙ ap (λ n. counted n seen) (omega arith)

-- by some and then by others, or by both at once
counting_more : (room a : ℕ) (q : Printer) (seen : List SVar) → counting room (a + length (q seen).text) (q seen).seen ≡ after q (counting room a seen)
counting_more room a q seen = by (nat_lt room a) refl
  where
    inner : nat_lt room a ≡ false → (b : Bool) → nat_lt (room - a) (length (q seen).text) ≡ b → counting room (a + length (q seen).text) (q seen).seen ≡ (if b then too_long else counted ((room - a) - length (q seen).text) (q seen).seen)
    inner e true f = ap (λ b. if b then too_long else counted (room - (a + length (q seen).text)) (q seen).seen) (lt-ltb room (a + length (q seen).text) (omega (arith, ltb-true (room - a) (length (q seen).text) f)))
    inner e false f = ap (λ b. if b then too_long else counted (room - (a + length (q seen).text)) (q seen).seen) (le-ltb room (a + length (q seen).text) (omega (arith, ltb-false room a e, ltb-false (room - a) (length (q seen).text) f))) ∙ ap (λ k. counted k (q seen).seen) (omega arith)

    by : (b : Bool) → nat_lt room a ≡ b → counting room (a + length (q seen).text) (q seen).seen ≡ after q (if b then too_long else counted (room - a) seen)
    by true e = ap (λ b. if b then too_long else counted (room - (a + length (q seen).text)) (q seen).seen) (lt-ltb room (a + length (q seen).text) (omega (arith, ltb-true room a e)))
    by false e = inner e (nat_lt (room - a) (length (q seen).text)) refl

pub after_none : (l : Line) → after (in_turn []) l ≡ l
after_none (built text seen) = ap (λ t. built t seen) (append-nil text)
after_none (counted room seen) = counting_none room seen
after_none too_long = refl

pub after_more : (p : Printer) (ps : List Printer) (l : Line) → after (in_turn (p ∷ ps)) l ≡ after (in_turn ps) (after p l)
after_more p ps (built text seen) = ap (λ t. built t (in_turn ps (p seen).seen).seen) (sym (append_assoc text (p seen).text (in_turn ps (p seen).seen).text))
after_more p ps (counted room seen) =
    let q = in_turn ps in
    let s = (p seen).seen in
    ap (λ n. counting room n (q s).seen) (length-append (p seen).text (q s).text) ∙ counting_more room (length (p seen).text) q s
after_more p ps too_long = refl

-- a line that is too long stays so
pub after_full : (p : Printer) (l : Line) → true ≡ is_too_long l → l ≡ after p l
after_full p too_long e = refl
after_full p (built text seen) e = absurd (cc)
after_full p (counted room seen) e = absurd (cc)

pub after_one : (p : Printer) (l : Line) → after (in_turn (p ∷ [])) l ≡ after p l
after_one p l = after_more p [] l ∙ after_none (after p l)

pub after_two : (p q : Printer) (l : Line) → after (in_turn (p ∷ q ∷ [])) l ≡ after q (after p l)
after_two p q l = after_more p (q ∷ []) l ∙ after_one q (after p l)

pub after_three : (p q r : Printer) (l : Line) → after (in_turn (p ∷ q ∷ r ∷ [])) l ≡ after r (after q (after p l))
after_three p q r l = after_more p (q ∷ r ∷ []) l ∙ after_two q r (after p l)

pub after_four : (p q r s : Printer) (l : Line) → after (in_turn (p ∷ q ∷ r ∷ s ∷ [])) l ≡ after s (after r (after q (after p l)))
after_four p q r s l = after_more p (q ∷ r ∷ s ∷ []) l ∙ after_three q r s (after p l)

pub after_five : (p q r s t : Printer) (l : Line) → after (in_turn (p ∷ q ∷ r ∷ s ∷ t ∷ [])) l ≡ after t (after s (after r (after q (after p l))))
after_five p q r s t l = after_more p (q ∷ r ∷ s ∷ t ∷ []) l ∙ after_four q r s t (after p l)

-- pieces that were printed one after the other
pub three_done : (p q r : Printer) (old a b new : Line) → a ≡ after p old → b ≡ after q a → new ≡ after r b → new ≡ after (in_turn (p ∷ q ∷ r ∷ [])) old
three_done p q r old a b new h k l = rw (l, k, h) (sym (after_three p q r old))

pub five_done : (p q r s t : Printer) (old a b c d new : Line) → a ≡ after p old → b ≡ after q a → c ≡ after r b → d ≡ after s c → new ≡ after t d → new ≡ after (in_turn (p ∷ q ∷ r ∷ s ∷ t ∷ [])) old
five_done p q r s t old a b c d new h₁ h₂ h₃ h₄ h₅ = rw (h₅, h₄, h₃, h₂, h₁) (sym (after_five p q r s t old))

-- two words are one
pub after_words : (a b : List ℕ) (l : Line) → after (word b) (after (word a) l) ≡ after (word (a ++ b)) l
after_words a b (built text seen) = ap (λ t. built t seen) (append_assoc text a b)
after_words a b (counted room seen) = sym (ap (λ n. counting room n seen) (length-append a b) ∙ counting_more room (length a) (word b) seen)
after_words a b too_long = refl

-- ---- parts, each after one space
pub after_spaced : (p : Printer) (ps : List Printer) (l : Line) → after (spaced (p ∷ ps)) l ≡ after (spaced ps) (after p (after (word (codes " ")) l))
after_spaced p ps l = after_three (word (codes " ")) p (spaced ps) l

module _ {X : Type 0} (f : X → Printer) (xs : List X) (i : ℕ) (start now : Line) (so_far : after (spaced (map f (drop i xs))) now ≡ after (spaced (map f xs)) start) where
  pub spaced_next : (d : X) (between next : Line) → i < length xs → between ≡ after (word (codes " ")) now → next ≡ after (f (get_or xs i d)) between → after (spaced (map f (drop (i + 1) xs))) next ≡ after (spaced (map f xs)) start
  spaced_next d between next lt b n =
      ap (after (spaced (map f (drop (i + 1) xs)))) (n ∙ ap (after (f (get_or xs i d))) b)
      ∙ sym (after_spaced (f (get_or xs i d)) (map f (drop (i + 1) xs)) now)
      ∙ ap (λ ys. after (spaced (map f ys)) now) (sym (drop_more xs i d lt))
      ∙ so_far

  pub spaced_done : length xs ≤ i → now ≡ after (spaced (map f xs)) start
  spaced_done le = sym (after_none now) ∙ ap (λ ys. after (spaced (map f ys)) now) (sym (drop_all i xs le)) ∙ so_far

pub item_alone : (head : List ℕ) (ps : List Printer) (old new : Line) → length ps ≡ 0 → new ≡ after (word head) old → new ≡ after (item head ps) old
item_alone head [] old new e n = n
item_alone head (p ∷ ps) old new e n = absurd (omega arith)

pub item_whole : (head : List ℕ) (ps : List Printer) (old a b c new : Line) → (length ps ≡ 0 → ⊥) → a ≡ after (word (codes "(")) old → b ≡ after (word head) a → c ≡ after (spaced ps) b → new ≡ after (word (codes ")")) c → new ≡ after (item head ps) old
item_whole head [] old a b c new some h₁ h₂ h₃ h₄ = absurd (some refl)
item_whole head (p ∷ ps) old a b c new some h₁ h₂ h₃ h₄ = rw (h₄, h₃, h₂, h₁) (sym (after_four (word (codes "(")) (word head) (spaced (p ∷ ps)) (word (codes ")")) old))
