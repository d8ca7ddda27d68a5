-- Lines that begin without sort variables, and lines that are whole.
use Rattle.std.proofs.Common.{◌≡◌, ℕ, ◌+◌, ◌-◌, ◌<◌, ◌≤◌, nat_lt, Bool, true, false, List, [], ◌∷◌, ◌++◌, length, append-nil, refl, sym, ◌∙◌, ap, arith, if◌then◌else◌}
use Rattle.std.specs.Prelude.{min}
use Rattle.std.proofs.Math.Nat.{min-eq_left, min-eq_right}
use Rattle.std.proofs.lemmas.Bool.{ltb-true, ltb-false}
use Rattle.ath_sorts.specs.declared.sorts.SVar.{SVar}
use Rattle.ath_print.specs.declared.draft.Draft.{Draft}
use Rattle.ath_print.specs.declared.draft.Output.{Output}
use Rattle.ath_print.specs.declared.draft.Output.TheVariants.{Kept, Room, Full}
use Rattle.ath_print.specs.declared.limits.TheConstants.{MOST_LINE_BYTES}
use Rattle.ath_print.specs.Printers.{Printed, Printer, word, in_turn, Line, built, counted, too_long, after, line_from, line_in, unseen}
use Rattle.ath_print.proofs.PieceLaws.{after_words, after_two}

-- ---- a line that has shown no sort variables
if_unseen : (b : Bool) (n : ℕ) (s : List SVar) → unseen (if b then too_long else counted n s) ≡ (if b then too_long else counted n [])
if_unseen true n s = refl
if_unseen false n s = refl

unseen_from : (p : Printer) (o : Output) → unseen (after p (line_from o [])) ≡ after (word (p []).text) (line_from o [])
unseen_from p (Kept text) = refl
unseen_from p (Room room) = if_unseen (nat_lt room (length (p []).text)) (room - length (p []).text) (p []).seen
unseen_from p Full = refl

module _ (d : Draft) (fresh : d.seen.items ≡ []) where
  pub told_by : (p : Printer) (new : Line) → new ≡ after p (line_in d) → unseen new ≡ after (word (p []).text) (line_in d)
  told_by p new h =
      let f : line_in d ≡ line_from d.output [] = ap (line_from d.output) fresh in
      ap unseen (h ∙ ap (after p) f) ∙ unseen_from p d.output ∙ ap (after (word (p []).text)) (sym f)

  -- a word and what is printed after it
  pub told_two : (text : List ℕ) (q : Printer) (mid new : Line) → mid ≡ after (word text) (line_in d) → new ≡ after q mid → unseen new ≡ after (word (text ++ (q []).text)) (line_in d)
  told_two text q mid new h k =
      told_by (in_turn (word text ∷ q ∷ [])) new (k ∙ ap (after q) h ∙ sym (after_two (word text) q (line_in d)))
      ∙ ap (λ t. after (word t) (line_in d)) (ap (λ t. text ++ t) (append-nil (q []).text))

  -- three words and a printer
  words_done : (a b c : List ℕ) (x y z : Line) → x ≡ after (word a) (line_in d) → y ≡ after (word b) x → z ≡ after (word c) y → z ≡ after (word (a ++ b ++ c)) (line_in d)
  words_done a b c x y z h k l = rw (l, k, h) (ap (after (word c)) (after_words a b (line_in d)) ∙ after_words (a ++ b) c (line_in d))

  pub told_words : (a b c : List ℕ) (x y z : Line) → x ≡ after (word a) (line_in d) → y ≡ after (word b) x → z ≡ after (word c) y → unseen z ≡ after (word (a ++ b ++ c)) (line_in d)
  told_words a b c x y z h k l = told_by (word (a ++ b ++ c)) z (words_done a b c x y z h k l)

  pub told_error : (a b c kind : List ℕ) (q : Printer) (x y z new : Line) → x ≡ after (word a) (line_in d) → y ≡ after (word b) x → z ≡ after (word c) y → new ≡ after (in_turn (word kind ∷ q ∷ [])) z → unseen new ≡ after (word (a ++ b ++ c ++ (kind ++ (q []).text))) (line_in d)
  told_error a b c kind q x y z new h k l m =
      told_two (a ++ b ++ c) (in_turn (word kind ∷ q ∷ [])) z new (words_done a b c x y z h k l) m
      ∙ ap (λ t. after (word (a ++ b ++ c ++ (kind ++ t))) (line_in d)) (append-nil (q []).text)

-- ---- the line end
after_unseen : (t : List ℕ) (l : Line) → unseen (after (word t) l) ≡ after (word t) (unseen l)
after_unseen t (built text seen) = refl
after_unseen t (counted room seen) = if_unseen (nat_lt room (length t)) (room - length t) seen
after_unseen t too_long = refl

unseen_output : (o : Output) (seen : List SVar) → unseen (line_from o seen) ≡ line_from o []
unseen_output (Kept text) seen = refl
unseen_output (Room room) seen = refl
unseen_output Full seen = refl

pub ended : (o p : Output) (start seen : List SVar) (text end : List ℕ) (mid : Line) → start ≡ [] → unseen mid ≡ after (word text) (line_from o start) → line_from p seen ≡ after (word end) mid → line_from p [] ≡ after (word (text ++ end)) (line_from o [])
ended o p start seen text end mid empty h k =
    sym (unseen_output p seen)
    ∙ ap unseen k
    ∙ after_unseen end mid
    ∙ ap (after (word end)) (h ∙ ap (λ s. after (word text) (line_from o s)) empty)
    ∙ after_words text end (line_from o [])

-- ---- a sort variable, with its number
pub variable_done : (p : Printer) (o : Output) (seen next : List SVar) (a b : List ℕ) (mid new : Line) → p seen ≡ record { text = a ++ b; seen = next } → mid ≡ after (word a) (line_from o next) → new ≡ after (word b) mid → new ≡ after p (line_from o seen)
variable_done p o seen next a b mid new is h k =
    k ∙ ap (after (word b)) h ∙ after_words a b (line_from o next) ∙ by o
  where
    by : (o : Output) → after (word (a ++ b)) (line_from o next) ≡ after p (line_from o seen)
    by (Kept text) = sym (ap (λ (r : Printed). built (text.items ++ r.text) r.seen) is)
    by (Room room) = sym (ap (λ (r : Printed). if nat_lt room (length r.text) then too_long else counted (room - length r.text) r.seen) is)
    by Full = refl

-- ---- what a whole line is
pub kept_is : (o : Output) (bytes : List ℕ) → line_from o [] ≡ built bytes [] → (text : _) × (o ≡ Kept text) × (text.items ≡ bytes)
kept_is (Kept text) bytes e = (text, refl, cc)
kept_is (Room room) bytes e = absurd (cc)
kept_is Full bytes e = absurd (cc)

abbrev counted_from : ℕ → Line
counted_from n = if nat_lt MOST_LINE_BYTES n then too_long else counted (MOST_LINE_BYTES - n) []

pub room_is : (o : Output) (n r : ℕ) → line_from o [] ≡ counted_from n → o ≡ Room r → (n ≤ MOST_LINE_BYTES) × (r ≡ MOST_LINE_BYTES - n)
room_is o n r h e = by (nat_lt MOST_LINE_BYTES n) refl (sym (ap (λ p. line_from p []) e) ∙ h)
  where
    by : (b : Bool) → nat_lt MOST_LINE_BYTES n ≡ b → counted r [] ≡ (if b then too_long else counted (MOST_LINE_BYTES - n) []) → (n ≤ MOST_LINE_BYTES) × (r ≡ MOST_LINE_BYTES - n)
    by true f k = absurd (cc)
    by false f k = (ltb-false MOST_LINE_BYTES n f, cc)

pub no_room : (o : Output) (n : ℕ) → line_from o [] ≡ counted_from n → ((r : ℕ) → o ≡ Room r → ⊥) → MOST_LINE_BYTES < n
no_room o n h none = by (nat_lt MOST_LINE_BYTES n) refl h
  where
    never : (o : Output) (k : ℕ) → line_from o [] ≡ counted k [] → ((r : ℕ) → o ≡ Room r → ⊥) → ⊥
    never (Kept text) k e none = absurd (cc)
    never (Room r) k e none = none r refl
    never Full k e none = absurd (cc)

    by : (b : Bool) → nat_lt MOST_LINE_BYTES n ≡ b → line_from o [] ≡ (if b then too_long else counted (MOST_LINE_BYTES - n) []) → MOST_LINE_BYTES < n
    by true f k = ltb-true MOST_LINE_BYTES n f
    by false f k = absurd (never o (MOST_LINE_BYTES - n) k none)

pub least : (n limit : ℕ) → n ≤ limit → n ≡ min n (limit + 1)
least n limit h = sym (min-eq_left (omega arith))

pub most : (n limit : ℕ) → limit < n → limit + 1 ≡ min n (limit + 1)
most n limit h = sym (min-eq_right (omega arith))
