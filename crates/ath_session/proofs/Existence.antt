-- Each configuration has a move, each move leaves less to do, and so each run ends.
use Rattle.std.proofs.Common.{◌≡◌, ◌⊎◌, inl, inr, ℕ, zero, suc, ◌+◌, ◌<◌, ◌≤◌, nat_lt, Bool, true, false, List, [], ◌∷◌, ◌++◌, length, Option, Some, None, refl, sym, ap, subst, arith, if◌then◌else◌}
use Rattle.std.proofs.lemmas.Bool.Decides.{nat_tests}
use Rattle.std.proofs.lemmas.List.Elements.{All-head, All-tail, All-cons, All-same}
use Rattle.std.specs.List.{All}
use Rattle.ath_io.specs.Shelf.{front_of}
use Rattle.ath_syntax.specs.declared.place.Pos.{Pos}
use Rattle.ath_words.specs.Words.{Asked, run_of}
use Rattle.ath_reader.specs.Reading.{Reading, reached}
use Rattle.ath_reader.specs.Next as reading
use Rattle.ath_reader.proofs.Advance.{advances}
use Rattle.ath_reader.proofs.SomeNext.{some_next}
use Rattle.ath_print.specs.Events.{Event, refused}
use Rattle.ath_print.specs.declared.fault.FaultKind.TheVariants.{FileTooLong, TooManyLoads}
use Rattle.ath_eval.specs.Outcomes.{refusal}
use Rattle.ath_session.specs.declared.status.Status.TheVariants.{Usage}
use Rattle.ath_session.specs.State.{with_names}
use Rattle.ath_session.specs.Directives.{Continuation, goes_on, loads, ends, effect}
use Rattle.ath_reader.specs.declared.limits.TheConstants.{MOST_BYTES}
use Rattle.ath_session.specs.declared.limits.TheConstants.{MOST_ASKED, MOST_LOADS}
use Rattle.ath_session.specs.Run.{Item, asks, said, Configuration, Halt, Move, goes, halts, reading_of, opened, fetched, asking, beginning_of, next_file, following, place_of, turned, IsTurn, IsMove, Runs, at_start, one_more}
use Rattle.ath_session.specs.Report.{Report, status_of, start, IsLogOf, IsReportOf}
use Rattle.ath_session.specs.Steps.{IsGoing, AreGoing, Opens, weight}
use Rattle.ath_session.specs.Laws.{SomeReport}
use Rattle.ath_session.proofs.WeightLaws.{popped_falls, text_falls, file_falls, opens_going, opens_length}

abbrev Texts : Type 0
Texts = List (List ℕ × List ℕ)

-- ---- each configuration has a move
some_turn : (texts : Texts) (c : Configuration) (rs : List Reading) → (m : Move) × IsTurn texts c rs m
some_turn texts c [] = (next_file texts c c.waiting, refl)
some_turn texts c (r ∷ rs) =
    let n = some_next r c.state.names (reading.byte_reached r.progress) in
    (turned texts c r rs n.0, (n.0, n.1, refl))

pub some_move : (texts : Texts) (c : Configuration) → (m : Move) × IsMove texts c m
some_move texts c = some_turn texts c c.stack

-- ---- what a step opens
opened_as : (c d : Configuration) (at : Pos) (name text : List ℕ) (items : List Item) → opened c at name text ≡ goes items d → Opens c d
opened_as c d at name text items e = by (nat_lt MOST_BYTES (length text)) refl e
  where
    named : Configuration
    named = record c { files = c.files ++ name ∷ [] }

    by : (b : Bool) → nat_lt MOST_BYTES (length text) ≡ b → (if b then goes (asks name ∷ said (record c { files = c.files ++ name ∷ [] }) (refused at (refusal FileTooLong [])) ∷ []) (record c { files = c.files ++ name ∷ [] }) else goes (asks name ∷ []) (record c { files = c.files ++ name ∷ []; stack = reading_of (length c.files) text ∷ c.stack })) ≡ goes items d → Opens c d
    by true t f = let same : record c { files = c.files ++ name ∷ [] } ≡ d = cc in (sym (ap (λ (k : Configuration). k.waiting) same), inl (sym (ap (λ (k : Configuration). k.stack) same)))
    by false t f =
        let same : record c { files = c.files ++ name ∷ []; stack = reading_of (length c.files) text ∷ c.stack } ≡ d = cc in
        let fits : length text ≤ MOST_BYTES = grind (arith, nat_tests, t) in
        (sym (ap (λ (k : Configuration). k.waiting) same), inr (length c.files, text, (fits, sym (ap (λ (k : Configuration). k.stack) same))))

asked_opens : (texts : Texts) (c d : Configuration) (at : Pos) (name : List ℕ) (items : List Item) → asking texts c at name ≡ goes items d → Opens c d
asked_opens texts c d at name items e = by (front_of texts name MOST_ASKED) e
  where
    by : (text : Option (List ℕ)) → fetched c at name text ≡ goes items d → Opens c d
    by None f = absurd (cc)
    by (Some text) f = opened_as c d at name text items f

same_opens : (c d : Configuration) → c ≡ d → Opens c d
same_opens c d e = (sym (ap (λ (k : Configuration). k.waiting) e), inl (sym (ap (λ (k : Configuration). k.stack) e)))

-- a text is opened where not too many are open around
record OpensIn (outer : ℕ) (c d : Configuration) : Type 0 where
  opens : Opens c d
  few : (d.stack ≡ c.stack) ⊎ (outer < 16)

same_opens_in : (outer : ℕ) (c d : Configuration) → c ≡ d → OpensIn outer c d
same_opens_in outer c d e = record { opens = same_opens c d e; few = inl (sym (ap (λ (k : Configuration). k.stack) e)) }

followed_opens : (texts : Texts) (c d : Configuration) (outer : ℕ) (at : Pos) (es : List Event) (next : Continuation) (items : List Item) → following texts c outer at es next ≡ goes items d → OpensIn outer c d
followed_opens texts c d outer at es goes_on items e = let same : c ≡ d = cc in same_opens_in outer c d same
followed_opens texts c d outer at es ends items e = absurd (cc)
followed_opens texts c d outer at es (loads name) items e = by (nat_lt outer MOST_LOADS) refl e
  where
    by : (b : Bool) → nat_lt outer MOST_LOADS ≡ b → (if b then asking texts c at name else goes (said c (refused at (refusal TooManyLoads [])) ∷ []) c) ≡ goes items d → OpensIn outer c d
    by true t f = record { opens = asked_opens texts c d at name items f; few = inr (grind (arith, nat_tests, t)) }
    by false t f = let same : c ≡ d = cc in same_opens_in outer c d same

-- texts that are open are going, no more of them than can be, and less is left to do than before
record IsLess (c d : Configuration) : Type 0 where
  going : AreGoing d
  shallow : length d.stack ≤ 17
  falls : weight d < weight c

is_going : (r : Reading) (rs : List Reading) → All IsGoing (r ∷ rs) → IsGoing r
is_going r rs h = All-head IsGoing r rs h

others_going : (r : Reading) (rs : List Reading) → All IsGoing (r ∷ rs) → All IsGoing rs
others_going r rs h = All-tail IsGoing r rs h

-- a file of the command line
file_less : (texts : Texts) (c d : Configuration) (items : List Item) (names : List (List ℕ)) → c.waiting ≡ names → c.stack ≡ [] → AreGoing c → next_file texts c names ≡ goes items d → IsLess c d
file_less texts c d items [] w empty h e = absurd (cc)
file_less texts c d items (name ∷ names) w empty h e =
    let opens = asked_opens texts (record c { waiting = names }) d (beginning_of (length c.files)) name items e in
    let few = opens_length (record c { waiting = names }) d opens in
    let none : length c.stack ≡ 0 = ap (λ (rs : List Reading). length rs) empty in
    record {
      going = opens_going (record c { waiting = names }) d opens h;
      shallow = omega (arith, few, none);
      falls = file_falls c d name names w empty opens;
    }

-- the innermost text
module _ (texts : Texts) (c d : Configuration) (items : List Item) (r : Reading) (rs : List Reading) (is : c.stack ≡ r ∷ rs) (few : length rs ≤ 16) (from : ℕ) (at : r.progress ≡ reached from) (within : from ≤ length r.text) (around : All IsGoing rs) where
  weight_same : weight (record c { stack = r ∷ rs }) ≡ weight c
  weight_same = ap (λ (k : List Reading). weight (record c { stack = k })) (sym is)

  popped_less : d.waiting ≡ c.waiting → d.stack ≡ rs → IsLess c d
  popped_less e f = record {
    going = All-same IsGoing d.stack rs f around;
    shallow = subst (λ (k : List Reading). length k ≤ 17) (sym f) (omega (arith, few));
    falls = subst (λ (w : ℕ). weight d < w) weight_same (popped_falls (record c { stack = rs }) d r from at e f);
  }

  shallow_in : (mid : Configuration) → length mid.stack ≡ suc (length rs) → length d.stack ≤ 1 + length mid.stack → (d.stack ≡ mid.stack) ⊎ (length rs < 16) → length d.stack ≤ 17
  shallow_in mid depth many (inl same) = subst (λ (k : List Reading). length k ≤ 17) (sym same) (omega (arith, depth, few))
  shallow_in mid depth many (inr less) = omega (arith, depth, many, less)

  read_less : (mid : Configuration) (to : ℕ) → from < to → to ≤ length r.text → mid.waiting ≡ c.waiting → mid.stack ≡ record r { progress = reached to } ∷ rs → OpensIn (length rs) mid d → IsLess c d
  read_less mid to on inside e f o =
      let depth : length mid.stack ≡ suc (length rs) = ap (λ (k : List Reading). length k) f in
      record {
        going = opens_going mid d o.opens (All-same IsGoing mid.stack (record r { progress = reached to } ∷ rs) f (All-cons IsGoing (record r { progress = reached to }) rs (to, (refl, inside)) around));
        shallow = shallow_in mid depth (opens_length mid d o.opens) o.few;
        falls = subst (λ (w : ℕ). weight d < w) weight_same (text_falls (record c { stack = rs }) d r from at to on inside few mid e f o.opens);
      }

  text_less : (n : reading.Upcoming) → reading.IsNext r c.state.names from n → turned texts c r rs n ≡ goes items d → IsLess c d
  text_less (reading.whole t to known) h e =
      let a = advances r c.state.names from t to known h in
      let f = effect (with_names known c.state) t in
      let mid = record c { stack = record r { progress = reached to } ∷ rs; state = f.state } in
      read_less mid to a.0 a.1 refl refl (followed_opens texts mid d (length rs) (place_of t) f.events f.next items e)
  text_less reading.ended h e = let same : record c { stack = rs } ≡ d = cc in popped_less (sym (ap (λ (k : Configuration). k.waiting) same)) (sym (ap (λ (k : Configuration). k.stack) same))
  text_less (reading.stopped x known) h e =
      let same : record c { stack = rs; state = with_names known c.state } ≡ d = cc in
      popped_less (sym (ap (λ (k : Configuration). k.waiting) same)) (sym (ap (λ (k : Configuration). k.stack) same))

stack_less : (texts : Texts) (c d : Configuration) (items : List Item) (rs : List Reading) → c.stack ≡ rs → AreGoing c → length rs ≤ 17 → IsTurn texts c rs (goes items d) → IsLess c d
stack_less texts c d items [] is h few m = file_less texts c d items c.waiting refl is h (sym m)
stack_less texts c d items (r ∷ rs) is h few (n, next, m) =
    let all = All-same IsGoing (r ∷ rs) c.stack (sym is) h in
    let g = is_going r rs all in
    text_less texts c d items r rs is (omega (arith, few)) g.0 g.1.0 g.1.1 (others_going r rs all) n (subst (λ (b : ℕ). reading.IsNext r c.state.names b n) (ap reading.byte_reached g.1.0) next) (sym m)

-- ---- a run ends
pub record Ending (texts : Texts) (from : Configuration) : Type 0 where
  pub log : List Item
  pub halt : Halt
  pub is : IsLogOf texts from log halt

ends_from : (fuel : ℕ) (texts : Texts) (from : Configuration) (done : List Item) (c : Configuration) → Runs texts from done c → weight c < fuel → AreGoing c → length c.stack ≤ 17 → Ending texts from
ends_from zero texts from done c runs less going few = absurd (omega (arith, less))
ends_from (suc fuel) texts from done c runs less going few = by (ends_from fuel texts from) (some_move texts c)
  where
    Further : Type 0
    Further = (done : List Item) (c : Configuration) → Runs texts from done c → weight c < fuel → AreGoing c → length c.stack ≤ 17 → Ending texts from

    by : Further → (m : Move) × IsMove texts c m → Ending texts from
    by ih (halts last h, over) = record { log = done ++ last; halt = h; is = record { done = done; last = last; final = c; runs = runs; over = over; all = refl } }
    by ih (goes items d, moves) =
        let l = stack_less texts c d items c.stack refl going few moves in
        ih (done ++ items) d (one_more items runs moves) (omega (arith, l.falls, less)) l.going l.shallow

none_open : (run : Asked) → AreGoing (start run)
none_open run = λ k r h. absurd (omega (arith, h))

pub run_ends : (texts : Texts) (run : Asked) → Ending texts (start run)
run_ends texts run = ends_from (suc (weight (start run))) texts (start run) [] (start run) at_start (below (weight (start run))) (none_open run) (omega arith)
  where
    below : (n : ℕ) → n < suc n
    below n = omega arith

pub some_report_of : (texts : Texts) (asked : Option Asked) → (r : Report) × IsReportOf texts asked r
some_report_of texts None = (record { log = []; status = Usage }, refl)
some_report_of texts (Some run) = let e = run_ends texts run in (record { log = e.log; status = status_of e.halt e.log }, (e.halt, e.is, refl))

pub some_report : SomeReport
some_report = λ words texts. some_report_of texts (run_of words)
