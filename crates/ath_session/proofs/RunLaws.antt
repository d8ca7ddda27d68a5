-- A run is deterministic: a configuration has one move, and a start one log.
use Rattle.std.proofs.Common.{◌≡◌, ℕ, List, [], ◌∷◌, ◌++◌, append_assoc, append-nil, Option, Some, None, refl, sym, ◌∙◌, ap, ap₂, subst}
use Rattle.ath_words.specs.Words.{Asked, run_of}
use Rattle.ath_reader.specs.Reading.{Reading}
use Rattle.ath_reader.specs.Laws.{OneNext}
use Rattle.ath_session.specs.declared.status.Status.{Status}
use Rattle.ath_session.specs.Run.{Item, Configuration, Halt, Move, goes, halts, items_of, turned, IsTurn, IsMove, Runs, at_start, one_more}
use Rattle.ath_session.specs.Report.{Report, status_of, start, IsLogOf, IsReportOf}
use Rattle.ath_session.specs.Laws.{OneReport}

abbrev Texts : Type 0
Texts = List (List ℕ × List ℕ)

-- ---- one move
one-turn : OneNext → (texts : Texts) (c : Configuration) (stack : List Reading) (m m' : Move) → IsTurn texts c stack m → IsTurn texts c stack m' → m ≡ m'
one-turn one texts c [] m m' e e' = e ∙ sym e'
one-turn one texts c (r ∷ rs) m m' t t' =
    let same = one r c.state.names _ t.0 t'.0 t.1 t'.1 in
    t.2 ∙ (ap (turned texts c r rs) same ∙ sym t'.2)

pub one_move : OneNext → (texts : Texts) (c : Configuration) (m m' : Move) → IsMove texts c m → IsMove texts c m' → m ≡ m'
one_move one texts c m m' t t' = one-turn one texts c c.stack m m' t t'

-- ---- what a run does from a configuration on, to its end
data Rest (texts : Texts) (h : Halt) : List Item → Configuration → Type 0 where
  stops : {c : Configuration} (items : List Item) → IsMove texts c (halts items h) → Rest texts h items c
  moves : {more : List Item} {c d : Configuration} (items : List Item) → IsMove texts c (goes items d) → Rest texts h more d → Rest texts h (items ++ more) c

-- some steps are put before
put-before : (texts : Texts) (from : Configuration) (h : Halt) {done : List Item} {c : Configuration} → Runs texts from done c → (more : List Item) → Rest texts h more c → Rest texts h (done ++ more) from
put-before texts from h at_start more rest = rest
put-before texts from h (one_more {done} items runs m) more rest =
    subst (λ log. Rest texts h log from) (sym (append_assoc done items more)) (put-before texts from h runs (items ++ more) (moves items m rest))

log-rest : (texts : Texts) (from : Configuration) (log : List Item) (h : Halt) → IsLogOf texts from log h → Rest texts h log from
log-rest texts from log h l = subst (λ items. Rest texts h items from) (sym l.all) (put-before texts from h l.runs l.last (stops l.last l.over))

-- what is left of a log after some of its steps
record Left (texts : Texts) (h : Halt) (done log : List Item) (c : Configuration) : Type 0 where
  more : List Item
  rest : Rest texts h more c
  all : log ≡ done ++ more

-- one step is taken off
step-off : OneNext → (texts : Texts) (h : Halt) (done log items : List Item) (d : Configuration) {more : List Item} {c : Configuration} → Rest texts h more c → IsMove texts c (goes items d) → log ≡ done ++ more → Left texts h (done ++ items) log d
step-off one texts h done log items d {c = c} (stops last over) m e =
    let wrong = one_move one texts c (halts last h) (goes items d) over m in
    absurd (cc)
step-off one texts h done log items d {c = c} (moves {more} {d = after} others m' rest) m e =
    let same = one_move one texts c (goes others after) (goes items d) m' m in
    let f : others ≡ items = cc in
    let g : after ≡ d = cc in
    record {
      more = more;
      rest = subst (Rest texts h more) g rest;
      all = e ∙ (ap (λ is. done ++ (is ++ more)) f ∙ sym (append_assoc done items more));
    }

left-after : OneNext → (texts : Texts) (from : Configuration) (log : List Item) (h : Halt) → Rest texts h log from → {done : List Item} {c : Configuration} → Runs texts from done c → Left texts h done log c
left-after one texts from log h whole at_start = record { more = log; rest = whole; all = refl }
left-after one texts from log h whole (one_more {done} {d = d} items runs m) =
    let left = left-after one texts from log h whole runs in
    step-off one texts h done log items d left.rest m left.all

-- ---- a log after some of its steps: the next move, and what comes after it, which is nothing where the run is over
pub record After (texts : Texts) (h : Halt) (done log : List Item) (c : Configuration) : Type 0 where
  pub move : Move
  pub more : List Item
  pub moves : IsMove texts c move
  pub all : log ≡ done ++ (items_of move ++ more)
  pub over : (items : List Item) (halt : Halt) → move ≡ halts items halt → (halt ≡ h) × (more ≡ [])

rest-after : (texts : Texts) (h : Halt) (done log : List Item) {more : List Item} {c : Configuration} → Rest texts h more c → log ≡ done ++ more → After texts h done log c
rest-after texts h done log (stops last over) e = record {
  move = halts last h;
  more = [];
  moves = over;
  all = e ∙ ap (λ items. done ++ items) (sym (append-nil last));
  over = λ items halt f. let g : halt ≡ h = cc in (g, refl);
}
rest-after texts h done log (moves {more} {d = d} items m rest) e = record {
  move = goes items d;
  more = more;
  moves = m;
  all = e;
  over = λ others halt f. absurd (cc);
}

pub log_after : OneNext → (texts : Texts) (from : Configuration) (log : List Item) (h : Halt) (done : List Item) (c : Configuration) → IsLogOf texts from log h → Runs texts from done c → After texts h done log c
log_after one texts from log h done c l runs =
    let left = left-after one texts from log h (log-rest texts from log h l) runs in
    rest-after texts h done log left.rest left.all

-- a final move says the whole log
pub log_over : OneNext → (texts : Texts) (from : Configuration) (log : List Item) (h : Halt) (done : List Item) (c : Configuration) (last : List Item) (halt : Halt) → IsLogOf texts from log h → Runs texts from done c → IsMove texts c (halts last halt) → (log ≡ done ++ last) × (h ≡ halt)
log_over one texts from log h done c last halt l runs m =
    let after = log_after one texts from log h done c l runs in
    let same = one_move one texts c after.move (halts last halt) after.moves m in
    let ends = after.over last halt same in
    let items : items_of after.move ++ after.more ≡ last = ap₂ (λ n more. items_of n ++ more) same ends.1 ∙ append-nil last in
    (after.all ∙ ap (λ is. done ++ is) items, sym ends.0)

pub one_log : OneNext → (texts : Texts) (from : Configuration) (log log' : List Item) (h h' : Halt) → IsLogOf texts from log h → IsLogOf texts from log' h' → (log ≡ log') × (h ≡ h')
one_log one texts from log log' h h' l l' =
    let same = log_over one texts from log h l'.done l'.final l'.last h' l l'.runs l'.over in
    (same.0 ∙ sym l'.all, same.1)

-- ---- one report
report : List Item → Status → Report
report log status = record { log = log; status = status }

same-reports : (r s : Report) → r.log ≡ s.log → r.status ≡ s.status → r ≡ s
unfolding report
same-reports r s e f = ap₂ report e f

pub one-report-of : OneNext → (texts : Texts) (asked : Option Asked) (r s : Report) → IsReportOf texts asked r → IsReportOf texts asked s → r ≡ s
one-report-of one texts None r s e f = e ∙ sym f
one-report-of one texts (Some run) r s i j =
    let same = one_log one texts (start run) r.log s.log i.0 j.0 i.1 j.1 in
    same-reports r s same.0 (i.2 ∙ (ap₂ status_of same.1 same.0 ∙ sym j.2))

pub one_report : OneNext → OneReport
one_report one = λ words texts r s i j. one-report-of one texts (run_of words) r s i j
