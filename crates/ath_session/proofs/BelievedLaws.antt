-- What a run writes may be believed, whatever ended it.
use Rattle.std.proofs.Common.{◌≡◌, ℕ, List, [], ◌∷◌, ◌++◌, take, drop, append_assoc, append-nil, Option, Some, refl, sym, ◌∙◌, ap, subst}
use Rattle.std.specs.List.{concat}
use Rattle.std.proofs.lemmas.List.{take-append-drop}
use Rattle.std.proofs.lemmas.List.Folds.{concat-append}
use Rattle.ath_io.specs.Faults.{one_more}
use Rattle.ath_io.specs.Sink.{Held, with_put, with_puts}
use Rattle.ath_io.proofs.Told.{with_puts-bytes}
use Rattle.ath_session.specs.declared.status.Status.{Status}
use Rattle.ath_session.specs.declared.status.Status.TheVariants.{Clean, Errors, Usage, Fuel, SourceFault, SinkFault, Memory}
use Rattle.ath_session.specs.Said.{Said, line_said}
use Rattle.ath_session.specs.Run.{Item, asks, tells}
use Rattle.ath_session.specs.Report.{said_in, lines_in}
use Rattle.ath_session.specs.Ends.{Outside, after_items, after_part, Performed, ReportsTold}
use Rattle.ath_session.specs.Believed.{IsWritten, BelievedTold}
use Rattle.ath_session.proofs.DeskLaws.{lines_more}

-- a sink holds these bytes more
record Put (before : Held) (written : List ℕ) (after : Option Held) : Type 0 where
  now : Held
  told : after ≡ Some now
  held : now.bytes ≡ before.bytes ++ written

module _ (h : Held) where
  put_nothing : Put h [] (Some h)
  put_nothing = record { now = h; told = refl; held = sym (append-nil h.bytes) }

  put_lines : (pieces : List (List ℕ)) → Put h (concat pieces) (with_puts (Some h) pieces)
  put_lines pieces = let p = with_puts-bytes h pieces in record { now = record { bytes = h.bytes ++ concat pieces; puts = p.0 }; told = p.1; held = refl }

  put_part : (pieces : List (List ℕ)) (front : List ℕ) → Put h (concat pieces ++ front) (with_put (with_puts (Some h) pieces) front)
  put_part pieces front =
      let p = with_puts-bytes h pieces in
      record {
        now = record { bytes = (h.bytes ++ concat pieces) ++ front; puts = one_more p.0 };
        told = ap (λ (o : Option Held). with_put o front) p.1;
        held = append_assoc h.bytes (concat pieces) front;
      }

-- a front of the bytes of these items is put
record PutFront (status : Status) (log : List Item) (h : Held) (after : Option Held) : Type 0 where
  written : List ℕ
  front : IsWritten status written (concat (lines_in log))
  put : Put h written after

module _ (log : List Item) (o o' : Outside) (h : Held) (told : o.sink ≡ Some h) where
  all_put : o' ≡ after_items o log → Put h (concat (lines_in log)) o'.sink
  all_put e = subst (Put h (concat (lines_in log))) (sym (ap (λ (w : Outside). w.sink) e ∙ ap (λ (k : Option Held). with_puts k (lines_in log)) told)) (put_lines h (lines_in log))

  split : (front more : List Item) → log ≡ front ++ more → concat (lines_in log) ≡ concat (lines_in front) ++ concat (lines_in more)
  split front more e = ap (λ (items : List Item). concat (lines_in items)) e ∙ ap concat (lines_more front more) ∙ concat-append (lines_in front) (lines_in more)

  front_put : (front : List Item) → o' ≡ after_items o front → Put h (concat (lines_in front)) o'.sink
  front_put front e = subst (Put h (concat (lines_in front))) (sym (ap (λ (w : Outside). w.sink) e ∙ ap (λ (k : Option Held). with_puts k (lines_in front)) told)) (put_lines h (lines_in front))

  part_put : (front : List Item) (bytes : List ℕ) → o' ≡ after_part o front bytes → Put h (concat (lines_in front) ++ bytes) o'.sink
  part_put front bytes e = subst (Put h (concat (lines_in front) ++ bytes)) (sym (ap (λ (w : Outside). w.sink) e ∙ ap (λ (k : Option Held). with_put (with_puts k (lines_in front)) bytes) told)) (put_part h (lines_in front) bytes)

  in_part : (front more : List Item) (s : Said) (count : ℕ) → log ≡ front ++ tells s ∷ more → concat (lines_in log) ≡ (concat (lines_in front) ++ take count (line_said s)) ++ (drop count (line_said s) ++ concat (lines_in more))
  in_part front more s count e =
      let line = line_said s in
      split front (tells s ∷ more) e
      ∙ ap (λ (bytes : List ℕ). concat (lines_in front) ++ (bytes ++ concat (lines_in more))) (sym (take-append-drop count line))
      ∙ ap (λ (bytes : List ℕ). concat (lines_in front) ++ bytes) (append_assoc (take count line) (drop count line) (concat (lines_in more)))
      ∙ sym (append_assoc (concat (lines_in front)) (take count line) (drop count line ++ concat (lines_in more)))

  performed_put : (status : Status) → Performed status log o o' → PutFront status log h o'.sink
  performed_put Clean e = record { written = concat (lines_in log); front = refl; put = all_put e }
  performed_put Errors e = record { written = concat (lines_in log); front = refl; put = all_put e }
  performed_put Fuel e = record { written = concat (lines_in log); front = refl; put = all_put e }
  performed_put SourceFault (front, more, name, (is, e)) = record {
    written = concat (lines_in (front ++ asks name ∷ []));
    front = (concat (lines_in more), split (front ++ asks name ∷ []) more (is ∙ sym (append_assoc front (asks name ∷ []) more)));
    put = front_put (front ++ asks name ∷ []) e;
  }
  performed_put SinkFault (front, more, s, count, (is, e)) = record {
    written = concat (lines_in front) ++ take count (line_said s);
    front = (drop count (line_said s) ++ concat (lines_in more), in_part front more s count is);
    put = part_put front (take count (line_said s)) e;
  }
  performed_put Memory (front, more, (is, e)) = record {
    written = concat (lines_in front);
    front = (concat (lines_in more), split front more is);
    put = front_put front e;
  }
  performed_put Usage e = record {
    written = [];
    front = (concat (lines_in log), refl);
    put = subst (Put h []) (sym (ap (λ (w : Outside). w.sink) e ∙ told)) (put_nothing h);
  }

pub believed_told : (words : List (List ℕ)) (status : Status) (o o' : Outside) → ReportsTold words status o o' → BelievedTold status o.shelf o.sink o'.sink
believed_told words status o o' reports = λ t h shelf sink.
    let r = reports t shelf in
    let p = performed_put r.report.log o o' h sink status r.done in
    record {
      said = said_in r.report.log;
      believed = r.believed;
      written = p.written;
      front = p.front;
      now = p.put.now;
      told = p.put.told;
      held = p.put.held;
    }
