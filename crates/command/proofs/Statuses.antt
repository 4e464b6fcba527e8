-- What each status says of a run.
use Rattle.std.proofs.Common.{◌≡◌, ◌≢◌, ◌⊎◌, inl, inr, List, [], ◌∷◌, refl, sym, ◌∙◌, subst}
use Rattle.report_model.specs.declared.report.Report.{Report}
use Rattle.request_files.specs.Telling.{may_hold}
use Rattle.mx_io.specs.Bytes.{Bytes, Words}
use Rattle.command.specs.declared.status.Status.{Status}
use Rattle.command.specs.declared.status.Status.TheVariants.{Clean, Reports, Usage, Refused, ReadFault, WriteFault, NoMemory}
use Rattle.command.specs.Statuses.{status_of}
use Rattle.command.specs.Commands.{Command, GiveNone}
use Rattle.command.specs.Due.{HasGeneration, HasTask, IsDueFor, IsLacking, IsMisused, IsMeasuredAs, IsRefused, IsReported, usage_line}
use Rattle.command.specs.Ran.{IsEmptied, Leaves, ReporterStep, Spares}
use Rattle.command.specs.Run.{Answers, EndsIn, MayBeDue, Measures, Misses, Misuses, Prints, RanAsDue, Refuses, Run, StopsFirst, Writes, called_in, rendered_in, reporters_in}
use Rattle.command.specs.Written.{WriteFailed, Written}

-- under the status of reports the chosen reporter is empty
empty_of : (words : Words) (r : ReporterStep) (reports : List Report) → Leaves words r (status_of reports) → IsEmptied words r
empty_of words r [] leaves = leaves
empty_of words r (report ∷ reports) leaves = leaves

module _ (run : Run) where
  -- the fields of the promise as a table
  abbrev Means : Status → Type 0
  Means Clean = Answers run (λ reports. reports ≡ [])
  Means Reports = Answers run (λ reports. reports ≢ [])
  Means Usage = Misuses run
  Means Refused = Refuses run
  Means ReadFault = Misses run
  Means WriteFault = WriteFailed run.out ⊎ WriteFailed run.errs
  Means NoMemory = StopsFirst run

  -- what is written of reports means their status
  means_reports : (reports : List Report) → ((IsAsked : List Report → Type 0) → IsAsked reports → Answers run IsAsked) → Means (status_of reports)
  means_reports [] answers = answers (λ reports. reports ≡ []) refl
  means_reports (report ∷ reports) answers = answers (λ reports. reports ≢ []) (λ e. cc)

  module _ (text line : Bytes) (leaves : Leaves run.words (reporters_in run) run.status) (writes : Writes run text line) where
    of_misused : IsMisused run.words (called_in run) run.failed_before run.failed_after run.status text line → Misuses run
    of_misused m = record {
      cause = record { none = m.none; none_failed = m.none_failed; status_is = m.status_is; text_is = refl; line_is = refl };
      writes = subst (λ (t : Bytes). Writes run t usage_line) m.text_is (subst (λ (l : Bytes). Writes run text l) m.line_is writes);
      kept = subst (Leaves run.words (reporters_in run)) m.status_is leaves;
    }

    of_measured : (g : HasGeneration run.words run.failed_before run.failed_after run.status text line) → Spares run.words (reporters_in run) → (IsAsked : List Report → Type 0) → IsAsked g.due.reports → Measures run IsAsked
    of_measured g spares IsAsked asked =
        let d = g.due in
        let cause : IsMeasuredAs g.count run.status text [] = record { reports = d.reports; measured = d.measured; status_is = d.status_is; text_is = d.text_is; line_is = refl } in
        record {
          count = g.count;
          is_generation = g.is_generation;
          text = text;
          cause = cause;
          asked = asked;
          none_failed = g.none_failed;
          writes = subst (λ (l : Bytes). Writes run text l) d.line_is writes;
          kept = spares g.count g.is_generation;
        }

    module _ (t : HasTask (may_hold run.told) run.words (called_in run) (rendered_in run) run.failed_before run.failed_after run.status text line) where
      of_reported : (d : IsReported (may_hold run.told) t.command (rendered_in run) run.failed_before run.failed_after run.status text line) → (IsAsked : List Report → Type 0) → IsAsked d.reports → Prints run IsAsked
      of_reported d IsAsked asked = record {
        command = t.command;
        given = t.given;
        text = text;
        line = line;
        cause = d;
        asked = asked;
        writes = writes;
        empty = empty_of run.words (reporters_in run) d.reports (subst (Leaves run.words (reporters_in run)) d.status_is leaves);
      }

      of_refused : IsRefused (may_hold run.told) t.command run.failed_before run.failed_after run.status text line → Refuses run
      of_refused d = record {
        command = t.command;
        given = t.given;
        line = line;
        cause = record { fault = d.fault; first = d.first; none_failed = d.none_failed; status_is = d.status_is; text_is = refl; line_is = d.line_is };
        writes = subst (λ (x : Bytes). Writes run x line) d.text_is writes;
        kept = subst (Leaves run.words (reporters_in run)) d.status_is leaves;
      }

      of_lacking : IsLacking (may_hold run.told) t.command run.failed_before run.failed_after run.status text line → Misses run
      of_lacking d = record {
        command = t.command;
        given = t.given;
        line = line;
        cause = record { position = d.position; failed = d.failed; status_is = d.status_is; text_is = refl; line_is = d.line_is };
        writes = subst (λ (x : Bytes). Writes run x line) d.text_is writes;
        kept = subst (Leaves run.words (reporters_in run)) d.status_is leaves;
      }

    -- by each cause
    means_due : Spares run.words (reporters_in run) → MayBeDue run run.status text line → Means run.status
    means_due spares (inl m) = subst Means (sym m.status_is) (of_misused m)
    means_due spares (inr (inr g)) = subst Means (sym g.due.status_is) (means_reports g.due.reports (λ IsAsked asked. inr (of_measured g spares IsAsked asked)))
    means_due spares (inr (inl t)) = by t.due
      where
        by : IsDueFor (may_hold run.told) t.command (rendered_in run) run.failed_before run.failed_after run.status text line → Means run.status
        by (inl d) = subst Means (sym d.status_is) (means_reports d.reports (λ IsAsked asked. inl (of_reported t d IsAsked asked)))
        by (inr (inl d)) = subst Means (sym d.status_is) (of_refused t d)
        by (inr (inr d)) = subst Means (sym d.status_is) (of_lacking t d)

  means : RanAsDue run → Means run.status
  means (inl stops) = subst Means (sym stops.status) stops
  means (inr c) = by c.written
    where
      by : Written c.status c.text c.line run.status run.out run.errs → Means run.status
      by (inr (inl w)) = subst Means (sym w.0) (inl w.1.0)
      by (inr (inr w)) = subst Means (sym w.0) (inr w.2.0)
      by (inl w) =
          let leaves : Leaves run.words (reporters_in run) run.status = subst (Leaves run.words (reporters_in run)) (sym w.0) c.leaves in
          let due : MayBeDue run run.status c.text c.line = subst (λ (s : Status). MayBeDue run s c.text c.line) (sym w.0) c.due in
          means_due c.text c.line leaves (record { text_taken = w.1; line_taken = w.2; out_still = w.3; errs_still = w.4 }) c.spares due

  pub clean : RanAsDue run → run.status ≡ Clean → Answers run (λ reports. reports ≡ [])
  clean ran e = subst Means e (means ran)

  pub reports : RanAsDue run → run.status ≡ Reports → Answers run (λ reports. reports ≢ [])
  reports ran e = subst Means e (means ran)

  pub usage : RanAsDue run → run.status ≡ Usage → Misuses run
  usage ran e = subst Means e (means ran)

  pub refused : RanAsDue run → run.status ≡ Refused → Refuses run
  refused ran e = subst Means e (means ran)

  pub read_fault : RanAsDue run → run.status ≡ ReadFault → Misses run
  read_fault ran e = subst Means e (means ran)

  pub write_fault : RanAsDue run → run.status ≡ WriteFault → WriteFailed run.out ⊎ WriteFailed run.errs
  write_fault ran e = subst Means e (means ran)

  pub no_memory : RanAsDue run → run.status ≡ NoMemory → StopsFirst run
  no_memory ran e = subst Means e (means ran)

  -- what is due ends with its status, or a write failed
  pub ended : (s : Status) (text line : Bytes) → Written s text line run.status run.out run.errs → (run.status ≡ s) ⊎ (run.status ≡ WriteFault)
  ended s text line (inl w) = inl w.0
  ended s text line (inr (inl w)) = inr w.0
  ended s text line (inr (inr w)) = inr w.0

  pub no_command : RanAsDue run → GiveNone run.words (called_in run) → EndsIn run Usage
  no_command (inl stops) n = inr (inr stops.status)
  no_command (inr c) n = by c.due (ended c.status c.text c.line c.written)
    where
      by : MayBeDue run c.status c.text c.line → (run.status ≡ c.status) ⊎ (run.status ≡ WriteFault) → EndsIn run Usage
      by (inl m) (inl e) = inl (e ∙ m.status_is)
      by (inl m) (inr e) = inr (inl e)
      by (inr (inl t)) e = absurd (n.no_command t.command t.given)
      by (inr (inr g)) e = absurd (n.no_generation g.count g.is_generation)

  pub failed : RanAsDue run → run.failed_after ≢ run.failed_before → EndsIn run ReadFault
  failed (inl stops) n = inr (inr stops.status)
  failed (inr c) n = by c.due (ended c.status c.text c.line c.written)
    where
      for : (command : Command) → IsDueFor (may_hold run.told) command (rendered_in run) run.failed_before run.failed_after c.status c.text c.line → (run.status ≡ c.status) ⊎ (run.status ≡ WriteFault) → EndsIn run ReadFault
      for command (inl d) e = absurd (n d.none_failed)
      for command (inr (inl d)) e = absurd (n d.none_failed)
      for command (inr (inr d)) (inl e) = inl (e ∙ d.status_is)
      for command (inr (inr d)) (inr e) = inr (inl e)

      by : MayBeDue run c.status c.text c.line → (run.status ≡ c.status) ⊎ (run.status ≡ WriteFault) → EndsIn run ReadFault
      by (inl m) e = absurd (n m.none_failed)
      by (inr (inl t)) e = for t.command t.due e
      by (inr (inr g)) e = absurd (n g.none_failed)
