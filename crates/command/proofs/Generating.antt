-- A run whose words ask for a generation.
use Rattle.std.proofs.Common.{◌≡◌, ◌≢◌, ◌⊎◌, inl, inr, ℕ, List, [], ◌∷◌, ◌∙◌, subst}
use Rattle.command_words.specs.Generation.{IsGeneration}
use Rattle.command_words.proofs.Generations.{one_generation}
use Rattle.report_model.specs.declared.report.Report.{Report}
use Rattle.mx_io.specs.Bytes.{Bytes}
use Rattle.command.specs.declared.status.Status.{Status}
use Rattle.command.specs.declared.status.Status.TheVariants.{Clean, Reports, WriteFault, NoMemory}
use Rattle.command.specs.Statuses.{status_of}
use Rattle.command.specs.Due.{IsMeasuredAs}
use Rattle.command.specs.Run.{CompletesMeasure, EndsIn, MayBeDue, RanAsDue, Run, called_in}
use Rattle.command.specs.Written.{NoWriteFailed, Took, Written}
use Rattle.command.proofs.GivenCommands.{command_alone}
use Rattle.command.proofs.Statuses.{ended}

module _ (run : Run) (count : ℕ) (is : IsGeneration run.words count) where
  -- what is due for it, and for nothing else
  due_for : (s : Status) (text line : Bytes) → MayBeDue run s text line → IsMeasuredAs count s text line
  due_for s text line (inl m) = absurd (m.none.no_generation count is)
  due_for s text line (inr (inl t)) = absurd (command_alone run.words (called_in run) t.command t.given count is)
  due_for s text line (inr (inr g)) = subst (λ (k : ℕ). IsMeasuredAs k s text line) (one_generation run.words g.count count g.is_generation is) g.due

  pub generation : RanAsDue run → (run.status ≡ Clean) ⊎ EndsIn run Reports
  generation (inl stops) = inr (inr (inr stops.status))
  generation (inr c) = by (due_for c.status c.text c.line c.due) (ended run c.status c.text c.line c.written)
    where
      of : (reports : List Report) → run.status ≡ status_of reports → (run.status ≡ Clean) ⊎ EndsIn run Reports
      of [] e = inl e
      of (report ∷ reports) e = inr (inl e)

      by : IsMeasuredAs count c.status c.text c.line → (run.status ≡ c.status) ⊎ (run.status ≡ WriteFault) → (run.status ≡ Clean) ⊎ EndsIn run Reports
      by d (inl e) = of d.reports (e ∙ d.status_is)
      by d (inr e) = inr (inr (inl e))

  pub measured : RanAsDue run → NoWriteFailed run.out → NoWriteFailed run.errs → run.status ≢ NoMemory → CompletesMeasure run count
  measured (inl stops) no-out no-errs ne = absurd (ne stops.status)
  measured (inr c) no-out no-errs ne = by c.written
    where
      by : Written c.status c.text c.line run.status run.out run.errs → CompletesMeasure run count
      by (inl w) =
          let d = due_for c.status c.text c.line c.due in
          record { reports = d.reports; measured = d.measured; status = w.0 ∙ d.status_is; printed = subst (Took run.out) d.text_is w.1; nothing = subst (Took run.errs) d.line_is w.2 }
      by (inr (inl w)) = absurd (no-out w.1.0)
      by (inr (inr w)) = absurd (no-errs w.2.0)
