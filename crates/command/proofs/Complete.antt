-- A command whose files are told: without a fault and without a failed call its reports are printed, and with a fault it is refused in a line.
use Rattle.std.proofs.Common.{◌≡◌, ◌≢◌, inl, inr, ℕ, ◌+◌, List, [], ◌∷◌, ◌++◌, length, Option, Some, None, refl, sym, ap, ◌∙◌, subst, length-append, arith}
use Rattle.mx_io.specs.Reads.{Stands}
use Rattle.report_model.specs.declared.report.Report.{Report}
use Rattle.mx_io.specs.Bytes.{Bytes}
use Rattle.command.specs.CheckerReports.Checkers.{checkers_in}
use Rattle.command.specs.Commands.{Command, checkers_of, sources_of, turns_of}
use Rattle.command.specs.Counted.{IsLineFor}
use Rattle.command.specs.Due.{HasTask, IsDueFor, IsRefused}
use Rattle.command.specs.Run.{Completes, Did, DidOne, EndsIn, Gives, MayBeDue, NoReadFailed, RanAsDue, Run, called_in, rendered_in, reporters_in}
use Rattle.command.specs.Written.{NoWriteFailed, Took, Written}
use Rattle.command.specs.declared.status.Status.{Status}
use Rattle.command.specs.declared.status.Status.TheVariants.{Refused, NoMemory}
use Rattle.command.specs.Statuses.{status_of}
use Rattle.command.proofs.GivenCommands.{command_alone, one_command}
use Rattle.command.proofs.Turns.{all_turns}
use Rattle.command.proofs.Unique.OneDue.{determined}
use Rattle.command.proofs.Unique.Told.{first_sure}
use Rattle.command.specs.JudgedFiles.FirstFault.{IsFirstFault}
use Rattle.command.specs.JudgedFiles.Judged.{AreAccepted, AreAllSound, AreJudged, AreLinked}
use Rattle.request_files.specs.Faults.{Located, refused_line}
use Rattle.request_files.specs.Reading.{Agree}
use Rattle.request_files.specs.Telling.{may_hold, surely_holds, Tells}
use Rattle.request_files.specs.Turns.{Turn}

-- what agrees with told contents is what is told
stands_told : (told : Option (List ℕ)) (b t : List ℕ) → Stands told b → told ≡ Some t → b ≡ t
stands_told None b t s e = cc
stands_told (Some x) b t s e = let same : x ≡ t = cc in s ∙ same

-- of all files
same_contents : (told : List ℕ → Option (List ℕ)) (ts : List Turn) (bs cs : List (List ℕ)) → Agree (may_hold told) ts bs → Tells told ts cs → length bs ≡ length ts → bs ≡ cs
same_contents told [] [] [] a t h = refl
same_contents told [] [] (x ∷ cs) a t h = absurd t
same_contents told [] (b ∷ bs) cs a t h = absurd a
same_contents told (n ∷ ns) bs [] a t h = absurd t
same_contents told (n ∷ ns) [] (x ∷ cs) a t h = absurd (omega (arith, h))
same_contents told (n ∷ ns) (b ∷ bs) (x ∷ cs) a t h =
    let first : b ≡ x = stands_told (told n.word) b x a.0 t.0 in
    let rest : bs ≡ cs = same_contents told ns bs cs a.1 t.1 (omega (arith, h)) in
    cc

pub longer : (old : List (List ℕ)) (name : List ℕ) → old ++ name ∷ [] ≡ old → ⊥
longer old name e = omega (arith, length-append old (name ∷ []), ap length e)

module _ (told : List ℕ → Option (List ℕ)) (command : Command) (contents : List (List ℕ)) where
  -- all files that were read have the contents that are told
  read_as_told : (read : List (List ℕ)) → AreAllSound (may_hold told) (checkers_of command) (sources_of command) read → Tells told (turns_of command) contents → read ≡ contents
  read_as_told read sound tells = same_contents told (turns_of command) read contents sound.sound.agree tells (sound.count ∙ sym (all_turns (checkers_of command) (sources_of command)))

  -- reports of these contents, and the line beside them
  abbrev AreJudgedWith : List Report → List ℕ → List (List ℕ) → Type 0
  AreJudgedWith reports line bs =
      (j : AreJudged (checkers_of command) (sources_of command) bs command.depth reports) × IsLineFor command.stats (checkers_in j.machines command.depth j.names) j.texts line

  -- the reports of the files are those of these contents, and so is the line
  told_line : (reports : List Report) (line : List ℕ) (a : AreAccepted (may_hold told) (checkers_of command) (sources_of command) command.depth reports) → Tells told (turns_of command) contents
      → IsLineFor command.stats (checkers_in a.judged.machines command.depth a.judged.names) a.judged.texts line → AreJudgedWith reports line contents
  told_line reports line a tells is = subst (AreJudgedWith reports line) (read_as_told a.contents a.sound tells) (a.judged, is)

  told_reports : (reports : List Report) → AreAccepted (may_hold told) (checkers_of command) (sources_of command) command.depth reports → Tells told (turns_of command) contents
      → AreJudged (checkers_of command) (sources_of command) contents command.depth reports
  told_reports reports a tells = subst (λ bs. AreJudged (checkers_of command) (sources_of command) bs command.depth reports) (read_as_told a.contents a.sound tells) a.judged

  -- files that were accepted can be linked
  pub accepted_linked : (reports : List Report) → AreAccepted (may_hold told) (checkers_of command) (sources_of command) command.depth reports → Tells told (turns_of command) contents → AreLinked (checkers_of command) (sources_of command) contents
  accepted_linked reports a tells =
      let j = told_reports reports a tells in
      record { names = j.names; machines = j.machines; texts = j.texts; meanings = j.meanings; linked = j.linked }

-- what is refused has no reports
no-reports : (reports : List Report) → Refused ≡ status_of reports → ⊥
no-reports [] e = cc
no-reports (report ∷ reports) e = cc

-- and so one line
one-refusal : (run : Run) (line : Bytes) → DidOne run Refused [] line → Did run Refused [] line
one-refusal run line (next, inl e, did) = subst (λ (l : Bytes). Did run Refused [] l) (sym e) did
one-refusal run line (next, inr (command, given, s), did) = absurd (no-reports s.reports s.status_is)

module _ (run : Run) (command : Command) (given : Gives run command) (same : NoReadFailed run) where
  -- the line of the first fault is due
  pub faulty : (l : Located) → IsFirstFault (surely_holds run.told) (checkers_of command) (sources_of command) l → RanAsDue run → Did run Refused [] (refused_line l)
  faulty l first ran =
      let due : IsRefused (surely_holds run.told) command run.failed_before run.failed_after Refused [] (refused_line l) = record { fault = l; first = first; none_failed = same; status_is = refl; text_is = refl; line_is = refl } in
      one-refusal run (refused_line l)
      (determined run.told run.words (reporters_in run) run.failed_before run.failed_after run.status run.out run.errs Refused [] (refused_line l) ran (inr (inl (record { command = command; given = given; due = inr (inl due) }))))

  -- what is due for the command that the words give
  due_for_command : (s : Status) (text line : Bytes) (t : HasTask (may_hold run.told) run.words (called_in run) (rendered_in run) run.failed_before run.failed_after s text line)
      → IsDueFor (may_hold run.told) command (rendered_in run) run.failed_before run.failed_after s text line
  due_for_command s text line t =
      subst (λ (k : Command). IsDueFor (may_hold run.told) k (rendered_in run) run.failed_before run.failed_after s text line) (one_command run.words (called_in run) t.command command t.given given) t.due

  pub complete : (contents : List Bytes) → Tells run.told (turns_of command) contents → ((l : Located) → IsFirstFault (surely_holds run.told) (checkers_of command) (sources_of command) l → ⊥)
      → RanAsDue run → NoWriteFailed run.out → NoWriteFailed run.errs → run.status ≢ NoMemory → Completes run command contents
  complete contents tells fine (inl stops) no-out no-errs ne = absurd (ne stops.status)
  complete contents tells fine (inr c) no-out no-errs ne = by c.due c.written
    where
      for : IsDueFor (may_hold run.told) command (rendered_in run) run.failed_before run.failed_after c.status c.text c.line → run.status ≡ c.status → Took run.out c.text → Took run.errs c.line → Completes run command contents
      for (inl d) e o l =
          let told = told_line run.told command contents d.reports c.line d.accepted tells d.line_is in
          record { reports = d.reports; judged = told.0; status = e ∙ d.status_is; text = c.text; text_is = d.text_is; printed = o; line = c.line; line_is = told.1; noted = l }
      for (inr (inl d)) e o l = absurd (fine d.fault (first_sure run.told (checkers_of command) (sources_of command) contents tells d.fault d.first))
      for (inr (inr d)) e o l = absurd (longer run.failed_before d.failed.is_turn.turn.word (sym d.failed.grew ∙ same))

      by : MayBeDue run c.status c.text c.line → Written c.status c.text c.line run.status run.out run.errs → Completes run command contents
      by due (inr (inl w)) = absurd (no-out w.1.0)
      by due (inr (inr w)) = absurd (no-errs w.2.0)
      by (inl m) (inl w) = absurd (m.none.no_command command given)
      by (inr (inr g)) (inl w) = absurd (command_alone run.words (called_in run) command given g.count g.is_generation)
      by (inr (inl t)) (inl w) = for (due_for_command c.status c.text c.line t) w.0 w.1 w.2

  -- what no accepted command comes to is refused
  pub refused_where : ((reports : List Report) → AreAccepted (may_hold run.told) (checkers_of command) (sources_of command) command.depth reports → ⊥) → RanAsDue run → EndsIn run Refused
  refused_where not-accepted (inl stops) = inr (inr stops.status)
  refused_where not-accepted (inr c) = by c.due c.written
    where
      for : IsDueFor (may_hold run.told) command (rendered_in run) run.failed_before run.failed_after c.status c.text c.line → run.status ≡ c.status → EndsIn run Refused
      for (inl d) e = absurd (not-accepted d.reports d.accepted)
      for (inr (inl d)) e = inl (e ∙ d.status_is)
      for (inr (inr d)) e = absurd (longer run.failed_before d.failed.is_turn.turn.word (sym d.failed.grew ∙ same))

      by : MayBeDue run c.status c.text c.line → Written c.status c.text c.line run.status run.out run.errs → EndsIn run Refused
      by due (inr (inl w)) = inr (inl w.0)
      by due (inr (inr w)) = inr (inl w.0)
      by (inl m) (inl w) = absurd (m.none.no_command command given)
      by (inr (inr g)) (inl w) = absurd (command_alone run.words (called_in run) command given g.count g.is_generation)
      by (inr (inl t)) (inl w) = for (due_for_command c.status c.text c.line t) w.0
