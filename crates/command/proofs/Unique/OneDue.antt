-- What a run is due is given by the words, the contents of the files that are read and the read that failed, up to the number in a line of
-- statistics; and it is what a run does.
use Rattle.std.proofs.Common.{◌≡◌, ◌⊎◌, inl, inr, ℕ, ◌+◌, Bool, true, false, List, [], ◌∷◌, ◌++◌, length, Option, None, Some, refl, sym, ap, ◌∙◌, subst, true≢false, arith, length-append}
use Rattle.std.proofs.lemmas.List.{append_cancel_left}
use Rattle.command_words.proofs.Generations.{one_generation}
use Rattle.report_model.specs.declared.report.Report.{Report}
use Rattle.request_files.specs.Faults.{refused_line}
use Rattle.request_files.specs.Telling.{may_hold, surely_holds}
use Rattle.command.specs.Checker.{free_text}
use Rattle.command.specs.CheckerReports.Checkers.{checkers_in}
use Rattle.command.specs.Commands.{AskForNone, Command, IsCommand, checkers_of, sources_of}
use Rattle.command.specs.Counted.{IsLineFor}
use Rattle.command.specs.Due.{not_read_line, AreStatistics, IsDueFor, IsMeasuredAs, IsDue, IsOneLine}
use Rattle.command.specs.GeneratedProgram.Generated.{generated}
use Rattle.command.specs.Measured.{checker_name, measure_line, program_name}
use Rattle.command.specs.JudgedFiles.Judged.{AreAccepted}
use Rattle.command.specs.Ran.{DidOneAs, Ran, ReporterStep}
use Rattle.command.specs.Rendered.{IsText}
use Rattle.command.specs.Written.{Fits, SinkStep, Written}
use Rattle.command.specs.declared.status.Status.{Status}
use Rattle.command.specs.declared.status.Status.TheVariants.{NoMemory}
use Rattle.command.specs.Statuses.{status_of}
use Rattle.command.proofs.GivenCommands.{command_alone, one_command}
use Rattle.command.proofs.Unique.OneAnswer.{may_surely, never_both, one_accepted, one_first_fault, one_judged, one_meant, surely_may}

some_is : {A : Type 0} (x y : A) → Some x ≡ Some y → x ≡ y
some_is x y h = cc

one_text : (place : Option ℕ) (renderings : List (List ℕ)) (reports : List Report) (a b : List ℕ) → IsText place renderings reports a → IsText place renderings reports b → a ≡ b
one_text None renderings reports a b h k = h ∙ sym k
one_text (Some place) renderings reports a b h k = some_is a b (sym h ∙ k)

longer : (old : List (List ℕ)) (w : List ℕ) → old ≡ old ++ w ∷ [] → ⊥
longer old w e = absurd (omega (arith, ap length e, length-append old (w ∷ [])))

-- words that ask for no statistics have one line
pub plain_line : (Holds : List ℕ → List ℕ → Type 0) (words called : List (List ℕ)) (status : Status) (line next : List ℕ) → AskForNone words called → IsOneLine Holds words called status line next → line ≡ next
plain_line Holds words called status line next none (inl e) = e
plain_line Holds words called status line next none (inr (command, given, s)) = absurd (true≢false (sym s.asked ∙ none command given))

module _ (told : List ℕ → Option (List ℕ)) (rendered : List Report → List (List ℕ)) (old new : List (List ℕ)) where
  -- two lines of a command
  abbrev AreLines : Command → Status → List ℕ → List ℕ → Type 0
  AreLines c s l m = (l ≡ m) ⊎ AreStatistics (surely_holds told) c s l m

  abbrev Same : Command → Status → Status → List ℕ → List ℕ → List ℕ → List ℕ → Type 0
  Same c s z t u l m = (s ≡ z) × (t ≡ u) × AreLines c s l m

  -- beside reports: none, or statistics of the same logs
  beside : (c : Command) (s : Status) (l m : List ℕ) (reports : List Report) (a : AreAccepted (surely_holds told) (checkers_of c) (sources_of c) c.depth reports) → s ≡ status_of reports → (stats : Bool) → c.stats ≡ stats
      → IsLineFor stats (checkers_in a.judged.machines c.depth a.judged.names) a.judged.texts l → IsLineFor stats (checkers_in a.judged.machines c.depth a.judged.names) a.judged.texts m → AreLines c s l m
  beside c s l m reports a e false asked x y = inl (x ∙ sym y)
  beside c s l m reports a e true asked x y = inr (record { asked = asked; reports = reports; accepted = a; status_is = e; line_is = x; next_is = y })

  one_for : (c : Command) (s z : Status) (t u l m : List ℕ) → IsDueFor (surely_holds told) c rendered old new s t l → IsDueFor (may_hold told) c rendered old new z u m → Same c s z t u l m
  one_for c s z t u l m (inl a) (inl b) =
      let x = a.accepted in
      let y = b.accepted in
      let r = one_accepted (surely_holds told) (may_hold told) (surely_may told) (checkers_of c) (sources_of c) c.depth a.reports b.reports x y in
      let e = one_meant (surely_holds told) (may_hold told) (surely_may told) (checkers_of c) (sources_of c) c.depth a.reports b.reports x y in
      let text : IsText c.place (rendered b.reports) b.reports t = subst (λ rs. IsText c.place (rendered rs) rs t) r a.text_is in
      let line : IsLineFor c.stats (checkers_in x.judged.machines c.depth x.judged.names) x.judged.texts m =
      subst (λ ts. IsLineFor c.stats (checkers_in x.judged.machines c.depth x.judged.names) ts m) (sym e.2)
      (subst (λ ms. IsLineFor c.stats (checkers_in ms c.depth x.judged.names) y.judged.texts m) (sym e.1)
      (subst (λ ns. IsLineFor c.stats (checkers_in y.judged.machines c.depth ns) y.judged.texts m) (sym e.0) b.line_is)) in (
        a.status_is ∙ ap status_of r ∙ sym b.status_is,
        one_text c.place (rendered b.reports) b.reports t u text b.text_is,
        beside c s l m a.reports x a.status_is c.stats refl a.line_is line,
      )
  one_for c s z t u l m (inl a) (inr (inl b)) = absurd (never_both (may_hold told) (surely_holds told) (may_surely told) (checkers_of c) (sources_of c) c.depth a.reports b.fault b.first a.accepted)
  one_for c s z t u l m (inr (inl a)) (inl b) = absurd (never_both (surely_holds told) (may_hold told) (surely_may told) (checkers_of c) (sources_of c) c.depth b.reports a.fault a.first b.accepted)
  one_for c s z t u l m (inl a) (inr (inr b)) = absurd (longer old b.failed.is_turn.turn.word (sym a.none_failed ∙ b.failed.grew))
  one_for c s z t u l m (inr (inr a)) (inl b) = absurd (longer old a.failed.is_turn.turn.word (sym b.none_failed ∙ a.failed.grew))
  one_for c s z t u l m (inr (inl a)) (inr (inl b)) =
      let r = one_first_fault (surely_holds told) (may_hold told) (surely_may told) (checkers_of c) (sources_of c) a.fault b.fault a.first b.first in
      (a.status_is ∙ sym b.status_is, a.text_is ∙ sym b.text_is, inl (a.line_is ∙ ap refused_line r ∙ sym b.line_is))
  one_for c s z t u l m (inr (inl a)) (inr (inr b)) = absurd (longer old b.failed.is_turn.turn.word (sym a.none_failed ∙ b.failed.grew))
  one_for c s z t u l m (inr (inr a)) (inr (inl b)) = absurd (longer old a.failed.is_turn.turn.word (sym b.none_failed ∙ a.failed.grew))
  one_for c s z t u l m (inr (inr a)) (inr (inr b)) =
      let v = a.failed.is_turn.turn.word in
      let w = b.failed.is_turn.turn.word in
      let g : v ∷ [] ≡ w ∷ [] = append_cancel_left old (v ∷ []) (w ∷ []) (sym a.failed.grew ∙ b.failed.grew) in
      let h : v ≡ w = cc in
      (a.status_is ∙ sym b.status_is, a.text_is ∙ sym b.text_is, inl (a.line_is ∙ ap not_read_line h ∙ sym b.line_is))

  module _ (words called : List (List ℕ)) where
    abbrev SameDue : Status → Status → List ℕ → List ℕ → List ℕ → List ℕ → Type 0
    SameDue s z t u l m = (s ≡ z) × (t ≡ u) × IsOneLine (surely_holds told) words called s l m

    one_measure : (n : ℕ) (s z : Status) (t u l m : List ℕ) → IsMeasuredAs n s t l → IsMeasuredAs n z u m → SameDue s z t u l m
    one_measure n s z t u l m a b =
        let r = one_judged (checker_name ∷ []) (program_name ∷ []) (free_text ∷ generated n ∷ []) 4 a.reports b.reports a.measured b.measured in
        (a.status_is ∙ ap status_of r ∙ sym b.status_is, a.text_is ∙ ap (measure_line n) r ∙ sym b.text_is, inl (a.line_is ∙ sym b.line_is))

    -- the lines of the command that the words give
    given_lines : (c : Command) → IsCommand words called c → (s : Status) (l m : List ℕ) → AreLines c s l m → IsOneLine (surely_holds told) words called s l m
    given_lines c given s l m (inl e) = inl e
    given_lines c given s l m (inr both) = inr (c, given, both)

    -- ONE STATUS, one text and one line
    pub one_due : (s z : Status) (t u l m : List ℕ) → IsDue (surely_holds told) words called rendered old new s t l → IsDue (may_hold told) words called rendered old new z u m → SameDue s z t u l m
    one_due s z t u l m (inl a) (inl b) = (a.status_is ∙ sym b.status_is, a.text_is ∙ sym b.text_is, inl (a.line_is ∙ sym b.line_is))
    one_due s z t u l m (inl a) (inr (inl b)) = absurd (a.none.no_command b.command b.given)
    one_due s z t u l m (inl a) (inr (inr b)) = absurd (a.none.no_generation b.count b.is_generation)
    one_due s z t u l m (inr (inl a)) (inl b) = absurd (b.none.no_command a.command a.given)
    one_due s z t u l m (inr (inl a)) (inr (inl b)) =
        let c = one_command words called a.command b.command a.given b.given in
        let d : IsDueFor (surely_holds told) b.command rendered old new s t l = subst (λ (x : Command). IsDueFor (surely_holds told) x rendered old new s t l) c a.due in
        let one = one_for b.command s z t u l m d b.due in
        (one.0, one.1, given_lines b.command b.given s l m one.2)
    one_due s z t u l m (inr (inl a)) (inr (inr b)) = absurd (command_alone words called a.command a.given b.count b.is_generation)
    one_due s z t u l m (inr (inr a)) (inl b) = absurd (b.none.no_generation a.count a.is_generation)
    one_due s z t u l m (inr (inr a)) (inr (inl b)) = absurd (command_alone words called b.command b.given a.count a.is_generation)
    one_due s z t u l m (inr (inr a)) (inr (inr b)) =
        let n = one_generation words a.count b.count a.is_generation b.is_generation in
        let d : IsMeasuredAs b.count s t l = subst (λ x. IsMeasuredAs x s t l) n a.due in
        one_measure b.count s z t u l m d b.due

-- WHAT IS DUE IS DONE
pub determined : (told : List ℕ → Option (List ℕ)) (words : List (List ℕ)) (r : ReporterStep) (old new : List (List ℕ)) (result : Status) (out errs : SinkStep) (status : Status) (text line : List ℕ)
    → Ran (may_hold told) words r old new result out errs → IsDue (surely_holds told) words r.called r.rendered old new status text line → DidOneAs (surely_holds told) words r.called status text line result out errs
determined told words r old new result out errs status text line (inl stops) due = (line, inl refl, inl (stops.status, stops.out_same, stops.errs_same))
determined told words r old new result out errs status text line (inr c) due =
    let e = one_due told r.rendered old new words r.called status c.status text c.text line c.line due c.due in
    (c.line, e.2, inr (subst (λ s. Written s text c.line result out errs) (sym e.0) (subst (λ t. Written c.status t c.line result out errs) (sym e.1) c.written)))

-- and with its status, where it fits
pub fitting : (told : List ℕ → Option (List ℕ)) (words : List (List ℕ)) (r : ReporterStep) (old new : List (List ℕ)) (result : Status) (out errs : SinkStep) (status : Status) (text line : List ℕ)
    → Ran (may_hold told) words r old new result out errs → IsDue (surely_holds told) words r.called r.rendered old new status text line
    → ((next : List ℕ) → IsOneLine (surely_holds told) words r.called status line next → Fits text next out errs) → (result ≡ status) ⊎ (result ≡ NoMemory)
fitting told words r old new result out errs status text line (inl stops) due fits = inr stops.status
fitting told words r old new result out errs status text line (inr c) due fits =
    let e = one_due told r.rendered old new words r.called status c.status text c.text line c.line due c.due in
    inl (c.fitting (subst (λ (t : List ℕ). Fits t c.line out errs) e.1 (fits c.line e.2)) ∙ sym e.0)
