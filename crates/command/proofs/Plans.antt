-- What is due for a command, by what its files came to.
use Rattle.std.proofs.Common.{◌≡◌, inl, inr, ℕ, suc, ◌+◌, ◌≤◌, Bool, true, false, cond, List, [], ◌∷◌, filter, length, map, Option, None, Some, Bor, Result, Ok, Err, IfOk, OnOk, refl, sym, ap, subst, arith}
use Rattle.std.proofs.lemmas.List.{length-map}
use Rattle.std.proofs.lemmas.Option.{slice_get_within}
use Rattle.report_model.specs.declared.report.Report.{Report}
use Rattle.path_model.specs.CheckerModel.Reports.{Checker}
use Rattle.typed_unit.specs.Texts.{Text}
use Rattle.command_words.specs.Generation.{IsGeneration}
use Rattle.command.specs.CheckerReports.Checkers.{checkers_in}
use Rattle.command.specs.Commands.{Command, IsCommand, checkers_of, sources_of}
use Rattle.command.specs.Counted.{IsLineFor}
use Rattle.command.specs.Due.{FailedInTurn, FailedInTurnOf, IsDue, IsDueFor}
use Rattle.command.specs.Ways.Counts.{AreCounted, IsCountFor}
use Rattle.command.specs.Ways.Plans.{IsAmong, IsPlanOf}
use Rattle.command.specs.Ran.{CarriesOut, Leaves, ReporterStep, Spares}
use Rattle.command.specs.Rendered.{IsPlanFor, line_for}
use Rattle.command.specs.Statuses.{status_of}
use Rattle.command.specs.Tasks.{IsEmptiedAt, LeavesAt}
use Rattle.command.specs.Written.{Fits, SinkStep, Written}
use Rattle.command.specs.declared.status.Status.{Status}
use Rattle.command.specs.declared.status.Status.TheVariants as status
use Rattle.command.proofs.GivenCommands.{command_alone}
use Rattle.command.proofs.Turns.{all_turns}
use Rattle.command.specs.JudgedFiles.FirstFault.{AnswersUnjudged}
use Rattle.command.specs.declared.judged_files.unjudged.Unjudged.{Unjudged}
use Rattle.command.specs.declared.judged_files.unjudged.Unjudged.TheVariants.{NotRead, Faulty, NoMemory}
use Rattle.request_files.specs.Turns.{turns}
use Rattle.request_files.specs.Views.{located_of, words_of}

-- ---- the words of the files of each kind

filter-few : (p : List ℕ → Bool) (ws : List (List ℕ)) → length (filter p ws) ≤ length ws
filter-few p [] = omega arith
filter-few p (w ∷ ws) = by (p w) (filter-few p ws)
  where
    by : (b : Bool) → length (filter p ws) ≤ length ws → length (cond b (w ∷ filter p ws) (filter p ws)) ≤ suc (length ws)
    by true h = omega (arith, h)
    by false h = omega (arith, h)

-- no more of a kind than there are
pub kind_few : {X : Type 0} (f : X → List ℕ) (p : List ℕ → Bool) (files : List X) (kind : List (Bor (List ℕ))) (most : ℕ) → words_of kind ≡ filter p (map f files) → length files ≤ most → length kind ≤ most
kind_few f p files kind most e h =
    let a = length-map kind (λ (w : Bor (List ℕ)). w.now) in
    let b = filter-few p (map f files) in
    let c = length-map files f in
    omega (arith, a, b, c, h, ap length e)

-- the line of a count is the one that is due beside reports
line-by-count : (stats : Bool) (cs : List Checker) (ts : List Text) (entries : Option ℕ) (line : List ℕ) → IsCountFor stats cs ts entries → line ≡ line_for entries → IsLineFor stats cs ts line
line-by-count stats cs ts None line c e = subst (λ (b : Bool). IsLineFor b cs ts line) (sym c) e
line-by-count stats cs ts (Some count) line c e = subst (λ (b : Bool). IsLineFor b cs ts line) (sym c.0) (record { count = count; counted = c.1; line_is = e })

module _ (Holds : List ℕ → List ℕ → Type 0) (command : Command) (old new : List (List ℕ)) where
  -- ---- the files gave reports
  pub due_for_reports : (rendered : List Report → List (List ℕ)) (reports : List Report) (entries : Option ℕ) (s : Status) (text line : List ℕ)
      → AreCounted Holds (checkers_of command) (sources_of command) command.depth command.stats reports entries → new ≡ old → IsPlanFor command.place (rendered reports) reports entries s text line → IsDueFor Holds command rendered old new s text line
  due_for_reports rendered reports entries s text line a n p =
      let meant = a.accepted.judged in
      inl (record {
        reports = reports;
        accepted = a.accepted;
        none_failed = n;
        status_is = p.0;
        text_is = p.1;
        line_is = line-by-count command.stats (checkers_in meant.machines command.depth meant.names) meant.texts entries line a.counted p.2;
      })

  -- ---- they gave none
  pub due_for_none : (rendered : List Report → List (List ℕ)) (u : Unjudged) (s : Status) (text line : List ℕ) → AnswersUnjudged Holds (checkers_of command) (sources_of command) old new u → IsPlanOf (checkers_of command) (sources_of command) u s text line
      → IsDueFor Holds command rendered old new s text line
  due_for_none rendered (NotRead position) s text line a p = inr (inr (record { position = position; failed = a; status_is = p.0; text_is = p.1; line_is = p.2 a.is_turn.turn a.is_turn.is }))
  due_for_none rendered (Faulty l) s text line a p = inr (inl (record { fault = located_of l; first = a.0; none_failed = a.1; status_is = p.0; text_is = p.1; line_is = p.2 }))
  due_for_none rendered NoMemory s text line a p = absurd p

  -- whatever they came to
  pub failed_for_none : (u : Unjudged) → AnswersUnjudged Holds (checkers_of command) (sources_of command) old new u → FailedInTurnOf Holds command old new
  failed_for_none (NotRead position) a = inr (position, a)
  failed_for_none (Faulty l) a = inl a.1
  failed_for_none NoMemory a = inl a

-- ---- what it leaves of the reporters, where this one is chosen

-- with reports it is handed these, and is empty again
pub leaves_for_reports : (place : Option ℕ) (before after : List (List Report)) (reports : List Report) (s : Status) → s ≡ status_of reports → IsEmptiedAt place after → LeavesAt place before after s
leaves_for_reports place before after [] s e empty = subst (LeavesAt place before after) (sym e) empty
leaves_for_reports place before after (report ∷ reports) s e empty = subst (LeavesAt place before after) (sym e) empty

-- with none it is handed nothing
pub leaves_for_none : (place : Option ℕ) (held : List (List Report)) (checkers sources : List (List ℕ)) (u : Unjudged) (s : Status) (text line : List ℕ) → IsPlanOf checkers sources u s text line → LeavesAt place held held s
leaves_for_none place held checkers sources (NotRead position) s text line p = subst (LeavesAt place held held) (sym p.0) refl
leaves_for_none place held checkers sources (Faulty l) s text line p = subst (LeavesAt place held held) (sym p.0) refl
leaves_for_none place held checkers sources NoMemory s text line p = absurd p

-- what came with all is known of each
pub with_both : {A E : Type 0} (r : Result A E) (P Q : A → Type 0) (O : Type 0) → ((a : A) → P a → O → Q a) → IfOk r P → OnOk r O → IfOk r Q
with_both (Ok a) P Q O by p o = by a p o
with_both (Err e) P Q O by p o = p

-- what is known of lists is known of equal ones
pub of_both : {X : Type 0} (P : List X → List X → Type 0) (xs ys us vs : List X) → xs ≡ us → ys ≡ vs → P xs ys → P us vs
of_both P xs ys us vs e f h = subst (λ zs. P zs vs) e (subst (λ zs. P xs zs) f h)

-- the position of a file that wasn't read is that of a file
pub is_among : (Holds : List ℕ → List ℕ → Type 0) (checkers sources : List (Bor (List ℕ))) (old new : List (List ℕ)) (u : Unjudged) → AnswersUnjudged Holds (words_of checkers) (words_of sources) old new u → IsAmong (length checkers + length sources) u
is_among Holds checkers sources old new (NotRead position) a =
    let h = slice_get_within (turns (words_of checkers) (words_of sources)) position a.is_turn.turn a.is_turn.is in
    let b = length-map checkers (λ (w : Bor (List ℕ)). w.now) in
    let c = length-map sources (λ (w : Bor (List ℕ)). w.now) in
    omega (arith, h, b, c, all_turns (words_of checkers) (words_of sources))
is_among Holds checkers sources old new (Faulty l) a = tt
is_among Holds checkers sources old new NoMemory a = tt

-- ---- the words give this command, and no other

module _ (words called : List (List ℕ)) (command : Command) (given : IsCommand words called command) (only : (c : Command) → IsCommand words called c → c ≡ command) where
  pub due_for_words : (Holds : List ℕ → List ℕ → Type 0) (rendered : List Report → List (List ℕ)) (old new : List (List ℕ)) (s : Status) (text line : List ℕ) → IsDueFor Holds command rendered old new s text line → IsDue Holds words called rendered old new s text line
  due_for_words Holds rendered old new s text line due = inr (inl (record { command = command; given = given; due = due }))

  pub failed_for_words : (Holds : List ℕ → List ℕ → Type 0) (old new : List (List ℕ)) → FailedInTurnOf Holds command old new → FailedInTurn Holds words called old new
  failed_for_words Holds old new (inl e) = inl e
  failed_for_words Holds old new (inr f) = inr (command, given, f)

  pub leaves_for_words : (rendered : List Report → List (List ℕ)) (before after : List (List Report)) (s : Status) → LeavesAt command.place before after s → Leaves words (record { called = called; rendered = rendered; before = before; after = after }) s
  leaves_for_words rendered before after status.Clean l = λ c g. subst (λ (k : Command). LeavesAt k.place before after status.Clean) (sym (only c g)) l
  leaves_for_words rendered before after status.Reports l = λ c g. subst (λ (k : Command). LeavesAt k.place before after status.Reports) (sym (only c g)) l
  leaves_for_words rendered before after _ l = l

-- ---- the words ask for a generation

-- no command is given, so no reporter is chosen
pub leaves_unasked : (words called : List (List ℕ)) (count : ℕ) (rendered : List Report → List (List ℕ)) (before after : List (List Report)) (s : Status) → IsGeneration words count → after ≡ before
    → Leaves words (record { called = called; rendered = rendered; before = before; after = after }) s
leaves_unasked words called count rendered before after status.Clean is kept = λ c given. absurd (command_alone words called c given count is)
leaves_unasked words called count rendered before after status.Reports is kept = λ c given. absurd (command_alone words called c given count is)
leaves_unasked words called count rendered before after _ is kept = kept

-- ---- what is due was written

pub carried_out : (Hands Holds : List ℕ → List ℕ → Type 0) (words : List (List ℕ)) (r : ReporterStep) (old new : List (List ℕ)) (result : Status) (out errs : SinkStep) (s : Status) (text handed line rest : List ℕ)
    → handed ≡ text → rest ≡ line → IsDue Holds words r.called r.rendered old new s text line → Leaves words r s → Spares words r → Written s handed rest result out errs → (Fits handed rest out errs → result ≡ s) → Hands handed rest → (c : CarriesOut Holds words r old new result out errs) × Hands c.text c.line
carried_out Hands Holds words r old new result out errs s text handed line rest e f due leaves spares written fitting hands = (
  record {
    status = s;
    text = text;
    line = line;
    due = due;
    leaves = leaves;
    spares = spares;
    written = of_both (λ t l. Written s t l result out errs) handed rest text line e f written;
    fitting = of_both (λ t l. Fits t l out errs → result ≡ s) handed rest text line e f fitting;
  },
  of_both Hands handed rest text line e f hands,
)
