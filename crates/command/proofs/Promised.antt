-- The promise of a run, field by field from what it was due.
use Rattle.std.proofs.Common.{◌≡◌, ◌≢◌, inl, inr, ℕ, List, [], ◌∷◌, map, slice_get, Option, refl, sym, ap, ◌∙◌, subst}
use Rattle.command_words.specs.Generation.{IsGeneration}
use Rattle.mx_io.specs.Reads.{ReadsReadable}
use Rattle.report_model.specs.declared.report.Report.{Report}
use Rattle.request_files.specs.Telling.{AreReadable, may_hold, surely_holds}
use Rattle.mx_io.specs.Bytes.{Bytes, Readable, Told, Words}
use Rattle.command.specs.Commands.{Command, GiveNone, IsOther, checkers_of, sources_of, turns_of}
use Rattle.command.specs.Due.{FailedInTurn}
use Rattle.command.specs.Ran.{RanHanding, ReporterStep, reporter_step}
use Rattle.command.specs.Run.{Gives, HandsAsDue, NoReadFailed, Promise, RanAsDue, ReporterState, Run, called_in, reporter_state, reporters_in}
use Rattle.command.specs.Written.{SinkStep}
use Rattle.command.specs.declared.status.Status.{Status}
use Rattle.command.specs.declared.status.Status.TheVariants.{NoMemory, ReadFault}
use Rattle.command.proofs.Complete.{accepted_linked, complete, faulty, refused_where}
use Rattle.command.proofs.Generating.{generation, measured}
use Rattle.command.proofs.Readable.{readable_is_read}
use Rattle.command.proofs.Statuses.{clean, reports, usage, refused, read_fault, write_fault, no_memory, no_command, failed}
use Rattle.command.proofs.Unique.OneAnswer.{surely_may, unsound_or_accepted}
use Rattle.command.proofs.Unique.OneDue.{determined, fitting}

-- what was handed in this way was done
ran_of : (Hands : Bytes → Bytes → Type 0) (run : Run) → HandsAsDue Hands run → RanAsDue run
ran_of Hands run (inl stops) = inl stops
ran_of Hands run (inr (c, hands)) = inr c

pub promised : {Files : Type 0} (before after : Files) (Hands : Bytes → Bytes → Type 0) (run : Run) → HandsAsDue Hands run → ((command : Command) → Gives run command → AreReadable run.readable (turns_of command) → NoReadFailed run × (run.status ≢ ReadFault)) → ((count : ℕ) → IsGeneration run.words count → after ≡ before) → (GiveNone run.words (called_in run) → after ≡ before)
    → map (λ (r : ReporterState). r.called) run.reporters_after ≡ called_in run → map (λ (r : ReporterState). r.style) run.reporters_after ≡ map (λ (r : ReporterState). r.style) run.reporters_before
    → ((k : ℕ) → IsOther run.words (called_in run) k → slice_get (reporters_in run).after k ≡ slice_get (reporters_in run).before k) → Promise before after Hands run
promised before after Hands run handed readable untouched unread names styles others = let ran = ran_of Hands run handed in record {
  ran = ran;
  handed = handed;
  determined = λ status text line due. determined run.told run.words (reporters_in run) run.failed_before run.failed_after run.status run.out run.errs status text line ran due;
  clean = clean run ran;
  reports = reports run ran;
  usage = usage run ran;
  refused = refused run ran;
  read_fault = read_fault run ran;
  write_fault = write_fault run ran;
  no_memory = no_memory run ran;
  complete = λ command contents given tells fine same no-out no-errs ne. complete run command given same contents tells fine ran no-out no-errs ne;
  faulty = λ command l given first same. faulty run command given same l first ran;
  unsound = λ command position given unsound same.
      refused_where run command given same
      (λ reports a. unsound_or_accepted (surely_holds run.told) (may_hold run.told) (surely_may run.told) (checkers_of command) (sources_of command) command.depth reports position unsound a) ran;
  unlinked = λ command contents given tells unlinked same. refused_where run command given same (λ reports a. unlinked (accepted_linked run.told command contents reports a tells)) ran;
  measured = λ count is no-out no-errs ne. measured run count is ran no-out no-errs ne;
  generation = λ count is. generation run count is ran;
  no_command = no_command run ran;
  fitting = λ status text line due fits. fitting run.told run.words (reporters_in run) run.failed_before run.failed_after run.status run.out run.errs status text line ran due fits;
  readable = readable;
  failed = failed run ran;
  untouched = untouched;
  unread = unread;
  names = names;
  styles = styles;
  others = others;
}

-- ---- reporters, and the list of their states

abbrev pub run_of : Words → Told → Readable → Words → Words → List ReporterState → List ReporterState → SinkStep → SinkStep → Status → Run
run_of words told readable old new reporters left out errs status = record {
  words = words;
  told = told;
  readable = readable;
  failed_before = old;
  failed_after = new;
  reporters_before = reporters;
  reporters_after = left;
  out = out;
  errs = errs;
  status = status;
}

-- a sink to which nothing was written
abbrev pub left_alone : Option Bytes → ℕ → ℕ → SinkStep
left_alone taken faults sure = record { before = taken; after = taken; faults_before = faults; faults_after = faults; sure = sure }

map-map : {A B C : Type 0} (f : B → C) (g : A → B) (xs : List A) → map f (map g xs) ≡ map (λ x. f (g x)) xs
map-map f g [] = refl
map-map f g (x ∷ xs) = ap (λ l. f (g x) ∷ l) (map-map f g xs)

module _ {B : Type 0} (called : B → Bytes) (style : B → List Report → Bytes) (taken : B → List Report) where
  abbrev state_of : B → ReporterState
  state_of b = reporter_state (called b) (style b) (taken b)

  -- the states have the same names, styles and reports
  pub called_is : (items : List B) → map (λ (r : ReporterState). r.called) (map state_of items) ≡ map called items
  called_is items = map-map (λ (r : ReporterState). r.called) state_of items

  style_is : (items : List B) → map (λ (r : ReporterState). r.style) (map state_of items) ≡ map style items
  style_is items = map-map (λ (r : ReporterState). r.style) state_of items

  pub rendered_is : (reports : List Report) (items : List B) → map (λ (r : ReporterState). r.style reports) (map state_of items) ≡ map (λ b. style b reports) items
  rendered_is reports items = map-map (λ (r : ReporterState). r.style reports) state_of items

  taken_is : (items : List B) → map (λ (r : ReporterState). r.taken) (map state_of items) ≡ map taken items
  taken_is items = map-map (λ (r : ReporterState). r.taken) state_of items

  abbrev step : List B → List B → ReporterStep
  step items left = reporter_step (map called items) (λ reports. map (λ b. style b reports) items) (map taken items) (map taken left)

  abbrev step_of_states : List ReporterState → List ReporterState → ReporterStep
  step_of_states items left =
      reporter_step (map (λ (r : ReporterState). r.called) items) (λ (reports : List Report). map (λ (r : ReporterState). r.style reports) items) (map (λ (r : ReporterState). r.taken) items) (map (λ (r : ReporterState). r.taken) left)

  same_step : (items left : List B) → step items left ≡ step_of_states (map state_of items) (map state_of left)
  same_step items left = λ i. record {
    called = sym (called_is items) i;
    rendered = λ reports. sym (rendered_is reports items) i;
    before = sym (taken_is items) i;
    after = sym (taken_is left) i;
  }

  -- the promise by what is said of the reporters themselves
  pub promised_of : {Files : Type 0} (before after : Files) (Hands : Bytes → Bytes → Type 0) (words : Words) (told : Told) (can-read : Readable) (old new : Words) (items left : List B) (out errs : SinkStep) (status : Status)
      → RanHanding Hands (may_hold told) words (step items left) old new status out errs → ReadsReadable can-read old new → ((count : ℕ) → IsGeneration words count → after ≡ before) → (GiveNone words (map called items) → after ≡ before)
      → map called left ≡ map called items → map style left ≡ map style items → ((k : ℕ) → IsOther words (map called items) k → slice_get (map taken left) k ≡ slice_get (map taken items) k)
      → Promise before after Hands (run_of words told can-read old new (map state_of items) (map state_of left) out errs status)
  promised_of before after Hands words told can-read old new items left out errs status handed reads untouched unread names styles others =
      let run = run_of words told can-read old new (map state_of items) (map state_of left) out errs status in
      let due : HandsAsDue Hands run = subst (λ (r : ReporterStep). RanHanding Hands (may_hold told) words r old new status out errs) (same_step items left) handed in
      promised before after Hands run due (readable_is_read run (ran_of Hands run due) reads) untouched
      (λ none. unread (subst (λ (c : Words). GiveNone words c) (called_is items) none)) (called_is left ∙ names ∙ sym (called_is items)) (style_is left ∙ styles ∙ sym (style_is items))
      (λ k other. ap (λ (l : List (List Report)). slice_get l k) (taken_is left) ∙ others k (subst (λ (c : Words). IsOther words c k) (called_is items) other) ∙ sym (ap (λ (l : List (List Report)). slice_get l k) (taken_is items)))

  -- the same where there was no memory before the first write
  pub stopped_of : {Files : Type 0} (before after : Files) (Hands : Bytes → Bytes → Type 0) (words : Words) (told : Told) (can-read : Readable) (old new : Words) (items left : List B) (out : Option Bytes) (out-faults out-sure : ℕ) (errs : Option Bytes) (errs-faults errs-sure : ℕ)
      → FailedInTurn (may_hold told) words (map called items) old new → ReadsReadable can-read old new → ((count : ℕ) → IsGeneration words count → after ≡ before) → (GiveNone words (map called items) → after ≡ before)
      → map called left ≡ map called items → map style left ≡ map style items → ((k : ℕ) → IsOther words (map called items) k → slice_get (map taken left) k ≡ slice_get (map taken items) k)
      → Promise before after Hands (run_of words told can-read old new (map state_of items) (map state_of left) (left_alone out out-faults out-sure) (left_alone errs errs-faults errs-sure) NoMemory)
  stopped_of before after Hands words told can-read old new items left out out-faults out-sure errs errs-faults errs-sure turn reads untouched unread names styles others =
      promised_of before after Hands words told can-read old new items left (left_alone out out-faults out-sure) (left_alone errs errs-faults errs-sure) NoMemory
      (inl (record { status = refl; turn = turn; out_same = (refl, refl); errs_same = (refl, refl) })) reads untouched unread names styles others
