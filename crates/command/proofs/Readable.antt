-- A command whose files are readable is read.
use Rattle.std.proofs.Common.{◌≡◌, ◌≢◌, inl, inr, ℕ, zero, suc, true, false, List, [], ◌∷◌, Some, slice_get, sym, ap, ◌∙◌, subst, true≢false}
use Rattle.std.proofs.lemmas.List.{append_cancel_left}
use Rattle.mx_io.specs.Reads.{ReadsReadable}
use Rattle.request_files.specs.Reading.{FailedAt, at_first}
use Rattle.request_files.specs.Telling.{AreReadable, may_hold}
use Rattle.request_files.specs.Turns.{Turn}
use Rattle.mx_io.specs.Bytes.{Bytes, Readable, Told, Words}
use Rattle.command.specs.Commands.{Command, turns_of}
use Rattle.command.specs.Due.{FailedInTurn, IsDueFor}
use Rattle.command.specs.Run.{Gives, MayBeDue, Misses, NoReadFailed, RanAsDue, Run, called_in, rendered_in}
use Rattle.command.specs.declared.status.Status.{Status}
use Rattle.command.specs.declared.status.Status.TheVariants.{ReadFault}
use Rattle.command.proofs.Complete.{longer}
use Rattle.command.proofs.GivenCommands.{one_command}
use Rattle.command.proofs.Statuses.{read_fault}

-- the file whose turn it is
readable_at : (readable : Readable) (ts : List Turn) (position : ℕ) (t : Turn) → AreReadable readable ts → slice_get ts position ≡ Some t → readable t.word ≡ true
readable_at readable [] position t are e = cc
readable_at readable (u ∷ ts) zero t are e = let same : u ≡ t = cc in subst (λ (x : Turn). readable x.word ≡ true) same are.0
readable_at readable (u ∷ ts) (suc position) t are e = readable_at readable ts position t are.1 e

-- its read didn't fail
none_failed_at : (readable : Readable) (told : Told) (ts : List Turn) (old new : Words) (position : ℕ) → AreReadable readable ts → FailedAt (may_hold told) at_first ts old new position → ReadsReadable readable old new → new ≡ old
none_failed_at readable told ts old new position are f (inl none) = none
none_failed_at readable told ts old new position are f (inr (name, grew, unreadable)) =
    let word = f.is_turn.turn.word in
    let ends : name ∷ [] ≡ word ∷ [] = append_cancel_left old (name ∷ []) (word ∷ []) (sym grew ∙ f.grew) in
    let same : name ≡ word = cc in
    let both : true ≡ false = sym (readable_at readable ts position f.is_turn.turn are f.is_turn.is) ∙ ap readable (sym same) ∙ unreadable in
    absurd (true≢false both)

module _ (run : Run) where
  abbrev AtMostOneFailed : Type 0
  AtMostOneFailed = FailedInTurn (may_hold run.told) run.words (called_in run) run.failed_before run.failed_after

  -- at most one read failed: that of a file whose turn had come
  failed_for : (command : Command) → Gives run command → (s : Status) (text line : Bytes) → IsDueFor (may_hold run.told) command (rendered_in run) run.failed_before run.failed_after s text line → AtMostOneFailed
  failed_for command given s text line (inl d) = inl d.none_failed
  failed_for command given s text line (inr (inl d)) = inl d.none_failed
  failed_for command given s text line (inr (inr d)) = inr (command, given, (d.position, d.failed))

  failed_in_turn : RanAsDue run → AtMostOneFailed
  failed_in_turn (inl stops) = stops.turn
  failed_in_turn (inr c) = by c.due
    where
      by : MayBeDue run c.status c.text c.line → AtMostOneFailed
      by (inl m) = inl m.none_failed
      by (inr (inl t)) = failed_for t.command t.given c.status c.text c.line t.due
      by (inr (inr g)) = inl g.none_failed

  pub readable_is_read : RanAsDue run → ReadsReadable run.readable run.failed_before run.failed_after → (command : Command) → Gives run command → AreReadable run.readable (turns_of command) → NoReadFailed run × (run.status ≢ ReadFault)
  readable_is_read ran reads command given are = (none, λ e. missed (read_fault run ran e))
    where
      by : AtMostOneFailed → NoReadFailed run
      by (inl same) = same
      by (inr (other, is, (position, f))) =
          let here = subst (λ (k : Command). FailedAt (may_hold run.told) at_first (turns_of k) run.failed_before run.failed_after position) (one_command run.words (called_in run) other command is given) f in
          none_failed_at run.readable run.told (turns_of command) run.failed_before run.failed_after position are here reads

      none : NoReadFailed run
      none = by (failed_in_turn ran)

      missed : Misses run → ⊥
      missed m = longer run.failed_before m.cause.failed.is_turn.turn.word (sym m.cause.failed.grew ∙ none)
