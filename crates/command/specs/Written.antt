-- What a run has written to its two sinks.
use Rattle.std.specs.Prelude.{◌≡◌, ◌≢◌, ℕ, ◌<◌, ◌≤◌, ◌⊎◌, Bool, true, false, List, [], ◌∷◌, length, take, drop, Option, Result, Ok, Err}
use Rattle.std.specs.Io.KnownBytes.{Appends}
use Rattle.mx_io.specs.Causes.{Rose}
use Rattle.mx_io.specs.declared.sink.SinkFailed.{SinkFailed}
use Rattle.mx_io.specs.Bytes.{Bytes}
use Rattle.command.specs.declared.status.Status.{Status}
use Rattle.command.specs.declared.status.Status.TheVariants.{WriteFault}

-- a sink before and after: the bytes that it took, where they are told, its count of faults, and how many bytes it surely took still
pub record SinkStep : Type 0 where
  pub before : Option Bytes
  pub after : Option Bytes
  pub faults_before : ℕ
  pub faults_after : ℕ
  pub sure : ℕ

-- a part of the text from its front was taken, and not the whole
abbrev pub AppendsPart : Option Bytes → Option Bytes → Bytes → Type 0
AppendsPart before after text = (n : ℕ) × (n < length text) × Appends before after (take n text)

abbrev pub Took : SinkStep → Bytes → Type 0
Took s bytes = Appends s.before s.after bytes

-- the count of faults rose: a write failed
abbrev pub WriteFailed : SinkStep → Type 0
WriteFailed s = Rose s.faults_before s.faults_after

-- no write failed, since the count of faults didn't rise
abbrev pub NoWriteFailed : SinkStep → Type 0
NoWriteFailed s = WriteFailed s → ⊥

-- the count rose, and a part was taken
abbrev pub Broke : SinkStep → Bytes → Type 0
Broke s bytes = WriteFailed s × AppendsPart s.before s.after bytes

-- the count of faults is what it was
abbrev pub IsStill : SinkStep → Type 0
IsStill s = s.faults_after ≡ s.faults_before

-- there is room for all of it, in sinks that are known not to fail
abbrev pub Fits : Bytes → Bytes → SinkStep → SinkStep → Type 0
Fits text line out errs = (length text ≤ out.sure) × (length line ≤ errs.sure)

-- all was written, and no write failed; or `out` broke; or `errs` broke after `out` took all
abbrev pub Written : Status → Bytes → Bytes → Status → SinkStep → SinkStep → Type 0
Written status text line result out errs =
    ((result ≡ status) × Took out text × Took errs line × IsStill out × IsStill errs)
    ⊎ (((result ≡ WriteFault) × Broke out text × Took errs [] × IsStill errs)
    ⊎ ((result ≡ WriteFault) × Took out text × Broke errs line × IsStill out))

-- ---- HOW A TEXT IS HANDED TO A SINK. What a write gives and leaves, by what it was handed, is said by a word that is handed in.

abbrev pub WriteGives : Type 0 → Type 1
WriteGives S = S → Bytes → Result ℕ SinkFailed → S → Type 0

-- one write after the other, each of all that isn't taken yet: until nothing is left, or until one fails. The list has those that took something,
-- each with how many bytes it took and the sink behind it
abbrev pub HandsRest : {S : Type 0} → WriteGives S → S → Bytes → List (ℕ × S) → Bool → S → Type 0
HandsRest Gives sink rest [] true after = (rest ≡ []) × (after ≡ sink)
HandsRest Gives sink rest [] false after = (rest ≢ []) × ((fault : SinkFailed) × Gives sink rest (Err fault) after)
HandsRest Gives sink rest (write ∷ writes) whole after = (rest ≢ []) × Gives sink rest (Ok write.0) write.1 × HandsRest Gives write.1 (drop write.0 rest) writes whole after

-- a text was handed to a sink in this way, and whether it was taken whole
pub record IsHanded {S : Type 0} (Gives : WriteGives S) (before : S) (text : Bytes) (whole : Bool) (after : S) : Type 0 where
  pub writes : List (ℕ × S)
  pub hands : HandsRest Gives before text writes whole after

-- a text was handed to `out`, and then a line to `errs`, where the text was taken whole
abbrev pub AreHanded : {O E : Type 0} → WriteGives O → WriteGives E → O → O → E → E → Bytes → Bytes → Type 0
AreHanded OutGives ErrsGives out out_after errs errs_after text line =
    (IsHanded OutGives out text true out_after × ((whole : Bool) × IsHanded ErrsGives errs line whole errs_after))
    ⊎ (IsHanded OutGives out text false out_after × (errs_after ≡ errs))
