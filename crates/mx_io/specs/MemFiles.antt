-- Files in memory: which file a name means, when a read fails, and what it leaves.
use Rattle.std.specs.Prelude.{◌≡◌, ℕ, Bool, true, false, ◌||◌, List, [], ◌∷◌, Option, Some, None, not, is_some, if◌then◌else◌, Result, Ok, Err, Vec}
use Rattle.std.specs.Str.{bytes_eq}
use Rattle.mx_io.specs.Bytes.{Bytes, Readable, Told, Words}
use Rattle.mx_io.specs.declared.files.FileFault.{FileFault}
use Rattle.mx_io.specs.declared.files.FileFault.TheVariants.{Failed, TooLarge, NoMemory}
use Rattle.mx_io.specs.Calls.{raised, is_due}
use Rattle.mx_io.specs.Reads.{failed_after}

-- the files as names and bytes, the numbers of the reads that are to fail, the number of the next read,
-- and the names whose reads failed
pub record FilesView : Type 0 where
  pub files : List (Bytes × Bytes)
  pub fails : List ℕ
  pub reads : ℕ
  pub failed : Words

-- no file, and no read so far
abbrev pub no_files : List ℕ → FilesView
no_files fails = record { files = []; fails = fails; reads = 0; failed = [] }

-- the bytes of the first file with a name
abbrev pub first_of : List (Bytes × Bytes) → Told
first_of [] name = None
first_of (f ∷ fs) name = if bytes_eq f.0 name then Some f.1 else first_of fs name

-- whether a file is readable: it is there, and no read is to fail
abbrev pub is_found_surely : List ℕ → Option Bytes → Bool
is_found_surely [] found = is_some found
is_found_surely (number ∷ numbers) found = false

abbrev pub readable_of : FilesView → Readable
readable_of f name = is_found_surely f.fails (first_of f.files name)

-- whether the next read of a name fails, if there is memory
abbrev pub fails_at : FilesView → Bytes → Bool
fails_at f name = is_due f.fails f.reads || not (is_some (first_of f.files name))

-- a read fails exactly there
abbrev pub AnswersFrom : {A : Type 0} → FilesView → Bytes → Result (Vec ℕ A) FileFault → Type 0
AnswersFrom f name (Ok bytes) = fails_at f name ≡ false
AnswersFrom f name (Err Failed) = fails_at f name ≡ true
AnswersFrom f name (Err (TooLarge seen)) = fails_at f name ≡ false
AnswersFrom f name (Err NoMemory) = Unit {0}

-- what a read leaves
abbrev pub after_read : {A : Type 0} → FilesView → Bytes → Result (Vec ℕ A) FileFault → FilesView
after_read f name result = record f { reads = raised f.reads; failed = failed_after f.failed name result }
