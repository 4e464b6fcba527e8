-- the C files so far were read without a fault
use Rattle.std.proofs.Common.{◌≡◌, ◌≤◌, ◌+◌, ◌*◌, ℕ, Some, take, length, slice_get}
use Rattle.std.specs.Slice.Iter.{iter_mut_rest}
use Rattle.request_files.specs.Faults.{before_file}
use Rattle.request_files.specs.InTurn.{AreReadSources}
use Rattle.request_files.specs.Telling.{may_hold}
use Rattle.request_files.specs.Views.{texts_of, words_of}
use Rattle.typed_unit.specs.declared.typed_unit.TypedUnit.{TypedUnit}
use Rattle.request_files.proofs.sources.read_sources.Given as goal

abbrev pub invariant-loop-word : goal.invariant-loop-word
invariant-loop-word g l =
    let files = g.F.Files in
    record {
      read : AreReadSources (may_hold (files.contents l.fn.files)) (before_file l.fn.left l.fn.names) (words_of l.words) (take l.word-index (words_of l.words)) (texts_of l.units.items) (before_file l.rest l.names);
      numbered : (i : ℕ) (u : TypedUnit) → slice_get l.units.items i ≡ Some u → u.unit.file ≡ i;
      count : length l.units.items ≡ l.word-index;
      places : length l.words ≤ l.word-index + length (iter_mut_rest l.free);
      bound : l.rest ≤ l.fn.left;
      room : length l.names + 2 * l.rest ≤ length l.fn.names + 2 * l.fn.left + l.word-index;
      failed : files.failed l.files ≡ files.failed l.fn.files;
      contents : files.contents l.files ≡ files.contents l.fn.files;
      kept : files.readable l.files ≡ files.readable l.fn.files;
    }
