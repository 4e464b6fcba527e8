-- the checkers so far were read without a fault
use Rattle.std.proofs.Common.{◌≡◌, ◌≤◌, ◌+◌, ◌*◌, ℕ, Some, take, length, slice_get}
use Rattle.std.specs.Slice.Iter.{iter_mut_rest}
use Rattle.metal_numbers.specs.MetalBuilding.Places.{HasPlaces}
use Rattle.metal_tree.specs.declared.machine.Machine.{Machine}
use Rattle.request_files.specs.Faults.{before_file}
use Rattle.request_files.specs.InTurn.{AreReadCheckers}
use Rattle.request_files.specs.Telling.{may_hold}
use Rattle.request_files.specs.Views.{machines_of, words_of}
use Rattle.request_files.proofs.checkers.read_checkers.Given as goal

abbrev pub invariant-loop-word : goal.invariant-loop-word
invariant-loop-word g l =
    let files = g.F.Files in
    record {
      read : AreReadCheckers (may_hold (files.contents l.fn.files)) (before_file l.fn.left l.fn.names) (words_of l.words) (take l.word-index (words_of l.words)) (machines_of l.machines.items) (before_file l.rest l.names);
      numbered : (i : ℕ) (m : Machine) → slice_get l.machines.items i ≡ Some m → HasPlaces i m.rules.now;
      count : length l.machines.items ≡ l.word-index;
      places : length l.words ≤ l.word-index + length (iter_mut_rest l.free);
      bound : l.rest ≤ l.fn.left;
      room : length l.names + 2 * l.rest ≤ length l.fn.names + 2 * l.fn.left + l.word-index;
      failed : files.failed l.files ≡ files.failed l.fn.files;
      contents : files.contents l.files ≡ files.contents l.fn.files;
      kept : files.readable l.files ≡ files.readable l.fn.files;
    }
