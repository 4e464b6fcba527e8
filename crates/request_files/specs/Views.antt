-- What the program keeps of files, as the values that definitions speak of.
use Rattle.std.specs.Prelude.{List, map}
use Rattle.std.specs.Borrow.{Bor}
use Rattle.typed_unit.specs.Texts.{Text}
pub use Rattle.typed_unit.specs.Texts.{text_of}
use Rattle.metal_tree.specs.MetalMachines.Machine as machines
use Rattle.metal_tree.specs.Whole.{machine_view}
use Rattle.metal_tree.specs.declared.machine.Machine.{Machine}
use Rattle.mx_io.specs.Bytes.{Bytes, Words}
use Rattle.request_files.specs.Faults.{Located}
use Rattle.request_files.specs.declared.fault.LocatedFault.{LocatedFault}
use Rattle.typed_unit.specs.declared.typed_unit.TypedUnit.{TypedUnit}

-- the bytes of words
abbrev pub words_of : List (Bor Bytes) → Words
words_of words = map (λ w. w.now) words

abbrev pub located_of : LocatedFault → Located
located_of l = record { fault = l.fault; file = l.file.items; line = l.line }

-- the texts of units, in the order of their files
abbrev pub texts_of : List TypedUnit → List Text
texts_of units = map text_of units

abbrev pub machines_of : List Machine → List machines.Machine
machines_of ms = map machine_view ms
