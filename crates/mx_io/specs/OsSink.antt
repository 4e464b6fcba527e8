-- A sink of the system.
use Rattle.std.specs.Prelude.{ℕ, Option}
use Rattle.mx_io.specs.Bytes.{Bytes}

-- the bytes that the writer holds, where they are known, and how many writes failed
pub record WriterView : Type 0 where
  pub held : Option Bytes
  pub faults : ℕ
