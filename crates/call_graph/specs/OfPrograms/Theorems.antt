-- The theorems on programs as statements, which contracts can name.
use Rattle.std.specs.Prelude.{◌≡◌, List}
use Rattle.std.specs.Borrow.{Bor}
use Rattle.call_graph.specs.OfPrograms.Definitions.{definitions, kept_in, trees_in}
use Rattle.typed_unit.specs.declared.typed_unit.TypedUnit.{TypedUnit}

-- The functions that typed units keep are those that their trees define.
abbrev pub UnitsAreListed : Type 0
UnitsAreListed = (units : List (Bor TypedUnit)) → ∥ kept_in units ≡ definitions (trees_in units) ∥₁
