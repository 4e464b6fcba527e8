-- THE NUMBER OF AN OBJECT among those that are followed in a function: 0 where it isn't one of them.
use Rattle.std.specs.Prelude.{ℕ, List}
use Rattle.c_objects.specs.Objects.{Object}
use Rattle.objects.specs.Equality.{same_object}
use Rattle.numbered_program.specs.NumberedTuples.Numbers.{number_by}
use Rattle.row_flows.specs.declared.rows.Touched.{Touched}

abbrev pub number_of : List Object → Object → ℕ
number_of objects o = number_by same_object objects o

-- the row which says that the object with a number has its state from that with this one
abbrev pub row_of : ℕ → ℕ → Touched
row_of n k = record { object = n; source = k }
