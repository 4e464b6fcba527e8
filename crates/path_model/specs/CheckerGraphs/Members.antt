-- OBJECTS OF FUNCTIONS, each with the number of its function.
use Rattle.std.specs.Prelude.{ℕ, List, map}
use Rattle.c_objects.specs.Objects.{Object}

abbrev pub Member : Type 0
Member = ℕ × Object

abbrev pub member : ℕ → Object → Member
member n o = (n, o)

-- these objects of one function
abbrev pub members : ℕ → List Object → List Member
members n os = map (member n) os
