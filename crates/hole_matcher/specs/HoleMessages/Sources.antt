-- What messages are written from, as the definition has it.
use Rattle.std.specs.Prelude.{ℕ, List, Option, None, Some}
use Rattle.std.specs.Borrow.{Bor}
use Rattle.c_objects.specs.Objects.{Object}
use Rattle.hole_matching.specs.Message.{Source}
use Rattle.hole_matcher.specs.declared.hole_messages.taken.Source as code
use Rattle.typed_unit.specs.declared.typed_unit.TypedUnit.{TypedUnit}

abbrev pub source_of : code.Source → Source
source_of s = record { names = s.names.now; tokens = s.unit.now.unit.tokens.now }

-- the texts of these names, and the tokens of a unit
abbrev pub source_in : TypedUnit → List (List ℕ) → Source
source_in u names = record { names = names; tokens = u.unit.tokens.now }

abbrev pub maybe_object : Option (Bor Object) → Option Object
maybe_object None = None
maybe_object (Some o) = Some o.now
