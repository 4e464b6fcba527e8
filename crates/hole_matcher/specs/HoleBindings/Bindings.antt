-- What the holes of an alternative have taken, as the definitions have it.
use Rattle.std.specs.Prelude.{Bool, cond, map, Option, Some, None}
use Rattle.std.specs.Option.{option_map}
use Rattle.c_tree.specs.Views.{nodes_in}
use Rattle.hole_matching.specs.Matching.{Taken, One, Many, Binding}
use Rattle.hole_matching.specs.Subjects.{trees}
use Rattle.hole_matcher.specs.declared.hole_bindings.binding.Binding as code
use Rattle.hole_matcher.specs.declared.hole_bindings.binding.Taken as code_taken
use Rattle.hole_matcher.specs.declared.hole_bindings.binding.Taken.TheVariants as taken
use Rattle.c_tree.specs.PathSubjects.Values.{subject_of}

abbrev pub taken_of : code_taken.Taken → Taken
taken_of (taken.One s) = One (subject_of s)
taken_of (taken.Many rest) = Many (trees (nodes_in rest.now))

abbrev pub binding_of : code.Binding → Binding
binding_of b = map (option_map taken_of) b.slots.items

-- the binding that is left, where the test before it came out true
abbrev pub behind : Bool → Binding → Option Binding
behind holds b = cond holds (Some b) None
