-- What callouts look at: the one subject in a slot, and the sort of a variable.
use Rattle.std.specs.Prelude.{Bool, Option, None, Some}
use Rattle.c_objects.specs.Objects.{is_static_var}
use Rattle.type_rules.specs.Vars.{CVar}
use Rattle.hole_matcher.specs.declared.hole_bindings.callouts.Sort as code
use Rattle.hole_matcher.specs.declared.hole_bindings.callouts.Sort.TheVariants as sort
use Rattle.hole_matching.specs.Callouts.{is_param, is_local}
use Rattle.hole_matching.specs.Matching.{Taken, One, Many}
use Rattle.c_tree.specs.PathSubjects.Subjects.{Subject}

-- the one subject that a hole has taken, if it has taken one
abbrev pub one_in : Option Taken → Option Subject
one_in None = None
one_in (Some (One s)) = Some s
one_in (Some (Many ss)) = None

abbrev pub sort_of : code.Sort → CVar → Bool
sort_of sort.Static v = is_static_var v
sort_of sort.Param v = is_param v
sort_of sort.Local v = is_local v
