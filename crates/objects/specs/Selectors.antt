-- The step that one of the program is.
use Rattle.std.specs.Prelude.{List, map}
use Rattle.c_objects.specs.Objects.{Selector, Deref, Field, At, AtVar}
use Rattle.type_values.specs.Vars.{cvar_of}
use Rattle.objects.specs.declared.selector.Selector as code
use Rattle.objects.specs.declared.selector.Selector.TheVariants as step

abbrev pub selector_of : code.Selector → Selector
selector_of step.Deref = Deref
selector_of (step.Field name) = Field name
selector_of (step.At index) = At index
selector_of (step.AtVar index) = AtVar (cvar_of index)

abbrev pub selectors_of : List code.Selector → List Selector
selectors_of steps = map selector_of steps
