-- Takers by computation: the callee has the formals x and y, and s is a variable of the caller.
use Rattle.std.proofs.Common.{◌≡◌, List, [], ◌∷◌, Option, None, Some, refl}
use Rattle.c_objects.specs.Objects.{Object, Deref, path, address_of}
use Rattle.type_rules.specs.Vars.{CVar, Param, Local, Extern}
use Rattle.path_model.specs.CheckerModel.Happenings.{Site}
use Rattle.refine_restore.specs.Ways.Takers.{takers}
use Rattle.refine_restore.specs.declared.handed_objects.ends.End.TheVariants as end

abbrev x : CVar
x = Param 0 50 20

abbrev y : CVar
y = Param 0 52 21

abbrev s : CVar
s = Local 0 11 1

abbrev g : CVar
g = Extern 3

abbrev call : Object → Site
call actual = record { callee = None; formals = Some x ∷ []; actuals = Some actual ∷ [] }

abbrev twice : Object → Site
twice actual = record { callee = None; formals = Some x ∷ Some y ∷ []; actuals = Some actual ∷ Some actual ∷ [] }

-- w(&s): the formal begins with the state of &s, and no address of what it points to does
pointer_enters : takers end.Entry 1 (call (address_of s [])) (address_of s []) ≡ path x [] ∷ []
pointer_enters = refl

-- what the formal points to begins with the state of s
pointee_enters : takers end.Entry 1 (call (address_of s [])) (path s []) ≡ path x (Deref ∷ []) ∷ []
pointee_enters = refl

-- w(s, s): both formals begin with the state of s
both_enter : takers end.Entry 1 (twice (path s [])) (path s []) ≡ path x [] ∷ path y [] ∷ []
both_enter = refl

-- behind the call s has the state of the first formal through which it is reached
first_returns : takers end.Return 1 (twice (path s [])) (path x []) ≡ path s [] ∷ []
first_returns = refl

second_saved : takers end.Return 1 (twice (path s [])) (path y []) ≡ []
second_saved = refl

-- a global object keeps its own at both ends
global_enters : takers end.Entry 1 (call (path s [])) (path g []) ≡ path g [] ∷ []
global_enters = refl

global_returns : takers end.Return 1 (call (path s [])) (path g []) ≡ path g [] ∷ []
global_returns = refl

-- no object past the depth begins with a state
deep_begins_unknown : takers end.Entry 0 (call (address_of s [])) (path s []) ≡ []
deep_begins_unknown = refl
