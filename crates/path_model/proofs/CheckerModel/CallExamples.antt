-- What calls pass and hand back, by computation. The callee has the formals x, one without a name, and y; the caller's variables are those of the examples
-- of objects.
use Rattle.std.proofs.Common.{◌≡◌, List, [], ◌∷◌, Option, None, Some, refl}
use Rattle.c_objects.specs.Objects.{Object, Deref, Field, At, AtVar, path, address_of}
use Rattle.c_objects.proofs.Building.{p, s, a, i, q}
use Rattle.type_rules.specs.Vars.{CVar, Param}
use Rattle.path_model.specs.CheckerModel.Calls.{into, out}
use Rattle.path_model.specs.CheckerModel.Happenings.{Site}

abbrev x : CVar
x = Param 0 50 20

abbrev y : CVar
y = Param 0 51 21

abbrev call : List (Option Object) → Site
call actuals = record { callee = None; formals = Some x ∷ None ∷ Some y ∷ []; actuals = actuals }

abbrev at_entry : List (Option Object) → Object → Option Object
at_entry actuals = into 4 (call actuals)

abbrev at_return : List (Option Object) → Object → Option Object
at_return actuals = out 4 (call actuals)

-- w(p->f): *x begins with the state of *p->f, and that has the state of *x behind the call; p itself is saved
abbrev member : List (Option Object)
member = Some (path p (Deref ∷ Field 8 ∷ [])) ∷ []

pub passed : at_entry member (path x (Deref ∷ [])) ≡ Some (path p (Deref ∷ Field 8 ∷ Deref ∷ []))
passed = refl

handed_back : at_return member (path p (Deref ∷ Field 8 ∷ Deref ∷ [])) ≡ Some (path x (Deref ∷ []))
handed_back = refl

saved : at_return member (path p (Deref ∷ [])) ≡ None
saved = refl

-- the last formal has no actual, an actual without object passes nothing, and one behind the formals stands for none
no_actual : at_entry member (path y []) ≡ None
no_actual = refl

no_object : at_entry (None ∷ Some (path p []) ∷ []) (path x []) ≡ None
no_object = refl

one_too_many : at_return (None ∷ None ∷ None ∷ Some (path p []) ∷ []) (path p []) ≡ None
one_too_many = refl

-- w(&s): *x is s, and x is &s
abbrev local : List (Option Object)
local = Some (address_of s []) ∷ []

pointed : at_entry local (path x (Deref ∷ Field 8 ∷ [])) ≡ Some (path s (Field 8 ∷ []))
pointed = refl

no_star_behind_address : at_entry local (address_of x (Deref ∷ [])) ≡ None
no_star_behind_address = refl

changed : at_return local (path s (Field 8 ∷ [])) ≡ Some (path x (Deref ∷ Field 8 ∷ []))
changed = refl

address : at_return local (address_of s []) ≡ Some (path x [])
address = refl

address_of_member : at_return local (address_of s (Field 8 ∷ [])) ≡ Some (address_of x (Deref ∷ Field 8 ∷ []))
address_of_member = refl

-- w(p, p): the first actual decides
first : at_return (Some (path p []) ∷ Some (path p []) ∷ []) (path p (Deref ∷ [])) ≡ Some (path x (Deref ∷ []))
first = refl

-- w(g(), g(), p): the third reaches it; w(g(), p): a formal without a name reaches nothing
third : at_return (None ∷ None ∷ Some (path p []) ∷ []) (path p (Deref ∷ [])) ≡ Some (path y (Deref ∷ []))
third = refl

unnamed : at_return (None ∷ Some (path p []) ∷ []) (path p (Deref ∷ [])) ≡ None
unnamed = refl

-- a global object has its own state, unless an actual reaches it
global : at_entry [] (path a (At 1 ∷ [])) ≡ Some (path a (At 1 ∷ []))
global = refl

global_behind : at_return [] (path a (AtVar i ∷ [])) ≡ Some (path a (AtVar i ∷ []))
global_behind = refl

global_reached : at_return (Some (path a []) ∷ []) (path a (At 1 ∷ [])) ≡ Some (path x (At 1 ∷ []))
global_reached = refl

-- locals of the caller are unknown in the callee, and an index variable of it means nothing there
local_unknown : at_entry [] (path q []) ≡ None
local_unknown = refl

index_unknown : at_entry (Some (path a []) ∷ []) (path x (AtVar q ∷ [])) ≡ None
index_unknown = refl

index_saved : at_return (Some (path a []) ∷ []) (path a (AtVar q ∷ [])) ≡ None
index_saved = refl

-- depth: what is behind the actual has too many steps
too_deep : at_entry member (path x (Deref ∷ Field 8 ∷ Deref ∷ [])) ≡ None
too_deep = refl
