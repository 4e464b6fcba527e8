-- Numbers and tuples of a worked example: two objects are followed, and a rule names the states (0, 0) and (0, 1).
use Rattle.std.proofs.Common.{◌≡◌, List, [], ◌∷◌, None, Some, refl}
use Rattle.c_objects.specs.Objects.{Object, Deref, path}
use Rattle.metal_tree.specs.MetalMachines.Machine.{FromGlobal, FromObject, ToObject, ToUnknown, Always, ByTruth, Rule}
use Rattle.numbered_program.specs.NumberedTuples.FollowedObjects.{number_of}
use Rattle.numbered_program.specs.NumberedTuples.ObjectStates.{states_of_rules}
use Rattle.numbered_program.specs.NumberedTuples.Tuples.{tuple_at}
use Rattle.path_model.specs.CheckerModel.Choices.{State}
use Rattle.row_flows.specs.Numbers.{item_numbered}
use Rattle.type_rules.specs.Vars.{Extern}

abbrev p : Object
p = path (Extern 5) []

abbrev behind : Object
behind = path (Extern 5) (Deref ∷ [])

abbrev q : Object
q = path (Extern 6) []

abbrev objects : List Object
objects = p ∷ behind ∷ []

abbrev states : List State
states = (0, 0) ∷ (0, 1) ∷ []

first : item_numbered objects 1 ≡ Some p
first = refl

second : item_numbered objects 2 ≡ Some behind
second = refl

none_of_zero : item_numbered objects 0 ≡ None
none_of_zero = refl

none_past : item_numbered objects 3 ≡ None
none_past = refl

number : number_of objects behind ≡ 2
number = refl

not_followed : number_of objects q ≡ 0
not_followed = refl

-- `v.a: .. ==> true = v.b, false = v.stop`
abbrev rule : Rule
rule = record { number = 1; position = 0; source = FromObject 0 0; alternatives = []; dest = ByTruth (ToObject 0 1) (ToUnknown 0); action = None }

-- `start: .. ==> v.a`
abbrev beginning : Rule
beginning = record { number = 2; position = 0; source = FromGlobal 0; alternatives = []; dest = Always (ToObject 0 0); action = None }

named : states_of_rules (rule ∷ beginning ∷ []) ≡ (0, 0) ∷ (0, 1) ∷ (0, 0) ∷ []
named = refl

known : tuple_at objects states (record { global = 3; state = 2; object = 1 }) ≡ record { global = 3; object = Some p; state = Some (0, 1); bare = refl }
known = refl

unknown : tuple_at objects states (record { global = 3; state = 0; object = 2 }) ≡ record { global = 3; object = Some behind; state = None; bare = refl }
unknown = refl

-- without an object there is no state
bare : tuple_at objects states (record { global = 3; state = 2; object = 0 }) ≡ record { global = 3; object = None; state = None; bare = refl }
bare = refl
