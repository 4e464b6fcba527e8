-- Alternatives of a worked example, by number, and which is taken: `start: { g(v) } ==> v.freed; v.freed: { g(v) } ==> v.stop, { err("..") }` and
-- a rule at the end of a path. The objects p and *p are followed, and the states of v have the numbers 1 and 2.
use Rattle.std.proofs.Common.{◌≡◌, ℕ, Bool, true, false, List, [], ◌∷◌, Option, None, Some, map, refl}
use Rattle.c_objects.proofs.Building.{name, p, place}
use Rattle.c_objects.specs.Objects.{Object, Deref, path}
use Rattle.c_tree.specs.PathSubjects.Subjects.{Tree}
use Rattle.flow_graph.specs.CPaths.Events.{Event, Evaluated, Exited}
use Rattle.hole_matching.proofs.Building.{call_of, calling, hole, named, some_facts}
use Rattle.metal_tree.specs.MetalMachines.Machine.{Always, AnyExpr, Base, Bytes, Dest, EndOfPath, FromGlobal, FromObject, Item, Machine, Piece, Rule, Source, ToObject, ToUnknown}
use Rattle.numbered_program.proofs.NumberedEvents.TakenPlaces as taken
use Rattle.numbered_program.specs.NumberedEvents.Listed.{own_of}
use Rattle.path_model.specs.CheckerModel.Choices.{State}
use Rattle.path_model.specs.CheckerModel.Happenings.{Function, Happening}
use Rattle.path_model.specs.CheckerModel.Reports.{Checker}
use Rattle.row_flows.specs.declared.rows.Applied.{Applied}
use Rattle.row_flows.specs.declared.rows.NumberedSource.TheVariants as source
use Rattle.row_flows.specs.declared.rows.NumberedTarget.TheVariants as target
use Rattle.state_tuples.specs.RuleChoices.Asked.{GlobalState, ObjectIn}

abbrev rule : ℕ → Source → List Item → Dest → Option (List Piece) → Rule
rule number source items dest action = record { number = number; position = 0; source = source; alternatives = items ∷ []; dest = dest; action = action }

-- `g(v)`
abbrev freeing : List Item
freeing = Base (calling (named 6) (hole 0 ∷ [])) ∷ []

abbrev machine : Machine
machine = record {
  name = 21;
  variables = 1;
  holes = record { name = 22; of = AnyExpr } ∷ [];
  globals = [];
  states = (23 ∷ 25 ∷ []) ∷ [];
  rules =
      rule 1 (FromGlobal 0) freeing (Always (ToObject 0 0)) None
      ∷ rule 2 (FromObject 0 0) freeing (Always (ToUnknown 0)) (Some (Bytes (101 ∷ []) ∷ []))
      ∷ rule 3 (FromObject 0 0) (EndOfPath ∷ []) (Always (ToObject 0 1)) None
      ∷ [];
}

abbrev checker : Checker
checker = record { number = 0; machine = machine; depth = 4; names = [] }

abbrev function : Function
function = record { place = place; name = 20 }

abbrev happening : Event → Happening
happening e = record { facts = some_facts; tokens = []; event = e }

-- g(p), and the end of the function
abbrev frees : Happening
frees = happening (Evaluated (Tree (call_of (name 6) (name 0 ∷ []))))

abbrev ends : Happening
ends = happening (Exited place place)

abbrev followed : List Object
followed = path p [] ∷ path p (Deref ∷ []) ∷ []

abbrev states : List State
states = (0, 0) ∷ (0, 1) ∷ []

abbrev rows : Happening → List Applied
rows h = map (taken.by_number checker h function followed states) (taken.applying checker h function)

abbrev first : Applied
first = record { rule = 1; alternative = 0; source = source.Global 0; target = target.Object 1; object = 1; has_action = false }

abbrev second : Applied
second = record { rule = 2; alternative = 0; source = source.Object 1; target = target.Object 0; object = 1; has_action = true }

abbrev third : Applied
third = record { rule = 3; alternative = 0; source = source.Object 1; target = target.Object 2; object = 0; has_action = false }

freed : rows frees ≡ first ∷ second ∷ []
freed = refl

ended : rows ends ≡ third ∷ []
ended = refl

-- an unknown p takes the first, a freed one the second, and *p none
unknown : taken.place checker frees function true 0 (ObjectIn (path p []) None) ≡ Some 0
unknown = refl

known : taken.place checker frees function true 0 (ObjectIn (path p []) (Some (0, 0))) ≡ Some 1
known = refl

other : taken.place checker frees function true 0 (ObjectIn (path p (Deref ∷ [])) None) ≡ None
other = refl

-- in `stop` it takes none
stopped : taken.place checker frees function true 1 (ObjectIn (path p []) (Some (0, 0))) ≡ None
stopped = refl

-- at the end a known one takes what doesn't bind it, if it is asked
known_ends : taken.place checker ends function true 0 (ObjectIn (path p (Deref ∷ [])) (Some (0, 0))) ≡ Some 0
known_ends = refl

called_ends : taken.place checker ends function false 0 (ObjectIn (path p (Deref ∷ [])) (Some (0, 0))) ≡ None
called_ends = refl

-- the global state leads nowhere here
global : taken.place checker frees function true 0 GlobalState ≡ None
global = refl

-- p is a parameter, and so neither is the function's own
own : own_of followed ≡ false ∷ false ∷ []
own = refl
