-- Which rules are taken, by computation. The checker is that of the examples of matching: `start: { g(v) } ==> v.freed;
-- v.freed: { *v } ==> v.stop, { err("..") } | { g(v) } ==> v.stop` and more, with rules on the global state, a split rule and one at the
-- end of a path.
use Rattle.std.proofs.Common.{◌≡◌, ℕ, Bool, true, false, List, [], ◌∷◌, Option, None, Some, refl}
use Rattle.c_objects.specs.Objects.{Object, Deref, path}
use Rattle.c_objects.proofs.Building.{p, s, q, place, name, star}
use Rattle.flow_graph.specs.CPaths.Events.{Event, Evaluated, Declared, Branched, Exited}
use Rattle.c_tree.specs.declared.operator.AssignOp.TheVariants as assign
use Rattle.c_tree.specs.Node.{Node}
use Rattle.metal_tree.specs.MetalMachines.Machine.{AnyExpr, FromGlobal, FromObject, ToGlobal, ToObject, ToUnknown, Always, ByTruth, Source, Dest, Item, Base, EndOfPath, Rule, Machine}
use Rattle.hole_matching.proofs.Building.{some_facts, hole, named, calling, starred, call_of, assigning, assigned}
use Rattle.c_tree.specs.PathSubjects.Subjects.{Tree, DerefOf}
use Rattle.path_model.specs.CheckerModel.Choices.{State, next_global, chosen}
use Rattle.path_model.specs.CheckerModel.Checkers.{source_at}
use Rattle.path_model.specs.CheckerModel.Happenings.{Function, Happening}

abbrev rule : ℕ → Source → List (List Item) → Dest → Rule
rule number source alternatives dest = record { number = number; position = 0; source = source; alternatives = alternatives; dest = dest; action = None }

-- `g(v)`, `v = g()`, `*v`
abbrev freeing : List Item
freeing = Base (calling (named 6) (hole 0 ∷ [])) ∷ []

abbrev reading : List Item
reading = Base (starred (hole 0)) ∷ []

-- state 0 of v is freed, state 1 is seen; global state 2 is off
abbrev machine : Machine
machine = record {
  name = 21;
  variables = 1;
  holes = record { name = 22; of = AnyExpr } ∷ [];
  globals = 24 ∷ [];
  states = (23 ∷ 25 ∷ []) ∷ [];
  rules =
      rule 1 (FromGlobal 0) (freeing ∷ []) (Always (ToObject 0 0))
      ∷ rule 2 (FromObject 0 0) (reading ∷ freeing ∷ []) (Always (ToUnknown 0))
      ∷ rule 3 (FromObject 0 0) (reading ∷ []) (Always (ToObject 0 1))
      ∷ rule 4 (FromGlobal 0) ((Base (calling (named 9) []) ∷ []) ∷ []) (Always (ToGlobal 2))
      ∷ rule 5 (FromGlobal 2) ((EndOfPath ∷ []) ∷ []) (Always (ToGlobal 0))
      ∷ rule 6 (FromObject 0 1) ((EndOfPath ∷ []) ∷ []) (Always (ToUnknown 0))
      ∷ rule 7 (FromGlobal 0) (reading ∷ []) (ByTruth (ToObject 0 0) (ToObject 0 1))
      ∷ rule 8 (FromGlobal 0) ((Base (calling (named 10) []) ∷ []) ∷ []) (Always (ToGlobal 1))
      ∷ [];
}

abbrev function : Function
function = record { place = place; name = 20 }

abbrev happening : Event → Happening
happening e = record { facts = some_facts; tokens = []; event = e }

abbrev at_node : Node → Event
at_node e = Evaluated (Tree e)

-- the state of an object behind an event, and the global state
abbrev object : Event → Bool → ℕ → Object → Option State → Option State
object e is_root = chosen machine 4 (happening e) function is_root

abbrev global : Event → Bool → ℕ → ℕ
global e is_root = next_global machine 4 (happening e) function is_root

abbrev freed : Option State
freed = Some (0, 0)

abbrev seen : Option State
seen = Some (0, 1)

-- g(p): p becomes known; q and *p stay as they are
pub born : object (at_node (call_of (name 6) (name 0 ∷ []))) true 0 (path p []) None ≡ freed
born = refl

other_object : object (at_node (call_of (name 6) (name 0 ∷ []))) true 0 (path q []) None ≡ None
other_object = refl

object_behind : object (at_node (call_of (name 6) (name 0 ∷ []))) true 0 (path p (Deref ∷ [])) None ≡ None
object_behind = refl

-- *p, or the `*p` in `p->f`: the rule with the lower number is taken, and by g(p) its second alternative
lower_rule : object (at_node (star (name 0))) false 0 (path p []) freed ≡ None
lower_rule = refl

read_out : object (Evaluated (DerefOf (name 0))) false 0 (path p []) freed ≡ None
read_out = refl

second_alternative : object (at_node (call_of (name 6) (name 0 ∷ []))) false 0 (path p []) freed ≡ None
second_alternative = refl

-- in another global state, and in stop, an unknown object takes no rule of start; in stop a known one takes none
other_global : object (at_node (call_of (name 6) (name 0 ∷ []))) true 2 (path p []) None ≡ None
other_global = refl

stopped : object (at_node (star (name 0))) true 1 (path p []) freed ≡ freed
stopped = refl

-- h() and b() lead on, to off and to stop, which nothing leaves
off : global (at_node (call_of (name 9) [])) true 0 ≡ 2
off = refl

stop : global (at_node (call_of (name 10) [])) true 0 ≡ 1
stop = refl

stays : global (at_node (call_of (name 9) [])) true 1 ≡ 1
stays = refl

-- a split rule is taken at branches alone, and leads by their truth; a plain one is taken at none
on_true : object (Branched (star (name 0)) true) true 0 (path p []) None ≡ freed
on_true = refl

on_false : object (Branched (star (name 0)) false) true 0 (path p []) None ≡ seen
on_false = refl

not_at_nodes : object (at_node (star (name 0))) true 0 (path p []) None ≡ None
not_at_nodes = refl

plain_at_branch : object (Branched (star (name 0)) true) true 0 (path p []) freed ≡ freed
plain_at_branch = refl

-- at the end of a root each known object and the global state are asked, at that of a called function its locals alone

root_ends : object (Exited place place) true 0 (path p []) seen ≡ None
root_ends = refl

parameter_stays : object (Exited place place) false 0 (path p []) seen ≡ seen
parameter_stays = refl

local_ends : object (Exited place place) false 0 (path s []) seen ≡ None
local_ends = refl

root_global : global (Exited place place) true 2 ≡ 0
root_global = refl

called_global : global (Exited place place) false 2 ≡ 2
called_global = refl

-- a declaration takes no rule
declares : object (Declared (record { place = place; name = 5 })) true 0 (path p []) freed ≡ freed
declares = refl

-- `start: { v = k() } ==> v.freed`: at p = k() the move takes the state of p away, and the rule gives it one
abbrev making : Machine
making = record {
  name = 21;
  variables = 1;
  holes = record { name = 22; of = AnyExpr } ∷ [];
  globals = [];
  states = (23 ∷ 25 ∷ []) ∷ [];
  rules = rule 1 (FromGlobal 0) ((Base (assigning assign.Plain (hole 0) (calling (named 11) [])) ∷ []) ∷ []) (Always (ToObject 0 0)) ∷ [];
}

abbrev made : Event
made = at_node (assigned assign.Plain (name 0) (call_of (name 11) []))

killed : source_at 4 (happening made) (path p []) ≡ None
killed = refl

born_again : chosen making 4 (happening made) function true 0 (path p []) None ≡ freed
born_again = refl
