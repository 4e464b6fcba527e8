-- THE LINKS between objects of functions: at the events of a function, and over the calls between two.
use Rattle.std.specs.Prelude.{◌≡◌, ◌⊎◌, ℕ, List, Bool, true, Contains, Some, slice_get}
use Rattle.c_objects.specs.Objects.{IsObject}
use Rattle.flow_graph.specs.declared.event.Event.{Event}
use Rattle.flow_graph.specs.Values.{event_of}
use Rattle.least_set.specs.Logs.{SomeGives}
use Rattle.relevant.specs.LinkedObjects.Linked.{AreLinkedAt, AreLinkedOver}
use Rattle.objects.specs.Units.{facts_in}
use Rattle.path_model.specs.CheckerGraphs.Members.{Member}
use Rattle.refine_restore.specs.Sites.{site_of}
use Rattle.relevant.specs.declared.relevant_objects.rows.FollowedCall.{FollowedCall}
use Rattle.relevant.specs.declared.relevant_objects.rows.FunctionRow.{FunctionRow}
use Rattle.typed_unit.specs.declared.typed_unit.TypedUnit.{TypedUnit}

-- at an event both are of one function
abbrev pub LinksAt : ℕ → TypedUnit → Member → Event → Member → Type 0
LinksAt depth u x e y = (x.0 ≡ y.0) × AreLinkedAt (facts_in u) depth x.1 (event_of e) y.1

-- an event that moves nothing links an object at the depth to itself, and to no other
abbrev pub LinksToItself : ℕ → Member → Member → Type 0
LinksToItself depth x y = (x ≡ y) × IsObject depth x.1

-- once an event moved nothing, so that the object stays, the list has it
abbrev pub HasItself : ℕ → Bool → Member → List Member → Type 0
HasItself depth stays x found = stays ≡ true → IsObject depth x.1 → Contains found x

-- from the caller of a call to its callee, and back
abbrev pub LinksInto : ℕ → Member → FollowedCall → Member → Type 0
LinksInto depth x k y = (k.caller ≡ x.0) × (k.callee ≡ y.0) × AreLinkedOver depth (site_of depth k.site) x.1 y.1

abbrev pub LinksBack : ℕ → Member → FollowedCall → Member → Type 0
LinksBack depth x k y = (k.callee ≡ x.0) × (k.caller ≡ y.0) × AreLinkedOver depth (site_of depth k.site) y.1 x.1

abbrev pub LinksOver : ℕ → Member → FollowedCall → Member → Type 0
LinksOver depth x k y = LinksInto depth x k y ⊎ LinksBack depth x k y

-- of a function
abbrev pub LinksIn : ℕ → FunctionRow → Member → Member → Type 0
LinksIn depth row x y = SomeGives (LinksAt depth row.unit.now x) row.events.items y ⊎ SomeGives (LinksOver depth x) row.calls.items y

-- of the function with the number
abbrev pub LinksFrom : ℕ → List FunctionRow → Member → Member → Type 0
LinksFrom depth rows x y = (row : FunctionRow) × (slice_get rows x.0 ≡ Some row) × LinksIn depth row x y
