-- WHAT MOVES AND FOLLOWED CALLS SAY of single objects: which ones have the state of an object behind a move, at the entry of a callee, and behind a
-- call.
use Rattle.std.specs.Prelude.{◌≡◌, ℕ, List, Option, Some, Contains, slice_get}
use Rattle.c_objects.specs.Objects.{Object}
use Rattle.flow_graph.specs.Values.{event_of}
use Rattle.known_search.specs.declared.links.Entry.{Entry}
use Rattle.known_search.specs.declared.members.Known.{Known}
use Rattle.known_objects.specs.declared.changes.Move.{Move}
use Rattle.known_objects.specs.declared.changes.Numbered.{Numbered}
use Rattle.least_set.specs.Logs.{SomeGives}
use Rattle.objects.specs.Units.{facts_in}
use Rattle.path_model.specs.CheckerModel.Calls.{out}
use Rattle.path_model.specs.CheckerModel.Moves.{move_of, source}
use Rattle.refine_restore.specs.Sites.{site_of}
use Rattle.relevant.specs.LinkedObjects.Linked.{AreLinkedOver}

-- an object of the callee of a call, with the call's number
abbrev pub entry_at : Numbered → Object → Entry Object
entry_at x o = record { call = x.number; callee = x.call.callee; object = o }

-- it has its state from the object of the function, behind the move
abbrev pub moved_by : ℕ → Move → ℕ × Object → Object → Type 0
moved_by depth x thing o = (x.function ≡ thing.0) × (source depth (move_of (facts_in x.unit.now) depth (event_of x.event)) o ≡ Some thing.1)

-- the callee's object begins with the state of the caller's, or hands it its own back
abbrev pub entered_by : ℕ → Numbered → ℕ × Object → Entry Object → Type 0
entered_by depth x thing e = (x.call.caller ≡ thing.0) × (x.number ≡ e.call) × (x.call.callee ≡ e.callee) × AreLinkedOver depth (site_of depth x.call.site) thing.1 e.object

-- the caller's object has its state from that of the callee, behind the call
abbrev pub handed_by : ℕ → Numbered → ℕ → Object → ℕ → Object → Type 0
handed_by depth x m d n o = (x.call.callee ≡ m) × (x.call.caller ≡ n) × (out depth (site_of depth x.call.site) o ≡ Some d)

abbrev pub handed_out_by : ℕ → Numbered → ℕ × Object → ℕ × Object → Type 0
handed_out_by depth x thing y = handed_by depth x thing.0 thing.1 y.0 y.1

-- ---- as links

abbrev pub MovesIn : ℕ → List Move → ℕ → Object → Object → Type 0
MovesIn depth moves n b o = SomeGives (λ x. moved_by depth x (n, b)) moves o

abbrev pub EntersIn : ℕ → List Numbered → ℕ → ℕ → Object → ℕ → Object → Type 0
EntersIn depth calls k n o m c = SomeGives (λ x. entered_by depth x (n, o)) calls (record { call = k; callee = m; object = c })

-- a call has its place as its number
abbrev pub HandsIn : ℕ → List Numbered → ℕ → ℕ → Object → ℕ → Object → Type 0
HandsIn depth calls k m d n o = (x : Numbered) × (slice_get calls k ≡ Some x) × handed_by depth x m d n o

-- what was found
abbrev pub IsIn : List (Known Object) → ℕ → Option Object → Object → Type 0
IsIn members n w o = Contains members (record { function = n; from = w; object = o })
