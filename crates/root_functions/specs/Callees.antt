-- The functions to which followed calls lead.
use Rattle.std.specs.Prelude.{◌≡◌, ℕ, ◌<◌, List, [], ◌∷◌, Option, None, Some, Contains, slice_get}
use Rattle.std.specs.Borrow.{Bor}
use Rattle.c_tree.specs.Node.{Node}
use Rattle.call_graph.specs.Followed.{followed}
use Rattle.path_model.specs.CheckerPrograms.Roots.{Leads}
use Rattle.typed_unit.specs.Texts.{Text}
use Rattle.root_functions.specs.declared.graph_roots.callees.Callees.{Callees}
use Rattle.root_functions.specs.GraphRoots.Graphs.{LeadsIn}
use Rattle.least_set.specs.Logs.{IsExactly, SomeGives}
use Rattle.metal_tree.specs.MetalMachines.Machine.{Machine}
use Rattle.call_graph.specs.OfPrograms.Calls.{table_in}
use Rattle.call_graph.specs.OfPrograms.Definitions.{definitions, trees_in}
use Rattle.typed_unit.specs.declared.typed_unit.TypedUnit.{TypedUnit}

abbrev pub listed : Option ℕ → List ℕ
listed None = []
listed (Some g) = g ∷ []

-- one of these calls, which stand in the file, leads there
abbrev pub FollowedBy : Machine → List (Bor TypedUnit) → ℕ → List Node → ℕ → Type 0
FollowedBy m units file calls g = SomeGives {T = Node} {M = ℕ} (λ call h. followed m (table_in units file) file (definitions (trees_in units)) call ≡ Some h) calls g

abbrev pub AreBelow : ℕ → List ℕ → Type 0
AreBelow count fs = (f : ℕ) → Contains fs f → f < count

-- these rows lead to nothing else than the first so many
abbrev pub LeadBelow : ℕ → List Callees → Type 0
LeadBelow count rows = (f g : ℕ) → LeadsIn rows f g → g < count

-- each row has exactly the functions to which that of its position leads
abbrev pub HaveCallees : Machine → List Text → List Callees → Type 0
HaveCallees m ts rows = (f : ℕ) (row : Callees) → slice_get rows f ≡ Some row → IsExactly row.numbers.items (Leads m ts f)
