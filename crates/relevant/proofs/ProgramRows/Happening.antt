-- The events of blocks that control reaches are what happens in a function.
use Rattle.std.proofs.Common.{◌≡◌, ℕ, List, [], Contains, None, Some, slice_get, sym, ◌∙◌, subst}
use Rattle.std.specs.Prelude.{flat_map}
use Rattle.std.proofs.lemmas.Option.{same_Some}
use Rattle.flow_graph.specs.CPaths.BlockGraphs.{events_at}
use Rattle.flow_graph.specs.CPaths.Building.{Graph}
use Rattle.flow_graph.specs.CPaths.Events.{Event}
use Rattle.flow_graph.specs.Seen.{graph_in}
use Rattle.function_tables.specs.declared.table.FunctionTable.{FunctionTable}
use Rattle.least_set.specs.Logs.{IsExactly}
use Rattle.least_set.proofs.Growing.{nothing}
use Rattle.relevant.specs.ProgramRows.Made.{HappensIn}
use Rattle.relevant.proofs.ProgramRows.Lists.{contains-joined, joined-contains}
use Rattle.flow_graph.specs.ReachedBlocks.Reached.{Reaches, Happens}

abbrev events_in : Graph → ℕ → List Event
events_in g b = events_at (slice_get g.blocks b)

-- those of the blocks that control reaches
pub happens-exactly : (g : Graph) (blocks : List ℕ) (es : List Event) → es ≡ flat_map (λ b. events_at (slice_get g.blocks b)) blocks → IsExactly blocks (Reaches g) → IsExactly es (Happens g)
happens-exactly g blocks es is all = (
  λ e h. let k = joined-contains (events_in g) blocks e (subst (λ l. Contains l e) is h) in record { block = k.0; reached = all.0 k.0 k.1; among = k.2 },
  λ e h. subst (λ l. Contains l e) (sym is) (contains-joined (events_in g) blocks h.block e (all.1 h.block h.reached) h.among),
)

-- of the function with a number
pub happens-in : (tables : List FunctionTable) (n : ℕ) (t : FunctionTable) (es : List Event) → slice_get tables n ≡ Some t → IsExactly es (Happens (graph_in t.graph.now)) → IsExactly es (HappensIn tables n)
happens-in tables n t es at all = (
  λ e h. record { table = t; is = at; happens = all.0 e h },
  λ e h. all.1 e (subst (λ (x : FunctionTable). Happens (graph_in x.graph.now) e) (same_Some h.table t (sym h.is ∙ at)) h.happens),
)

-- nothing happens where there is no such function
pub nothing-happens : (tables : List FunctionTable) (n : ℕ) → slice_get tables n ≡ None → IsExactly [] (HappensIn tables n)
nothing-happens tables n none = (λ e h. absurd (nothing e h), λ e h. let z : None ≡ Some h.table = sym none ∙ h.is in cc)
