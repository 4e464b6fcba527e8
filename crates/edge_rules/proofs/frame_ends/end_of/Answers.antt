use Rattle.std.proofs.Common.{◌≡◌, ◌↔◌, sym, subst, Some}
use Rattle.edge_rules.proofs.Endings.{not-here, ends-here, never-called, ends-called}
use Rattle.function_tables.proofs.EngineTables.Places.{place}
use Rattle.function_tables.specs.EngineTables.Known.{checker_in, texts_in, graphs_in, objects_in}
use Rattle.path_edges.specs.declared.edges.Context.{Context}
use Rattle.path_edges.specs.Relations.{IsEndOf}
use Rattle.edge_rules.proofs.frame_ends.end_of.Goals as goal

pub returns-then-ends_call : goal.returns-then-ends_call
returns-then-ends_call c k called =
    let t = c.args.tables.now in
    let e = c.args.edge.now in
    let f = c.in_ok-frame.frame in
    let p = place t e.context.function f k c.in_ok-frame.ensures.there in
    let ends = ends-called e.is_root _ e.block c.ends_call.result c.ends_call.ensures c.if-ends_call.true in
    subst (λ (z : Context). (Some z ≡ Some called) ↔ IsEndOf (checker_in t) (texts_in t) (graphs_in t) (objects_in t) e called) (sym c.copy_context.ensures) (ends-here t e f p ends.1 ends.0 called)

pub returns-else-ends_call : goal.returns-else-ends_call
returns-else-ends_call c k =
    let t = c.args.tables.now in
    let e = c.args.edge.now in
    let f = c.in_ok-frame.frame in
    not-here t e f (place t e.context.function f k c.in_ok-frame.ensures.there) (never-called e.is_root _ e.block c.ends_call.result c.ends_call.ensures c.if-ends_call.false)
