use Rattle.path_edges.specs.EdgeSteps.Steps.{BeginsIn}
use Rattle.least_set.specs.Logs.{IsExactly, SomeGives}
use Rattle.least_set.proofs.Growing.{all_of}
use Rattle.call_graph.specs.declared.programs.functions.FnId.{FnId}
use Rattle.function_tables.specs.EngineTables.Known.{checker_in, texts_in, graphs_in, objects_in}
use Rattle.edge_rules.proofs.Beginnings.{given-at}
use Rattle.edge_rules.proofs.base.edges_of_roots.Goals as goal

pub loop-root-preserved : goal.loop-root-preserved
loop-root-preserved c =
    let t = c.args.tables.now in
    λ k. given-at (λ (f : FnId). BeginsIn (checker_in t) (texts_in t) (graphs_in t) (objects_in t) f.number) c.args.roots.now c.loop-root.root-index _ c.loop-root.edges.items
    c.in_ok-found.found.items c.append.new.self.items c.loop-root-test.true (c.loop-root.invariant k) (c.in_ok-found.ensures k) c.in_ok-append.ensures.items

pub returns : goal.returns
returns c =
    let t = c.args.tables.now in
    λ k. all_of (λ l. IsExactly c.loop-root.edges.items (SomeGives (λ (f : FnId). BeginsIn (checker_in t) (texts_in t) (graphs_in t) (objects_in t) f.number) l)) c.args.roots.now c.loop-root.root-index
    c.loop-root-test.false c.loop-root.auto.root-index-end (c.loop-root.invariant k)
