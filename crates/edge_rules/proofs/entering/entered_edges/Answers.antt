use Rattle.edge_rules.specs.Entries.{IsEntry}
use Rattle.path_edges.proofs.EdgeSteps.Lists.{given-next}
use Rattle.flow_graph.specs.Seen.{graph_in}
use Rattle.least_set.specs.Logs.{IsExactly, SomeGives}
use Rattle.least_set.proofs.Growing.{all_of}
use Rattle.edge_rules.proofs.entering.entered_edges.Goals as goal

pub loop-tuple-preserved : goal.loop-tuple-preserved
loop-tuple-preserved c = λ k s h e i.
    let f = c.args.callee.now in
    given-next (IsEntry k s h c.args.caller_objects.now.keys f.frame.objects.now.keys f.number (graph_in f.frame.table.now.graph.now).entry) c.args.tuples.now c.loop-tuple.tuple-index c.tuple-item.result c.loop-tuple.edges.items
    c.in_ok-found.found.items c.append.new.self.items c.loop-tuple-test.true c.tuple-item.is (c.loop-tuple.invariant k s h e i) (c.in_ok-found.ensures k s h e i) c.in_ok-append.ensures.items

pub returns : goal.returns
returns c = λ k s h e i.
    let f = c.args.callee.now in
    all_of (λ l. IsExactly c.loop-tuple.edges.items (SomeGives (IsEntry k s h c.args.caller_objects.now.keys f.frame.objects.now.keys f.number (graph_in f.frame.table.now.graph.now).entry) l)) c.args.tuples.now c.loop-tuple.tuple-index
    c.loop-tuple-test.false c.loop-tuple.auto.tuple-index-end (c.loop-tuple.invariant k s h e i)
