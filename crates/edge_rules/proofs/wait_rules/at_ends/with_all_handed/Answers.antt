use Rattle.std.proofs.Common.{◌≡◌}
use Rattle.path_edges.specs.EdgeSteps.Steps.{woken_edge}
use Rattle.path_edges.proofs.EdgeSteps.Lists.{given-next}
use Rattle.least_set.specs.Logs.{IsExactly, SomeGives}
use Rattle.least_set.proofs.Growing.{all_of}
use Rattle.path_edges.specs.declared.edges.Edge.{Edge}
use Rattle.state_tuples.specs.declared.tuple.Tuple.{Tuple}
use Rattle.block_flows.specs.TupleFlows.Passed.{IsReturned}
use Rattle.edge_rules.proofs.wait_rules.at_ends.with_all_handed.Goals as goal

pub loop-tuple-preserved : goal.loop-tuple-preserved
loop-tuple-preserved c =
    λ k s f d is. given-next (λ (t : Tuple) (e : Edge). (u : Tuple) × IsReturned k s f c.args.caller_objects.now.keys c.args.callee_objects.now.keys t u × (woken_edge c.args.waiter.now u ≡ e)) c.args.tuples.now c.loop-tuple.tuple-index c.tuple-item.result
    c.loop-tuple.edges.items c.in_ok-found.found.items c.append.new.self.items c.loop-tuple-test.true c.tuple-item.is (c.loop-tuple.invariant k s f d is) (c.in_ok-found.ensures k s f d is) c.in_ok-append.ensures.items

pub returns : goal.returns
returns c =
    λ k s f d is. all_of (λ l. IsExactly c.loop-tuple.edges.items (SomeGives (λ t e. (u : Tuple) × IsReturned k s f c.args.caller_objects.now.keys c.args.callee_objects.now.keys t u × (woken_edge c.args.waiter.now u ≡ e)) l)) c.args.tuples.now
    c.loop-tuple.tuple-index c.loop-tuple-test.false c.loop-tuple.auto.tuple-index-end (c.loop-tuple.invariant k s f d is)
