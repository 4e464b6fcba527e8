use Rattle.std.proofs.Common.{◌+◌, sym, subst, take, []}
use Rattle.block_flows.proofs.Fires.{exactly-joined}
use Rattle.function_tables.specs.EngineTables.Known.{checker_in, texts_in, graphs_in, objects_in}
use Rattle.least_set.specs.Logs.{IsExactly, SomeGives}
use Rattle.least_set.proofs.Enumerating.{exactly_none}
use Rattle.least_set.proofs.Growing.{all_of}
use Rattle.path_edges.specs.Relations.{ShowsAt}
use Rattle.saturation.proofs.edge_reports.edges.all_shown.Goals as goal

pub loop-edge-init : goal.loop-edge-init
loop-edge-init c = λ k.
    let t = c.args.tables.now in
    let G = ShowsAt (checker_in t) (texts_in t) (graphs_in t) (objects_in t) in
    subst (λ l. IsExactly l (SomeGives G [])) (sym c.new-reports.ensures.items) (exactly_none G)

pub loop-edge-preserved : goal.loop-edge-preserved
loop-edge-preserved c = λ k.
    let t = c.args.tables.now in
    let G = ShowsAt (checker_in t) (texts_in t) (graphs_in t) (objects_in t) in
    let xs = c.args.edges.now in
    let i = c.loop-edge.edge-index in
    subst (λ l. IsExactly l (SomeGives G (take (i + 1) xs))) (sym c.in_ok-append.ensures.items)
    (exactly-joined G xs i c.edge-item.result c.loop-edge.reports.items c.in_ok-more.more.items c.loop-edge-test.true c.edge-item.is (c.loop-edge.invariant k) (c.in_ok-more.ensures k))

pub returns : goal.returns
returns c = λ k.
    let t = c.args.tables.now in
    all_of (λ l. IsExactly c.loop-edge.reports.items (SomeGives (ShowsAt (checker_in t) (texts_in t) (graphs_in t) (objects_in t)) l)) c.args.edges.now c.loop-edge.edge-index
    c.loop-edge-test.false c.loop-edge.auto.edge-index-end (c.loop-edge.invariant k)
