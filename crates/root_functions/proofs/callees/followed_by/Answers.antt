use Rattle.std.proofs.Common.{◌<◌, ◌≤◌, length, arith}
use Rattle.std.proofs.lemmas.Grind.{common_steps}
use Rattle.root_functions.specs.CallSites.Calls.{nodes_at}
use Rattle.least_set.specs.Logs.{IsExactly}
use Rattle.least_set.proofs.Growing.{all_of}
use Rattle.metal_tree.specs.Whole.{machine_view}
use Rattle.call_graph.specs.OfPrograms.Definitions.{definitions, trees_in}
use Rattle.root_functions.specs.Callees.{FollowedBy}
use Rattle.root_functions.proofs.Listing.{followed_next, below_next}
use Rattle.root_functions.proofs.callees.followed_by.Goals as goal

pub loop-i-preserved : goal.loop-i-preserved
loop-i-preserved c =
    let units = c.args.program.now.units.items in
    let calls = c.args.calls.now.items in
    let callee = c.followed-callee.result in
    let old = c.loop-i.numbers.items in
    let new = c.add.new.numbers.items in
    let within : c.loop-i.i < length calls = grind (arith, common_steps) in
    record {
      exact = followed_next (machine_view c.args.machine.now) units c.args.file calls c.loop-i.i c.index.result.now callee old new within c.index.ensures c.followed-callee.ensures.kept
          c.in_ok-add.ensures c.loop-i.invariant.exact;
      below = below_next (length (definitions (trees_in units))) callee old new c.followed-callee.ensures.within c.in_ok-add.ensures c.loop-i.invariant.below;
    }

pub returns-clause-exact : goal.returns-clause-exact
returns-clause-exact c =
    let calls = c.args.calls.now.items in
    let i = c.loop-i.i in
    let low : length calls ≤ i = grind (arith, common_steps) in
    let high : i ≤ length calls = grind (arith, common_steps) in
    all_of (λ xs. IsExactly c.loop-i.numbers.items (FollowedBy (machine_view c.args.machine.now) c.args.program.now.units.items c.args.file (nodes_at xs))) calls i low high c.loop-i.invariant.exact
