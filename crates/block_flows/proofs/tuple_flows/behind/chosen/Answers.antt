use Rattle.std.proofs.Common.{◌∙◌, ap, Some}
use Rattle.block_flows.proofs.TupleFlows.Events.{chosen-some, chosen-none}
use Rattle.block_flows.proofs.tuple_flows.behind.chosen.Goals as goal

pub returns-in-Some : goal.returns-in-Some
returns-in-Some c =
    let t = c.args.tuple.now in
    let u = c.of_object.result in
    let made = c.of_object.ensures in
    λ k h f a. chosen-some k h f c.args.is_root c.args.next t.global t.object t.state u made.global _ c.in-Some.is (made.object ∙ ap Some c.copy.ensures)
    (made.state ∙ c.next_state-state.ensures k.machine k.depth h f a)

pub returns-in-None : goal.returns-in-None
returns-in-None c =
    let t = c.args.tuple.now in
    let u = c.of_none.result in
    let made = c.of_none.ensures in
    λ k h f a. chosen-none k h f c.args.is_root c.args.next t.global t.object t.state u made.global c.in-None.is made.object made.state
