use Rattle.std.proofs.Common.{◌∙◌, sym, subst, ap, map}
use Rattle.flow_graph.specs.Values.{event_of}
use Rattle.least_set.specs.Logs.{IsExactly}
use Rattle.objects.specs.Units.{facts_in}
use Rattle.block_flows.specs.TupleFlows.Behind.{IsBehind, chosen_tuple}
use Rattle.block_flows.proofs.TupleFlows.Events.{behind, moved-there}
use Rattle.block_flows.proofs.TupleFlows.Lists.{if-ok}
use Rattle.block_flows.proofs.tuple_flows.behind.over_event.Goals as goal

pub returns : goal.returns
returns c =
    let r = c.args.rules.now in
    let t = c.args.tuple.now in
    let followed = c.args.followed.now.keys in
    let next = c.next_global-next.result in
    let before = c.in_ok-before.before.items in
    if-ok _ _ c.chosen_each.result
    (λ list made k h f a are.
    let moved = moved-there r.setting.depth k.depth (facts_in r.setting.unit.now) h.facts (event_of r.event) h.event (ap (λ s. s.depth) a.setting) (ap (λ s. s.facts) a.setting) a.event
    followed t before c.in_ok-before.ensures are in
    subst (λ l. IsExactly l (IsBehind k h f c.args.is_root followed t)) (sym (made k h f a ∙ ap (map (chosen_tuple k h f c.args.is_root next)) c.as_slice.ensures.value))
    (behind k h f c.args.is_root followed t next (c.next_global-next.ensures k.machine k.depth h f a) before moved))
    c.chosen_each.ensures
