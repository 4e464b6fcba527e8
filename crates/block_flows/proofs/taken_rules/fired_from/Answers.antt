use Rattle.std.proofs.Common.{◌∙◌, sym, subst, ap}
use Rattle.std.specs.List.{filter_map}
use Rattle.block_flows.specs.Firings.{fire_of, TakenHere}
use Rattle.block_flows.proofs.Fires.{fires}
use Rattle.flow_graph.specs.Values.{event_of}
use Rattle.least_set.specs.Logs.{IsExactly}
use Rattle.objects.specs.Units.{facts_in}
use Rattle.block_flows.proofs.TupleFlows.Events.{moved-there}
use Rattle.block_flows.proofs.TupleFlows.Lists.{if-ok}
use Rattle.block_flows.proofs.taken_rules.fired_from.Goals as goal

pub returns-clause-rules : goal.returns-clause-rules
returns-clause-rules c =
    let r = c.args.rules.now in
    let t = c.args.tuple.now in
    let followed = c.args.followed.now.keys in
    let before = c.in_ok-before.before.items in
    if-ok _ _ c.fired_each.result
    (λ list made k h f a are.
    let moved = moved-there r.setting.depth k.depth (facts_in r.setting.unit.now) h.facts (event_of r.event) h.event (ap (λ s. s.depth) a.setting) (ap (λ s. s.facts) a.setting) a.event
    followed t before c.in_ok-before.ensures are in
    subst (λ l. IsExactly l (TakenHere k h f c.args.is_root followed c.args.number t))
    (sym (made k h f a ∙ ap (filter_map (fire_of k h f c.args.is_root c.args.number)) c.as_slice.ensures.value))
    (fires k f c.args.is_root followed h c.args.number t before moved))
    c.fired_each.ensures.rules

pub returns-clause-first : goal.returns-clause-first
returns-clause-first c = c.fired_each.ensures.first
