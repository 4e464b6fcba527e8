use Rattle.std.proofs.Common.{◌≤◌, length, map, subst, sym}
use Rattle.std.proofs.lemmas.List.{length-map}
use Rattle.function_tables.proofs.OfBlocks.{rules-next, rules-all}
use Rattle.function_tables.proofs.events.rules_of.Goals as goal
use Rattle.metal_tree.specs.Whole.{machine_view}
use Rattle.state_tuples.specs.Values.{happening_in, function_of}

pub loop-event-preserved : goal.loop-event-preserved
loop-event-preserved c =
    let item = c.event-item in
    rules-next (machine_view c.args.machine.now) c.args.depth (function_of c.args.frame.now) c.args.unit.now c.args.events.now c.loop-event.event-index item.result c.in_ok-applied.applied c.loop-event.rules.items c.push.new.self.items
    c.loop-event-test.true item.is c.in_ok-applied.ensures c.in_ok-push.ensures.items c.loop-event.invariant

pub returns : goal.returns
returns c =
    let events = c.args.events.now in
    let hs = map (happening_in c.args.unit.now) events in
    let all : length hs ≤ c.loop-event.event-index = subst (λ n. n ≤ c.loop-event.event-index) (sym (length-map events (happening_in c.args.unit.now))) c.loop-event-test.false in
    rules-all (machine_view c.args.machine.now) c.args.depth (function_of c.args.frame.now) hs c.loop-event.event-index c.loop-event.rules.items all c.loop-event.invariant
