use Rattle.std.proofs.Common.{map, take}
use Rattle.function_tables.specs.Rules.{AreOfEvents}
use Rattle.function_tables.proofs.events.rules_of.Given as goal
use Rattle.metal_tree.specs.Whole.{machine_view}
use Rattle.state_tuples.specs.Values.{happening_in, function_of}

-- the rules of the events before this one
abbrev pub invariant-loop-event : goal.invariant-loop-event
invariant-loop-event l = AreOfEvents (machine_view l.machine) l.depth (function_of l.frame) (take l.event-index (map (happening_in l.unit) l.events)) l.rules.items
