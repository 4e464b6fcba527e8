-- What is still to be done in a function's body, and where jumps out of a loop or a switch lead.
use Rattle.std.specs.Prelude.{List, [], ◌∷◌, Option}
use Rattle.flow_graph.specs.CPaths.Events.{Event}
use Rattle.flow_graph.specs.CPaths.Forms.{Form, Row}
use Rattle.flow_graph.specs.CPaths.Flow.{Flow, Flows, no_flows, flows}

pub data Task : Type 0 where
  -- a statement
  Run : Flow → Task
  -- an open loop: its condition is next, then its body; behind the body comes what is last in a turn
  Test : Option Form → Row → Flow → Task
  -- an open loop: what is last in a turn is next
  Turn : Option Form → Row → Flow → Task
  -- an open switch ends here
  Behind : Task
  -- the closing brace of the function, with its exit
  Close : Event → Task
  -- where a `break` or a `continue` leads that stands in nothing that it could leave: no step goes on
  Nowhere : Task

-- the statements of a block in order, and then k
abbrev pub in_order : Flows → List Task → List Task
in_order no_flows k = k
in_order (flows s ss) k = Run s ∷ in_order ss k

-- where a `break` leads: behind the innermost open loop or switch
abbrev pub after_break : List Task → List Task
after_break [] = Nowhere ∷ []
after_break (Run s ∷ k) = after_break k
after_break (Test c u s ∷ k) = after_break k
after_break (Turn c u s ∷ k) = k
after_break (Behind ∷ k) = k
after_break (Close e ∷ k) = Nowhere ∷ []
after_break (Nowhere ∷ k) = Nowhere ∷ []

-- where a `continue` leads: to the end of the turn of the innermost open loop
abbrev pub after_continue : List Task → List Task
after_continue [] = Nowhere ∷ []
after_continue (Run s ∷ k) = after_continue k
after_continue (Test c u s ∷ k) = after_continue k
after_continue (Turn c u s ∷ k) = Turn c u s ∷ k
after_continue (Behind ∷ k) = after_continue k
after_continue (Close e ∷ k) = Nowhere ∷ []
after_continue (Nowhere ∷ k) = Nowhere ∷ []
