-- Graphs that the plain builder makes, block by block, and blocks that only lead on. The first two blocks of a built graph are the
-- dead one and the exit.
use Rattle.std.proofs.Common.{◌≡◌, ℕ, true, false, List, [], ◌∷◌, map, refl, ap, subst}
use Rattle.c_tree.specs.Node.{Node}
use Rattle.c_tree.specs.PathSubjects.Subjects.{Tree}
use Rattle.flow_graph.specs.CPaths.BlockGraphs.{events_at}
use Rattle.flow_graph.specs.CPaths.Events.{Event, Evaluated, Branched, Exited}
use Rattle.flow_graph.specs.CPaths.Traces.{Definition}
use Rattle.flow_graph.specs.CPaths.Graphs.{Block, Ending, ToAny, Calls, Stops}
use Rattle.flow_graph.specs.CPaths.Building.{graph_of}
use Rattle.flow_graph.specs.CPaths.Forwarders.{Forwards, ComesTo, Stays, Over, redirected}
use Rattle.flow_graph.specs.Targets.{target_of}
use Rattle.flow_graph.proofs.CPaths.ExampleTrees.{at, ident, stmt, while, outside, inside, function}
use Rattle.flow_graph.proofs.CPaths.Examples.{g, both}

-- a block with one event
abbrev one : Event → Ending → Block
one e end = record { events = e ∷ []; ending = end }

-- a block without events
abbrev none : Ending → Block
none end = record { events = []; ending = end }

abbrev visit : Node → Event
visit n = Evaluated (Tree n)

abbrev exit : Block
exit = one (Exited (at 0) (at 99)) Stops

-- { if (a && !b) g(); }
both_graph : graph_of outside both ≡ record {
  blocks =
      none (ToAny [])
      ∷ exit
      ∷ one (visit (g 9)) (ToAny (1 ∷ []))
      ∷ one (visit (ident 3 9)) (ToAny (2 ∷ []))
      ∷ one (Branched (ident 1 7) true) (ToAny (1 ∷ []))
      ∷ one (Branched (ident 1 7) false) (ToAny (3 ∷ []))
      ∷ none (ToAny (4 ∷ 5 ∷ []))
      ∷ one (visit (ident 1 7)) (ToAny (6 ∷ []))
      ∷ one (Branched (ident 0 4) true) (ToAny (7 ∷ []))
      ∷ one (Branched (ident 0 4) false) (ToAny (1 ∷ []))
      ∷ none (ToAny (8 ∷ 9 ∷ []))
      ∷ one (visit (ident 0 4)) (ToAny (10 ∷ []))
      ∷ [];
  entry = 11;
}
both_graph = refl

-- { while (n) g(); }, where g has a body: the third block is the head of the loop
abbrev looping : Definition
looping = function (while 2 (ident 5 4) (stmt (g 6)) ∷ [])

looping_graph : graph_of inside looping ≡ record {
  blocks =
      none (ToAny [])
      ∷ exit
      ∷ none (ToAny (9 ∷ []))
      ∷ none (Calls (g 6) 2)
      ∷ one (visit (g 6)) (ToAny (3 ∷ []))
      ∷ one (visit (ident 3 6)) (ToAny (4 ∷ []))
      ∷ one (Branched (ident 5 4) true) (ToAny (5 ∷ []))
      ∷ one (Branched (ident 5 4) false) (ToAny (1 ∷ []))
      ∷ none (ToAny (6 ∷ 7 ∷ []))
      ∷ one (visit (ident 5 4)) (ToAny (8 ∷ []))
      ∷ [];
  entry = 2;
}
looping_graph = refl

-- the first two only lead on, to the exit; the last one has an event
abbrev leading : List Block
leading = none (ToAny (1 ∷ [])) ∷ none (ToAny (2 ∷ [])) ∷ exit ∷ one (visit (g 9)) (ToAny (0 ∷ 1 ∷ [])) ∷ []

comes_over_both : ComesTo leading 0 2
comes_over_both = Over {b = 0} {c = 1} {d = 2} refl (Over {b = 1} {c = 2} {d = 2} refl Stays)

event_is_in_the_way : (c : ℕ) → Forwards leading 3 c → ⊥
event_is_in_the_way c h = let none_left : ◌≡◌ {A = List Event} (visit (g 9) ∷ []) [] = ap events_at h in cc

-- from there control comes nowhere else
stays_at_an_event : (a b : ℕ) → a ≡ 3 → ComesTo leading a b → b ≡ 3
stays_at_an_event _ _ e Stays = e
stays_at_an_event _ _ e (Over {b} {c} {d} h t) = absurd (event_is_in_the_way c (subst (λ x. Forwards leading x c) e h))

led_to_the_exit : map (redirected (target_of (2 ∷ 2 ∷ 2 ∷ 3 ∷ []))) leading ≡ none (ToAny (2 ∷ [])) ∷ none (ToAny (2 ∷ [])) ∷ exit ∷ one (visit (g 9)) (ToAny (2 ∷ 2 ∷ [])) ∷ []
led_to_the_exit = refl

-- two that lead to each other: the first is left
abbrev circle : List Block
circle = none (ToAny (1 ∷ [])) ∷ none (ToAny (0 ∷ [])) ∷ []

comes_round : ComesTo circle 0 0
comes_round = Over {b = 0} {c = 1} {d = 0} refl (Over {b = 1} {c = 0} {d = 0} refl Stays)

led_to_itself : map (redirected (target_of (0 ∷ 0 ∷ []))) circle ≡ none (ToAny (0 ∷ [])) ∷ none (ToAny (0 ∷ [])) ∷ []
led_to_itself = refl
