-- The trees of the events and the calls in a function's text stand in its body: what holds of each node of that holds of each of theirs.
use Rattle.std.proofs.Common.{◌≡◌, ◌⊎◌, List, inl, inr, sym, subst}
use Rattle.std.specs.Prelude.{⊤}
use Rattle.c_objects.specs.Facts.{Facts}
use Rattle.c_tree.specs.Node.{Node}
use Rattle.flow_graph.specs.CPaths.Events.{Event, Evaluated, Declared, Branched, Exited, Item, Variable}
use Rattle.flow_graph.specs.CPaths.Flow.{Flow}
use Rattle.flow_graph.specs.CPaths.Occurrences.{InFlow}
use Rattle.flow_graph.specs.CPaths.TreeFlow.{flow_of}
use Rattle.path_theory.specs.Marks.{EventMark, CallMark}
use Rattle.path_model.specs.CheckerModel.Happenings.{Function, Happening, Site}
use Rattle.path_model.specs.CheckerModel.Reports.{Checker}
use Rattle.path_model.specs.CheckerPrograms.Texts.{definition_of, flow_facts}
use Rattle.type_rules.specs.Parts.{flat}
use Rattle.typed_unit.specs.Texts.{Text}
use Rattle.event_places.proofs.EachNode.{Everywhere}
use Rattle.event_places.proofs.Items.{EachInFlow, of-flow}
use Rattle.event_places.proofs.Objects.{OfEvent}
use Rattle.event_places.proofs.Reports.{same-event}
use Rattle.event_places.proofs.Trees.{Stood, flow-all}
use Rattle.event_places.proofs.Walks.{IsInText, IsCallInText}

-- the trees of an event that stands
stood-trees : (Q : Node → Type 0) (V : Variable → Type 0) (u : Facts) (e : Event) → Stood Q V (EventMark e) → OfEvent Q u e
stood-trees Q V u (Evaluated s) h = h
stood-trees Q V u (Declared x) h = tt
stood-trees Q V u (Branched n t) h = h
stood-trees Q V u (Exited function place) h = tt

module _ (c : Checker) (ts : List Text) (f : Function) (Q : Node → Type 0) (all : Everywhere Q (flat (definition_of ts f).body)) where
  abbrev own_flow : Flow
  own_flow = flow_of (flow_facts ts f) (definition_of ts f).place (definition_of ts f).body

  abbrev StoodHere : Item → Type 0
  StoodHere i = Stood Q (λ x. ⊤) i

  items-stood : EachInFlow StoodHere own_flow
  items-stood = flow-all Q (λ x. ⊤) (flow_facts ts f) (λ d x e. tt) (definition_of ts f).place (definition_of ts f).body all

  -- of an event
  pub text-event : (u : Facts) (h : Happening) (w : IsInText c ts f h) → OfEvent Q u w.event
  text-event u h w = by w.event w.stands
    where
      by : (e : Event) → InFlow (EventMark e) own_flow ⊎ (◌≡◌ {A = Item} (EventMark e) (EventMark (Exited (definition_of ts f).place (definition_of ts f).close))) → OfEvent Q u e
      by e (inl i) = stood-trees Q (λ x. ⊤) u e (of-flow StoodHere (EventMark e) own_flow items-stood i)
      by e (inr s) = subst (OfEvent Q u) (sym (same-event e (Exited (definition_of ts f).place (definition_of ts f).close) s)) tt

  -- and of a call
  pub text-call : (s : Site) (w : IsCallInText c ts f s) → Everywhere Q (flat w.call)
  text-call s w = of-flow StoodHere (CallMark w.call) own_flow items-stood w.stands
