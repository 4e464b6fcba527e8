-- Tuples behind events: what is chosen for each that stands behind the move.
use Rattle.std.proofs.Common.{◌≡◌, ℕ, List, map, Bool, Option, None, Some, Contains, refl, sym, ap, subst, ◌∙◌}
use Rattle.c_objects.specs.Facts.{Facts}
use Rattle.c_objects.specs.Objects.{Object}
use Rattle.flow_graph.specs.CPaths.Events.{Event}
use Rattle.path_model.specs.CheckerModel.Checkers.{model}
use Rattle.path_model.specs.CheckerModel.Choices.{State, next_global, chosen}
use Rattle.path_model.specs.CheckerModel.Happenings.{Function, Happening}
use Rattle.path_model.specs.CheckerModel.Moves.{Move, move_of}
use Rattle.path_model.specs.CheckerModel.Reports.{Checker}
use Rattle.least_set.specs.Logs.{IsExactly}
use Rattle.path_theory.specs.Facts.{FactOf, NoObject, HasObject, Gives, IfNoObject}
use Rattle.path_theory.specs.Flows.{EventFlow, EventNone, EventObject}
use Rattle.state_tuples.specs.declared.tuple.Tuple.{Tuple}
use Rattle.block_flows.specs.TupleFlows.Behind.{IsBehind, chosen_object, chosen_tuple}
use Rattle.block_flows.specs.TupleFlows.Facts.{fact_of, fact_in, listed, origins_in}
use Rattle.block_flows.specs.TupleFlows.Moved.{AreObjects, MoveFlow, MovesNone, MovesObject, IsMoved}
use Rattle.block_flows.proofs.TupleFlows.Lists.{contains-map, map-contains}
use Rattle.block_flows.proofs.TupleFlows.Tuples.{tuple_of, tuple_of-fact, tuple_of-global, same-parts, same-tuple}

module _ (c : Checker) (h : Happening) (f : Function) (k : Bool) (followed : List Object) where
  abbrev M : Option Move
  M = move_of h.facts c.depth h.event

  -- the fact that is chosen for one behind the move
  abbrev chosen_fact : ℕ → FactOf Object State → FactOf Object State
  chosen_fact g NoObject = NoObject
  chosen_fact g (HasObject o x) = HasObject o (chosen c.machine c.depth h f k g o x)

  abbrev Flow : ℕ → FactOf Object State → FactOf Object State → Type 0
  Flow = EventFlow (model c) (origins_in c followed followed) (listed c followed) f k h

  flows : (g : ℕ) (t v : FactOf Object State) → MoveFlow c.depth M followed t v → Flow g t (chosen_fact g v)
  flows g _ _ MovesNone = EventNone
  flows g t _ (MovesObject o x i s) = EventObject o x i s

  moves : (g : ℕ) (t u : FactOf Object State) → Flow g t u → (v : FactOf Object State) × MoveFlow c.depth M followed t v × (chosen_fact g v ≡ u)
  moves g _ _ EventNone = (NoObject, MovesNone, refl)
  moves g t _ (EventObject o x i s) = (HasObject o x, MovesObject o x i s, refl)

  -- what is chosen, by the parts of the tuple
  chosen-fact : (g next : ℕ) (o : Option Object) (x : Option State) → fact_in (chosen_object c h f k next g o x) ≡ chosen_fact g (fact_of o x)
  chosen-fact g next None x = refl
  chosen-fact g next (Some o) x = refl

  chosen-global : (g next : ℕ) (o : Option Object) (x : Option State) → (chosen_object c h f k next g o x).global ≡ next
  chosen-global g next None x = refl
  chosen-global g next (Some o) x = refl

  module _ (t : Tuple) (next : ℕ) (is : next ≡ next_global c.machine c.depth h f k t.global) where
    is-behind : (q : Tuple) → IsMoved c.depth M followed t q → IsBehind c h f k followed t (chosen_tuple c h f k next q)
    is-behind q w =
        let p = chosen-fact q.global next q.object q.state in
        let at : Flow q.global (fact_in t) (chosen_fact q.global (fact_in q)) = flows q.global (fact_in t) (fact_in q) w.fact in
        let flow : Flow q.global (fact_in t) (fact_in (chosen_tuple c h f k next q)) = subst (Flow q.global (fact_in t)) (sym p) at in
        record {
          global = chosen-global q.global next q.object q.state ∙ is;
          fact = subst (λ g. Flow g (fact_in t) (fact_in (chosen_tuple c h f k next q))) w.global flow;
        }

    behind-is : (u : Tuple) → IsBehind c h f k followed t u → (q : Tuple) × IsMoved c.depth M followed t q × (chosen_tuple c h f k next q ≡ u)
    behind-is u w =
        let b = moves t.global (fact_in t) (fact_in u) w.fact in
        let q = tuple_of t.global b.0 in
        let p = chosen-fact q.global next q.object q.state in
        let fact : chosen_fact q.global (fact_in q) ≡ chosen_fact t.global b.0 = ap (λ g. chosen_fact g (fact_in q)) (tuple_of-global t.global b.0) ∙ ap (chosen_fact t.global) (tuple_of-fact t.global b.0) in (
          q,
          record {
            global = tuple_of-global t.global b.0;
            fact = subst (MoveFlow c.depth M followed (fact_in t)) (sym (tuple_of-fact t.global b.0)) b.1;
          },
          same-tuple (chosen_tuple c h f k next q) u (chosen-global q.global next q.object q.state ∙ is ∙ sym w.global) (p ∙ fact ∙ b.2),
        )

    -- THE TUPLES BEHIND THE EVENT are those that are chosen for the tuples behind the move
    pub behind : (before : List Tuple) → IsExactly before (IsMoved c.depth M followed t) → IsExactly (map (chosen_tuple c h f k next) before) (IsBehind c h f k followed t)
    behind before e = (
      λ u m.
          let p = map-contains (chosen_tuple c h f k next) before u m in
          subst (IsBehind c h f k followed t) p.2 (is-behind p.0 (e.0 p.0 p.1)),
      λ u w.
          let p = behind-is u w in
          subst (λ z. Contains (map (chosen_tuple c h f k next) before) z) p.2 (contains-map (chosen_tuple c h f k next) before p.0 (e.1 p.0 p.1)),
    )

module _ (c : Checker) (h : Happening) (f : Function) (k : Bool) (next g : ℕ) (q : Option Object) (x : Option State) (u : Tuple) (to : u.global ≡ next) where
  -- the tuple of these parts is the one that is chosen
  pub chosen-some : (o : Object) → q ≡ Some o → u.object ≡ Some o → u.state ≡ chosen c.machine c.depth h f k g o x → u ≡ chosen_object c h f k next g q x
  chosen-some o e p s = subst (λ z. u ≡ chosen_object c h f k next g z x) (sym e) (same-parts u (chosen_object c h f k next g (Some o) x) to p s)

  pub chosen-none : q ≡ None → u.object ≡ None → u.state ≡ None → u ≡ chosen_object c h f k next g q x
  chosen-none e p s = subst (λ z. u ≡ chosen_object c h f k next g z x) (sym e) (same-parts u (chosen_object c h f k next g None x) to p s)

-- what is said of one event is said of the same event, by its parts
pub moved-there : (depth d : ℕ) (u v : Facts) (e i : Event) → depth ≡ d → u ≡ v → e ≡ i → (followed : List Object) (t : Tuple) (list : List Tuple)
    → (AreObjects depth followed → IsExactly list (IsMoved depth (move_of u depth e) followed t)) → AreObjects d followed → IsExactly list (IsMoved d (move_of v d i) followed t)
moved-there depth d u v e i p q r followed t list x =
    let one = subst (λ z. AreObjects z followed → IsExactly list (IsMoved z (move_of u z e) followed t)) p x in
    let two = subst (λ z. AreObjects d followed → IsExactly list (IsMoved d (move_of z d e) followed t)) q one in
    subst (λ z. AreObjects d followed → IsExactly list (IsMoved d (move_of v d z) followed t)) r two
