-- EVENTS THAT CHANGE NO TUPLE: no rule applies at them, and they write over nothing.
use Rattle.std.specs.Prelude.{◌≡◌, ℕ, ◌==◌, Bool, true, ◌&&◌, List, [], length, is_none, Contains}
use Rattle.state_tuples.specs.declared.applied_rules.rules.EventRules.{EventRules}
use Rattle.block_flows.specs.Firings.{TakenHere}
use Rattle.c_objects.specs.Objects.{Object}
use Rattle.type_rules.specs.Options.{if_there}
use Rattle.path_model.specs.CheckerModel.Happenings.{Function, Happening}
use Rattle.path_model.specs.CheckerModel.Moves.{move_of}
use Rattle.path_model.specs.CheckerModel.Reports.{Checker}
use Rattle.flow_graph.specs.Values.{event_of}
use Rattle.least_set.specs.Logs.{IsExactly, SomeGives}
use Rattle.objects.specs.Units.{facts_in}
use Rattle.state_tuples.specs.declared.tuple.Tuple.{Tuple}
use Rattle.block_flows.specs.TupleFlows.Behind.{IsBehind}
use Rattle.block_flows.specs.TupleFlows.Facts.{is_in}

-- no alternative of a rule applies, and nothing is written over
abbrev pub is_idle : EventRules → Bool
is_idle r = (length r.applied.items == 0) && is_none (move_of (facts_in r.setting.unit.now) r.setting.depth (event_of r.event))

-- no object, or one that is followed: of any other nothing flows
abbrev pub is_within : List Object → Tuple → Bool
is_within followed t = if_there t.object true (is_in followed)

-- each of these tuples is so
abbrev pub AreFollowed : List Object → List Tuple → Type 0
AreFollowed followed ts = (t : Tuple) → Contains ts t → is_within followed t ≡ true

-- such an event, where the tuples are so
abbrev pub leaves_all : EventRules → Bool → Bool
leaves_all r within = is_idle r && within

-- THE TUPLES ARE LEFT as they are: behind the event stand exactly these, and no rule with an action is taken there
pub record AreLeft (c : Checker) (h : Happening) (f : Function) (is_root : Bool) (followed : List Object) (ts : List Tuple) : Type 0 where
  pub behind : IsExactly ts (SomeGives (IsBehind c h f is_root followed) ts)
  pub quiet : (number : ℕ) → IsExactly [] (SomeGives (TakenHere c h f is_root followed number) ts)
