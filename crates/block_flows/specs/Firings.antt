-- Which rules with an action are taken while a tuple crosses the events of a block. A report is that of such a rule.
use Rattle.std.specs.Prelude.{◌≡◌, ℕ, Bool, cond, is_some, List, slice_get, Option, None, Some}
use Rattle.std.specs.Option.{option_map}
use Rattle.state_tuples.specs.AppliedRules.Takers.{IsFirstFor}
use Rattle.c_objects.specs.Objects.{Object}
use Rattle.type_rules.specs.Options.{if_there, ◌>?◌}
use Rattle.path_model.specs.CheckerModel.Checkers.{model}
use Rattle.path_model.specs.CheckerModel.Choices.{Taken, scene, taken, taken_global}
use Rattle.path_model.specs.CheckerModel.Happenings.{Function, Happening}
use Rattle.path_model.specs.CheckerModel.Reports.{Checker}
use Rattle.path_theory.specs.EventWalks.Happenings.{ToObjects, ToGlobals, HappensHere, HappensAt}
use Rattle.block_flows.specs.declared.taken_rules.Firing.{Firing}
use Rattle.state_tuples.specs.RuleChoices.Values.{taken_of}
use Rattle.state_tuples.specs.declared.tuple.Tuple.{Tuple}
use Rattle.block_flows.specs.TupleFlows.Facts.{fact_in, listed, origins_in}

-- a rule that is taken, if it has an action
abbrev pub if_acting : Taken → Option Taken
if_acting t = cond (is_some t.rule.action) (Some t) None

abbrev pub acting : Option Taken → Option Taken
acting t = t >? if_acting

-- an object takes a rule with an action, by its state behind the move, or the global state does
abbrev pub ObjectActs : (c : Checker) → ToObjects (model c) Taken
ObjectActs c h f is_root g o x r = acting (taken c.machine c.depth h f is_root g o x) ≡ Some r

abbrev pub GlobalActs : (c : Checker) → ToGlobals (model c) Taken
GlobalActs c h f is_root g r = acting (taken_global c.machine c.depth h f is_root g) ≡ Some r

-- what is noted of a rule that is taken: the number of the event, the object that takes it, or none where the global state does, and the rule
pub record Fire : Type 0 where
  pub event : ℕ
  pub object : Option Object
  pub taken : Taken

abbrev pub fire_in : Firing → Fire
fire_in x = record { event = x.event; object = x.object; taken = taken_of x.taken.now }

-- IT IS TAKEN at an event, which has this number, from a tuple that stands before it
pub record TakenHere (c : Checker) (h : Happening) (f : Function) (is_root : Bool) (followed : List Object) (number : ℕ) (t : Tuple) (x : Fire) : Type 0 where
  pub event : x.event ≡ number
  pub here : HappensHere (model c) (origins_in c followed followed) (listed c followed) (ObjectActs c) (GlobalActs c) f is_root h t.global (fact_in t) x.object x.taken

-- IT IS TAKEN on the way of a tuple over these events
abbrev pub TakenAt : Checker → List Happening → Function → Bool → List Object → Tuple → Fire → Type 0
TakenAt c hs f is_root followed t x =
    HappensAt (model c) (origins_in c followed followed) (listed c followed) (ObjectActs c) (GlobalActs c) f is_root hs x.event t.global (fact_in t) x.object x.taken

-- the rule with an action that a tuple behind the move takes: its object, or the global state where there is none
abbrev pub fires_here : Checker → Happening → Function → Bool → Tuple → Option Taken
fires_here c h f is_root t =
    if_there t.object (acting (taken_global c.machine c.depth h f is_root t.global)) (λ o. acting (taken c.machine c.depth h f is_root t.global o t.state))

-- what is noted of it
abbrev pub fire_of : Checker → Happening → Function → Bool → ℕ → Tuple → Option Fire
fire_of c h f is_root number t = option_map (λ r. record { event = number; object = t.object; taken = r }) (fires_here c h f is_root t)

-- THE ALTERNATIVE of a rule that is taken at the event with this number is the first by which it can be
abbrev pub IsFirstHere : Checker → Happening → Function → ℕ → Firing → Type 0
IsFirstHere c h f number x = (x.event ≡ number) × IsFirstFor (scene c.machine c.depth h f) h.event x.object x.taken.now

-- the same at one of these events
abbrev pub IsFirstAmong : Checker → List Happening → Function → Firing → Type 0
IsFirstAmong c hs f x = (h : Happening) × (slice_get hs x.event ≡ Some h) × IsFirstFor (scene c.machine c.depth h f) h.event x.object x.taken.now
