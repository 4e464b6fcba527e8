-- What a checker is told: events with the unit in which they stand, and what a call passes. No program stands in it, so that
-- programs can share a checker's model.
use Rattle.std.specs.Prelude.{ℕ, List, Option}
use Rattle.c_objects.specs.Facts.{Facts}
use Rattle.c_objects.specs.Objects.{Object}
use Rattle.flow_graph.specs.CPaths.Events.{Event}
use Rattle.c_tree.specs.declared.place.Place.{Place}
use Rattle.c_tree.specs.declared.token.Token.{Token}
use Rattle.type_rules.specs.Vars.{CVar}

-- a function with a body, by the place of its name where it is defined, and that name
pub record Function : Type 0 where
  pub place : Place
  pub name : ℕ

-- an event, the types and variables of the unit in which it stands, and the tokens of that unit
pub record Happening : Type 0 where
  pub facts : Facts
  pub tokens : List Token
  pub event : Event

-- a call: the function with a body that it calls, what it passes to which formals, as far as these have names, and the object of each
-- actual, if it has one
pub record Site : Type 0 where
  pub callee : Option Function
  pub formals : List (Option CVar)
  pub actuals : List (Option Object)
