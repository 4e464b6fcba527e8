-- A machine by its parts.
use Rattle.std.specs.Prelude.{ℕ, List, map}
use Rattle.metal_tree.specs.MetalMachines.Machine as machines
use Rattle.metal_tree.specs.declared.holes.HoleDecl.{HoleDecl}
use Rattle.metal_tree.specs.declared.rules.Rule.{Rule}
use Rattle.metal_tree.specs.declared.states.States.{States}
use Rattle.metal_tree.specs.Views.{hole_view, rule_views}

abbrev pub state_names : States → List ℕ
state_names s = s.names.now

abbrev pub machine_of : ℕ → ℕ → List HoleDecl → List ℕ → List States → List Rule → machines.Machine
machine_of name variables holes globals states rules = record {
  name = name;
  variables = variables;
  holes = map hole_view holes;
  globals = globals;
  states = map state_names states;
  rules = rule_views rules;
}
