-- WHAT IS ASKED OF AN ALTERNATIVE that applies at an event, by number: who takes it, and where it leads.
use Rattle.std.specs.Prelude.{ℕ, List, Option, is_some}
use Rattle.c_objects.specs.Objects.{Object}
use Rattle.numbered_program.specs.EventTables.RuleEnds.{numbered_source, numbered_target, variable_asked}
use Rattle.flow_graph.specs.CPaths.Events.{Event}
use Rattle.hole_matching.specs.Alternatives.{bound_object}
use Rattle.hole_matching.specs.Holes.{Setting}
use Rattle.hole_matching.specs.Matching.{Binding}
use Rattle.numbered_program.specs.NumberedTuples.FollowedObjects.{number_of}
use Rattle.path_model.specs.CheckerModel.Choices.{State, target_at}
use Rattle.row_flows.specs.declared.rows.Applied as code
use Rattle.state_tuples.specs.AppliedRules.Applied.{Applied}
use Rattle.state_tuples.specs.AppliedRules.Events.{applied_of}
use Rattle.state_tuples.specs.declared.rule_choices.fired.Fired.{Fired}
use Rattle.type_rules.specs.Options.{if_there, ◌>?◌}

-- the number of the object that a binding has for a variable; 0 where it has none, or one that isn't followed
abbrev pub bound_number : List Object → Setting → Option ℕ → Binding → ℕ
bound_number followed g v b = if_there (v >? λ n. bound_object g n b) 0 (number_of followed)

-- THE ROW of an alternative at an event
abbrev pub alternative_row : List Object → List State → Setting → Event → Applied → code.Applied
alternative_row followed states g e x =
    let r = x.taken.rule in
    let t = target_at e r.dest in
    record {
      rule = r.number;
      alternative = x.number;
      source = numbered_source states r.source;
      target = numbered_target states t;
      object = bound_number followed g (variable_asked r.source t) x.taken.binding;
      has_action = is_some r.action;
    }

-- that of one of the program
abbrev pub fired_row : List Object → List State → Setting → Event → Fired → code.Applied
fired_row followed states g e x = alternative_row followed states g e (applied_of x)
