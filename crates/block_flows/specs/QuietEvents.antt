-- Events at which no rule with an action can be taken.
use Rattle.std.specs.Prelude.{Bool, is_none, List}
use Rattle.std.specs.List.{list_all}
use Rattle.state_tuples.specs.declared.applied_rules.rules.EventRules.{EventRules}
use Rattle.state_tuples.specs.declared.rule_choices.fired.Fired.{Fired}
use Rattle.state_tuples.specs.RuleChoices.Values.{taken_of}

-- the rule has no action
abbrev pub is_silent : Fired → Bool
is_silent fired = is_none (taken_of fired).rule.action

-- none of the alternatives that apply at an event is of a rule with an action
abbrev pub is_quiet : EventRules → Bool
is_quiet r = list_all is_silent r.applied.items

abbrev pub are_quiet : List EventRules → Bool
are_quiet rs = list_all is_quiet rs
