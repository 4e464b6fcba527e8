use Rattle.std.proofs.Common.{◌≡◌, map, take}
use Rattle.state_tuples.specs.AppliedRules.Bound.{bound_by}
use Rattle.state_tuples.specs.AppliedRules.Events.{applied_of}
use Rattle.hole_matcher.specs.HoleBindings.Settings.{setting_in}
use Rattle.state_tuples.proofs.applied_rules.bound.bound_by.Given as goal

-- the objects of those that were passed, as far as they are asked
abbrev pub invariant-loop-fired : goal.invariant-loop-fired
invariant-loop-fired l = l.objects.items ≡ bound_by l.sources (setting_in l.setting) (map applied_of (take l.fired-index l.applied))
