-- THE OBJECTS THAT ARE RELEVANT to rules which begin in some states.
use Rattle.std.specs.Prelude.{List}
use Rattle.c_objects.specs.Objects.{Object}
use Rattle.path_model.specs.CheckerModel.Happenings.{Function}
use Rattle.path_model.specs.CheckerModel.Reports.{Checker}
use Rattle.path_model.specs.CheckerPrograms.Relevant.{RelevantFrom}
use Rattle.typed_unit.specs.Texts.{Text}
use Rattle.state_tuples.specs.AppliedRules.Bound.{BindsFrom}
use Rattle.state_tuples.specs.declared.applied_rules.sources.RuleSources.{RuleSources}
use Rattle.state_tuples.specs.declared.applied_rules.sources.RuleSources.TheVariants as sources

-- rules that begin in any state
abbrev pub any_state : RuleSources
any_state = sources.AnyState

-- the relevant objects, where that is any state; those that are followed, where it is a global one
abbrev pub RelevantTo : RuleSources → Checker → List Text → Function → Object → Type 0
RelevantTo w c ts = RelevantFrom c ts (BindsFrom w c.machine c.depth)
