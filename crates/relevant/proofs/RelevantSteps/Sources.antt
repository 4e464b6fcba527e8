-- Rules that begin in some states bind what rules bind: so what is relevant to them are objects, and nothing is bound at an exit.
use Rattle.std.proofs.Common.{ℕ, List}
use Rattle.c_objects.specs.Objects.{Object, IsObject}
use Rattle.path_model.specs.CheckerModel.Choices.{Binds}
use Rattle.path_model.specs.CheckerModel.Happenings.{Function, Happening}
use Rattle.path_model.specs.CheckerModel.Reports.{Checker}
use Rattle.path_model.proofs.CheckerPrograms.Closed.{from-object}
use Rattle.typed_unit.specs.Texts.{Text}
use Rattle.metal_tree.specs.MetalMachines.Machine.{Machine}
use Rattle.state_tuples.specs.AppliedRules.Bound.{BindsFrom}
use Rattle.state_tuples.specs.declared.applied_rules.sources.RuleSources.{RuleSources}
use Rattle.state_tuples.specs.declared.applied_rules.sources.RuleSources.TheVariants as sources
use Rattle.relevant.specs.RelevantSteps.Families.{RelevantTo}

pub rule-binds : (w : RuleSources) (m : Machine) (depth : ℕ) (f : Function) (h : Happening) (o : Object) → BindsFrom w m depth f h o → Binds m depth f h o
rule-binds sources.AnyState m depth f h o b = b
rule-binds sources.GlobalStates m depth f h o b = b.binds

pub relevant-object : (w : RuleSources) (c : Checker) (ts : List Text) (f : Function) (o : Object) → RelevantTo w c ts f o → IsObject c.depth o
relevant-object w c ts = from-object c ts (rule-binds w c.machine c.depth)
