-- The theorems on steps as statements, which contracts can name.
use Rattle.std.specs.Prelude.{◌≡◌, ◌↔◌, ℕ, List, Some}
use Rattle.c_objects.specs.Objects.{Object}
use Rattle.flow_graph.specs.CPaths.Building.{Graph}
use Rattle.path_model.specs.CheckerGraphs.Graphs.{AreGraphs, AreApartPlaces, function_at}
use Rattle.path_model.specs.CheckerModel.Happenings.{Function}
use Rattle.path_model.specs.CheckerModel.Reports.{Checker}
use Rattle.path_model.specs.CheckerPrograms.Texts.{functions_in}
use Rattle.typed_unit.specs.Texts.{Text}
use Rattle.least_set.specs.OnePremise.{Least}
use Rattle.relevant.specs.RelevantSteps.Families.{RelevantTo}
use Rattle.relevant.specs.RelevantSteps.Steps.{Base, Goes}
use Rattle.state_tuples.specs.declared.applied_rules.sources.RuleSources.{RuleSources}

abbrev pub ObjectsFoundInStepsAreRelevant : Type 0
ObjectsFoundInStepsAreRelevant = (w : RuleSources) (c : Checker) (ts : List Text) (gs : List Graph) → AreGraphs ts gs → AreApartPlaces (functions_in ts)
    → (n : ℕ) (f : Function) (o : Object) → function_at ts n ≡ Some f → Least (Base c ts gs w) (Goes c ts gs) (n, o) ↔ RelevantTo w c ts f o

abbrev pub RelevantObjectsAreOfFunctions : Type 0
RelevantObjectsAreOfFunctions = (w : RuleSources) (c : Checker) (ts : List Text) (gs : List Graph) → AreGraphs ts gs → AreApartPlaces (functions_in ts)
    → (f : Function) (o : Object) → RelevantTo w c ts f o → (n : ℕ) × (function_at ts n ≡ Some f)
