-- THE RELEVANT OBJECTS of functions, as lists.
use Rattle.std.specs.Prelude.{List}
use Rattle.c_objects.specs.Objects.{Object}
use Rattle.path_model.specs.CheckerModel.Reports.{Checker}
use Rattle.path_model.specs.CheckerPrograms.Relevant.{Relevant}
use Rattle.relevant.specs.RelevantLists.Lists.{AreLists}
use Rattle.typed_unit.specs.Texts.{Text}

-- these are, function by function, the objects that are relevant under the checker
abbrev pub AreRelevant : Checker → List Text → List (List Object) → Type 0
AreRelevant c ts lists = AreLists c ts (Relevant c ts) lists
