-- These theorems as statements, which contracts can name.
use Rattle.std.specs.Prelude.{◌⊎◌, ◌↔◌, ◌<◌, ℕ, List, Option}
use Rattle.c_objects.specs.Objects.{Object, IsObject}
use Rattle.c_tree.specs.Node.{Node}
use Rattle.path_model.specs.CheckerModel.Calls.{HandsBack}
use Rattle.path_model.specs.CheckerModel.Checkers.{model, origins}
use Rattle.path_model.specs.CheckerModel.Choices.{State}
use Rattle.path_model.specs.CheckerModel.Happenings.{Function}
use Rattle.path_model.specs.CheckerModel.Reports.{Checker}
use Rattle.path_model.specs.CheckerPrograms.Paths.{program}
use Rattle.path_model.specs.CheckerPrograms.Relevant.{Relevant, Followed}
use Rattle.path_model.specs.CheckerPrograms.Roots.{IsRoot, IsUncalled, Leads, Remains}
use Rattle.path_model.specs.CheckerPrograms.Texts.{site}
use Rattle.metal_tree.specs.MetalMachines.Machine.{Machine}
use Rattle.typed_unit.specs.Texts.{Text}
use Rattle.path_theory.specs.Relevant.{IsClosed}

abbrev pub RelevantObjectsAreClosed : Type 0
RelevantObjectsAreClosed = (c : Checker) (ts : List Text) → IsClosed (model c) (program c ts) (origins c) (Relevant c ts)

-- each of them is an object at the checker's depth
abbrev pub RelevantObjectsAreObjects : Type 0
RelevantObjectsAreObjects = (c : Checker) (ts : List Text) (f : Function) (o : Object) → Relevant c ts f o → IsObject c.depth o

-- the same of the objects that are followed, which are some of them
abbrev pub FollowedObjectsAreClosed : Type 0
FollowedObjectsAreClosed = (c : Checker) (ts : List Text) → IsClosed (model c) (program c ts) (origins c) (Followed c ts)

abbrev pub FollowedObjectsAreRelevant : Type 0
FollowedObjectsAreRelevant = (c : Checker) (ts : List Text) (f : Function) (o : Object) → Followed c ts f o → Relevant c ts f o

-- Behind each call of a program an object to which one of the callee is handed back has the state of that, and every other the state that it had
-- at the call.
abbrev pub CallsHandBackWhatBecomes : Type 0
CallsHandBackWhatBecomes = (c : Checker) (ts : List Text) (f : Function) (call : Node) (callee caller : Object → Option State)
    → HandsBack c.depth (site c.depth ts f call) callee caller ((model c).returned (site c.depth ts f call) callee caller)

-- A root is a function that no followed call leads to; or one that remains behind these and the roots before it, which is the first that does.
abbrev pub RootsAreUncalledOrRemain : Type 0
RootsAreUncalledOrRemain = (m : Machine) (ts : List Text) (f : ℕ) → IsRoot (Leads m ts) f
    ↔ (IsUncalled (Leads m ts) f ⊎ Remains (Leads m ts) (λ g. IsUncalled (Leads m ts) g ⊎ ((g < f) × IsRoot (Leads m ts) g)) f)
