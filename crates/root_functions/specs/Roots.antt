-- The roots of a program under a checker, by their numbers.
use Rattle.std.specs.Prelude.{ℕ, List, length}
use Rattle.path_model.specs.CheckerPrograms.Roots.{IsRoot, IsUncalled, Leads}
use Rattle.path_model.specs.CheckerPrograms.Texts.{functions_in}
use Rattle.typed_unit.specs.Texts.{Text}
use Rattle.root_functions.specs.GraphRoots.Listed.{AreListed}
use Rattle.metal_tree.specs.MetalMachines.Machine.{Machine}

-- THE LIST OF ROOTS: each once, first those to which no followed call leads, then the others, both in source order.
abbrev pub AreRoots : Machine → List Text → List ℕ → Type 0
AreRoots m ts roots = AreListed (IsUncalled (Leads m ts)) (IsRoot (Leads m ts)) (length (functions_in ts)) roots
