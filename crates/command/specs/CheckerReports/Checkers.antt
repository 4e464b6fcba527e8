-- The checkers of a request.
use Rattle.std.specs.Prelude.{ℕ, suc, List, [], ◌∷◌}
use Rattle.path_model.specs.CheckerModel.Reports.{Checker}
use Rattle.metal_tree.specs.MetalMachines.Machine.{Machine}
use Rattle.mx_io.specs.Bytes.{Bytes}

-- those of these machines, with the numbers from this one on
abbrev pub numbered_from : ℕ → List Machine → ℕ → List Bytes → List Checker
numbered_from number [] depth names = []
numbered_from number (m ∷ ms) depth names = record { number = number; machine = m; depth = depth; names = names } ∷ numbered_from (suc number) ms depth names

-- THE CHECKERS of these machines, numbered from 0 on in their order; their objects have at most so many selectors, and names have these texts
abbrev pub checkers_in : List Machine → ℕ → List Bytes → List Checker
checkers_in machines depth names = numbered_from 0 machines depth names
