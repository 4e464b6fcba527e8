-- A declarator without suffixes has no parameters.
use Rattle.std.proofs.Common.{◌≡◌, ◌<◌, List, [], ◌∷◌, length, refl, arith}
use Rattle.c_tree.specs.declared.tree.Tree.{Tree}
use Rattle.c_tree.specs.Views.{nodes_in}
use Rattle.type_rules.specs.Functions.{first_formals}

pub no-formals : (ts : List Tree) → length ts < 1 → first_formals (nodes_in ts) ≡ []
no-formals [] h = refl
no-formals (t ∷ ts) h = absurd (omega arith)
