-- What is counted, and how much of it a checker may have.
use Rattle.std.specs.Prelude.{ℕ}
use Rattle.metal_tree.specs.MetalMachines.Limits.{most_variables, most_holes, most_rules}
use Rattle.metal_grammar.specs.Faults.{count_of_variables, count_of_holes}
use Rattle.metal_grammar.specs.Rules.{count_of_rules}
use Rattle.metal_grammar.specs.Written.{Content}
use Rattle.metal_numbers.specs.declared.metal_declared.which.Which.{Which}
use Rattle.metal_numbers.specs.declared.metal_declared.which.Which.TheVariants as which

abbrev pub counting : Which → Content → ℕ
counting which.Variables c = count_of_variables c
counting which.Holes c = count_of_holes c
counting which.Rules c = count_of_rules c

abbrev pub limit_of : Which → ℕ
limit_of which.Variables = most_variables
limit_of which.Holes = most_holes
limit_of which.Rules = most_rules
