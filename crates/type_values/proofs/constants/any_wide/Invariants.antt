use Rattle.std.proofs.Common.{◌≡◌, drop}
use Rattle.type_rules.specs.Constants.{any_wide}
use Rattle.type_values.proofs.constants.any_wide.Given as goal

-- the literals that are left decide
abbrev pub invariant-loop-literal : goal.invariant-loop-literal
invariant-loop-literal l = any_wide (drop l.literal-index l.literals) ≡ any_wide l.literals
