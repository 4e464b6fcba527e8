use Rattle.std.proofs.Common.{◌≡◌, drop, map, Bool, false}
use Rattle.metal_grammar.specs.Faults.{any_wide}
use Rattle.metal_grammar.specs.Written.{members}
use Rattle.metal_written.specs.Written.{literal_views, literals_row}
use Rattle.metal_reader.proofs.metal_faults.first_fault.any_wide.Given as goal

abbrev pub invariant-loop-literal : goal.invariant-loop-literal
invariant-loop-literal l = any_wide (literal_views (drop l.literal-index l.literal-items)) ≡ any_wide (members (literals_row l.action.literals))
