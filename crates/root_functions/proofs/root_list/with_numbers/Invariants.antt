use Rattle.std.proofs.Common.{◌≡◌, map, take}
use Rattle.call_graph.specs.declared.programs.functions.FnId.{FnId}
use Rattle.root_functions.proofs.root_list.with_numbers.Given as goal

-- the functions of the numbers before this one
abbrev pub invariant-loop-number : goal.invariant-loop-number
invariant-loop-number l = map (λ (f : FnId). f.number) l.functions.items ≡ take l.number-index l.number-items
