use Rattle.std.proofs.Common.{◌≡◌, ◌≤◌, suc, length, map}
use Rattle.c_tree.specs.Symbol.{symbols_of}
use Rattle.metal_grammar.specs.Ways.Steps.{read_identifiers}
use Rattle.metal_written.specs.Written.{identifier_view}
use Rattle.metal_clauses.proofs.MetalParts.InActions.{with_arguments}
use Rattle.metal_clauses.proofs.metal_parts.actions.read_identifiers.Given as goal

abbrev pub invariant-loop-fuel : goal.invariant-loop-fuel
invariant-loop-fuel l = record {
  read : with_arguments (map identifier_view l.arguments.items) (read_identifiers l.fuel (symbols_of l.rest)) ≡ read_identifiers (suc (length (symbols_of l.tokens))) (symbols_of l.tokens);
  left : length l.rest ≤ length l.tokens;
}

abbrev pub decreases-loop-fuel : goal.decreases-loop-fuel
decreases-loop-fuel l = l.fuel
