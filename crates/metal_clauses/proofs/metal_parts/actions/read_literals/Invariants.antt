use Rattle.std.proofs.Common.{◌≡◌, ◌<◌, ◌≤◌, length}
use Rattle.c_tree.specs.Symbol.{symbols_of}
use Rattle.metal_grammar.specs.Ways.Steps.{read_literals}
use Rattle.metal_written.specs.Written.{literal_views}
use Rattle.metal_clauses.proofs.MetalParts.InActions.{with_literals}
use Rattle.metal_clauses.proofs.metal_parts.actions.read_literals.Given as goal

abbrev pub invariant-loop-literal : goal.invariant-loop-literal
invariant-loop-literal l = record {
  read : with_literals (literal_views l.literals.items) (symbols_of l.rest) (read_literals (symbols_of l.rest)) ≡ read_literals (symbols_of l.tokens);
  some : 0 < length l.literals.items;
  left : length l.rest ≤ length l.tokens;
}

abbrev pub decreases-loop-literal : goal.decreases-loop-literal
decreases-loop-literal l = length l.rest
