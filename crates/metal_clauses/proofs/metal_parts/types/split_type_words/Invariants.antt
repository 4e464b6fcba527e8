use Rattle.std.proofs.Common.{◌≡◌, ◌≤◌, ◌-◌, length, drop}
use Rattle.c_tree.specs.Symbol.{symbols_of}
use Rattle.c_grammar.specs.Symbols.{run_of, after_run}
use Rattle.metal_grammar.specs.Ways.Steps.{is_type_symbol}
use Rattle.c_expr.proofs.Runs.{run_behind}
use Rattle.metal_clauses.proofs.metal_parts.types.split_type_words.Given as goal

abbrev pub invariant-loop-count : goal.invariant-loop-count
invariant-loop-count l = record {
  run : run_behind is_type_symbol l.tokens l.count ≡ run_of is_type_symbol (symbols_of l.tokens);
  rest : after_run is_type_symbol (symbols_of (drop l.count l.tokens)) ≡ after_run is_type_symbol (symbols_of l.tokens);
  bound : l.count ≤ length l.tokens;
}

abbrev pub decreases-loop-count : goal.decreases-loop-count
decreases-loop-count l = length l.tokens - l.count
