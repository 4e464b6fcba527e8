use Rattle.std.proofs.Common.{◌≡◌, ◌≤◌, ◌-◌, length, drop}
use Rattle.c_tree.specs.Symbol.{symbols_of}
use Rattle.c_grammar.specs.Symbols.{run_of, after_run}
use Rattle.c_expr.specs.Runs.{stays}
use Rattle.c_expr.proofs.Runs.{run_behind}
use Rattle.c_expr.proofs.symbols.split_run.Given as goal

abbrev pub invariant-loop-count : goal.invariant-loop-count
invariant-loop-count l = record {
  run : run_behind (stays l.run) l.tokens l.count ≡ run_of (stays l.run) (symbols_of l.tokens);
  rest : after_run (stays l.run) (symbols_of (drop l.count l.tokens)) ≡ after_run (stays l.run) (symbols_of l.tokens);
  bound : l.count ≤ length l.tokens;
}

abbrev pub decreases-loop-count : goal.decreases-loop-count
decreases-loop-count l = length l.tokens - l.count
