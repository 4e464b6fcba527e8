use Rattle.std.proofs.Common.{◌≡◌, ◌≤◌, ◌+◌, ◌-◌, length}
use Rattle.c_tree.specs.Symbol.{symbols_of}
use Rattle.metal_grammar.specs.Clauses.{clauses_from}
use Rattle.metal_clauses.proofs.InCuts.{clauses_at}
use Rattle.metal_clauses.proofs.cuts.clause_len.Given as goal

abbrev pub invariant-going : goal.invariant-going
invariant-going l = record {
  cut : clauses_at l.open l.tokens l.index ≡ clauses_from l.depth (symbols_of l.tokens);
  bound : l.index ≤ length l.tokens;
  low : l.open ≤ l.depth + l.index;
}

abbrev pub decreases-going : goal.decreases-going
decreases-going l = length l.tokens - l.index
