use Rattle.std.proofs.Common.{◌≡◌, ◌+◌, ◌<◌, ◌≤◌, ◌^◌, drop}
use Rattle.metal_grammar.specs.Faults.{passing}
use Rattle.metal_numbers.specs.MetalDeclared.Limits.{counting, limit_of}
use Rattle.metal_written.specs.Sizes.{ClausesHaveSizes, size_of_all}
use Rattle.metal_written.specs.Written.{clause_views}
use Rattle.metal_numbers.proofs.metal_declared.limits.passing.Given as goal

abbrev pub invariant-loop-clause : goal.invariant-loop-clause
invariant-loop-clause l = record {
  rest : passing (counting l.which) (limit_of l.which) l.count l.position (clause_views (drop l.clause-index l.clauses)) ≡ passing (counting l.which) (limit_of l.which) 0 0 (clause_views l.clauses);
  sizes : ClausesHaveSizes (drop l.clause-index l.clauses);
  room : l.position + size_of_all (drop l.clause-index l.clauses) < 2 ^ 31;
  low : l.count ≤ limit_of l.which;
}
