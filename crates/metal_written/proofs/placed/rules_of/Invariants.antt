use Rattle.std.proofs.Common.{◌≡◌, ◌≤◌, ◌<◌, ◌^◌, ◌+◌, ◌++◌, length, drop}
use Rattle.metal_grammar.specs.Rules.{placed_rules, rules_of}
use Rattle.metal_written.specs.Placed.{placed_views}
use Rattle.metal_written.specs.Sizes.{ClausesHaveSizes, size_of_all}
use Rattle.metal_written.specs.Written.{clause_views}
use Rattle.metal_written.proofs.placed.rules_of.Given as goal

abbrev pub invariant-loop-clause : goal.invariant-loop-clause
invariant-loop-clause l = record {
  placed : placed_views l.placed.items ++ placed_rules l.number l.position (clause_views (drop l.clause-index l.clauses)) ≡ rules_of (clause_views l.clauses);
  few : l.number + length (placed_rules l.number l.position (clause_views (drop l.clause-index l.clauses))) ≤ 1001;
  sizes : ClausesHaveSizes (drop l.clause-index l.clauses);
  room : l.position + size_of_all (drop l.clause-index l.clauses) < 2 ^ 31;
}
