use Rattle.std.proofs.Common.{◌≡◌, ◌+◌, ◌<◌, ◌^◌, ◌++◌, drop, map}
use Rattle.metal_grammar.specs.Rules.{declared_names}
use Rattle.metal_written.specs.Sizes.{ClausesHaveSizes, size_of_all}
use Rattle.metal_written.specs.Written.{clause_views}
use Rattle.metal_numbers.specs.MetalDeclared.DeclaredNames.{declared_pair}
use Rattle.metal_numbers.proofs.metal_declared.limits.declared_names.Given as goal

abbrev pub invariant-loop-clause : goal.invariant-loop-clause
invariant-loop-clause l = record {
  all : map declared_pair l.all.items ++ declared_names l.position (clause_views (drop l.clause-index l.clauses)) ≡ declared_names 0 (clause_views l.clauses);
  sizes : ClausesHaveSizes (drop l.clause-index l.clauses);
  room : l.position + size_of_all (drop l.clause-index l.clauses) < 2 ^ 31;
}
