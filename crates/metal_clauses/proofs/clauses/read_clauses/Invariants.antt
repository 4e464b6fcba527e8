use Rattle.std.proofs.Common.{◌≡◌, suc, ◌≤◌, ◌*◌, ◌-◌, cond, nat_eq, [], length}
use Rattle.c_tree.specs.Symbol.{symbols_of}
use Rattle.metal_grammar.specs.Grammar.{nothing_before}
use Rattle.metal_grammar.specs.Reading.{read_clauses, read_text}
use Rattle.metal_forms.specs.Before.{Knows}
use Rattle.metal_written.specs.Sizes.{ClausesHaveSizes, size_of_all}
use Rattle.metal_written.specs.Written.{clause_views}
use Rattle.metal_clauses.proofs.InTurn.{behind_all, with_all, left_clauses}
use Rattle.metal_clauses.proofs.clauses.read_clauses.Given as goal

abbrev pub invariant-loop-more : goal.invariant-loop-more
invariant-loop-more l = record {
  read : with_all (clause_views l.clauses.items) (read_clauses l.names (behind_all l.names nothing_before (clause_views l.clauses.items)) (nat_eq l.from 0) l.from (left_clauses l.more l.depth l.tokens l.from)) ≡ read_text l.names (symbols_of l.tokens);
  knows : Knows l.before (behind_all l.names nothing_before (clause_views l.clauses.items));
  sizes : ClausesHaveSizes l.clauses.items;
  total : size_of_all l.clauses.items ≡ l.from;
  bound : l.from ≤ length l.tokens;
  shallow : l.depth ≤ 1;
  types : l.reader.types.now ≡ [];
  spent : l.reader.next ≤ 16 * l.from;
}

abbrev pub decreases-loop-more : goal.decreases-loop-more
decreases-loop-more l = cond l.more (suc (length l.tokens - l.from)) 0
