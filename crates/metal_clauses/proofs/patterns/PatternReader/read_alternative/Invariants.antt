use Rattle.std.proofs.Common.{◌≡◌, ◌≤◌, ◌+◌, ◌*◌, [], length, map}
use Rattle.c_tree.specs.declared.punctuator.Punctuator.TheVariants as marks
use Rattle.c_tree.specs.Symbol.{symbols_of}
use Rattle.metal_grammar.specs.Ways.Steps.{read_row, read_alternative, read_item}
use Rattle.metal_written.specs.Written.{item_view}
use Rattle.metal_written.proofs.Rows.{ending_with}
use Rattle.metal_clauses.proofs.patterns.PatternReader.read_alternative.Given as goal

abbrev pub invariant-loop-fuel : goal.invariant-loop-fuel
invariant-loop-fuel l = record {
  read : ending_with (map item_view l.items.items) (read_row read_item marks.AndAnd l.fuel (symbols_of l.rest)) ≡ read_alternative (symbols_of l.tokens);
  types : l.self.types.now ≡ [];
  low : l.fn.self.next ≤ l.self.next;
  spent : l.self.next + 16 * length l.rest ≤ l.fn.self.next + 16 * length l.tokens;
}

abbrev pub decreases-loop-fuel : goal.decreases-loop-fuel
decreases-loop-fuel l = l.fuel
