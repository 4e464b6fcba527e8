use Rattle.std.proofs.Common.{◌≡◌, ◌≤◌, ◌+◌, ◌*◌, suc, [], length, map}
use Rattle.c_tree.specs.declared.punctuator.Punctuator.TheVariants as marks
use Rattle.c_tree.specs.Symbol.{symbols_of}
use Rattle.metal_grammar.specs.Ways.Steps.{read_row, read_rule}
use Rattle.metal_written.specs.Sizes.{HaveSizes}
use Rattle.metal_written.specs.Written.{rule_view}
use Rattle.metal_written.proofs.Rows.{ending_with}
use Rattle.metal_clauses.proofs.sections.read_rules.Given as goal

abbrev pub invariant-loop-fuel : goal.invariant-loop-fuel
invariant-loop-fuel l = record {
  read : ending_with (map rule_view l.rules.items) (read_row read_rule marks.Bar l.fuel (symbols_of l.rest)) ≡ read_row read_rule marks.Bar (suc (length (symbols_of l.tokens))) (symbols_of l.tokens);
  sizes : HaveSizes l.rules.items;
  types : l.reader.types.now ≡ [];
  low : l.fn.reader.next ≤ l.reader.next;
  spent : l.reader.next + 16 * length l.rest ≤ l.fn.reader.next + 16 * length l.tokens;
}

abbrev pub decreases-loop-fuel : goal.decreases-loop-fuel
decreases-loop-fuel l = l.fuel
