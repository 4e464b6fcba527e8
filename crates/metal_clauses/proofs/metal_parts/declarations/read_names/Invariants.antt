use Rattle.std.proofs.Common.{◌≡◌, ◌≤◌, suc, length}
use Rattle.c_tree.specs.declared.punctuator.Punctuator.TheVariants as marks
use Rattle.c_tree.specs.Symbol.{symbols_of}
use Rattle.metal_grammar.specs.Ways.Steps.{take_word, read_row}
use Rattle.metal_written.proofs.Rows.{ending_with}
use Rattle.metal_clauses.proofs.metal_parts.declarations.read_names.Given as goal

abbrev pub invariant-loop-fuel : goal.invariant-loop-fuel
invariant-loop-fuel l = record {
  read : ending_with l.all.items (read_row take_word marks.Comma l.fuel (symbols_of l.rest)) ≡ read_row take_word marks.Comma (suc (length (symbols_of l.tokens))) (symbols_of l.tokens);
  left : length l.rest ≤ length l.tokens;
}

abbrev pub decreases-loop-fuel : goal.decreases-loop-fuel
decreases-loop-fuel l = l.fuel
