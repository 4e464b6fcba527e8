use Rattle.std.proofs.Common.{◌≡◌, ◌+◌, ◌-◌, ◌≤◌, length, drop}
use Rattle.c_lexer.specs.CReading.Strip.{asm_len}
use Rattle.c_lexer.specs.CReading.Scans.{plus}
use Rattle.c_lexer.proofs.stripping.qualifiers_from.Given as goal

abbrev pub invariant-qualifying : goal.invariant-qualifying
invariant-qualifying l = record {
  within : l.index + l.count ≤ length l.tokens;
  found : plus l.count (asm_len (drop (l.index + l.count) l.tokens)) ≡ asm_len (drop l.index l.tokens);
}

abbrev pub decreases-qualifying : goal.decreases-qualifying
decreases-qualifying l = length l.tokens - (l.index + l.count)
