use Rattle.std.proofs.Common.{◌≤◌, length, vec_len}
use Rattle.c_lexer.specs.Progress.{Reached}
use Rattle.c_lexer.proofs.lexer.lex.Given as goal

abbrev pub invariant-cutting : goal.invariant-cutting
invariant-cutting l = record {
  reached : Reached l.fn.mode l.fn.file l.fn.word l.fn.bytes l.fn.names l.rest l.here l.tokens.items l.names;
  count : vec_len l.tokens ≤ l.here.offset;
}

abbrev pub decreases-cutting : goal.decreases-cutting
decreases-cutting l = length l.rest
