use Rattle.std.proofs.Common.{◌≡◌, drop}
use Rattle.metal_grammar.specs.Message.{unescaped}
use Rattle.metal_written.specs.Messages.{unescaped_from}
use Rattle.metal_written.proofs.InMessages.{behind_bytes}
use Rattle.metal_written.proofs.messages.unescaped.Given as goal

abbrev pub invariant-loop-byte : goal.invariant-loop-byte
invariant-loop-byte l = behind_bytes l.bytes.items (unescaped_from l.behind_backslash (drop l.byte-index l.text)) ≡ unescaped l.text
