use Rattle.std.proofs.Common.{◌≡◌}
use Rattle.mx_base.specs.Names.{AddsAtMost, HasNoRepeats}
use Rattle.metal_written.specs.Texts.{AreRight}
use Rattle.metal_written.proofs.InTexts.{FirstKnown, strings_first}
use Rattle.metal_written.proofs.texts.Texts.of_tokens.Given as goal

abbrev pub invariant-loop-token : goal.invariant-loop-token
invariant-loop-token l = record {
  right : AreRight l.names l.texts;
  adds : AddsAtMost l.fn.names l.names l.token-index;
  distinct : HasNoRepeats l.names;
  known : FirstKnown l.names l.token-index l.tokens;
  named : l.names ≡ strings_first l.fn.names l.token-index l.tokens;
}
