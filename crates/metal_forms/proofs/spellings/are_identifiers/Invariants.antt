use Rattle.std.proofs.Common.{◌≡◌, drop, map}
use Rattle.metal_grammar.specs.Grammar.{are_identifiers}
use Rattle.metal_written.specs.Written.{identifier_view}
use Rattle.metal_forms.proofs.spellings.are_identifiers.Given as goal

abbrev pub invariant-loop-argument : goal.invariant-loop-argument
invariant-loop-argument l = are_identifiers l.names (map identifier_view (drop l.argument-index l.arguments)) ≡ are_identifiers l.names (map identifier_view l.arguments)
