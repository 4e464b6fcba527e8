use Rattle.std.proofs.Common.{◌≡◌, drop}
use Rattle.c_tree.specs.Symbol.{symbols_of}
use Rattle.metal_grammar.specs.Patterns.{are_stars}
use Rattle.metal_forms.proofs.plain_types.are_stars.Given as goal

abbrev pub invariant-loop-token : goal.invariant-loop-token
invariant-loop-token l = are_stars (symbols_of (drop l.token-index l.tokens)) ≡ are_stars (symbols_of l.tokens)
