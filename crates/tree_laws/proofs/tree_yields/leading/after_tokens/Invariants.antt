use Rattle.std.proofs.Common.{◌≡◌, drop}
use Rattle.c_tree.specs.Symbol.{symbols_of}
use Rattle.tree_laws.specs.Ways.After.{after_symbols, rest_of}
use Rattle.tree_laws.proofs.tree_yields.leading.after_tokens.Given as goal

abbrev pub invariant-loop-token : goal.invariant-loop-token
invariant-loop-token l = after_symbols (symbols_of (drop l.token-index l.front)) (rest_of l.rest) ≡ after_symbols (symbols_of l.front) (rest_of l.fn.tokens)
