use Rattle.std.proofs.Common.{◌≡◌, ◌+◌, ◌≤◌, drop, length}
use Rattle.c_tree.specs.Symbol.{symbols_of}
use Rattle.tree_comparison.specs.MatchedTypes.Stars.{stars}
use Rattle.tree_comparison.proofs.matched_types.written.stars.Given as goal

-- with those that are left it is the whole
abbrev pub invariant-loop-token : goal.invariant-loop-token
invariant-loop-token l = (l.count + stars (symbols_of (drop l.token-index l.pointers)) ≡ stars (symbols_of l.pointers)) × (l.count ≤ l.token-index)
