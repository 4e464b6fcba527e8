use Rattle.std.proofs.Common.{◌≡◌, ◌↔◌, drop}
use Rattle.c_tree.specs.Symbol.{symbols_of}
use Rattle.c_tree.proofs.alike.same_tokens.Given as goal

-- what is left decides
abbrev pub invariant-loop-i : goal.invariant-loop-i
invariant-loop-i l = (symbols_of (drop l.i l.a) ≡ symbols_of (drop l.i l.b)) ↔ (symbols_of l.a ≡ symbols_of l.b)
