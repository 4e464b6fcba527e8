use Rattle.std.proofs.Common.{◌≡◌, None, length, replicate}
use Rattle.hole_matcher.proofs.hole_bindings.binding.Binding.new.Given as goal

-- the slots so far are empty
abbrev pub invariant-loop-number : goal.invariant-loop-number
invariant-loop-number l = (l.slots.items ≡ replicate l._number None) × (length l.slots.items ≡ l._number)
