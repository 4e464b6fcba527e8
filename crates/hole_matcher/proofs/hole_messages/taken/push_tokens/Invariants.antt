use Rattle.std.proofs.Common.{◌≡◌, ◌++◌, ℕ, List, drop}
use Rattle.hole_matcher.specs.HoleMessages.Beginnings.{shown, names_spelled}
use Rattle.hole_matcher.proofs.hole_messages.taken.push_tokens.Given as goal

-- what is left is still to come
abbrev pub invariant-loop-token : goal.invariant-loop-token
invariant-loop-token l = (rest : List (List ℕ)) → shown l.into (names_spelled l.names (drop l.token-index l.tokens) ++ rest) ≡ shown l.initial.into (names_spelled l.names l.tokens ++ rest)
