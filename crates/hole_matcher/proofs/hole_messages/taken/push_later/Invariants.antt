use Rattle.std.proofs.Common.{◌≡◌, ◌++◌, ℕ, List, drop}
use Rattle.c_tree.specs.Views.{nodes_in}
use Rattle.hole_matching.specs.Message.{later_spelled}
use Rattle.hole_matching.specs.Subjects.{trees}
use Rattle.hole_matcher.specs.HoleMessages.Beginnings.{shown}
use Rattle.hole_matcher.specs.HoleMessages.Sources.{source_of}
use Rattle.hole_matcher.proofs.hole_messages.taken.push_later.Given as goal

-- what is left is still to come
abbrev pub invariant-loop-argument : goal.invariant-loop-argument
invariant-loop-argument l = (rest : List (List ℕ)) → shown l.into (later_spelled (source_of l.source) (trees (nodes_in (drop l.argument-index l.arguments))) ++ rest) ≡ shown l.initial.into (later_spelled (source_of l.source) (trees (nodes_in l.arguments)) ++ rest)
