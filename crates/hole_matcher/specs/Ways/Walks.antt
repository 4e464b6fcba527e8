-- A way to prove what matches (`Matched` of `hole_matching`): steps of a walk over a pattern.
-- The steps of a walk over a pattern.
use Rattle.std.specs.Prelude.{ℕ, Bool, true, false, cond, Option, None, Some}
use Rattle.hole_matcher.specs.declared.seat.Seat as code
use Rattle.hole_matcher.specs.declared.seat.Seat.TheVariants as seat
use Rattle.tree_comparison.specs.TreeLevels.Levels.{Opened}
use Rattle.hole_matching.specs.Holes.{Setting}
use Rattle.hole_matching.specs.Matched.{matched_all}
use Rattle.hole_matching.specs.Matching.{Binding, Seat, Argument, Elsewhere, first_seat}
use Rattle.hole_matching.specs.Pattern.{Pattern, hole, likewise, other, Patterns, no_more, more, same_head}

-- the hole that a pattern is
abbrev pub hole_in : Pattern → Option ℕ
hole_in (hole n) = Some n
hole_in _ = None

-- a pattern that isn't a hole, against the head and the parts of a subject
abbrev pub matched_opened : Setting → Pattern → Option Opened → Binding → Option Binding
matched_opened g (likewise h ps) (Some x) b = cond (same_head x.0 h) (matched_all g (first_seat h) ps x.1 b) None
matched_opened g _ _ b = None

abbrev pub seat_of : code.Seat → Seat
seat_of seat.Argument = Argument
seat_of seat.Elsewhere = Elsewhere

-- what stands behind a pattern, as far as matters for it: nothing if it is the last one
abbrev pub behind_it : Bool → Patterns
behind_it true = no_more
behind_it false = more other no_more
