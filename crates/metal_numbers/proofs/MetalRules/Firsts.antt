-- The first of what many things give.
use Rattle.std.proofs.Common.{◌≡◌, List, [], ◌∷◌, ◌++◌, Option, None, Some, refl}
use Rattle.metal_written.proofs.Any.{mapped-drop, mapped-end}
use Rattle.metal_numbers.specs.MetalRules.RuleFaults.{first_of}
use Rattle.metal_numbers.proofs.MetalRules.Members.{members-mapped}

-- the first of all that these give
abbrev pub or_first : {A : Type 0} → Option A → Option A → Option A
or_first None later = later
or_first (Some x) later = Some x

pub first-append : {A : Type 0} (xs ys : List A) → first_of (xs ++ ys) ≡ or_first (first_of xs) (first_of ys)
first-append [] ys = refl
first-append (x ∷ xs) ys = refl

pub ruleset firsts = (mapped-drop, mapped-end, members-mapped, first-append)
