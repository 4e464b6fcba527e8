-- What is known of what stands before a clause.
use Rattle.std.specs.Prelude.{◌≡◌, ℕ, cond, nat_eq, Option, None, Some}
use Rattle.std.specs.Option.{option_map}
use Rattle.indexmap.specs.IndexMap.{get}
use Rattle.metal_grammar.specs.Grammar.{Before}
use Rattle.metal_grammar.specs.Holes.{type_of_hole}
use Rattle.metal_forms.specs.declared.before.Before.{Before as Known}
use Rattle.metal_written.specs.declared.kinds.Seat.{Seat}
use Rattle.metal_written.specs.Kinds.{seat_of}

-- each name's seat is that of its first declaration
pub record Knows (known : Known) (before : Before) : Type 0 where
  pub seat : (name : ℕ) → get nat_eq known.seats name ≡ option_map seat_of (type_of_hole before.holes name)
  pub sections : known.section ≡ before.section

-- the first of two that is there
abbrev pub or_else : Option Seat → Option Seat → Option Seat
or_else None later = later
or_else (Some seat) later = Some seat

-- One more name has this seat, unless it had one.
abbrev pub IsAdded : (ℕ → Option Seat) → (ℕ → Option Seat) → ℕ → Seat → Type 0
IsAdded old new name seat = (q : ℕ) → new q ≡ or_else (old q) (cond (nat_eq name q) (Some seat) None)
