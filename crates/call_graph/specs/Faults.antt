-- Which fault of linking there is.
use Rattle.std.specs.Prelude.{◌≡◌, ℕ, Option, Some, ⊤}
use Rattle.c_tree.specs.declared.place.Place.{Place}
use Rattle.type_rules.specs.Functions.{Defined}
use Rattle.call_graph.specs.declared.fault.LinkFault.{LinkFault}
use Rattle.call_graph.specs.declared.fault.LinkFault.TheVariants.{DuplicateFunction, NoMemory}

-- The link fault has this name and place. Want of memory may come at any time.
abbrev pub IsLinkFault : LinkFault → Option (ℕ × Place) → Type 0
IsLinkFault (DuplicateFunction name place) fault = fault ≡ Some (name, place)
IsLinkFault NoMemory fault = ⊤

-- the name and place are those of this definition
abbrev pub IsOf : ℕ → Place → Option Defined → Type 0
IsOf name place repeat = (f : Defined) × (repeat ≡ Some f) × (f.name ≡ name) × (f.place ≡ place)

abbrev pub IsRepeat : LinkFault → Option Defined → Type 0
IsRepeat (DuplicateFunction name place) repeat = IsOf name place repeat
IsRepeat NoMemory repeat = ⊤
