-- One item of an alternative.
use Rattle.std.specs.Prelude.{Bool, true, Option, Some}
use Rattle.hole_matching.specs.Callouts.{holds}
use Rattle.hole_matching.specs.Holes.{Setting}
use Rattle.hole_matching.specs.Matched.{matched}
use Rattle.hole_matching.specs.Matching.{Binding}
use Rattle.hole_matching.specs.Written.{pattern_of}
use Rattle.metal_tree.specs.MetalMachines.Machine.{Item, Base, Holds, EndOfPath}
use Rattle.c_tree.specs.PathSubjects.Subjects.{Subject}

-- the binding behind a base pattern; the others change none
abbrev pub matched_item : Setting → Item → Subject → Binding → Option Binding
matched_item g (Base e) s b = matched g (pattern_of e) s b
matched_item g _ s b = Some b

-- a callout holds; the others ask nothing
abbrev pub item_holds : Setting → Item → Binding → Bool
item_holds g (Holds c) b = holds g c b
item_holds g _ b = true
