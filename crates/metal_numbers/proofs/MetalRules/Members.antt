-- The members of a row that was made of a list, and what they give.
use Rattle.std.proofs.Common.{◌≡◌, ◌<◌, List, length, map, arith}
use Rattle.std.proofs.lemmas.List.{length-map}
use Rattle.metal_grammar.specs.Written.{members}
use Rattle.metal_written.specs.Written.{row_from}
use Rattle.metal_written.proofs.Any.{mapped-drop, mapped-end, any-append}
use Rattle.metal_written.proofs.Nodes.{among-append}
use Rattle.metal_written.proofs.Rows.{members-row}

pub members-mapped : {A B : Type 0} (none : B) (view : A → B) (xs : List A) → 0 < length xs → members (row_from none (map view xs)) ≡ map view xs
members-mapped none view xs h = let e : length (map view xs) ≡ length xs = length-map xs view in members-row none (map view xs) (omega (arith, e, h))

pub ruleset gathered = (mapped-drop, mapped-end, members-mapped, among-append, any-append)
