use Rattle.std.proofs.Common.{◌≡◌, take, slice_get}
use Rattle.std.specs.Prelude.{flat_map}
use Rattle.std.specs.Option.{option_to_list}
use Rattle.relevant.proofs.program_rows.listing.calls_at.Given as goal

-- those at the positions before this one
abbrev pub invariant-loop-position : goal.invariant-loop-position
invariant-loop-position l = l.list.items ≡ flat_map (λ i. option_to_list (slice_get l.calls i)) (take l.position-index l.positions)
