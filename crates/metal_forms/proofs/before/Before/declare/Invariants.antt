use Rattle.std.proofs.Common.{◌≡◌, ℕ, nat_eq, drop}
use Rattle.indexmap.specs.IndexMap.{get}
use Rattle.metal_forms.specs.Before.{or_else}
use Rattle.metal_forms.proofs.Seats.{seat_among}
use Rattle.metal_forms.proofs.before.Before.declare.Given as goal

abbrev pub invariant-loop-name : goal.invariant-loop-name
invariant-loop-name l = record {
  seats : (q : ℕ) → or_else (get nat_eq l.self.seats q) (seat_among l.seat (drop l.name-index l.name-items) q) ≡ or_else (get nat_eq l.fn.self.seats q) (seat_among l.seat l.declaration.names.now q);
  section : l.self.section ≡ l.fn.self.section;
}
