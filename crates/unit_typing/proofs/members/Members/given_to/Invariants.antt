use Rattle.std.proofs.Common.{◌≡◌, ◌++◌, drop}
use Rattle.unit_typing.specs.Members.{given_at, given_by}
use Rattle.unit_typing.proofs.members.Members.given_to.Given as goal

abbrev pub invariant-loop-position : goal.invariant-loop-position
invariant-loop-position l = l.found.items ++ given_at l.owner (drop l.position-index l.position-items) l.self.all.items ≡ given_by l.owner l.number l.self.all.items
