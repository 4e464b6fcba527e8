use Rattle.std.proofs.Common.{◌≡◌, map, take}
use Rattle.unit_typing.specs.Scopes.{scopes_of, with_members}
use Rattle.unit_typing.specs.Views.{member_entry}
use Rattle.unit_typing.proofs.scopes.Scopes.add_members.Given as goal

abbrev pub invariant-loop-member : goal.invariant-loop-member
invariant-loop-member l = scopes_of l.self ≡ with_members (scopes_of l.fn.self) (map member_entry (take l.member-index l.members))
