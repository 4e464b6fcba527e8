use Rattle.std.proofs.Common.{◌≡◌, drop, map}
use Rattle.type_rules.specs.Rows.{first_clash}
use Rattle.unit_typing.specs.Scopes.{scopes_of}
use Rattle.unit_typing.specs.Views.{member_entry}
use Rattle.unit_typing.proofs.checks.check_members.Given as goal

-- the members that are left decide
abbrev pub invariant-loop-member : goal.invariant-loop-member
invariant-loop-member l = first_clash (scopes_of l.scopes) (map member_entry (drop l.member-index l.members)) ≡ first_clash (scopes_of l.scopes) (map member_entry l.members)
