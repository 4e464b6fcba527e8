-- the members so far and those that are left are all
use Rattle.std.proofs.Common.{◌≡◌, ◌++◌, drop, flat_map}
use Rattle.report_model.specs.OfReporters.Members.{member_text}
use Rattle.report_model.proofs.reporters.json.write_members.Given as goal

abbrev pub invariant-loop-member : goal.invariant-loop-member
invariant-loop-member l = l.into ++ flat_map member_text (drop l.member-index l.members) ≡ l.initial.into ++ flat_map member_text l.members
