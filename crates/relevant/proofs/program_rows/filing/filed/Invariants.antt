use Rattle.std.proofs.Common.{◌≡◌, length, take}
use Rattle.relevant.specs.ProgramRows.Filing.{IsFiled}
use Rattle.relevant.proofs.program_rows.filing.filed.Given as goal

-- the calls before this one are filed
abbrev pub invariant-loop-position : goal.invariant-loop-position
invariant-loop-position l = record {
  count : length l.lists.items ≡ l.count;
  filed : IsFiled (take l.position l.calls) l.count l.lists.items;
}
