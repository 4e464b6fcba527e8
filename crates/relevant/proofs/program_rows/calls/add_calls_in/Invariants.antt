use Rattle.std.proofs.Common.{◌≡◌, All, Some, map, take}
use Rattle.least_set.specs.Logs.{Adds, SomeGives}
use Rattle.relevant.specs.ProgramRows.Ends.{followed_at, followed_in, IsSite}
use Rattle.relevant.proofs.program_rows.calls.add_calls_in.Given as goal

-- those of the blocks before this one were put last
abbrev pub invariant-loop-block : goal.invariant-loop-block
invariant-loop-block l = record {
  calls : Adds (SomeGives (λ b f. followed_at l.table l.caller b ≡ Some f) (take l.block-index l.blocks)) (map followed_in l.fn.calls.items) (map followed_in l.calls.items);
  sites : All (IsSite l.program.units.items) l.calls.items;
}
