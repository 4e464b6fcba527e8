use Rattle.std.proofs.Common.{◌≡◌, map, take}
use Rattle.std.specs.List.{enumerate_from}
use Rattle.numbered_program.specs.NumberedCalls.Rows.{entered_row}
use Rattle.refine_restore.specs.Sites.{site_of}
use Rattle.numbered_program.proofs.numbered_calls.entries.entered_rows.Given as goal

-- the rows of the objects that were gone through
abbrev pub invariant-loop-place : goal.invariant-loop-place
invariant-loop-place l = l.rows.items ≡ map (entered_row l.depth (site_of l.depth l.site) l.caller.objects.now.keys l.callee.objects.now.keys) (take l.place (enumerate_from 1 l.objects))
