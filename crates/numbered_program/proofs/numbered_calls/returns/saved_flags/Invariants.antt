use Rattle.std.proofs.Common.{◌≡◌, map, take}
use Rattle.numbered_program.specs.NumberedCalls.Rows.{is_saved}
use Rattle.refine_restore.specs.Sites.{site_of}
use Rattle.numbered_program.proofs.numbered_calls.returns.saved_flags.Given as goal

-- whether the objects that were gone through are saved
abbrev pub invariant-loop-object : goal.invariant-loop-object
invariant-loop-object l = l.flags.items ≡ map (is_saved l.depth (site_of l.depth l.site) l.caller.objects.now.keys l.callee.objects.now.keys) (take l.object-index l.objects)
