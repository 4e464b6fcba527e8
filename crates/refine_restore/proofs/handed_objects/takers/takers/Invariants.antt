use Rattle.std.proofs.Common.{◌≡◌, drop}
use Rattle.refine_restore.specs.Ways.Takers.{is_taker, candidates, gathered, takers}
use Rattle.refine_restore.proofs.handed_objects.takers.takers.Given as goal
use Rattle.refine_restore.specs.Sites.{site_of}

-- those of the candidates that are left are the rest of the takers
abbrev pub invariant-loop-position : goal.invariant-loop-position
invariant-loop-position l =
    let s = site_of l.depth l.site in
    gathered (is_taker l.end l.depth s l.object) l.takers.items (drop l.position (candidates l.end l.depth l.object s.formals s.actuals)) ≡ takers l.end l.depth s l.object
