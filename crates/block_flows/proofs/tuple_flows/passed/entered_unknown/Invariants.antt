use Rattle.std.proofs.Common.{◌≡◌, take, None}
use Rattle.refine_restore.specs.Sites.{site_of}
use Rattle.least_set.specs.Logs.{IsExactly, SomeGives}
use Rattle.block_flows.specs.TupleFlows.Facts.{with_object}
use Rattle.block_flows.specs.TupleFlows.Passed.{into_in}
use Rattle.block_flows.proofs.tuple_flows.passed.entered_unknown.Given as goal

-- the objects that were gone through have given theirs
abbrev pub invariant-loop-object : goal.invariant-loop-object
invariant-loop-object l =
    IsExactly l.list.items (SomeGives (λ o u. (into_in l.depth (site_of l.depth l.site) l.caller_objects.keys l.callee_objects.keys o ≡ None) × (with_object l.tuple o ≡ u)) (take l.object-index l.objects))
