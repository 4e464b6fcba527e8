use Rattle.std.proofs.Common.{◌≡◌, take, true}
use Rattle.least_set.specs.Logs.{IsExactly, SomeGives}
use Rattle.block_flows.specs.TupleFlows.Facts.{is_in, with_object}
use Rattle.block_flows.proofs.tuple_flows.parts.with_followed.Given as goal

-- the objects that were gone through have given theirs
abbrev pub invariant-loop-object : goal.invariant-loop-object
invariant-loop-object l = IsExactly l.list.items (SomeGives (λ o u. (is_in l.followed.keys o ≡ true) × (with_object l.tuple o ≡ u)) (take l.object-index l.objects))
