use Rattle.std.proofs.Common.{◌≡◌, ◌++◌, length}
use Rattle.std.specs.Vec.Iter.{into_iter_items, into_iter_len}
use Rattle.path_model.specs.CheckerGraphs.Members.{members}
use Rattle.relevant.proofs.relevant_objects.members.add_members.Given as goal

-- those that were gone through were put behind
abbrev pub invariant-loop-object : goal.invariant-loop-object
invariant-loop-object l = record {
  split : l.yielded ++ into_iter_items l.object-iterator ≡ into_iter_items l.initial.object-iterator;
  items : l.found.items ≡ l.fn.found.items ++ members l.number l.yielded;
  len : into_iter_len l.object-iterator ≡ length (into_iter_items l.object-iterator);
}
