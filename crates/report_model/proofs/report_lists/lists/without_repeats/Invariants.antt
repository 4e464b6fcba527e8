use Rattle.std.proofs.Common.{◌≡◌, ◌++◌, length}
use Rattle.std.specs.Vec.Iter.{into_iter_items, into_iter_len}
use Rattle.report_model.specs.Order.{report_cmp}
use Rattle.report_model.specs.ReportLists.Repeats.{IsEachOnce}
use Rattle.report_model.proofs.report_lists.lists.without_repeats.Given as goal

-- of those that were gone through each is kept once
abbrev pub invariant-loop-report : goal.invariant-loop-report
invariant-loop-report l = record {
  split : l.yielded ++ into_iter_items l.report-iterator ≡ into_iter_items l.initial.report-iterator;
  once : IsEachOnce report_cmp l.yielded l.kept.items;
  len : into_iter_len l.report-iterator ≡ length (into_iter_items l.report-iterator);
}
