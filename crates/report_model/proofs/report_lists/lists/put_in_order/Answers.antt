use Rattle.std.proofs.Common.{◌≡◌, rules, is_lt}
use Rattle.std.proofs.lemmas.List.Sorted.{answers_always, ranks_by}
use Rattle.report_model.specs.Order.{report_cmp}
use Rattle.report_model.proofs.ReportLists.Orders.{reports_total}
use Rattle.report_model.proofs.report_lists.lists.put_in_order.Goals as goal

pub returns-clause-order : goal.returns-clause-order
returns-clause-order c =
    c.sort_unstable_by.ensures.sorted (λ a b. is_lt (report_cmp a b)) (ranks_by reports_total (λ r. r))
    (answers_always _ (λ a r. is_lt r ≡ is_lt (report_cmp a.0.now a.1.0.now)) _ (λ f a r g k. search rules))
