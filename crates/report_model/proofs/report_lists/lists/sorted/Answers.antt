use Rattle.std.proofs.Common.{Contains}
use Rattle.std.proofs.lemmas.Result.{IfOk-weaker}
use Rattle.report_model.specs.Order.{report_cmp}
use Rattle.report_model.specs.declared.report.Report.{Report}
use Rattle.report_model.specs.ReportLists.Repeats.{HasEqual, IsEachOnce}
use Rattle.report_model.proofs.ReportLists.EachOnce.{all_there, reordered}
use Rattle.report_model.proofs.ReportLists.Orders.{reports_total}
use Rattle.report_model.proofs.report_lists.lists.sorted.Goals as goal

pub returns-clause-real : goal.returns-clause-real
returns-clause-real c =
    let given = c.args.reports.items in
    let made = c.without_repeats.result in
    IfOk-weaker made (λ kept. IsEachOnce report_cmp given kept.items) (λ kept. (r : Report) → Contains kept.items r → Contains given r) (λ kept e. e.real)
    (reordered report_cmp reports_total made (λ kept. kept.items) given _ c.put_in_order.ensures.permutation c.without_repeats.ensures)

pub returns-clause-whole : goal.returns-clause-whole
returns-clause-whole c =
    let given = c.args.reports.items in
    let made = c.without_repeats.result in
    IfOk-weaker made (λ kept. IsEachOnce report_cmp given kept.items) (λ kept. (r : Report) → Contains given r → HasEqual report_cmp kept.items r) (λ kept e. e.whole)
    (reordered report_cmp reports_total made (λ kept. kept.items) given _ c.put_in_order.ensures.permutation c.without_repeats.ensures)

pub returns-clause-same : goal.returns-clause-same
returns-clause-same c agree =
    let given = c.args.reports.items in
    let made = c.without_repeats.result in
    IfOk-weaker made (λ kept. IsEachOnce report_cmp given kept.items) (λ kept. (r : Report) → Contains given r → Contains kept.items r)
    (λ kept e. all_there report_cmp reports_total given kept.items e agree)
    (reordered report_cmp reports_total made (λ kept. kept.items) given _ c.put_in_order.ensures.permutation c.without_repeats.ensures)
