use Rattle.std.proofs.Common.{◌∙◌, sym, ap, drop}
use Rattle.path_model.specs.CheckerModel.Calls.{first_actual}
use Rattle.objects.specs.Units.{facts_in}
use Rattle.refine_restore.proofs.HandedObjects.Positions.{actual-at, actual-past}
use Rattle.refine_restore.proofs.handed_objects.takers.actual_at.Goals as goal

pub returns-then-position-actuals : goal.returns-then-position-actuals
returns-then-position-actuals c =
    let u = facts_in c.args.site.now.unit.now in
    c.object_of.ensures
    ∙ sym (actual-at u c.args.depth c.actuals-actuals.result.now c.args.position _ c.if-position-actuals.true)
    ∙ ap (λ l. first_actual (drop c.args.position l)) (c.actuals-actuals.ensures u c.args.depth)

pub returns-else-position-actuals : goal.returns-else-position-actuals
returns-else-position-actuals c =
    let u = facts_in c.args.site.now.unit.now in
    sym (actual-past u c.args.depth c.actuals-actuals.result.now c.args.position c.if-position-actuals.false)
    ∙ ap (λ l. first_actual (drop c.args.position l)) (c.actuals-actuals.ensures u c.args.depth)
