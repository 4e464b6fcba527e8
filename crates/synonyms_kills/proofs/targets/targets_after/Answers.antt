use Rattle.std.proofs.Common.{◌∙◌, sym, ap, subst}
use Rattle.path_model.specs.CheckerModel.Moves.{move_of}
use Rattle.flow_graph.specs.Values.{event_of}
use Rattle.objects.specs.Units.{facts_in}
use Rattle.synonyms_kills.specs.Targets.{AreTargets, targets}
use Rattle.synonyms_kills.proofs.CopiedStates.{are_targets, no_targets, if-ok}
use Rattle.synonyms_kills.proofs.targets.targets_after.Goals as goal

pub returns-then-not-is_object : goal.returns-then-not-is_object
returns-then-not-is_object c =
    let u = facts_in c.args.unit.now in
    let e = event_of c.args.event.now in
    subst (AreTargets c.args.depth (move_of u c.args.depth e) c.args.object.now) (sym c.new.ensures.items) (no_targets u c.args.depth e c.args.object.now (sym c.is_object.ensures ∙ c.if-not-is_object.true))

pub returns : goal.returns
returns c =
    let u = facts_in c.args.unit.now in
    let e = event_of c.args.event.now in
    let o = c.args.object.now in
    let all = are_targets u c.args.depth e o (sym c.is_object.ensures ∙ c.if-not-is_object.false) in
    if-ok _ _ c.targets.result
    (λ list is. subst (AreTargets c.args.depth (move_of u c.args.depth e) o) (sym (is ∙ ap (λ m. targets c.args.depth m o) c.move_of-change.ensures)) all)
    c.targets.ensures
