use Rattle.std.proofs.Common.{◌∙◌, sym, ap, refl}
use Rattle.objects.specs.Origins.{origin_of}
use Rattle.path_model.specs.CheckerModel.Calls.{into}
use Rattle.refine_restore.specs.Sites.{site_of}
use Rattle.block_flows.proofs.TupleFlows.Followed.{none-test, some-test}
use Rattle.block_flows.proofs.tuple_flows.passed.begins_unknown.Goals as goal

pub returns-in-Same : goal.returns-in-Same
returns-in-Same c = λ i.
    let o = c.args.object.now in
    some-test c.args.callee_objects.now.keys c.args.caller_objects.now.keys o (into c.args.depth (site_of c.args.depth c.args.site.now) o) o _ c.is_followed.result i
    (sym c.into_callee.ensures ∙ ap (origin_of o) c.in-Same.is) c.is_followed.ensures refl

pub returns-in-From : goal.returns-in-From
returns-in-From c = λ i.
    let o = c.args.object.now in
    some-test c.args.callee_objects.now.keys c.args.caller_objects.now.keys o (into c.args.depth (site_of c.args.depth c.args.site.now) o) c.in-From.source _ c.is_followed-in-From.result i
    (sym c.into_callee.ensures ∙ ap (origin_of o) c.in-From.is) c.is_followed-in-From.ensures refl

pub returns-in-Nothing : goal.returns-in-Nothing
returns-in-Nothing c = λ i.
    let o = c.args.object.now in
    none-test c.args.callee_objects.now.keys c.args.caller_objects.now.keys o (into c.args.depth (site_of c.args.depth c.args.site.now) o) _ refl
    (sym c.into_callee.ensures ∙ ap (origin_of o) c.in-Nothing.is)
