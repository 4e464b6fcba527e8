use Rattle.std.proofs.Common.{◌∙◌, sym, ap, refl, not, true, false}
use Rattle.path_model.specs.CheckerModel.Calls.{out}
use Rattle.refine_restore.specs.Sites.{site_of}
use Rattle.block_flows.proofs.TupleFlows.Followed.{none-test, some-test, unfollowed-test}
use Rattle.edge_rules.proofs.wait_rules.at_calls.is_kept.Goals as goal

pub returns-then-not-is_followed : goal.returns-then-not-is_followed
returns-then-not-is_followed c =
    let call = c.args.call.now in
    let o = c.args.object.now in
    unfollowed-test call.caller_objects.now.keys call.callee_objects.now.keys o (out c.args.depth (site_of c.args.depth call.site) o) _ (sym c.is_followed.ensures ∙ c.if-not-is_followed.true) refl

pub returns-in-Some : goal.returns-in-Some
returns-in-Some c =
    let call = c.args.call.now in
    let o = c.args.object.now in
    some-test call.caller_objects.now.keys call.callee_objects.now.keys o (out c.args.depth (site_of c.args.depth call.site) o) c.in-Some.through _ c.is_followed-in-Some.result
    (sym c.is_followed.ensures ∙ c.if-not-is_followed.false) (sym c.out_of_callee.ensures ∙ c.in-Some.is) c.is_followed-in-Some.ensures refl

pub returns-in-None : goal.returns-in-None
returns-in-None c =
    let call = c.args.call.now in
    let o = c.args.object.now in
    none-test call.caller_objects.now.keys call.callee_objects.now.keys o (out c.args.depth (site_of c.args.depth call.site) o) _ refl (sym c.out_of_callee.ensures ∙ c.in-None.is)
