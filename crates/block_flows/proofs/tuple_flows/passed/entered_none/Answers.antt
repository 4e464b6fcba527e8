use Rattle.std.proofs.Common.{◌∙◌, sym, subst, ap, [], ◌∷◌, ◌++◌, None}
use Rattle.least_set.specs.Logs.{IsExactly}
use Rattle.refine_restore.specs.Sites.{site_of}
use Rattle.block_flows.specs.TupleFlows.Passed.{IsEntered}
use Rattle.block_flows.proofs.TupleFlows.Calls.{entered-without, into-there}
use Rattle.block_flows.proofs.tuple_flows.passed.entered_none.Goals as goal

pub returns : goal.returns
returns c =
    let t = c.args.tuple.now in
    let here = c.args.caller_objects.now.keys in
    let there = c.args.callee_objects.now.keys in
    let out = c.in_ok-list.list.items in
    λ none k s f e is. subst (λ l. IsExactly l (IsEntered k s f here there t)) (sym (c.in_ok-push.ensures.items ∙ ap (λ z. out ++ z ∷ []) c.without_object.ensures))
    (entered-without k s f here there t out none (into-there c.args.depth k.depth (site_of c.args.depth c.args.site.now) s here there t None out e is.formals is.actuals none c.in_ok-list.ensures))
