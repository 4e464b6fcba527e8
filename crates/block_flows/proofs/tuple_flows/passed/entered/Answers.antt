use Rattle.std.proofs.Common.{◌≡◌, ◌∙◌, sym, subst, true, Some}
use Rattle.path_model.specs.CheckerModel.Calls.{into}
use Rattle.least_set.specs.Logs.{IsExactly, SomeGives}
use Rattle.refine_restore.specs.Sites.{site_of}
use Rattle.block_flows.specs.TupleFlows.Facts.{is_in, with_object}
use Rattle.block_flows.specs.TupleFlows.Passed.{into_in}
use Rattle.block_flows.proofs.TupleFlows.Followed.{exactly-taken, none-taken}
use Rattle.block_flows.proofs.TupleFlows.Lists.{if-ok}
use Rattle.block_flows.proofs.tuple_flows.passed.entered.Goals as goal

pub returns-then-not-is_followed : goal.returns-then-not-is_followed
returns-then-not-is_followed c =
    let s = site_of c.args.depth c.args.site.now in
    let t = c.args.tuple.now in
    let b = c.args.object.now in
    let here = c.args.caller_objects.now.keys in
    let there = c.args.callee_objects.now.keys in
    subst (λ l. IsExactly l (SomeGives (λ o u. (into_in c.args.depth s here there o ≡ Some b) × (with_object t o ≡ u)) there)) (sym c.new.ensures.items)
    (none-taken (with_object t) (into c.args.depth s) b there here (sym c.is_followed.ensures ∙ c.if-not-is_followed.true))

pub returns : goal.returns
returns c =
    let s = site_of c.args.depth c.args.site.now in
    let t = c.args.tuple.now in
    let b = c.args.object.now in
    let here = c.args.caller_objects.now.keys in
    let there = c.args.callee_objects.now.keys in
    let begun = c.in_ok-begun.begun.items in
    let are = c.in_ok-begun.ensures in
    if-ok _ _ c.with_followed.result
    (λ list x. exactly-taken (with_object t) (into c.args.depth s) b there here begun list.items (sym c.is_followed.ensures ∙ c.if-not-is_followed.false) are.real are.whole
    (subst (λ l. IsExactly list.items (SomeGives (λ o u. (is_in there o ≡ true) × (with_object t o ≡ u)) l)) c.as_slice.ensures.value x))
    c.with_followed.ensures
