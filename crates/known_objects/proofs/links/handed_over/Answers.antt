use Rattle.std.proofs.Common.{sym, subst}
use Rattle.known_objects.proofs.Gifts.{handed-given}
use Rattle.known_objects.proofs.links.handed_over.Goals as goal
use Rattle.known_objects.specs.Linked.{handed_by}
use Rattle.known_search.proofs.Lists.{if-ok, none}
use Rattle.least_set.specs.Logs.{IsExactly}

pub returns : goal.returns
returns c =
    if-ok _ _ c.handed_to.result
    (λ list are. handed-given c.args.depth c.args.call.now c.args.callee c.args.object.now c.args.caller list.items are c.if-call-callee.false c.if-call-caller.false)
    c.handed_to.ensures

pub returns-then-call-callee : goal.returns-then-call-callee
returns-then-call-callee c =
    subst (λ l. IsExactly l (handed_by c.args.depth c.args.call.now c.args.callee c.args.object.now c.args.caller)) (sym c.new.ensures.items)
    (none (handed_by c.args.depth c.args.call.now c.args.callee c.args.object.now c.args.caller) (λ o h. c.if-call-callee.true h.0))

pub returns-then-call-caller : goal.returns-then-call-caller
returns-then-call-caller c =
    subst (λ l. IsExactly l (handed_by c.args.depth c.args.call.now c.args.callee c.args.object.now c.args.caller)) (sym c.new-then-call-caller.ensures.items)
    (none (handed_by c.args.depth c.args.call.now c.args.callee c.args.object.now c.args.caller) (λ o h. c.if-call-caller.true h.1))
