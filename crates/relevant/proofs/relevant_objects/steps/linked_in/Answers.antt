use Rattle.std.proofs.Common.{subst}
use Rattle.least_set.specs.Logs.{Adds, SomeGives}
use Rattle.relevant.specs.RelevantObjects.Links.{LinksAt, LinksOver}
use Rattle.relevant.proofs.RelevantObjects.Gathered.{both-gathered}
use Rattle.relevant.proofs.relevant_objects.steps.linked_in.Goals as goal

pub returns : goal.returns
returns c =
    let d = c.args.depth in
    let x = c.args.member.now in
    let row = c.args.row.now in
    let at = SomeGives (LinksAt d row.unit.now x) row.events.items in
    let over = SomeGives (LinksOver d x) row.calls.items in
    both-gathered at over c.add_at_events.new.found.items c.add_over_calls.new.found.items
    (subst (λ l. Adds at l c.add_at_events.new.found.items) c.new-found.ensures.items c.in_ok-add_at_events.ensures) c.in_ok-add_over_calls.ensures
