use Rattle.edge_rules.proofs.Entered.{entries-exactly, of-entries}
use Rattle.edge_rules.proofs.entering.entered_with.Goals as goal
use Rattle.function_tables.proofs.EngineTables.Places.{if-ok}

pub returns : goal.returns
returns c =
    let f = c.args.callee.now in
    if-ok _ _ c.entered.result
    (λ list x k s h e i. entries-exactly k s h c.args.caller_objects.now.keys f.frame.objects.now.keys f.number _ c.args.tuple.now c.in_ok-entries.entries.items list.items (c.in_ok-entries.ensures k s h e i) (of-entries f.number _ _ _ _ list.items c.entry.ensures.number c.as_slice.ensures.value x))
    c.entered.ensures
