use Rattle.std.proofs.Common.{sym, subst}
use Rattle.block_flows.proofs.TupleFlows.Lists.{if-ok}
use Rattle.numbered_program.specs.EventTables.Rows.{AreEventRows}
use Rattle.numbered_program.proofs.event_tables.rows.block_rows.Goals as goal

pub returns : goal.returns
returns c = if-ok _ _ c.new.result
    (λ block same m depth hs f a index are.
    let n = c.args.numbering.now in
    subst (AreEventRows m depth f n.objects.now.keys n.states.now.states.keys hs) (sym same) (c.in_ok-rows.ensures m depth hs f a index are))
    c.new.ensures
