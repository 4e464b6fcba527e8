use Rattle.block_flows.proofs.TupleFlows.Lists.{if-ok}
use Rattle.numbered_program.proofs.EventTables.Variables.{both_put}
use Rattle.numbered_program.specs.EventTables.ObjectIndex.{numbers_at}
use Rattle.numbered_program.proofs.event_tables.object_index.add_object.Goals as goal

pub returns : goal.returns
returns c = if-ok _ _ c.add_steps.result
    (λ done h v. both_put c.args.object.now v c.args.number _ _ _ (numbers_at c.args.numbers.now v) (numbers_at c.add.new.numbers v) (numbers_at c.add_steps.new.numbers v)
    c.base.ensures c.base-2.ensures c.selectors.ensures.steps (c.in_ok-add.ensures v) (h v))
    c.add_steps.ensures
