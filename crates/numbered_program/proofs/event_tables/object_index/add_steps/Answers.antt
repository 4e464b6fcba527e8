use Rattle.numbered_program.proofs.EventTables.Variables.{steps_more, steps_none, steps_all}
use Rattle.numbered_program.specs.EventTables.ObjectIndex.{numbers_at}
use Rattle.type_values.specs.Vars.{cvar_of}
use Rattle.numbered_program.proofs.event_tables.object_index.add_steps.Goals as goal

pub loop-count-init : goal.loop-count-init
loop-count-init c = λ v. steps_none (cvar_of c.args.base) v c.args.number (numbers_at c.args.numbers.now v)

pub loop-count-preserved : goal.loop-count-preserved
loop-count-preserved c = λ v.
    let at = c.loop-count in
    steps_more (cvar_of c.args.base) c.args.steps.now c.front.result.now at.count _ v c.args.number (numbers_at c.args.numbers.now v) (numbers_at at.numbers v) (numbers_at c.add_step.new.numbers v)
    c.loop-count-test.true c.front.ensures (at.invariant v) (c.in_ok-add_step.ensures v)

pub returns : goal.returns
returns c = λ v.
    steps_all (cvar_of c.args.base) c.args.steps.now c.loop-count.count v c.args.number (numbers_at c.args.numbers.now v) (numbers_at c.loop-count.numbers v) c.loop-count-test.false (c.loop-count.invariant v)
