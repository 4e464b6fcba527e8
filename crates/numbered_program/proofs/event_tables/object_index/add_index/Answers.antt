use Rattle.std.proofs.Common.{◌++◌, sym, ap, ◌∙◌}
use Rattle.block_flows.proofs.TupleFlows.Lists.{if-ok}
use Rattle.numbered_program.proofs.EventTables.Variables.{put_nowhere, put_there}
use Rattle.numbered_program.specs.EventTables.ObjectIndex.{numbers_at}
use Rattle.objects.specs.Selectors.{selectors_of}
use Rattle.type_values.specs.Vars.{cvar_of}
use Rattle.numbered_program.proofs.event_tables.object_index.add_index.Goals as goal

pub returns-then-stands_in : goal.returns-then-stands_in
returns-then-stands_in c = λ v.
    put_nowhere (cvar_of c.args.base) (selectors_of c.args.before.now) (cvar_of c.args.index) v c.args.number (numbers_at c.args.numbers.now v) (sym c.stands_in.ensures ∙ c.if-stands_in.true)

pub returns : goal.returns
returns c = if-ok _ _ c.add.result
    (λ done h v. h v ∙ ap (λ z. numbers_at c.args.numbers.now v ++ z)
    (put_there (cvar_of c.args.base) (selectors_of c.args.before.now) (cvar_of c.args.index) v c.args.number (sym c.stands_in.ensures ∙ c.if-stands_in.false)))
    c.add.ensures
