use Rattle.std.proofs.Common.{◌++◌, sym, ap, ◌∙◌, append-nil}
use Rattle.block_flows.proofs.TupleFlows.Lists.{if-ok}
use Rattle.numbered_program.proofs.EventTables.Variables.{step_put}
use Rattle.numbered_program.specs.EventTables.ObjectIndex.{numbers_at}
use Rattle.objects.specs.Selectors.{selectors_of}
use Rattle.type_values.specs.Vars.{cvar_of}
use Rattle.numbered_program.proofs.event_tables.object_index.add_step.Goals as goal

pub returns-in-AtVar : goal.returns-in-AtVar
returns-in-AtVar c = rw c.in-AtVar.is (if-ok _ _ c.add_index.result
    (λ done h v. h v ∙ ap (λ z. numbers_at c.args.numbers.now v ++ z) (step_put (cvar_of c.args.base) (selectors_of c.args.before.now) (cvar_of c.in-AtVar.index) v c.args.number))
    c.add_index.ensures)

pub returns-in-Deref : goal.returns-in-Deref
returns-in-Deref c = rw c.in-Deref.is (λ v. sym (append-nil (numbers_at c.args.numbers.now v)))

pub returns-in-Field : goal.returns-in-Field
returns-in-Field c = rw c.in-Field.is (λ v. sym (append-nil (numbers_at c.args.numbers.now v)))

pub returns-in-At : goal.returns-in-At
returns-in-At c = rw c.in-At.is (λ v. sym (append-nil (numbers_at c.args.numbers.now v)))
