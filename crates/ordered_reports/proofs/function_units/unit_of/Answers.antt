use Rattle.std.proofs.Common.{◌≤◌, subst}
use Rattle.ordered_reports.proofs.UnitsOfFunctions.{unit-there, no-function}
use Rattle.ordered_reports.proofs.function_units.unit_of.Goals as goal

pub returns-then-number-count-clause-missing : goal.returns-then-number-count-clause-missing
returns-then-number-count-clause-missing c none =
    no-function c.args.program.now.units.items c.args.number (subst (λ k. k ≤ c.args.number) c.count.ensures c.if-number-count.true)

pub returns-clause-there : goal.returns-clause-there
returns-clause-there c =
    unit-there c.args.program.now.units.items c.args.number c.function-function.result.now c.unit.result c.function-function.ensures.defined c.unit.ensures
