use Rattle.function_tables.proofs.EngineTables.CallSites.{none-past, site-there}
use Rattle.function_tables.proofs.engine_tables.tables.Tables.site.Goals as goal

pub returns-then-function-count-clause-missing : goal.returns-then-function-count-clause-missing
returns-then-function-count-clause-missing c = λ e. none-past c.args.self.now.program.now.units.items c.args.function c.count.result c.count.ensures c.if-function-count.true

pub returns-clause-there : goal.returns-clause-there
returns-clause-there c = λ d at.
    site-there c.args.self.now.program.now.units.items c.args.self.now.depth c.args.function d c.function-defined.result.now
    record { call = c.args.call; unit = c.unit-unit.result; formals = c.formals-formals.result } at c.function-defined.ensures.defined c.unit-unit.ensures c.formals-formals.ensures
