use Rattle.std.proofs.Common.{◌∙◌, None, Some}
use Rattle.path_model.specs.CheckerGraphs.Graphs.{function_at}
use Rattle.edge_rules.specs.declared.callees.Callee.{Callee}
use Rattle.edge_rules.proofs.Followed.{none-into}
use Rattle.function_tables.specs.EngineTables.Known.{checker_in, texts_in}
use Rattle.function_tables.proofs.EngineTables.Places.{leads-into}
use Rattle.edge_rules.proofs.callees.callee_of.Goals as goal

pub returns-in_err-number-clause-followed : goal.returns-in_err-number-clause-followed
returns-in_err-number-clause-followed c = λ k n d es call next at tables has.
    let t = c.args.tables.now in
    leads-into t n d call None at (c.in_err-number.ensures (checker_in t).machine t.depth (texts_in t) d es call next tables has)
    ∙ none-into (λ (x : Callee). function_at (texts_in t) x.number) c.from_residual.result c.from_residual.ensures

pub returns-in_err-frame-clause-followed : goal.returns-in_err-frame-clause-followed
returns-in_err-frame-clause-followed c = λ k n d es call next at tables has.
    let t = c.args.tables.now in
    leads-into t n d call (Some c.in_ok-number.number) at (c.in_ok-number.ensures (checker_in t).machine t.depth (texts_in t) d es call next tables has)
    ∙ c.frame.ensures.missing c.in_err-frame.was k ∙ none-into (λ (x : Callee). function_at (texts_in t) x.number) c.from_residual-in_err-frame.result c.from_residual-in_err-frame.ensures

pub returns-clause-followed : goal.returns-clause-followed
returns-clause-followed c = λ k n d es call next at tables has.
    let t = c.args.tables.now in
    leads-into t n d call (Some c.in_ok-number.number) at (c.in_ok-number.ensures (checker_in t).machine t.depth (texts_in t) d es call next tables has)
