use Rattle.std.proofs.Common.{◌∙◌}
use Rattle.c_tree.specs.Views.{node_of}
use Rattle.call_graph.proofs.FunctionGraphs.Tables.{declared_in}
use Rattle.call_graph.proofs.function_graphs.facts.UnitFactsFacts.variable_of.Goals as goal

pub returns : goal.returns
returns c =
    let known = c.args.self.now in
    c.declared.ensures ∙ declared_in known.program.now.units.items known.file known.unit (node_of c.args.declarator.now) known.found
