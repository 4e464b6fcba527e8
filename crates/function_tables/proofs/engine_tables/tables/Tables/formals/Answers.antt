use Rattle.std.proofs.Common.{◌∙◌, sym, ap}
use Rattle.std.specs.Option.{option_map}
use Rattle.c_tree.specs.Views.{node_of}
use Rattle.function_tables.proofs.EngineTables.CallSites.{formals-found, formals-missing}
use Rattle.function_tables.proofs.engine_tables.tables.Tables.formals.Goals as goal
use Rattle.call_graph.specs.declared.programs.functions.FnId.{FnId}

pub returns-in-Some : goal.returns-in-Some
returns-in-Some c =
    formals-found c.args.self.now.program.now.units.items c.args.file (node_of c.args.call.now) c.in-Some.f.number c.function.result.now c.as_slice.result.now
    (sym (ap (option_map (λ (f : FnId). f.number)) c.in-Some.is) ∙ c.body_called.ensures.kept) c.function.ensures.defined c.as_slice.ensures.value

pub returns-in-None : goal.returns-in-None
returns-in-None c =
    formals-missing c.args.self.now.program.now.units.items c.args.file (node_of c.args.call.now) (sym (ap (option_map (λ (f : FnId). f.number)) c.in-None.is) ∙ c.body_called.ensures.kept)
