use Rattle.std.proofs.Common.{◌∙◌, List, length, ap, sym}
use Rattle.std.proofs.Math.Logic.{∥∥₁_elim}
use Rattle.type_rules.specs.Functions.{Defined}
use Rattle.call_graph.specs.OfPrograms.Bodies.{body_of}
use Rattle.call_graph.specs.OfPrograms.Definitions.{definitions, trees_in}
use Rattle.call_graph.proofs.OfPrograms.Found.{body-below, if-below}
use Rattle.call_graph.proofs.OfPrograms.Listed.{maybe-number-set}
use Rattle.call_graph.proofs.programs.program.Program.body_of.Goals as goal

pub returns-clause-body : goal.returns-clause-body
returns-clause-body c =
    ∥∥₁_elim c.args.self.now.listed (maybe-number-set _ _)
    (λ e. c.body_of.ensures ∙ ap (λ (fs : List Defined). body_of c.args.file c.args.name fs) e)

pub returns-clause-within : goal.returns-clause-within
returns-clause-within c =
    let defs = definitions (trees_in c.args.self.now.units.items) in
    if-below c.body_of.result (length defs) (λ i e. body-below c.args.file c.args.name i defs (sym (returns-clause-body c) ∙ e))
