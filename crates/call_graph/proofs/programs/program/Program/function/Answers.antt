use Rattle.std.proofs.Common.{length, sym}
use Rattle.std.proofs.Math.Logic.{∥∥₁_elim}
use Rattle.std.proofs.lemmas.Option.{slice_get_read}
use Rattle.std.proofs.Props.{props}
use Rattle.call_graph.specs.OfPrograms.Definitions.{definitions, trees_in}
use Rattle.call_graph.proofs.OfPrograms.Files.{file-below}
use Rattle.call_graph.proofs.OfPrograms.Listed.{counted, kept-at}
use Rattle.typed_unit.specs.Functions.{function_of}
use Rattle.call_graph.proofs.programs.program.Program.function.Goals as goal

pub returns-clause-defined : goal.returns-clause-defined
returns-clause-defined c =
    let fs = c.args.self.now.functions.all.items in
    let ds = definitions (trees_in c.args.self.now.units.items) in
    kept-at fs ds c.args.f.number c.index.result.now c.args.self.now.listed
    (slice_get_read fs (length ds) c.args.f.number c.index.result.now (sym (counted fs ds c.args.self.now.listed)) c.requires c.index.ensures)

pub returns-clause-placed : goal.returns-clause-placed
returns-clause-placed c =
    let units = c.args.self.now.units.items in
    ∥∥₁_elim (returns-clause-defined c) (Prim.hlevel props)
    (λ d. ∥∥₁_elim (file-below units c.args.f.number (function_of c.index.result.now.now) c.args.self.now.numbered d) (Prim.hlevel props) (λ b. b))
