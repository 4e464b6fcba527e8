use Rattle.std.proofs.Common.{◌≡◌, ◌≤◌, ◌∙◌, arith, ap, length, sym}
use Rattle.std.proofs.Math.Logic.{∥∥₁_map}
use Rattle.function_tables.proofs.EngineTables.Places.{if-ok, apart-in}
use Rattle.function_tables.specs.EngineTables.Known.{checker_in, texts_in, graphs_in}
use Rattle.path_model.proofs.CheckerGraphs.Units.{functions-are}
use Rattle.path_model.specs.CheckerPrograms.Texts.{functions_in}
use Rattle.suffix_summary.proofs.StartAlone.{enough_in_start}
use Rattle.suffix_summary.proofs.followed_sets.bound_at_first.Goals as goal

pub returns : goal.returns
returns c =
    let t = c.args.known.now.tables in
    let ts = texts_in t in
    let same : length (functions_in ts) ≡ c.count.result = ap length (functions-are t.program.now.units.items) ∙ sym c.count.ensures in
    let all : length (functions_in ts) ≤ c.count.result = omega (arith, same) in
    if-ok _ _ c.bound_in_start.result
    (λ bound listed. ∥∥₁_map c.args.known.now.known (λ a.
    enough_in_start (checker_in t) ts (graphs_in t) c.requires a.tables.graphs (apart-in t) bound.items c.count.result all (listed (checker_in t) ts a.tables) c.known_lists_are_enough.ensures))
    c.bound_in_start.ensures
