use Rattle.std.proofs.Common.{sym, ◌∙◌, arith}
use Rattle.metal_written.proofs.MetalNames.Positions.{within}
use Rattle.metal_written.proofs.metal_names.holes.name_as_hole.Goals as goal

pub overflow_cast-result : goal.overflow_cast-result
overflow_cast-result c =
    let below = within c.args.holes.now c.args.name.now.name c.in-Some.number (sym c.number_among.ensures ∙ c.in-Some.is) in
    let few = c.requires in
    omega arith
