use Rattle.std.proofs.Common.{is_some, ap, ◌∙◌}
use Rattle.metal_written.proofs.MetalNames.Positions.{counted}
use Rattle.metal_written.proofs.metal_names.holes.is_among.Goals as goal

pub returns : goal.returns
returns c = c.is_some.ensures ∙ ap is_some c.number_among.ensures ∙ counted c.args.names.now c.args.name
