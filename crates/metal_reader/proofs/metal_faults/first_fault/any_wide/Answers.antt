use Rattle.metal_reader.proofs.MetalFaults.Actions.{wide_members}
use Rattle.metal_reader.proofs.metal_faults.first_fault.any_wide.Goals as goal

pub loop-literal-init : goal.loop-literal-init
loop-literal-init c = wide_members c.args.action
