use Rattle.std.proofs.Common.{sym}
use Rattle.metal_reader.proofs.MetalFaults.Order.{limit_told}
use Rattle.metal_reader.proofs.metal_faults.first_fault.check_limit.Goals as goal

pub returns-in-Some : goal.returns-in-Some
returns-in-Some c = limit_told c.args.which c.args.file c.in-Some.position _ (sym c.in-Some.ensures)
