use Rattle.std.proofs.Common.{map}
use Rattle.typed_unit.specs.Texts.{texts_of}
use Rattle.command.specs.CheckerReports.Checkers.{checkers_in}
use Rattle.command.proofs.CheckerReports.Gathering.{gathered-none, gathered-next}
use Rattle.least_set.proofs.Growing.{all_of}
use Rattle.metal_tree.specs.Whole.{machine_view}
use Rattle.ordered_reports.proofs.InOrder.{HasReports}
use Rattle.command.proofs.checker_reports.reports.gathered.Goals as goal

pub loop-number-init : goal.loop-number-init
loop-number-init c = gathered-none (texts_of c.args.program.now.units.items) c.args.depth c.args.names.now _ c.new-all.ensures.items

pub loop-number-preserved : goal.loop-number-preserved
loop-number-preserved c =
    gathered-next (texts_of c.args.program.now.units.items) c.args.depth c.args.names.now c.args.machines.now c.loop-number.number c.index-machines-number.result c.loop-number.all.items c.in_ok-more.more.items _
    c.loop-number-test.true c.index-machines-number.is c.in_ok-append.ensures.items c.loop-number.invariant c.in_ok-more.ensures

pub returns : goal.returns
returns c =
    all_of (λ machines. ∥ HasReports (checkers_in (map machine_view machines) c.args.depth c.args.names.now) (texts_of c.args.program.now.units.items) c.loop-number.all.items ∥₁)
    c.args.machines.now c.loop-number.number c.loop-number-test.false c.loop-number.auto.number-end c.loop-number.invariant
