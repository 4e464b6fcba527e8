use Rattle.std.proofs.Common.{ap, map}
use Rattle.std.proofs.Math.Logic.{∥∥₁_map}
use Rattle.std.proofs.lemmas.Slice.Zip.{AllZip-long}
use Rattle.flow_graph.specs.Seen.{graph_in}
use Rattle.ordered_reports.specs.Reporting.{checker_of}
use Rattle.suffix_summary.specs.Reading.{StandsFor}
use Rattle.typed_unit.specs.Texts.{texts_of}
use Rattle.command.proofs.CheckerReports.Counting.{counts-log}
use Rattle.command.proofs.checker_reports.entries.one_log.Goals as goal

-- the log has as many entries as the numbers that read as it
pub returns-clause-log : goal.returns-clause-log
returns-clause-log c =
    let checker = checker_of c.args.number c.args.machine.now c.args.names.now c.args.depth in
    let texts = texts_of c.args.program.now.units.items in
    let found = c.in_ok-found.found in
    let graphs = map (λ g. graph_in g) c.args.graphs.now in
    let lists = map (λ s. s.keys) found.objects.items in
    ∥∥₁_map c.in_ok-found.ensures.log
    (λ read. counts-log checker texts graphs read.log _ c.args.steps.now.count _ found.steps.count read.graphs read.is (AllZip-long (StandsFor checker texts graphs lists read.states) found.log.keys read.log read.reads) (ap (λ s. s.count) c.replace-before.ensures.value) c.in_ok-found.ensures.steps)
