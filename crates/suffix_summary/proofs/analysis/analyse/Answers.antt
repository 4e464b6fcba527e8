use Rattle.std.proofs.Common.{◌+◌, ◌-◌, ◌^◌, ◌∙◌, ap, length, map, min}
use Rattle.flow_graph.specs.Seen.{graph_in}
use Rattle.ordered_reports.specs.Reporting.{checker_of}
use Rattle.typed_unit.specs.Texts.{texts_of}
use Rattle.suffix_summary.proofs.KnownLogs.{log-known, relevant-known, reports-known, tables-known, tables-of}
use Rattle.suffix_summary.proofs.analysis.analyse.Goals as goal

pub invariant_of-known : goal.invariant_of-known
invariant_of-known g c =
    let functions = c.in_ok-functions.functions.items in
    let sets = map (λ s. s.keys) c.in_ok-objects.objects.items in
    record {
      known = tables-known _ functions c.in_ok-roots.roots.items sets c.as_slice-2.ensures.value c.as_slice-4.ensures.value (ap (map (λ s. s.keys)) c.as_slice-3.ensures.value)
          c.in_ok-functions.ensures.tables c.in_ok-roots.ensures.exact
          (relevant-known (checker_of c.args.number c.args.machine.now c.args.names.now c.args.depth) (texts_of c.args.program.now.units.items) functions c.as_slice.result.now sets
          c.in_ok-functions.ensures.tables c.as_slice.ensures.value c.in_ok-objects.ensures);
    }

pub returns-clause-reports : goal.returns-clause-reports
returns-clause-reports g c =
    let t = tables-of c.in_ok-rows.ensures in
    let functions = c.in_ok-functions.functions.items in
    let sets = map (λ s. s.keys) c.in_ok-objects.objects.items in
    let relevant =
    relevant-known (checker_of c.args.number c.args.machine.now c.args.names.now c.args.depth) (texts_of c.args.program.now.units.items) functions c.as_slice.result.now sets
    c.in_ok-functions.ensures.tables c.as_slice.ensures.value c.in_ok-objects.ensures in
    let own = ap (map (λ s. s.keys)) c.as_slice-3.ensures.value in
    let known = tables-known t functions c.in_ok-roots.roots.items sets c.as_slice-2.ensures.value c.as_slice-4.ensures.value own c.in_ok-functions.ensures.tables c.in_ok-roots.ensures.exact relevant in
    reports-known t c.in_ok-rows.rows c.in_ok-rows.ensures known sets own relevant c.in_ok-log.log.keys c.counting-engine.result.program.now c.counting-engine.ensures.program
    c.in_ok-log.ensures.closed c.in_ok-log.ensures.only c.tabulate.new.engine.program.now c.in_ok-log.ensures.same
    c.in_ok-shown.shown.items c.in_ok-shown.ensures c.in_ok-reports.reports.items c.in_ok-reports.ensures.ascending c.in_ok-reports.ensures.real c.in_ok-reports.ensures.same

pub returns-clause-log : goal.returns-clause-log
returns-clause-log g c =
    let t = tables-of c.in_ok-rows.ensures in
    let functions = c.in_ok-functions.functions.items in
    let sets = map (λ s. s.keys) c.in_ok-objects.objects.items in
    let relevant =
    relevant-known (checker_of c.args.number c.args.machine.now c.args.names.now c.args.depth) (texts_of c.args.program.now.units.items) functions c.as_slice.result.now sets
    c.in_ok-functions.ensures.tables c.as_slice.ensures.value c.in_ok-objects.ensures in
    let own = ap (map (λ s. s.keys)) c.as_slice-3.ensures.value in
    let known = tables-known t functions c.in_ok-roots.roots.items sets c.as_slice-2.ensures.value c.as_slice-4.ensures.value own c.in_ok-functions.ensures.tables c.in_ok-roots.ensures.exact relevant in
    log-known t c.in_ok-rows.rows c.in_ok-rows.ensures known sets own relevant c.in_ok-log.log.keys c.counting-engine.result.program.now c.counting-engine.ensures.program
    c.in_ok-log.ensures.closed c.in_ok-log.ensures.only functions (map (λ g. graph_in g) c.args.graphs.now) c.as_slice-2.ensures.value c.in_ok-functions.ensures.graphs c.in_ok-log.ensures.once

pub returns-clause-steps : goal.returns-clause-steps
returns-clause-steps g c =
    c.into_steps-steps.ensures ∙ c.in_ok-log.ensures.steps ∙ ap (λ n. min (n + length c.in_ok-log.log.keys) (2 ^ 64 - 1)) c.counting-engine.ensures.steps
