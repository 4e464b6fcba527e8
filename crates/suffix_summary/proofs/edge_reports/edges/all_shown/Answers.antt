use Rattle.std.proofs.Common.{◌+◌, ◌≤◌, ◌<◌, arith, length, sym, subst, get_or, take, []}
use Rattle.std.proofs.lemmas.Grind.{common_steps}
use Rattle.std.proofs.lemmas.List.{get_or_default}
use Rattle.std.proofs.lemmas.Option.{slice_get-get_or}
use Rattle.block_flows.proofs.Fires.{exactly-joined}
use Rattle.least_set.specs.Logs.{IsExactly, SomeGives}
use Rattle.least_set.proofs.Enumerating.{exactly_none}
use Rattle.least_set.proofs.Growing.{all_of}
use Rattle.numbered_engine.specs.declared.edges.NumberedEdge.{NumberedEdge}
use Rattle.row_flows.specs.declared.tuples.NumberedTuple.{NumberedTuple}
use Rattle.suffix_summary.specs.EdgeReports.Shown.{ShowsIn}
use Rattle.suffix_summary.proofs.edge_reports.edges.all_shown.Goals as goal

abbrev no_tuple : NumberedTuple
no_tuple = record { global = 0; state = 0; object = 0 }

abbrev zero : NumberedEdge
zero = record { context = record { function = 0; entry = no_tuple }; block = 0; tuple = no_tuple }

pub loop-index-init : goal.loop-index-init
loop-index-init g c = record {
  shown = λ states k.
      let G = ShowsIn c.args.tables.now states c.args.engine.now.program.now in
      subst (λ l. IsExactly l (SomeGives G [])) (sym c.new-reports.ensures.items) (exactly_none G);
  within = omega arith;
}

pub loop-index-preserved : goal.loop-index-preserved
loop-index-preserved g c =
    let at = c.loop-index in
    let xs = c.args.log.now.keys in
    let i = at.index in
    let within : i < length xs = grind (arith, common_steps) in
    record {
      shown = λ states k.
          let G = ShowsIn c.args.tables.now states c.args.engine.now.program.now in
          let x = get_or xs i zero in
          subst (λ l. IsExactly l (SomeGives G (take (i + 1) xs))) (sym c.in_ok-append.ensures.items)
          (exactly-joined G xs i x at.reports.items c.in_ok-more.more.items within (get_or_default xs i zero x within) (at.invariant.shown states k)
          (c.in_ok-more.ensures states x k (slice_get-get_or xs i zero within)));
      within = grind (arith, within);
    }

pub returns : goal.returns
returns g c = λ states k.
    let at = c.loop-index in
    let xs = c.args.log.now.keys in
    let all : length xs ≤ at.index = grind (arith, common_steps) in
    all_of (λ l. IsExactly at.reports.items (SomeGives (ShowsIn c.args.tables.now states c.args.engine.now.program.now) l)) xs at.index all at.invariant.within (at.invariant.shown states k)
