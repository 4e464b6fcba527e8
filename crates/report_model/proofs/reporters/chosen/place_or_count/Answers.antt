use Rattle.std.proofs.Common.{sym, ◌∙◌, arith}
use Rattle.std.specs.Str.{bytes_eq}
use Rattle.report_model.proofs.OfReporters.Places.{place_here, place_next}
use Rattle.report_model.proofs.reporters.chosen.place_or_count.Goals as goal

pub returns-then-has_name : goal.returns-then-has_name
returns-then-has_name g c =
    let same = sym c.has_name.ensures ∙ c.if-has_name.true in
    omega (arith, c.loop-reporter.invariant.rest, place_here (bytes_eq c.args.name.now) (λ b. (goal.Reporter-dyn g (b.vtable, b.value)).called b.value) c.args.reporters.now c.loop-reporter.reporter-index c.reporter-item.result (omega arith) c.reporter-item.is same)

pub loop-reporter-preserved : goal.loop-reporter-preserved
loop-reporter-preserved g c =
    let other = sym c.has_name.ensures ∙ c.if-has_name.false in
    record {
      at = omega (arith, c.loop-reporter.invariant.at);
      rest = omega (arith, c.loop-reporter.invariant.rest, place_next (bytes_eq c.args.name.now) (λ b. (goal.Reporter-dyn g (b.vtable, b.value)).called b.value) c.args.reporters.now c.loop-reporter.reporter-index c.reporter-item.result (omega arith) c.reporter-item.is other);
    }
