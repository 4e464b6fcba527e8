use Rattle.std.proofs.Common.{arith}
use Rattle.std.specs.Str.{bytes_eq}
use Rattle.report_model.proofs.OfReporters.Places.{position_here, place_within}
use Rattle.report_model.proofs.reporters.chosen.place_of.Goals as goal

pub returns-clause-first : goal.returns-clause-first
returns-clause-first g c = position_here (bytes_eq c.args.name.now) (λ b. (goal.Reporter-dyn g (b.vtable, b.value)).called b.value) c.args.reporters.now c.place_or_count-place.result c.place_or_count-place.ensures c.if-place-reporters.false

pub returns-clause-within : goal.returns-clause-within
returns-clause-within g c =
    omega (arith, c.place_or_count-place.ensures, place_within (bytes_eq c.args.name.now) (λ b. (goal.Reporter-dyn g (b.vtable, b.value)).called b.value) c.args.reporters.now)
