-- no reporter so far has the name
use Rattle.std.proofs.Common.{◌≡◌, ◌+◌, map, drop}
use Rattle.std.specs.List.{position_or_len}
use Rattle.std.specs.Str.{bytes_eq}
use Rattle.report_model.proofs.reporters.chosen.place_or_count.Given as goal

abbrev pub invariant-loop-reporter : goal.invariant-loop-reporter
invariant-loop-reporter g l = record {
  at : l.place ≡ l.reporter-index;
  rest : l.place + position_or_len (bytes_eq l.name) (map (λ b. (goal.Reporter-dyn g (b.vtable, b.value)).called b.value) (drop l.reporter-index l.reporters)) ≡ position_or_len (bytes_eq l.name) (map (λ b. (goal.Reporter-dyn g (b.vtable, b.value)).called b.value) l.reporters);
}
