-- those that are lent, and those that are left, are all
use Rattle.std.proofs.Common.{◌≡◌, ◌++◌, drop, map}
use Rattle.command.proofs.judged_files.lending.lent_units.Given as goal

abbrev pub invariant-loop-unit : goal.invariant-loop-unit
invariant-loop-unit l = map (λ u. u.now) l.lent.items ++ drop l.unit-index l.units ≡ l.units
