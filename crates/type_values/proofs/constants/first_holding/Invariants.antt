use Rattle.std.proofs.Common.{◌≡◌, drop, map}
use Rattle.type_rules.specs.Constants.{first_holding}
use Rattle.type_values.specs.Types.{arithmetic_of}
use Rattle.type_values.proofs.constants.first_holding.Given as goal

-- the kinds that are left decide
abbrev pub invariant-loop-kind : goal.invariant-loop-kind
invariant-loop-kind l = first_holding l.value (map arithmetic_of (drop l.kind-index l.kinds)) ≡ first_holding l.value (map arithmetic_of l.kinds)
