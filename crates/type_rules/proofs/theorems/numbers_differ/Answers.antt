use Rattle.type_rules.proofs.Numbers.{numbered-apart}
use Rattle.type_rules.proofs.theorems.numbers_differ.Goals as goal

pub returns : goal.returns
returns c unit low high ts rest h = numbered-apart unit low high ts rest h
