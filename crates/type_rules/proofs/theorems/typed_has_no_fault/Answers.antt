use Rattle.type_rules.proofs.DeclarationExamples.{undeclared}
use Rattle.type_rules.proofs.ExpressionExamples.{last_int}
use Rattle.type_rules.proofs.UnitExamples.{narrow_string}
use Rattle.type_rules.proofs.Units.{not-both}
use Rattle.type_rules.proofs.theorems.typed_has_no_fault.Goals as goal

pub returns : goal.returns
returns c unit table fault t f = let e = last_int in let d = undeclared in let s = narrow_string in not-both unit table fault t f
