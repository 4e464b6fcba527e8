use Rattle.std.proofs.Common.{rules, sym, ◌∙◌, ◌≡◌, false, is_none}
use Rattle.metal_grammar.specs.Faults.{any_wide}
use Rattle.metal_grammar.specs.Written.{members}
use Rattle.metal_written.specs.Written.{literals_row}
use Rattle.metal_numbers.specs.MetalBuilding.Builders.{numbers}
use Rattle.metal_reader.proofs.MetalFaults.Actions.{bad_format}
use Rattle.metal_reader.proofs.metal_faults.first_fault.is_bad_format.Goals as goal

pub returns-in_ok-action-in-Some : goal.returns-in_ok-action-in-Some
returns-in_ok-action-in-Some c =
    let narrow : any_wide (members (literals_row c.in-Some.written.literals)) ≡ false = sym c.any_wide.ensures ∙ c.if-any_wide.false in
    let asked : c.is_none.result ≡ is_none c.in_ok-action-in-Some.field-0 = search rules in
    asked ∙ bad_format (numbers c.args.builder.now) c.args.action c.in-Some.written c.in_ok-action-in-Some.field-0 c.in-Some.is narrow c.in_ok-action-in-Some.ensures
