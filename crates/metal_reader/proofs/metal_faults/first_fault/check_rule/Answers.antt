use Rattle.std.proofs.Common.{◌≡◌, true, false, None, Some, sym, ap, ◌∙◌}
use Rattle.metal_grammar.specs.Faults as faults
use Rattle.metal_numbers.specs.MetalRules.RuleFaults.{first_of}
use Rattle.metal_written.specs.Placed.{placed_view}
use Rattle.metal_clauses.specs.Places.{place_in}
use Rattle.metal_reader.specs.declared.metal_faults.fault.MetalFault.TheVariants as refusals
use Rattle.metal_reader.proofs.MetalFaults.Order.{unknown_told, behind_callouts, two_told, split_told, source_told, missing_told, format_told}
use Rattle.metal_reader.proofs.metal_faults.first_fault.check_rule.Goals as goal

pub returns-in-Some : goal.returns-in-Some
returns-in-Some c =
    let known = sym c.in-Some.ensures in
    unknown_told c.args.builder.now.file c.in-Some.name c.args.rule.now.position _ _ known

pub returns-then-names_two_variables : goal.returns-then-names_two_variables
returns-then-names_two_variables c =
    let rule = placed_view c.args.rule.now in
    let file = c.args.builder.now.file in
    let two = sym c.names_two_variables.ensures ∙ c.if-names_two_variables.true in
    behind_callouts c.args.builder.now.names.now c.args.variables.now c.args.holes.now rule file (refusals.TwoVariables rule.number) (sym c.in_default.ensures)
    (two_told file rule.number _ _ _ _ _ two)

pub returns-then-is_bad_split : goal.returns-then-is_bad_split
returns-then-is_bad_split c =
    let rule = placed_view c.args.rule.now in
    let file = c.args.builder.now.file in
    let two = sym c.names_two_variables.ensures ∙ c.if-names_two_variables.false in
    let split = sym c.is_bad_split.ensures ∙ c.if-is_bad_split.true in
    behind_callouts c.args.builder.now.names.now c.args.variables.now c.args.holes.now rule file (refusals.BadSplit rule.number) (sym c.in_default.ensures)
    (split_told file rule.number _ _ _ _ _ two split)

pub returns-then-is_bad_source : goal.returns-then-is_bad_source
returns-then-is_bad_source c =
    let rule = placed_view c.args.rule.now in
    let file = c.args.builder.now.file in
    let two = sym c.names_two_variables.ensures ∙ c.if-names_two_variables.false in
    let split = sym c.is_bad_split.ensures ∙ c.if-is_bad_split.false in
    let source = sym c.is_bad_source.ensures ∙ c.if-is_bad_source.true in
    behind_callouts c.args.builder.now.names.now c.args.variables.now c.args.holes.now rule file (refusals.BadSource rule.number) (sym c.in_default.ensures)
    (source_told file rule.number _ _ _ _ _ two split source)

pub returns-then-lacks_variable : goal.returns-then-lacks_variable
returns-then-lacks_variable c =
    let rule = placed_view c.args.rule.now in
    let file = c.args.builder.now.file in
    let two = sym c.names_two_variables.ensures ∙ c.if-names_two_variables.false in
    let split = sym c.is_bad_split.ensures ∙ c.if-is_bad_split.false in
    let source = sym c.is_bad_source.ensures ∙ c.if-is_bad_source.false in
    let missing = sym c.lacks_variable.ensures ∙ c.if-lacks_variable.true in
    behind_callouts c.args.builder.now.names.now c.args.variables.now c.args.holes.now rule file (refusals.VariableMissing rule.number) (sym c.in_default.ensures)
    (missing_told file rule.number _ _ _ _ _ two split source missing)

pub returns-then-branch : goal.returns-then-branch
returns-then-branch c =
    let rule = placed_view c.args.rule.now in
    let file = c.args.builder.now.file in
    let two = sym c.names_two_variables.ensures ∙ c.if-names_two_variables.false in
    let split = sym c.is_bad_split.ensures ∙ c.if-is_bad_split.false in
    let source = sym c.is_bad_source.ensures ∙ c.if-is_bad_source.false in
    let missing = sym c.lacks_variable.ensures ∙ c.if-lacks_variable.false in
    let format = sym c.in_ok-is_bad_format.ensures ∙ c.if-branch.true in
    behind_callouts c.args.builder.now.names.now c.args.variables.now c.args.holes.now rule file (refusals.BadFormat rule.number) (sym c.in_default.ensures)
    (format_told file rule.number _ _ _ _ _ two split source missing format)
