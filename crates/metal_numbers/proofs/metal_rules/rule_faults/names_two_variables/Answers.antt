use Rattle.std.proofs.Common.{sym, ◌∙◌}
use Rattle.metal_grammar.specs.Faults.{mentioned}
use Rattle.metal_written.specs.Placed.{placed_view}
use Rattle.metal_numbers.proofs.MetalRules.Variables.{two_none, two_some}
use Rattle.metal_numbers.proofs.metal_rules.rule_faults.names_two_variables.Goals as goal

pub returns-in-None : goal.returns-in-None
returns-in-None c = sym (two_none c.args.variables.now (mentioned (placed_view c.args.rule.now)) (sym c.first_named.ensures ∙ c.in-None.is))

pub returns-in-Some : goal.returns-in-Some
returns-in-Some c = c.names_other.ensures ∙ two_some c.args.variables.now (mentioned (placed_view c.args.rule.now)) c.in-Some.first (sym c.first_named.ensures ∙ c.in-Some.is)
