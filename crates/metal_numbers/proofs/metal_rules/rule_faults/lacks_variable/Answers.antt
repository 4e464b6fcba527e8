use Rattle.std.proofs.Common.{sym, ◌∙◌}
use Rattle.metal_written.specs.Placed.{placed_view}
use Rattle.metal_numbers.specs.MetalRules.RuleFaults.{needed_hole}
use Rattle.metal_numbers.proofs.MetalRules.Variables.{any_past}
use Rattle.metal_numbers.proofs.MetalRules.Lacking.{by-hole, by-asked, by-neither, needed-here}
use Rattle.metal_numbers.proofs.metal_rules.rule_faults.lacks_variable.Goals as goal

pub returns-then-some_lacks : goal.returns-then-some_lacks
returns-then-some_lacks c =
    let holes = c.args.holes.now in
    let rule = placed_view c.args.rule.now in
    let here = needed-here holes rule c.loop-hole.hole-index _ c.loop-hole-test.true (sym c.needs.ensures ∙ c.if-needs.true) (sym c.some_lacks.ensures ∙ c.if-some_lacks.true) in
    sym (by-hole holes rule (sym c.loop-hole.invariant ∙ here))

pub returns-then-asks_of_other : goal.returns-then-asks_of_other
returns-then-asks_of_other c =
    c.if-asks_of_other.true ∙ sym (by-asked c.args.holes.now (placed_view c.args.rule.now) (sym c.asks_of_other.ensures ∙ c.if-asks_of_other.true))

pub returns-else-asks_of_other : goal.returns-else-asks_of_other
returns-else-asks_of_other c =
    let holes = c.args.holes.now in
    let rule = placed_view c.args.rule.now in
    let past = any_past (needed_hole rule) holes c.loop-hole.hole-index c.loop-hole-test.false in
    c.lacks_other.ensures ∙ by-neither holes rule (sym c.loop-hole.invariant ∙ past) (sym c.asks_of_other.ensures ∙ c.if-asks_of_other.false)
