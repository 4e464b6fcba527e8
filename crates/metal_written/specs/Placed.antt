-- The rules of a text as they are kept.
use Rattle.std.specs.Prelude.{List, map}
use Rattle.metal_grammar.specs.Rules as rules
use Rattle.metal_written.specs.declared.placed.PlacedRule.{PlacedRule}
use Rattle.metal_written.specs.Written.{state_view, rule_view}

abbrev pub placed_view : PlacedRule → rules.PlacedRule
placed_view r = record { number = r.number; position = r.position; source = state_view r.source; rule = rule_view r.rule }

abbrev pub placed_views : List PlacedRule → List rules.PlacedRule
placed_views rs = map placed_view rs
