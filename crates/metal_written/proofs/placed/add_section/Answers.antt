use Rattle.std.proofs.Common.{◌<◌, ◌++◌, length, map, ap, refl, sym, arith}
use Rattle.std.proofs.lemmas.List.{length-map}
use Rattle.metal_written.specs.declared.placed.PlacedRule.{PlacedRule}
use Rattle.metal_written.specs.Placed.{placed_views}
use Rattle.metal_written.specs.Written.{no_rule, rule_view, state_view}
use Rattle.metal_written.proofs.InPlaces.{rules-row, rules-turn}
use Rattle.metal_written.proofs.placed.add_section.Goals as goal

pub loop-rule-init : goal.loop-rule-init
loop-rule-init c =
    let s = c.args.section in
    let some = s.some in
    let positive : 0 < length (map rule_view s.rules.now) = omega (arith, some, length-map s.rules.now rule_view) in
    record {
      placed = ap (λ x. placed_views c.args.placed.now.items ++ x) (sym (rules-row no_rule c.args.first c.args.position (state_view s.source) (map rule_view s.rules.now) positive));
      sizes = c.requires.sizes;
      room = omega arith;
      count = refl;
    }

pub loop-rule-preserved : goal.loop-rule-preserved
loop-rule-preserved c =
    let l = c.loop-rule in
    let placed : PlacedRule = record { number = l.number; position = l.at; source = c.args.section.source; rule = c.rule-item.result } in
    let t = rules-turn c.args.section.rules.now l.rule-index c.rule-item.result l.number l.at (state_view c.args.section.source) l.placed.items c.push.new.self.items placed _ _ _ (omega arith) c.rule-item.is refl c.in_ok-push.ensures.items l.invariant.placed l.invariant.sizes l.invariant.room l.invariant.count in
    record { placed = t.placed; sizes = t.sizes; room = t.room_left; count = t.count_left }
