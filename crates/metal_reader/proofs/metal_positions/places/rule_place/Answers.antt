use Rattle.std.proofs.Common.{◌≡◌, ◌+◌, ◌≤◌, ◌&&◌, nat_eq, false, true, Some, None, ap, sym, ◌∙◌, arith}
use Rattle.metal_clauses.specs.Places.{place_in}
use Rattle.metal_reader.proofs.MetalPositions.Walking.{found_from, found_turn, found_here, found_end, place_found, depth_next, count_next}
use Rattle.metal_reader.proofs.metal_positions.places.rule_place.Goals as goal

pub returns-then-is_reached : goal.returns-then-is_reached
returns-then-is_reached c cs w =
    let all = c.all-all.result.now in
    let index = c.loop-index.index in
    let reached : (c.begins_rule-begins.result && nat_eq (c.loop-index.number + 1) c.args.rule) ≡ true = sym c.is_reached.ensures ∙ c.if-is_reached.true in
    let here : found_from c.loop-index.depth c.loop-index.number c.args.rule all index ≡ Some (index + 1) =
    found_here c.loop-index.depth c.loop-index.number c.args.rule all index _ c.begins_rule-begins.result c.loop-index-test.true c.begins_rule-begins.ensures reached
    in
    ap (λ spot. Some (place_in spot.place.file (index + 1))) c.end.ensures
    ∙ place_found c.args.names.now cs all c.args.tokens.now.all c.args.tokens.now.end.place.file c.args.rule (Some (index + 1)) c.all-all.ensures.all w (sym here ∙ c.loop-index.invariant.found)

pub loop-index-preserved : goal.loop-index-preserved
loop-index-preserved c =
    let all = c.all-all.result.now in
    let index = c.loop-index.index in
    let other : (c.begins_rule-begins.result && nat_eq (c.loop-index.number + 1) c.args.rule) ≡ false = sym c.is_reached.ensures ∙ c.if-is_reached.false in
    let depth : c.open_behind-depth.result ≤ c.loop-index.depth + 1 = depth_next c.loop-index.depth c.open_behind-depth.result all index _ c.open_behind-depth.ensures in
    let number : c.counted-number.result ≤ c.loop-index.number + 1 = count_next c.begins_rule-begins.result c.loop-index.number c.counted-number.result c.counted-number.ensures in
    let low = c.loop-index.invariant.depth in
    let few = c.loop-index.invariant.number in
    let inside = c.loop-index-test.true in
    record {
      found =
          found_turn c.loop-index.depth c.loop-index.number c.args.rule all index _ c.begins_rule-begins.result c.open_behind-depth.result c.counted-number.result c.loop-index-test.true c.begins_rule-begins.ensures other
          c.open_behind-depth.ensures c.counted-number.ensures
          ∙ c.loop-index.invariant.found;
      index = omega (arith, inside);
      depth = omega (arith, depth, low);
      number = omega (arith, number, few);
      few = c.loop-index.invariant.few;
    }

pub returns : goal.returns
returns c cs w =
    let all = c.all-all.result.now in
    let end : found_from c.loop-index.depth c.loop-index.number c.args.rule all c.loop-index.index ≡ None = found_end c.loop-index.depth c.loop-index.number c.args.rule all c.loop-index.index c.loop-index-test.false in
    place_found c.args.names.now cs all c.args.tokens.now.all c.args.tokens.now.end.place.file c.args.rule None c.all-all.ensures.all w (sym end ∙ c.loop-index.invariant.found)
