use Rattle.std.proofs.Common.{List, [], cond, sym, ap, ◌∙◌}
use Rattle.c_tree.specs.declared.token.Token.{Token}
use Rattle.hole_matcher.proofs.HoleMessages.Placed.{found_by}
use Rattle.hole_matcher.proofs.hole_messages.places.from_place.Goals as goal

pub returns-then-begins_at : goal.returns-then-begins_at
returns-then-begins_at c =
    let unit = c.args.unit.now in
    let rest : List Token = c.from_number-rest.result.now in
    ap (λ b. cond b rest []) (sym c.if-begins_at.true)
    ∙ found_by c.args.place unit.unit.file unit.unit.tokens.now rest c.begins_at.result unit.placed c.from_number-rest.ensures c.begins_at.ensures

pub returns-else-begins_at : goal.returns-else-begins_at
returns-else-begins_at c =
    let unit = c.args.unit.now in
    let rest : List Token = c.from_number-rest.result.now in
    ap (λ b. cond b rest []) (sym c.if-begins_at.false)
    ∙ found_by c.args.place unit.unit.file unit.unit.tokens.now rest c.begins_at.result unit.placed c.from_number-rest.ensures c.begins_at.ensures
