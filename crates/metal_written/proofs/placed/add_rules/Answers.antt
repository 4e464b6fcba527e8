use Rattle.std.proofs.Common.{◌≡◌, ◌+◌, ◌≤◌, length, ap, ◌∙◌, sym, subst, arith}
use Rattle.metal_grammar.specs.Written.{members}
use Rattle.metal_grammar.specs.Phrases.{clause_tokens}
use Rattle.metal_grammar.specs.Rules.{count_of_rules}
use Rattle.metal_written.specs.Sizes.{HasSizes, HaveSizes}
use Rattle.metal_written.specs.Written.{content_view, maybe_head_view, rules_row}
use Rattle.metal_written.proofs.InSizes.{section-fits}
use Rattle.metal_written.proofs.InPlaces.{count-rules, number-moved}
use Rattle.metal_written.proofs.placed.add_rules.Goals as goal

pub add_section-requires-clause-few : goal.add_section-requires-clause-few
add_section-requires-clause-few c =
    let s = c.in-Rules.section in
    let e = count-rules s.rules.now s.some in
    let f : c.args.number + length (members (rules_row s.rules)) ≤ 1001 = subst (λ x. c.args.number + count_of_rules (content_view x) ≤ 1001) c.in-Rules.is c.requires.few in
    omega (arith, e, f)

pub add_section-requires-clause-room : goal.add_section-requires-clause-room
add_section-requires-clause-room c =
    let s = c.in-Rules.section in
    let clause = c.args.clause.now in
    let sizes : HaveSizes s.rules.now = subst HasSizes c.in-Rules.is c.requires.sizes.1 in
    let size = subst (λ x. clause.size ≡ length (clause_tokens (record { head = maybe_head_view clause.head; content = content_view x; closing = clause.closing }))) c.in-Rules.is c.requires.sizes.0 in
    let fits = section-fits (maybe_head_view clause.head) s clause.closing clause.size s.some sizes size in
    let head = c.head_size.ensures in
    let source = c.source_size.ensures in
    let room = c.requires.room in
    omega (arith, fits, head, source, room)

pub returns-in-Rules-clause-number : goal.returns-in-Rules-clause-number
returns-in-Rules-clause-number c =
    let s = c.in-Rules.section in
    number-moved c.add_section.result _ _ (ap (λ k. c.args.number + k) (sym (count-rules s.rules.now s.some)) ∙ ap (λ x. c.args.number + count_of_rules (content_view x)) (sym c.in-Rules.is)) c.add_section.ensures.number
