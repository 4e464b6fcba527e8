use Rattle.std.proofs.Common.{◌&&◌, not, ap, ◌∙◌}
use Rattle.metal_grammar.specs.Grammar.{some, is_pattern, is_end}
use Rattle.metal_written.specs.Written.{alternative_view}
use Rattle.metal_forms.proofs.well_formed.is_alternative.Goals as goal

pub returns-then-are_items : goal.returns-then-are_items
returns-then-are_items c = λ b k.
    let a = alternative_view c.args.alternative.now in
    c.is_apart.ensures ∙ ap (λ x. x && not (some is_pattern a && some is_end a)) (c.if-are_items.ensures b k)

pub returns-else-are_items : goal.returns-else-are_items
returns-else-are_items c = λ b k.
    let a = alternative_view c.args.alternative.now in
    c.if-are_items.false ∙ ap (λ x. x && not (some is_pattern a && some is_end a)) (c.if-are_items.ensures b k)
