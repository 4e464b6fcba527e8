use Rattle.std.proofs.Common.{◌∙◌, sym, ap}
use Rattle.std.specs.Option.{option_map}
use Rattle.hole_matcher.proofs.HoleBindings.HoleTypes.{types_at}
use Rattle.hole_matcher.proofs.hole_bindings.holes.declared.Goals as goal
use Rattle.metal_tree.specs.declared.holes.HoleDecl.{HoleDecl}
use Rattle.metal_tree.specs.Views.{hole_type_view}

pub returns-in-Some : goal.returns-in-Some
returns-in-Some c =
    sym (types_at c.args.setting.now.holes.now c.args.hole ∙ ap (option_map (λ (h : HoleDecl). hole_type_view h.of)) (sym c.item_at.ensures ∙ c.in-Some.is))

pub returns-in-None : goal.returns-in-None
returns-in-None c =
    sym (types_at c.args.setting.now.holes.now c.args.hole ∙ ap (option_map (λ (h : HoleDecl). hole_type_view h.of)) (sym c.item_at.ensures ∙ c.in-None.is))
