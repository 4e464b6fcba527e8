use Rattle.std.proofs.Common.{◌≡◌, ◌∙◌, ◌&&◌, List, [], ◌∷◌, map, refl, ap}
use Rattle.std.specs.List.{list_all}
use Rattle.metal_tree.specs.Views.{rule_view}
use Rattle.metal_tree.specs.declared.rules.Rule.{Rule}
use Rattle.suffix_summary.specs.InStart.{stays}
use Rattle.suffix_summary.proofs.met_states.start.stays_in_start.Goals as goal

of_views : (rs : List Rule) → list_all (λ r. stays (rule_view r)) rs ≡ list_all stays (map rule_view rs)
of_views [] = refl
of_views (r ∷ rs) = ap (λ b. stays (rule_view r) && b) (of_views rs)

pub returns : goal.returns
returns c = c.all_stay.ensures ∙ of_views c.args.machine.now.rules.now
