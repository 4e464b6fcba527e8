-- What patterns are matched under, as the definitions have it.
use Rattle.std.specs.Prelude.{map}
use Rattle.hole_matcher.specs.declared.hole_bindings.setting.Setting as code
use Rattle.hole_matching.specs.Holes.{Setting}
use Rattle.metal_tree.specs.Views.{hole_view}
use Rattle.objects.specs.Units.{facts_in}

abbrev pub setting_in : code.Setting → Setting
setting_in s = record {
  facts = facts_in s.unit.now;
  depth = s.depth;
  variables = s.variables;
  holes = map (λ h. h.of) (map hole_view s.holes.now);
  function = s.function;
}
