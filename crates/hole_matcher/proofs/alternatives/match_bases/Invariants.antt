use Rattle.std.proofs.Common.{◌≡◌, map, drop}
use Rattle.hole_matcher.specs.HoleBindings.Bindings.{binding_of}
use Rattle.hole_matcher.specs.HoleBindings.Settings.{setting_in}
use Rattle.hole_matcher.proofs.alternatives.match_bases.Given as goal
use Rattle.hole_matching.specs.Alternatives.{matched_bases}
use Rattle.metal_tree.specs.Views.{item_view}
use Rattle.c_tree.specs.PathSubjects.Values.{subject_of}

-- what is left decides
abbrev pub invariant-loop-item : goal.invariant-loop-item
invariant-loop-item l = matched_bases (setting_in l.setting) (map item_view (drop l.item-index l.items)) (subject_of l.subject) (binding_of l.into) ≡ matched_bases (setting_in l.setting) (map item_view l.items) (subject_of l.subject) (binding_of l.initial.into)
