use Rattle.std.proofs.Common.{◌≡◌, ◌++◌, map, take}
use Rattle.hole_matcher.specs.HoleBindings.Bindings.{binding_of}
use Rattle.hole_matcher.specs.HoleBindings.Settings.{setting_in}
use Rattle.hole_matching.specs.Message.{message}
use Rattle.hole_matcher.specs.HoleMessages.Sources.{source_in, maybe_object}
use Rattle.metal_tree.specs.Views.{piece_view}
use Rattle.hole_matcher.proofs.hole_messages.written.write_pieces.Given as goal

-- the message of the pieces so far is written
abbrev pub invariant-loop-piece : goal.invariant-loop-piece
invariant-loop-piece l = l.into ≡ l.initial.into ++ message (setting_in l.setting) (source_in l.setting.unit.now l.names) (map piece_view (take l.piece-index l.pieces)) (binding_of l.binding) (maybe_object l.object)
