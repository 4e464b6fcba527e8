use Rattle.std.proofs.Common.{arith}
use Rattle.hole_matcher.specs.HoleBindings.Bindings.{binding_of}
use Rattle.hole_matcher.specs.HoleBindings.Settings.{setting_in}
use Rattle.hole_matching.specs.Message.{piece_written}
use Rattle.hole_matcher.specs.HoleMessages.Sources.{source_in, maybe_object}
use Rattle.hole_matcher.proofs.HoleMessages.Messages.{begun_next, on_err}
use Rattle.metal_tree.specs.Views.{piece_view}
use Rattle.hole_matcher.proofs.hole_messages.written.write_pieces.Goals as goal

pub returns-in_err-write_piece-clause-err : goal.returns-in_err-write_piece-clause-err
returns-in_err-write_piece-clause-err c =
    on_err c.from_residual.result _
    (begun_next (piece_written (setting_in c.args.setting.now) (source_in c.args.setting.now.unit.now c.args.names.now) (binding_of c.args.binding.now) (maybe_object c.args.object)) piece_view c.args.pieces.now c.loop-piece.piece-index _ c.args.into.now c.loop-piece.into c.write_piece.new.into (omega arith) c.loop-piece.invariant c.in_err-write_piece.ensures.err)
