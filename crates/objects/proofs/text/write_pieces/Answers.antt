use Rattle.std.proofs.Common.{◌∙◌}
use Rattle.objects.proofs.text.write_pieces.Goals as goal
use Rattle.objects.proofs.Texts.{begun, on_err}
use Rattle.objects.specs.Pieces.{piece_text}

pub returns-in_err-write_piece-clause-err : goal.returns-in_err-write_piece-clause-err
returns-in_err-write_piece-clause-err c =
    on_err c.from_residual.result _
    (begun (piece_text c.args.names.now) c.args.pieces.now c.loop-piece.piece-index c.args.into.now c.write_piece.new.into (c.in_err-write_piece.ensures.err ∙ c.loop-piece.invariant))
