use Rattle.std.proofs.Common.{◌≡◌, ◌++◌, take}
use Rattle.std.specs.Prelude.{flat_map}
use Rattle.objects.proofs.text.write_pieces.Given as goal
use Rattle.objects.specs.Pieces.{piece_text}

abbrev pub invariant-loop-piece : goal.invariant-loop-piece
invariant-loop-piece l = l.into ≡ l.initial.into ++ flat_map (piece_text l.names) (take l.piece-index l.pieces)
