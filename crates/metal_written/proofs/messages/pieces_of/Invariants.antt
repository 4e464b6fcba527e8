use Rattle.std.proofs.Common.{◌≡◌, drop, map}
use Rattle.metal_grammar.specs.Message.{pieces_of}
use Rattle.metal_tree.specs.Views.{piece_view}
use Rattle.metal_written.specs.Messages.{behind_pieces, pieces_from}
use Rattle.metal_written.proofs.messages.pieces_of.Given as goal

abbrev pub invariant-loop-byte : goal.invariant-loop-byte
invariant-loop-byte l = behind_pieces (map piece_view l.pieces.items) l.bytes.items (pieces_from l.behind_percent (drop l.byte-index l.text) l.left) ≡ pieces_of l.text l.arguments
