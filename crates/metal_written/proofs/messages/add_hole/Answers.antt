use Rattle.std.proofs.Common.{◌++◌, [], ◌∷◌, map, ap, ◌∙◌}
use Rattle.std.proofs.lemmas.List.{map-append}
use Rattle.metal_tree.specs.MetalMachines.Machine.{HoleText}
use Rattle.metal_tree.specs.declared.messages.Piece.TheVariants.{Hole}
use Rattle.metal_tree.specs.Views.{piece_view}
use Rattle.metal_written.proofs.InPieces.{step-hole}
use Rattle.metal_written.proofs.messages.add_hole.Goals as goal

pub returns : goal.returns
returns c =
    rw c.in-Some.is
    (step-hole (map piece_view c.args.pieces.now.items) (map piece_view c.push.new.self.items) c.args.bytes.now.items c.end_literal.new.bytes.items c.in-Some.hole c.in_ok-end_literal.ensures.none
    (ap (map piece_view) c.in_ok-push.ensures.items ∙ map-append piece_view c.end_literal.new.pieces.items (Hole c.in-Some.hole ∷ []) ∙ ap (λ x. x ++ (HoleText c.in-Some.hole ∷ [])) c.in_ok-end_literal.ensures.pieces))
