use Rattle.std.proofs.Common.{◌∙◌, sym}
use Rattle.known_objects.proofs.Listings.{move-pushed, nothing-moved}
use Rattle.known_objects.proofs.listing.add_move.Goals as goal

pub returns : goal.returns
returns c =
    move-pushed c.args.depth c.args.function c.args.unit c.args.event.now c.args.moves.now.items c.push.new.self.items (sym c.is_move.ensures ∙ c.if-not-is_move.false) c.in_ok-push.ensures.items

pub returns-then-not-is_move : goal.returns-then-not-is_move
returns-then-not-is_move c = nothing-moved c.args.depth c.args.function c.args.unit c.args.event.now c.args.moves.now.items (sym c.is_move.ensures ∙ c.if-not-is_move.true)
