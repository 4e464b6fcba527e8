use Rattle.std.proofs.Common.{◌∙◌, sym, ap}
use Rattle.std.specs.Option.{option_map}
use Rattle.known_objects.proofs.Listings.{of-row, of-no-row}
use Rattle.known_objects.proofs.listing.add_moves_at.Goals as goal
use Rattle.known_objects.specs.Listed.{IsMoveIn}
use Rattle.known_search.proofs.Lists.{if-ok}

pub returns-in-Some : goal.returns-in-Some
returns-in-Some c =
    let at = sym c.row_at.ensures ∙ ap (option_map (λ row. row.now)) c.in-Some.is in
    if-ok _ _ c.add_moves_of.result
    (λ u v. of-row (IsMoveIn c.args.depth c.args.function) c.args.rows.now c.args.function c.in-Some.row.now c.args.moves.now.items c.add_moves_of.new.moves.items at v)
    c.add_moves_of.ensures

pub returns-in-None : goal.returns-in-None
returns-in-None c =
    let none = sym c.row_at.ensures ∙ ap (option_map (λ row. row.now)) c.in-None.is in
    of-no-row (IsMoveIn c.args.depth c.args.function) c.args.rows.now c.args.function c.args.moves.now.items none
