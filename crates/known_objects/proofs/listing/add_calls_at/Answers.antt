use Rattle.std.proofs.Common.{map, ◌∙◌, sym, ap}
use Rattle.std.specs.Option.{option_map}
use Rattle.known_objects.proofs.Listings.{of-row, of-no-row}
use Rattle.known_objects.proofs.listing.add_calls_at.Goals as goal
use Rattle.known_objects.specs.Listed.{call_in, IsCallFrom}
use Rattle.known_search.proofs.Lists.{if-ok}
use Rattle.least_set.specs.Logs.{SomeGives}

pub returns-in-Some-clause-calls : goal.returns-in-Some-clause-calls
returns-in-Some-clause-calls c =
    let at = sym c.row_at.ensures ∙ ap (option_map (λ row. row.now)) c.in-Some.is in
    if-ok _ _ c.add_calls_of.result
    (λ u v. of-row (λ row. SomeGives (IsCallFrom c.args.function) row.calls.items) c.args.rows.now c.args.function c.in-Some.row.now (map call_in c.args.calls.now.items) (map call_in c.add_calls_of.new.calls.items) at v)
    c.add_calls_of.ensures.calls

pub returns-in-None-clause-calls : goal.returns-in-None-clause-calls
returns-in-None-clause-calls c =
    let none = sym c.row_at.ensures ∙ ap (option_map (λ row. row.now)) c.in-None.is in
    of-no-row (λ row. SomeGives (IsCallFrom c.args.function) row.calls.items) c.args.rows.now c.args.function (map call_in c.args.calls.now.items) none
