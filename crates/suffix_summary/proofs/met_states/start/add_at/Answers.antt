use Rattle.std.proofs.Common.{◌∙◌, sym, ap}
use Rattle.std.specs.Option.{option_copied}
use Rattle.function_tables.proofs.EngineTables.Places.{if-ok}
use Rattle.suffix_summary.proofs.MetStates.StartGifts.{function-missing, function-there}
use Rattle.suffix_summary.proofs.met_states.start.add_at.Goals as goal

pub returns-in-Some : goal.returns-in-Some
returns-in-Some c =
    let at = sym c.item.ensures ∙ ap option_copied c.in-Some.is in
    if-ok _ _ c.add_in_function.result (λ u added k ts are. function-there k ts c.args.function c.args.tables.now are c.in-Some.table.now at (added k ts)) c.add_in_function.ensures

pub returns-in-None : goal.returns-in-None
returns-in-None c =
    let none = sym c.item.ensures ∙ ap option_copied c.in-None.is in
    λ k ts are. function-missing k ts c.args.function c.args.tables.now are c.args.found.now.items none
