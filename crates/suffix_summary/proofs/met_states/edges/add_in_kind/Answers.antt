use Rattle.std.proofs.Common.{◌∙◌, sym, ap}
use Rattle.std.specs.Option.{option_copied}
use Rattle.function_tables.proofs.EngineTables.Places.{if-ok}
use Rattle.suffix_summary.proofs.MetStates.MetEdges.{at-edge, no-edge}
use Rattle.suffix_summary.proofs.met_states.edges.add_in_kind.Goals as goal

pub returns-in-Some : goal.returns-in-Some
returns-in-Some c =
    let at = sym c.item.ensures ∙ ap option_copied c.in-Some.is in
    if-ok _ _ c.add_in_block.result
    (λ u added k ts apart are.
    at-edge k ts apart c.args.tables.now are c.args.edge.now c.args.is_root c.in-Some.table.now c.args.found.now.items c.add_in_block.new.found.items at (λ d bs blocks. added k ts d bs blocks))
    c.add_in_block.ensures

pub returns-in-None : goal.returns-in-None
returns-in-None c =
    let none = sym c.item.ensures ∙ ap option_copied c.in-None.is in
    λ k ts apart are. no-edge k ts apart c.args.tables.now are c.args.edge.now c.args.is_root c.args.found.now.items none
