use Rattle.std.proofs.Common.{◌∙◌, sym, ap, subst}
use Rattle.std.specs.Option.{option_copied}
use Rattle.relevant.proofs.BoundMembers.Binding.{in-block, no-block}
use Rattle.relevant.proofs.bound_members.blocks.add_in_block.Goals as goal
use Rattle.path_model.specs.CheckerPrograms.Texts.{function_of}
use Rattle.function_tables.specs.Rules.{AreOfEvents}
use Rattle.relevant.proofs.RelevantObjects.Gathered.{if-ok}

pub returns-in-Some : goal.returns-in-Some
returns-in-Some c =
    let at = sym c.item.ensures ∙ ap option_copied c.in-Some.is in
    if-ok _ _ c.add_at_events.result
    (λ u added m depth ts d bs are. in-block c.args.sources m depth c.args.number ts d bs c.args.tables.now are c.args.block c.in-Some.table.now c.args.found.now.items c.add_at_events.new.found.items at (λ hs of. added m depth (function_of d) hs (subst (AreOfEvents m depth (function_of d) hs) (sym c.as_slice.ensures.value) of)))
    c.add_at_events.ensures

pub returns-in-None : goal.returns-in-None
returns-in-None c =
    let none = sym c.item.ensures ∙ ap option_copied c.in-None.is in
    λ m depth ts d bs are. no-block c.args.sources m depth c.args.number ts d bs c.args.tables.now are c.args.block c.args.found.now.items none
