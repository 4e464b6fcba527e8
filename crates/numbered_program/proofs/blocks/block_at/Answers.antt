use Rattle.std.proofs.Common.{◌∙◌, sym, ap, slice_get}
use Rattle.std.specs.Option.{option_copied}
use Rattle.function_tables.proofs.EngineTables.Places.{if-ok}
use Rattle.numbered_program.proofs.KnownBlocks.{no_table}
use Rattle.numbered_program.proofs.blocks.block_at.Goals as goal

pub returns-in-Some : goal.returns-in-Some
returns-in-Some c =
    if-ok _ _ c.block_with.result
    (λ r x states f i within. x states f i (ap (λ l. slice_get l c.args.block) (sym c.as_slice.ensures.value) ∙ sym c.item.ensures ∙ ap option_copied c.in-Some.is))
    c.block_with.ensures

pub returns-in-None : goal.returns-in-None
returns-in-None c =
    if-ok _ _ c.empty.result
    (λ r x states f i within.
    let missing = ap (λ l. slice_get l c.args.block) (sym c.as_slice.ensures.value) ∙ sym c.item.ensures ∙ ap option_copied c.in-None.is in
    absurd (no_table states c.args.source.now f i c.args.block within missing))
    c.empty.ensures
