use Rattle.std.proofs.Common.{◌∙◌, sym, ap}
use Rattle.std.specs.Option.{option_copied}
use Rattle.function_tables.proofs.EngineTables.Places.{if-ok, no-table}
use Rattle.numbered_program.proofs.KnownRows.{no_rows}
use Rattle.numbered_program.proofs.functions.rows_at.Goals as goal

pub returns-in-Some : goal.returns-in-Some
returns-in-Some c = if-ok _ _ c.rows_with.result (λ r x states known are roots. x states known are roots (sym c.item.ensures ∙ ap option_copied c.in-Some.is)) c.rows_with.ensures

pub returns-in-None : goal.returns-in-None
returns-in-None c = λ states known are roots.
    let t = c.args.tables.now in
    no_rows t states c.args.function _ (no-table t c.args.function known (sym c.item.ensures ∙ ap option_copied c.in-None.is))
