use Rattle.std.proofs.Common.{◌∙◌, sym, ap}
use Rattle.std.specs.Option.{option_copied}
use Rattle.function_tables.proofs.EngineTables.Places.{if-ok}
use Rattle.numbered_program.proofs.KnownRows.{no_rows}
use Rattle.numbered_program.proofs.KnownSources.{nobody}
use Rattle.numbered_program.proofs.functions.rows_with.Goals as goal

pub returns-in-Some : goal.returns-in-Some
returns-in-Some c =
    if-ok _ _ c.made_rows.result
    (λ r x states known are roots table f g named there.
    x states f (record { known = known; numbered = are; table = table; own = sym c.item.ensures ∙ ap option_copied c.in-Some.is; named = named }) roots f g named there)
    c.made_rows.ensures

pub returns-in-None : goal.returns-in-None
returns-in-None c = λ states known are roots table.
    let t = c.args.tables.now in
    no_rows t states c.args.function _ (nobody t states c.args.numbers.now known are c.args.function (sym c.item.ensures ∙ ap option_copied c.in-None.is))
