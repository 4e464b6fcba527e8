use Rattle.std.proofs.Common.{◌∙◌, sym, ap, subst}
use Rattle.std.specs.Option.{option_copied}
use Rattle.function_tables.proofs.EngineTables.Places.{if-ok}
use Rattle.least_set.specs.Logs.{IsExactly}
use Rattle.numbered_program.proofs.KnownBeginnings.{nothing_begun, own_begun}
use Rattle.numbered_program.specs.Begun.{BeginsIn}
use Rattle.path_edges.proofs.EdgeSteps.Lists.{exactly-none}
use Rattle.numbered_program.proofs.begun.begun_in.Goals as goal

pub returns-in-Some : goal.returns-in-Some
returns-in-Some c =
    if-ok _ _ c.begun_with.result
    (λ list x. own_begun c.args.numbers.now c.args.function c.in-Some.own.now list.items (sym c.item.ensures ∙ ap option_copied c.in-Some.is) x)
    c.begun_with.ensures

pub returns-in-None : goal.returns-in-None
returns-in-None c =
    let Q = BeginsIn c.args.numbers.now c.args.function in
    let none = sym c.item.ensures ∙ ap option_copied c.in-None.is in
    subst (λ l. IsExactly l Q) (sym c.new.ensures.items) (exactly-none Q (λ e h. nothing_begun c.args.numbers.now c.args.function e none h))
