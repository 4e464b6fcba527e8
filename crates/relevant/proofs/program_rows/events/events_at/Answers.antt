use Rattle.std.proofs.Common.{map, sym, ap, ◌∙◌, subst}
use Rattle.std.specs.Option.{option_map}
use Rattle.std.proofs.lemmas.Result.{IfOk-weaker}
use Rattle.flow_graph.specs.Values.{event_of}
use Rattle.least_set.specs.Logs.{IsExactly}
use Rattle.relevant.specs.ProgramRows.Made.{HappensIn}
use Rattle.relevant.proofs.ProgramRows.Happening.{happens-in, nothing-happens}
use Rattle.relevant.proofs.program_rows.events.events_at.Goals as goal

pub returns-in-Some : goal.returns-in-Some
returns-in-Some c =
    let at = sym c.table_at.ensures ∙ ap (option_map (λ t. t.now)) c.in-Some.is in
    IfOk-weaker c.events_of.result _ _ (λ events all. happens-in c.args.tables.now c.args.number c.in-Some.table.now (map event_of events.items) at all) c.events_of.ensures

pub returns-in-None : goal.returns-in-None
returns-in-None c =
    let none = sym c.table_at.ensures ∙ ap (option_map (λ t. t.now)) c.in-None.is in
    subst (λ events. IsExactly (map event_of events) (HappensIn c.args.tables.now c.args.number)) (sym c.new.ensures.items) (nothing-happens c.args.tables.now c.args.number none)
