use Rattle.std.proofs.Common.{◌∙◌, sym, ap, subst}
use Rattle.std.specs.Option.{option_map}
use Rattle.least_set.specs.Logs.{IsExactly}
use Rattle.relevant.specs.RelevantObjects.Links.{LinksFrom}
use Rattle.relevant.proofs.RelevantObjects.Gathered.{if-ok, in-row, no-row}
use Rattle.relevant.proofs.relevant_objects.steps.linked_from.Goals as goal

pub returns-in-Some : goal.returns-in-Some
returns-in-Some c =
    let at = sym c.row_at.ensures ∙ ap (option_map (λ row. row.now)) c.in-Some.is in
    if-ok _ _ c.linked_in.result (λ list is. in-row c.args.depth c.args.rows.now c.in-Some.row.now c.args.member.now list.items at is) c.linked_in.ensures

pub returns-in-None : goal.returns-in-None
returns-in-None c =
    let none = sym c.row_at.ensures ∙ ap (option_map (λ row. row.now)) c.in-None.is in
    subst (λ l. IsExactly l (LinksFrom c.args.depth c.args.rows.now c.args.member.now)) (sym c.new.ensures.items) (no-row c.args.depth c.args.rows.now c.args.member.now none)
