use Rattle.std.proofs.Common.{◌∙◌, List, slice_get, sym, ap, subst}
use Rattle.std.specs.Option.{option_copied}
use Rattle.std.proofs.lemmas.Option.{none-some}
use Rattle.block_flows.specs.Events.{AreOfEvents}
use Rattle.function_tables.proofs.EngineTables.Places.{if-ok, if-some, place}
use Rattle.function_tables.specs.EngineTables.Known.{checker_in}
use Rattle.least_set.specs.Logs.{IsExactly, SomeGives}
use Rattle.numbered_program.specs.Views.{swapped}
use Rattle.path_model.specs.CheckerPrograms.Texts.{function_of}
use Rattle.state_tuples.specs.declared.applied_rules.rules.EventRules.{EventRules}
use Rattle.suffix_summary.proofs.EdgeReports.SayingEdges.{events, here, nothing-said, rules-are, said-exactly}
use Rattle.suffix_summary.specs.EdgeReports.Shown.{SaysAtEdge}
use Rattle.suffix_summary.proofs.edge_reports.edges.said_in.Goals as goal

pub returns-in_default : goal.returns-in_default
returns-in_default c = λ states k h.
    let p = place c.args.tables.now c.args.edge.now.context.function c.args.frame.now k h in
    absurd (none-some p.defined (sym (c.unit_of.ensures.missing c.in_default.is) ∙ p.is))

pub returns-in_default-item : goal.returns-in_default-item
returns-in_default-item c = λ states k h.
    let t = c.args.tables.now in
    let e = c.args.edge.now in
    let f = c.args.frame.now in
    let u = c.in-Some.unit in
    let p = place t e.context.function f k h in
    let at = if-some _ c.unit_of.result u c.in-Some.is c.unit_of.ensures.there p.defined p.is in
    let number = c.swapped-number.ensures ∙ ap (λ first. swapped first e.block) c.entry.ensures.number in
    let missing = ap (λ n. slice_get f.table.now.blocks.items n) (sym number) ∙ ap (λ l. slice_get l c.swapped-number.result) (sym c.as_slice.ensures.value) ∙ sym c.item.ensures ∙ ap option_copied c.in_default-item.is in
    subst (λ l. IsExactly l (SomeGives (SaysAtEdge t states e) c.args.firings.now)) (sym c.new-in_default-item.ensures.items)
    (nothing-said t e.context.function f h p u at e.block states c.args.firings.now missing)

pub returns : goal.returns
returns c =
    let t = c.args.tables.now in
    let e = c.args.edge.now in
    let f = c.args.frame.now in
    let u = c.in-Some.unit in
    if-ok _ _ c.said_by_all.result
    (λ list said states k h.
    let p = place t e.context.function f k h in
    let at = if-some _ c.unit_of.result u c.in-Some.is c.unit_of.ensures.there p.defined p.is in
    let number = c.swapped-number.ensures ∙ ap (λ first. swapped first e.block) c.entry.ensures.number in
    let there = ap (λ n. slice_get f.table.now.blocks.items n) (sym number) ∙ ap (λ l. slice_get l c.swapped-number.result) (sym c.as_slice.ensures.value) ∙ sym c.item.ensures ∙ ap option_copied c.in-Some-item.is in
    let are = subst (λ (l : List EventRules). AreOfEvents (checker_in t).machine t.depth (function_of p.defined) (here t e.context.function f h p u at e.block) l) (sym c.as_slice-rules.ensures.value)
    (rules-are t e.context.function f h p u at e.block c.in-Some-item.block.now there) in
    said-exactly t e.context.function f h p u at e.block states c.args.firings.now list.items
    (said t.depth (function_of p.defined) (events t e.context.function f h p u at e.block) are))
    c.said_by_all.ensures
