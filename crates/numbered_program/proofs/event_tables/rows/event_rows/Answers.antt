use Rattle.std.proofs.Common.{[], sym, subst}
use Rattle.std.specs.List.{AllZip}
use Rattle.block_flows.proofs.OfEvents.{at-event, none-left}
use Rattle.numbered_program.proofs.EventTables.OfEvents.{zip_next, zip_all}
use Rattle.numbered_program.specs.EventTables.Rows.{IsEventRow}
use Rattle.path_model.specs.CheckerModel.Happenings.{Happening}
use Rattle.row_flows.specs.declared.rows.EventRow.{EventRow}
use Rattle.numbered_program.proofs.event_tables.rows.event_rows.Goals as goal

pub loop-event-init : goal.loop-event-init
loop-event-init c = λ m depth hs f a index are.
    let n = c.args.numbering.now in
    let R = λ (h : Happening) (row : EventRow). IsEventRow m depth h f n.objects.now.keys n.states.now.states.keys row in
    subst (AllZip R []) (sym c.in_ok-rows.ensures.items) tt

pub loop-event-preserved : goal.loop-event-preserved
loop-event-preserved c = λ m depth hs f a index are.
    let n = c.args.numbering.now in
    let R = λ (h : Happening) (row : EventRow). IsEventRow m depth h f n.objects.now.keys n.states.now.states.keys row in
    let i = c.loop-event.event-index in
    let e = at-event m depth f hs c.args.rules.now i c.event-item.result a c.loop-event-test.true c.event-item.is in
    zip_next R hs i e.0 c.loop-event.rows.items c.push.new.self.items c.in_ok-row.row e.1 (c.loop-event.invariant m depth hs f a index are) (c.in_ok-row.ensures m depth e.0 f e.2 index are) c.in_ok-push.ensures.items

pub returns : goal.returns
returns c = λ m depth hs f a index are.
    let n = c.args.numbering.now in
    let R = λ (h : Happening) (row : EventRow). IsEventRow m depth h f n.objects.now.keys n.states.now.states.keys row in
    let i = c.loop-event.event-index in
    zip_all R hs i c.loop-event.rows.items (none-left m depth f hs c.args.rules.now i a c.loop-event-test.false) (c.loop-event.invariant m depth hs f a index are)
