use Rattle.std.proofs.Common.{◌∙◌, arith, ap, subst, sym, drop, ◌+◌, ◌∷◌, ◌++◌, [], List}
use Rattle.std.specs.Prelude.{flat_map, Contains}
use Rattle.std.proofs.lemmas.List.{at_drop_more, drop_all}
use Rattle.least_set.specs.Logs.{IsExactly, IsOnce, SomeGives}
use Rattle.row_flows.specs.Behind.{behind, firings}
use Rattle.row_flows.specs.Calm.{are_calm}
use Rattle.row_flows.specs.declared.rows.EventRow.{EventRow}
use Rattle.row_flows.specs.declared.tuples.NumberedTuple.{NumberedTuple}
use Rattle.row_flows.proofs.Lists.{few_once}
use Rattle.row_flows.proofs.OnTheWay.{OnTheWay, begins, goes_on, passes, ended}
use Rattle.row_flows.proofs.crossing.cross.Goals as goal

pub loop-event-init : goal.loop-event-init
loop-event-init c =
    let r = c.args.is_root in
    let own = c.args.own.now in
    let rows = c.args.rows.now in
    let t = c.args.tuple in record {
      way = subst (λ now. OnTheWay r own rows t rows 0 now c.new-found.result.items) (sym c.in_ok-now.ensures.items)
          (subst (λ found. OnTheWay r own rows t rows 0 (t ∷ []) found) (sym c.new-found.ensures.items) (begins r own rows t));
      once = subst IsOnce (sym c.in_ok-now.ensures.items) (few_once (t ∷ []) (omega arith));
    }

pub loop-event-preserved-then-are_calm : goal.loop-event-preserved-then-are_calm
loop-event-preserved-then-are_calm c =
    let r = c.args.is_root in
    let own = c.args.own.now in
    let rows = c.args.rows.now in
    let t = c.args.tuple in
    let i = c.loop-event.event in
    let row = c.index-rows-event.result in
    let at = at_drop_more (λ (l : List EventRow). l) rows i row c.loop-event-test.true ∙ ap (λ (x : EventRow). x ∷ drop (i + 1) rows) (sym c.index-rows-event.is) in
    let way = subst (λ l. OnTheWay r own rows t l i c.loop-event.now.items c.loop-event.found.items) at c.loop-event.invariant.way in
    record {
      way = passes r own rows t row (drop (i + 1) rows) i c.loop-event.now.items c.loop-event.found.items way (ap (are_calm row) (sym c.as_slice.ensures.value) ∙ sym c.are_calm.ensures ∙ c.if-are_calm.true);
      once = c.loop-event.invariant.once;
    }

pub loop-event-preserved : goal.loop-event-preserved
loop-event-preserved c =
    let r = c.args.is_root in
    let own = c.args.own.now in
    let rows = c.args.rows.now in
    let t = c.args.tuple in
    let i = c.loop-event.event in
    let row = c.index-rows-event.result in
    let now = c.loop-event.now.items in
    let found = c.loop-event.found.items in
    let at = at_drop_more (λ (l : List EventRow). l) rows i row c.loop-event-test.true ∙ ap (λ (x : EventRow). x ∷ drop (i + 1) rows) (sym c.index-rows-event.is) in
    let way = subst (λ l. OnTheWay r own rows t l i now found) at c.loop-event.invariant.way in
    let B = λ (u : NumberedTuple). Contains (behind row r own u) in
    record {
      way = goes_on r own rows t row (drop (i + 1) rows) i now found way c.in_ok-behind.behind.items c.note_firings.new.list.items
          (subst (λ l. IsExactly c.in_ok-behind.behind.items (SomeGives B l)) c.as_slice-in-loop-event-2.ensures.value c.in_ok-behind.ensures.exactly)
          (c.in_ok-note_firings.ensures ∙ ap (λ l. found ++ flat_map (firings i row r own) l) c.as_slice-in-loop-event.ensures.value);
      once = c.in_ok-behind.ensures.once;
    }

pub returns-clause-tuples : goal.returns-clause-tuples
returns-clause-tuples c =
    let r = c.args.is_root in
    let own = c.args.own.now in
    let rows = c.args.rows.now in
    let t = c.args.tuple in
    let i = c.loop-event.event in
    let way = subst (λ l. OnTheWay r own rows t l i c.loop-event.now.items c.loop-event.found.items) (drop_all i rows c.loop-event-test.false) c.loop-event.invariant.way in
    (ended r own rows t i c.loop-event.now.items c.loop-event.found.items way).0

pub returns-clause-once : goal.returns-clause-once
returns-clause-once c = c.loop-event.invariant.once

pub returns-clause-firings : goal.returns-clause-firings
returns-clause-firings c =
    let r = c.args.is_root in
    let own = c.args.own.now in
    let rows = c.args.rows.now in
    let t = c.args.tuple in
    let i = c.loop-event.event in
    let way = subst (λ l. OnTheWay r own rows t l i c.loop-event.now.items c.loop-event.found.items) (drop_all i rows c.loop-event-test.false) c.loop-event.invariant.way in
    (ended r own rows t i c.loop-event.now.items c.loop-event.found.items way).1
