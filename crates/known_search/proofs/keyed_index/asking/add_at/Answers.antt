use Rattle.std.proofs.Common.{◌<◌, length, get_or, arith, sym, ap, ◌∙◌, Some}
use Rattle.std.proofs.lemmas.List.Elements.{Contains-get_or}
use Rattle.std.proofs.lemmas.Option.{slice_get-get_or}
use Rattle.least_set.proofs.Growing.{adds_next}
use Rattle.known_search.specs.KeyedIndex.Filed.{GivesAt}
use Rattle.known_search.proofs.KeyedIndex.Positions.{nothing_given, of_place}
use Rattle.known_search.proofs.keyed_index.asking.add_at.Goals as goal

pub loop-position-init : goal.loop-position-init
loop-position-init g c = nothing_given (GivesAt (g.F.Filing.gives c.args.filing.now) c.args.changes.now c.args.thing.now) c.args.found.now.items

pub offset_bounds-changes-position : goal.offset_bounds-changes-position
offset_bounds-changes-position g c =
    let i = c.loop-position.position-index in
    let h : get_or c.args.positions.now i 0 < length c.args.changes.now = c.requires (get_or c.args.positions.now i 0) (Contains-get_or c.args.positions.now i 0 c.loop-position-test.true) in
    omega (arith, h)

pub bounds-changes-position : goal.bounds-changes-position
bounds-changes-position g c =
    let i = c.loop-position.position-index in
    c.requires (get_or c.args.positions.now i 0) (Contains-get_or c.args.positions.now i 0 c.loop-position-test.true)

pub loop-position-preserved : goal.loop-position-preserved
loop-position-preserved g c =
    let gives = g.F.Filing.gives c.args.filing.now in
    let xs = c.args.changes.now in
    let i = c.loop-position.position-index in
    let j = get_or c.args.positions.now i 0 in
    let x = c.index-changes-position.result in
    let h : j < length xs = c.requires j (Contains-get_or c.args.positions.now i 0 c.loop-position-test.true) in
    adds_next (GivesAt gives xs c.args.thing.now) c.args.positions.now i 0 c.loop-position-test.true c.loop-position.invariant
    (of_place gives xs c.args.thing.now j x c.loop-position.found.items c.add_of.new.found.items (slice_get-get_or xs j x h ∙ ap Some (sym c.index-changes-position.is)) c.in_ok-add_of.ensures)
