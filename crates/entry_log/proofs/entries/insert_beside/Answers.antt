use Rattle.std.proofs.Common.{◌≡◌, List, Some, arith, length, slice_get, sym, ap, ◌∙◌}
use Rattle.entry_log.specs.declared.entries.Place.{Place}
use Rattle.entry_log.proofs.Near.{holds_near, inserted_near, refused_near}
use Rattle.entry_log.proofs.entries.insert_beside.Goals as goal

pub row_at-row-requires : goal.row_at-row-requires
row_at-row-requires g c = omega (arith, c.requires.inside, ap (λ (ps : List Place). length ps) c.deref.ensures.value)

pub returns : goal.returns
returns g c =
    let eq = g.K.PartialEq.eq in
    let laws = g.met.K.Eq.laws in
    let keys = c.args.keys.now.keys in
    let rows = c.args.rows.now.items in
    let order = c.args.order.now.items in
    let held = c.requires.held in
    let near = c.row_at-row.ensures in
    let at : slice_get order c.args.index ≡ Some near.0 = ap (λ (ps : List Place). slice_get ps c.args.index) (sym c.deref.ensures.value) ∙ near.1 in
    record {
      holds = holds_near eq laws keys rows order held c.args.index near.0 at c.row_at-row.result near.2 c.args.block c.put.new.rows.items c.put.new.order.items c.put.result c.put.ensures.puts c.put.ensures.err c.put.ensures.agree;
      inserts = inserted_near eq laws keys rows order held c.args.index near.0 at c.row_at-row.result near.2 c.args.block c.put.new.rows.items c.put.new.order.items c.put.result c.put.ensures.puts c.put.ensures.err;
      refused = refused_near eq laws keys rows order held c.args.index near.0 at c.row_at-row.result near.2 c.args.block c.put.new.rows.items c.put.new.order.items c.put.result c.put.ensures.puts c.put.ensures.err;
    }
