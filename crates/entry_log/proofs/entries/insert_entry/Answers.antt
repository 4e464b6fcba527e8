use Rattle.std.proofs.Common.{ap, sym, subst}
use Rattle.entry_log.specs.Rows.{entries_at, Holds}
use Rattle.entry_log.proofs.Placing.{on_err}
use Rattle.entry_log.proofs.Reading.{not_without_key}
use Rattle.entry_log.proofs.Inserting.{holds_inserted, inserted, none_inserted}
use Rattle.entry_log.proofs.entries.insert_entry.Goals as goal

pub returns-in_err-row-clause-holds : goal.returns-in_err-row-clause-holds
returns-in_err-row-clause-holds g c = subst (λ keys. Holds g.K.PartialEq.eq keys c.args.rows.now.items c.args.order.now.items) (sym c.in_err-row.ensures.err) c.requires

pub returns-in_err-row-clause-refused : goal.returns-in_err-row-clause-refused
returns-in_err-row-clause-refused g c = on_err c.from_residual.result (
  ap (λ keys. entries_at keys c.args.order.now.items) c.in_err-row.ensures.err,
  not_without_key g.K.PartialEq.eq c.args.keys.now.keys c.args.key c.args.block c.in_err-row.ensures.absent c.args.order.now.items c.requires.within,
)

pub returns : goal.returns
returns g c =
    let eq = g.K.PartialEq.eq in
    let keys = c.args.keys.now.keys in
    let rows = c.args.rows.now.items in
    let order = c.args.order.now.items in
    let more = c.insert_full.new.self.keys in
    let at = c.in_ok-row.ensures in
    let row = c.in_ok-row.row in
    record {
      holds = holds_inserted eq g.met.K.Eq.laws g.met.K.Key.same keys rows order c.requires c.args.key c.args.block more at.keys at.unique row at.stored.0 at.stored.1 at.stored.2
          c.put.new.rows.items c.put.new.order.items c.put.result c.put.ensures.puts c.put.ensures.err c.put.ensures.agree;
      inserts = inserted eq g.met.K.Eq.laws g.met.K.Key.same keys rows order c.requires c.args.key c.args.block more at.keys at.unique row at.stored.0 at.stored.1 at.stored.2
          c.put.new.rows.items c.put.new.order.items c.put.result c.put.ensures.puts c.put.ensures.err;
      refused = none_inserted eq g.met.K.Eq.laws g.met.K.Key.same keys rows order c.requires c.args.key c.args.block more at.keys at.unique row at.stored.0 at.stored.1 at.stored.2
          c.put.new.rows.items c.put.new.order.items c.put.result c.put.ensures.puts c.put.ensures.err;
    }
