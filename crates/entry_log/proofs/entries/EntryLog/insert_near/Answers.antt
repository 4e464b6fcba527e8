use Rattle.std.proofs.Common.{arith, length, ap}
use Rattle.std.proofs.lemmas.Result.{IfOk-weaker, on_err_weaker}
use Rattle.entry_log.specs.Entries.{Entries}
use Rattle.entry_log.proofs.Reading.{entries_length}
use Rattle.entry_log.proofs.entries.EntryLog.insert_near.Goals as goal

pub insert_beside-requires-clause-inside : goal.insert_beside-requires-clause-inside
insert_beside-requires-clause-inside g c = omega (arith, c.requires, ap (λ (v : Entries g.row.K.Denot). length v.keys) c.self.view_is, entries_length c.self.inside.keys.keys c.self.inside.order.items c.self.invariant.within)

pub returns-clause-added : goal.returns-clause-added
returns-clause-added g c = rw (← c.self.view_is) (IfOk-weaker c.insert_beside.result _ _ (λ added i key near e. (i key near e).added_if_new) c.insert_beside.ensures.inserts)

pub returns-clause-keys : goal.returns-clause-keys
returns-clause-keys g c = rw (← c.self.view_is) (IfOk-weaker c.insert_beside.result _ _ (λ added i key near e. (i key near e).last) c.insert_beside.ensures.inserts)

pub returns-clause-err : goal.returns-clause-err
returns-clause-err g c = rw (← c.self.view_is) (on_err_weaker c.insert_beside.result (λ q. q.0) c.insert_beside.ensures.refused)

pub returns-clause-absent : goal.returns-clause-absent
returns-clause-absent g c = rw (← c.self.view_is) (on_err_weaker c.insert_beside.result (λ q. q.1) c.insert_beside.ensures.refused)
