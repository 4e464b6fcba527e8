use Rattle.std.proofs.lemmas.Result.{IfOk-weaker, on_err_weaker}
use Rattle.entry_log.proofs.entries.EntryLog.insert.Goals as goal

pub returns-clause-added : goal.returns-clause-added
returns-clause-added g c = rw (← c.self.view_is) (IfOk-weaker c.insert_entry.result _ _ (λ added i. i.added_if_new) c.insert_entry.ensures.inserts)

pub returns-clause-keys : goal.returns-clause-keys
returns-clause-keys g c = rw (← c.self.view_is) (IfOk-weaker c.insert_entry.result _ _ (λ added i. i.last) c.insert_entry.ensures.inserts)

pub returns-clause-err : goal.returns-clause-err
returns-clause-err g c = rw (← c.self.view_is) (on_err_weaker c.insert_entry.result (λ q. q.0) c.insert_entry.ensures.refused)

pub returns-clause-absent : goal.returns-clause-absent
returns-clause-absent g c = rw (← c.self.view_is) (on_err_weaker c.insert_entry.result (λ q. q.1) c.insert_entry.ensures.refused)
