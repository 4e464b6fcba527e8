use Rattle.std.proofs.Common.{arith}
use Rattle.entry_log.proofs.Reading.{entries_length}
use Rattle.entry_log.proofs.entries.EntryLog.len.Goals as goal

pub returns-clause-len : goal.returns-clause-len
returns-clause-len g c = rw (← c.self.view_is) (omega (arith, c.len.ensures, c.self.inside.order.ok.0, entries_length c.self.inside.keys.keys c.self.inside.order.items c.self.invariant.within))

pub returns-clause-unique : goal.returns-clause-unique
returns-clause-unique g c = rw (← c.self.view_is) c.self.invariant.once
