use Rattle.std.proofs.Common.{ap}
use Rattle.entry_log.specs.Rows.{entries_at}
use Rattle.entry_log.proofs.Inserting.{holds_none}
use Rattle.entry_log.proofs.entries.EntryLog.new.Goals as goal

pub invariant_of-result : goal.invariant_of-result
invariant_of-result g c = holds_none g.K.PartialEq.eq c.new.result.keys c.new-2.result.items c.new-3.result.items c.new.ensures.empty c.new-2.ensures.items c.new-3.ensures.items

pub returns : goal.returns
returns g c = ap (entries_at c.new.result.keys) c.new-3.ensures.items
