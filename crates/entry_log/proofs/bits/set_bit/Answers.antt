use Rattle.std.proofs.Common.{◌/◌, length-set}
use Rattle.entry_log.proofs.Setting.{set_adds_the_bit}
use Rattle.entry_log.proofs.bits.set_bit.Goals as goal

pub returns-clause-bits : goal.returns-clause-bits
returns-clause-bits c = set_adds_the_bit c.args.words.now c.args.bit c.requires

pub returns-clause-len : goal.returns-clause-len
returns-clause-len c = length-set c.args.words.now (c.args.bit / 64) _
