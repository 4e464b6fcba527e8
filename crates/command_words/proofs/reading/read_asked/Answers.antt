use Rattle.std.proofs.Common.{map, string_bytes}
use Rattle.command_words.proofs.Answered.{asked_found, asked_only, asked_none}
use Rattle.command_words.proofs.reading.read_asked.Goals as goal

pub returns-clause-request : goal.returns-clause-request
returns-clause-request c = asked_found (map string_bytes c.args.words.now) c.read.result c.read.ensures

pub returns-clause-only : goal.returns-clause-only
returns-clause-only c = asked_only (map string_bytes c.args.words.now) c.read.result c.read.ensures

pub returns-clause-none : goal.returns-clause-none
returns-clause-none c = asked_none (map string_bytes c.args.words.now) c.read.result c.read.ensures
