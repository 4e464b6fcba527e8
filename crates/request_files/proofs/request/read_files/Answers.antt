use Rattle.std.proofs.Common.{length, ap, subst, arith}
use Rattle.mx_io.proofs.Readable.{reads_behind}
use Rattle.request_files.specs.Faults.{before_file, total_limit}
use Rattle.request_files.specs.InTurn.{AnswersUnread, AreReadCheckers, AreReadSources}
use Rattle.request_files.specs.Telling.{may_hold}
use Rattle.request_files.specs.Turns.{CheckerFile, numbered}
use Rattle.request_files.specs.Views.{machines_of, texts_of, words_of}
use Rattle.request_files.proofs.Joined.{all_read, at_the_first, unread_front, failed_at_behind, faulty_at_behind, position_failed, position_faulty}
use Rattle.request_files.proofs.request.read_files.Goals as goal

pub read_checkers-requires-clause-room : goal.read_checkers-requires-clause-room
read_checkers-requires-clause-room g c = omega (arith, ap length c.requires.fresh)

pub read_sources-requires-clause-room : goal.read_sources-requires-clause-room
read_sources-requires-clause-room g c = omega (arith, ap length c.requires.fresh, c.in-Ok.ensures.room, c.requires.few_checkers)

pub returns-in-Err-clause-unread : goal.returns-in-Err-clause-unread
returns-in-Err-clause-unread g c =
    let told = g.F.Files.contents c.args.files.now in
    unread_front (may_hold told) (words_of c.args.checkers.now) (words_of c.args.sources.now) _ _ c.in-Err.unread
    (at_the_first (λ b. AnswersUnread (may_hold told) b (numbered CheckerFile 0 (words_of c.args.checkers.now)) (g.F.Files.failed c.args.files.now) (g.F.Files.failed c.read_checkers.new.files) c.in-Err.unread) total_limit c.args.names.now
    c.requires.fresh c.in-Err.ensures.unread)

pub overflow_add-result : goal.overflow_add-result
overflow_add-result g c =
    let h = position_failed _ _ c.args.sources.now _ _ c.in-Err-NotRead.field-0 c.in-Err-NotRead.position c.in-Err-NotRead.field-0-is c.in-Err-NotRead.ensures.unread in
    omega (arith, h, c.requires.few_checkers, c.requires.few_sources)

pub returns-in-Err-NotRead-clause-unread : goal.returns-in-Err-NotRead-clause-unread
returns-in-Err-NotRead-clause-unread g c =
    let told = g.F.Files.contents c.args.files.now in
    let machines = machines_of c.in-Ok.read.machines.items in
    let middle = before_file c.in-Ok.read.left c.read_checkers.new.names in
    failed_at_behind told (g.F.Files.contents c.read_checkers.new.files) c.args.checkers.now c.args.sources.now machines middle
    (at_the_first (λ b. AreReadCheckers (may_hold told) b (words_of c.args.checkers.now) (words_of c.args.checkers.now) machines middle) total_limit c.args.names.now c.requires.fresh c.in-Ok.ensures.read)
    c.read_checkers.ensures.same (g.F.Files.failed c.args.files.now) (g.F.Files.failed c.read_checkers.new.files) _ c.in-Ok.ensures.none_failed c.in-Err-NotRead.field-0 c.in-Err-NotRead.ensures.unread c.in-Err-NotRead.position c.in-Err-NotRead.field-0-is

pub overflow_add-result-in-Err-Faulty : goal.overflow_add-result-in-Err-Faulty
overflow_add-result-in-Err-Faulty g c =
    let h = position_faulty _ _ c.args.sources.now _ _ c.in-Err-Faulty.field-0 c.in-Err-Faulty.position c.in-Err-Faulty.located c.in-Err-Faulty.field-0-is c.in-Err-Faulty.ensures.unread in
    omega (arith, h, c.requires.few_checkers, c.requires.few_sources)

pub returns-in-Err-Faulty-clause-unread : goal.returns-in-Err-Faulty-clause-unread
returns-in-Err-Faulty-clause-unread g c =
    let told = g.F.Files.contents c.args.files.now in
    let machines = machines_of c.in-Ok.read.machines.items in
    let middle = before_file c.in-Ok.read.left c.read_checkers.new.names in
    faulty_at_behind told (g.F.Files.contents c.read_checkers.new.files) c.args.checkers.now c.args.sources.now machines middle
    (at_the_first (λ b. AreReadCheckers (may_hold told) b (words_of c.args.checkers.now) (words_of c.args.checkers.now) machines middle) total_limit c.args.names.now c.requires.fresh c.in-Ok.ensures.read)
    c.read_checkers.ensures.same (g.F.Files.failed c.args.files.now) (g.F.Files.failed c.read_checkers.new.files) _ c.in-Ok.ensures.none_failed c.in-Err-Faulty.field-0 c.in-Err-Faulty.ensures.unread c.in-Err-Faulty.position c.in-Err-Faulty.located c.in-Err-Faulty.field-0-is

pub returns-clause-read : goal.returns-clause-read
returns-clause-read g c =
    let told = g.F.Files.contents c.args.files.now in
    let machines = machines_of c.in-Ok.read.machines.items in
    let middle = before_file c.in-Ok.read.left c.read_checkers.new.names in
    let texts = texts_of c.in-Ok-read_sources.behind.units.items in
    let end = before_file c.in-Ok-read_sources.behind.left c.read_sources.new.names in
    all_read (may_hold told) (words_of c.args.checkers.now) (words_of c.args.sources.now) machines middle
    (at_the_first (λ b. AreReadCheckers (may_hold told) b (words_of c.args.checkers.now) (words_of c.args.checkers.now) machines middle) total_limit c.args.names.now c.requires.fresh c.in-Ok.ensures.read) texts end
    (subst (λ t. AreReadSources (may_hold t) middle (words_of c.args.sources.now) (words_of c.args.sources.now) texts end) c.read_checkers.ensures.same c.in-Ok-read_sources.ensures.read)

pub returns-in-Err-NotRead-clause-readable : goal.returns-in-Err-NotRead-clause-readable
returns-in-Err-NotRead-clause-readable g c = reads_behind _ _ _ _ _ c.read_checkers.ensures.kept c.in-Ok.ensures.none_failed c.read_sources.ensures.readable

pub returns-in-Err-Faulty-clause-readable : goal.returns-in-Err-Faulty-clause-readable
returns-in-Err-Faulty-clause-readable g c = reads_behind _ _ _ _ _ c.read_checkers.ensures.kept c.in-Ok.ensures.none_failed c.read_sources.ensures.readable

pub returns-in-Err-NoMemory-clause-readable : goal.returns-in-Err-NoMemory-clause-readable
returns-in-Err-NoMemory-clause-readable g c = reads_behind _ _ _ _ _ c.read_checkers.ensures.kept c.in-Ok.ensures.none_failed c.read_sources.ensures.readable

pub returns-clause-readable : goal.returns-clause-readable
returns-clause-readable g c = reads_behind _ _ _ _ _ c.read_checkers.ensures.kept c.in-Ok.ensures.none_failed c.read_sources.ensures.readable
