use Rattle.std.proofs.Common.{◌+◌, ◌*◌, ◌∙◌, [], ◌∷◌, length, length-append, ap, arith}
use Rattle.mx_io.proofs.Readable.{reads_behind}
use Rattle.request_files.specs.Faults.{before_file}
use Rattle.request_files.specs.Turns.{SourceFile}
use Rattle.request_files.proofs.Looping.{not_read, faulty, sources_more, source_fits, room_left, numbered-push, place_taken}
use Rattle.request_files.proofs.Turns.{adds_few}
use Rattle.request_files.proofs.sources.read_sources.Goals as goal

pub returns-in-Err-NotRead-clause-unread : goal.returns-in-Err-NotRead-clause-unread
returns-in-Err-NotRead-clause-unread g c =
    let here = c.loop-word.invariant in
    not_read (g.F.Files.contents c.args.files.now) (g.F.Files.contents c.loop-word.files) (before_file c.args.left c.args.names.now) c.args.words.now c.loop-word.word-index c.len-position.result (before_file c.loop-word.rest c.loop-word.names) _
    (omega (arith, c.loop-word-test.true)) (omega (arith, here.count, c.loop-word.units.ok.0, c.len-position.ensures)) here.contents SourceFile here.read.contents here.read.read here.read.count _ (g.F.Files.failed c.loop-word.files) _
    c.in-Err-NotRead.field-0 c.in-Err-NotRead.ensures.failed here.failed c.in-Err-NotRead.field-0-is

pub returns-in-Err-Faulty-clause-unread : goal.returns-in-Err-Faulty-clause-unread
returns-in-Err-Faulty-clause-unread g c =
    let here = c.loop-word.invariant in
    rw c.in-Err-Faulty.located-is (
    faulty (g.F.Files.contents c.args.files.now) (g.F.Files.contents c.loop-word.files) (before_file c.args.left c.args.names.now) c.args.words.now c.loop-word.word-index c.len-position.result (before_file c.loop-word.rest c.loop-word.names) _
    (omega (arith, c.loop-word-test.true)) (omega (arith, here.count, c.loop-word.units.ok.0, c.len-position.ensures)) here.contents SourceFile here.read.contents here.read.read here.read.count _ (g.F.Files.failed c.loop-word.files) _
    c.in-Err-Faulty.field-0 c.in-Err-Faulty.ensures.failed here.failed _ c.in-Err-Faulty.located c.in-Err-Faulty.field-0-is c.in-Err-Faulty.ensures.stopped
    (omega (arith, here.count, c.loop-word.units.ok.0, c.len-position.ensures, c.requires.few, c.loop-word-test.true))
    )

pub returns-in-Err-NotRead-clause-readable : goal.returns-in-Err-NotRead-clause-readable
returns-in-Err-NotRead-clause-readable g c = reads_behind _ _ _ _ _ c.loop-word.invariant.kept c.loop-word.invariant.failed c.load_source.ensures.readable

pub returns-in-Err-Faulty-clause-readable : goal.returns-in-Err-Faulty-clause-readable
returns-in-Err-Faulty-clause-readable g c = reads_behind _ _ _ _ _ c.loop-word.invariant.kept c.loop-word.invariant.failed c.load_source.ensures.readable

pub returns-in-Err-NoMemory-clause-readable : goal.returns-in-Err-NoMemory-clause-readable
returns-in-Err-NoMemory-clause-readable g c = reads_behind _ _ _ _ _ c.loop-word.invariant.kept c.loop-word.invariant.failed c.load_source.ensures.readable

pub loop-word-preserved : goal.loop-word-preserved
loop-word-preserved g c =
    let here = c.loop-word.invariant in
    let size = c.in-Ok.loaded.size in
    let fits = source_fits _ (before_file c.loop-word.rest c.loop-word.names) _ _ _ size _ c.in-Ok.ensures.ok in
    record {
      read = sources_more (g.F.Files.contents c.args.files.now) (g.F.Files.contents c.loop-word.files) (before_file c.args.left c.args.names.now) c.args.words.now c.loop-word.word-index c.len-position.result (before_file c.loop-word.rest c.loop-word.names) _
          (omega (arith, c.loop-word-test.true)) (omega (arith, here.count, c.loop-word.units.ok.0, c.len-position.ensures)) here.contents c.load_source.new.names size _ c.loop-word.units.items c.push.new.self.items c.in-Ok.loaded.unit here.read
          c.in-Ok.ensures.ok (omega (arith, here.count, c.loop-word.units.ok.0, c.len-position.ensures, c.requires.few, c.loop-word-test.true)) c.in-Ok-push.ensures.items;
      numbered = numbered-push c.loop-word.units.items c.push.new.self.items c.in-Ok.loaded.unit here.numbered
          (c.in-Ok.ensures.file ∙ omega (arith, here.count, c.loop-word.units.ok.0, c.len-position.ensures, c.requires.few, c.loop-word-test.true)) c.in-Ok-push.ensures.items;
      count = omega (arith, here.count, ap length c.in-Ok-push.ensures.items, length-append c.loop-word.units.items (c.in-Ok.loaded.unit ∷ []));
      places = place_taken c.loop-word.free c.next.new.self c.next.result (length c.args.words.now) c.loop-word.word-index c.next.ensures.steps here.places;
      bound = omega (arith, here.bound);
      room = room_left (length c.loop-word.names) (length c.load_source.new.names) (length c.args.names.now + 2 * c.args.left) c.loop-word.rest size (size + 1) c.loop-word.word-index 0
          (adds_few c.loop-word.names c.load_source.new.names (size + 1) c.in-Ok.ensures.adds) (omega arith) fits here.room;
      failed = c.in-Ok.ensures.none_failed ∙ here.failed;
      contents = c.load_source.ensures.same ∙ here.contents;
      kept = c.load_source.ensures.kept ∙ here.kept;
    }
