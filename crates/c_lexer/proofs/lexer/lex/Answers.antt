use Rattle.std.proofs.Common.{◌≡◌, ◌<◌, ◌+◌, ◌-◌, take, drop, inr, sym, ap, ◌∙◌, subst, length, arith}
use Rattle.c_lexer.specs.Progress.{Reached, spot_of}
use Rattle.c_lexer.proofs.Reaching.{reached_first, reached_next, reached_end, reached_fault, same_names, tokens_rise, tokens_of_file, refused, unread, same_tokens, some_left, made_list, exactly}
use Rattle.std.proofs.lemmas.Grind.{common_steps}
use Rattle.std.proofs.lemmas.List.{take_rest, nil_from_length}
use Rattle.c_lexer.specs.Pieces.{piece_len}
use Rattle.c_lexer.proofs.CReading.Readings.{no_reading}
use Rattle.c_lexer.proofs.lexer.lex.Goals as goal

pub cutting-init : goal.cutting-init
cutting-init c =
    let known = c.in_ok-source.ensures.own.here in
    let first = reached_first c.args.mode c.args.file c.args.word.now c.args.bytes.now c.args.names.now c.beginning-here.result c.intern.new.self
    (rw c.beginning-here.ensures.source known) (c.beginning-here.ensures.stands c.args.word.now) c.in_ok-source.ensures.names c.in_ok-source.ensures.adds c.in_ok-source.ensures.distinct c.beginning-here.ensures.bounds in
    record {
      reached = rw c.new-tokens.ensures.items first;
      count = omega (arith, c.new-tokens.ensures.len);
    }

pub cutting-preserved : goal.cutting-preserved
cutting-preserved c =
    let rest = c.cutting.rest.now in
    let r = c.cutting.invariant.reached in
    let g = c.in-Ok.ensures in
    let s = c.in_ok-here.ensures.steps c.args.mode r.file g.3 r.known in
    let next = reached_next c.args.mode c.args.file c.args.word.now c.args.bytes.now c.args.names.now rest c.cutting.here c.in_ok-here.here
    c.cutting.tokens.items c.take.new.tokens.items c.cutting.names c.take.new.names c.in-Ok.piece r g s
    (c.in_ok-here.ensures.named c.args.mode g.3) c.in_ok-here.ensures.adds c.in_ok-here.ensures.once c.in_ok-here.ensures.bounds c.in_ok-here.ensures.offset in
    let left : take (length rest - c.len.result) (drop c.len.result rest) ≡ drop (piece_len c.in-Ok.piece) rest = take_rest rest c.len.result ∙ ap (λ k. drop k rest) c.len.ensures in
    record {
      reached = subst (λ l. Reached c.args.mode c.args.file c.args.word.now c.args.bytes.now c.args.names.now l c.in_ok-here.here c.take.new.tokens.items c.take.new.names) (sym left) next;
      count = c.in_ok-here.ensures.count;
    }

pub returns-in-Err-clause-fault : goal.returns-in-Err-clause-fault
returns-in-Err-clause-fault c =
    let r = c.cutting.invariant.reached in
    let e = c.in-Err.ensures in
    let some : 0 < length c.cutting.rest.now = grind (arith, common_steps) in
    let f = reached_fault c.args.mode c.args.file c.args.word.now c.args.bytes.now c.args.names.now c.cutting.rest.now c.cutting.here c.cutting.tokens.items c.cutting.names c.in-Err.fault r (some_left c.cutting.rest.now some) e.0 e.1 in
    let spot : c.spot.result ≡ spot_of c.args.file c.cutting.here (length c.cutting.tokens.items) = c.spot.ensures ∙ ap (λ l. spot_of c.args.file c.cutting.here (length l)) c.as_slice.ensures.value in
    rw (c.at.ensures, spot) (refused c.args.mode c.args.file c.args.word.now c.cutting.names c.args.bytes.now c.in-Err.fault (spot_of c.args.file c.cutting.here (length c.cutting.tokens.items)) f)

pub returns-in-Err-clause-only : goal.returns-in-Err-clause-only
returns-in-Err-clause-only c = λ pieces reading.
    let r = c.cutting.invariant.reached in
    let e = c.in-Err.ensures in
    let some : 0 < length c.cutting.rest.now = grind (arith, common_steps) in
    let f = reached_fault c.args.mode c.args.file c.args.word.now c.args.bytes.now c.args.names.now c.cutting.rest.now c.cutting.here c.cutting.tokens.items c.cutting.names c.in-Err.fault r (some_left c.cutting.rest.now some) e.0 e.1 in
    absurd (unread c.args.mode c.args.file c.args.word.now c.cutting.names c.args.bytes.now c.in-Err.fault (spot_of c.args.file c.cutting.here (length c.cutting.tokens.items)) pieces f reading)

pub new-requires-clause-of_file : goal.new-requires-clause-of_file
new-requires-clause-of_file c =
    let r = c.cutting.invariant.reached in
    rw c.spot-end.ensures (tokens_of_file c.args.file c.cutting.names 0 _ c.cutting.tokens.items r.tokens)

pub new-requires-clause-rising : goal.new-requires-clause-rising
new-requires-clause-rising c =
    let r = c.cutting.invariant.reached in
    let rise = tokens_rise c.args.file c.cutting.names 0 _ c.cutting.tokens.items r.tokens in
    let count : 0 + length c.cutting.tokens.items ≡ length c.as_slice-2.result.now = omega (arith, ap length c.as_slice-2.ensures.value) in
    rw c.spot-end.ensures (rw count at rise)

pub returns-clause-only : goal.returns-clause-only
returns-clause-only c = λ pieces reading.
    let r = c.cutting.invariant.reached in
    let none : length c.cutting.rest.now ≡ 0 = grind (arith, common_steps) in
    let e = reached_end c.args.mode c.args.file c.args.word.now c.args.bytes.now c.args.names.now c.cutting.rest.now c.cutting.here c.cutting.tokens.items c.cutting.names r (nil_from_length c.cutting.rest.now none) in
    let spot : c.spot-end.result ≡ spot_of c.args.file c.cutting.here (length c.cutting.tokens.items) = c.spot-end.ensures ∙ ap (λ l. spot_of c.args.file c.cutting.here (length l)) c.as_slice-2.ensures.value in
    let l = same_tokens c.args.mode c.args.file c.args.word.now c.cutting.names c.args.bytes.now _ r.cut pieces e.0 reading e.1 in
    made_list c.args.mode c.args.file c.args.word.now c.cutting.names pieces c.new.result c.cutting.tokens.items _ c.new.ensures.all (c.new.ensures.end ∙ spot) l

pub returns-in-Err-clause-exact : goal.returns-in-Err-clause-exact
returns-in-Err-clause-exact c = λ pieces kind faulty.
    let r = c.cutting.invariant.reached in
    let e = c.in-Err.ensures in
    let some : 0 < length c.cutting.rest.now = grind (arith, common_steps) in
    let f = reached_fault c.args.mode c.args.file c.args.word.now c.args.bytes.now c.args.names.now c.cutting.rest.now c.cutting.here c.cutting.tokens.items c.cutting.names c.in-Err.fault r (some_left c.cutting.rest.now some) e.0 e.1 in
    let spot : c.spot.result ≡ spot_of c.args.file c.cutting.here (length c.cutting.tokens.items) = c.spot.ensures ∙ ap (λ l. spot_of c.args.file c.cutting.here (length l)) c.as_slice.ensures.value in
    inr (rw (c.at.ensures, spot) (exactly c.args.mode c.args.file c.args.word.now c.cutting.names c.args.bytes.now c.in-Err.fault kind (spot_of c.args.file c.cutting.here (length c.cutting.tokens.items)) pieces f faulty))

pub returns-clause-exact : goal.returns-clause-exact
returns-clause-exact c = λ pieces kind faulty.
    let r = c.cutting.invariant.reached in
    let none : length c.cutting.rest.now ≡ 0 = grind (arith, common_steps) in
    let e = reached_end c.args.mode c.args.file c.args.word.now c.args.bytes.now c.args.names.now c.cutting.rest.now c.cutting.here c.cutting.tokens.items c.cutting.names r (nil_from_length c.cutting.rest.now none) in
    no_reading c.args.mode c.args.word.now pieces r.cut c.args.bytes.now kind faulty e.0

pub returns-clause-named : goal.returns-clause-named
returns-clause-named c = λ pieces reading.
    let r = c.cutting.invariant.reached in
    let none : length c.cutting.rest.now ≡ 0 = grind (arith, common_steps) in
    let e = reached_end c.args.mode c.args.file c.args.word.now c.args.bytes.now c.args.names.now c.cutting.rest.now c.cutting.here c.cutting.tokens.items c.cutting.names r (nil_from_length c.cutting.rest.now none) in
    same_names c.args.mode c.args.word.now c.args.bytes.now _ c.cutting.names r.cut pieces e.0 reading r.named
