use Rattle.std.proofs.Common.{◌+◌, ◌*◌, ◌∙◌, length, sym, ap, subst, arith}
use Rattle.c_lexer.specs.declared.c_reading.mode.Mode.TheVariants.{Metal}
use Rattle.metal_numbers.specs.MetalBuilding.Places.{HasPlaces}
use Rattle.request_files.specs.Lexed.{AreTokensOf}
use Rattle.request_files.specs.Turns.{CheckerFile}
use Rattle.request_files.proofs.KnownFiles.{lexed_known}
use Rattle.request_files.proofs.Refusing.{tokens_known, is_checker, machine_known, unread_tokens, unread_machine}
use Rattle.request_files.proofs.Turns.{adds_both}
use Rattle.request_files.proofs.checkers.read_machine.Goals as goal

pub refused-requires : goal.refused-requires
refused-requires c = tokens_known Metal c.read_tokens.new.names c.args.word.now c.args.bytes.now c.in-Err.refusal c.in-Err.ensures.refused

pub returns-in-Err-clause-stopped : goal.returns-in-Err-clause-stopped
returns-in-Err-clause-stopped c =
    unread_tokens CheckerFile c.args.number c.args.names.now c.read_tokens.new.names c.args.word.now c.args.bytes.now c.requires.size c.in-Err.refusal c.refused.result c.in-Err.ensures.refused c.refused.ensures

pub refused-requires-in-Err-read_checker : goal.refused-requires-in-Err-read_checker
refused-requires-in-Err-read_checker c =
    let list = c.insert-kept.result.now in
    let tokens : AreTokensOf Metal c.args.number c.args.word.now c.args.names.now c.read_tokens.new.names c.args.bytes.now list =
    subst (λ l. AreTokensOf Metal c.args.number c.args.word.now c.args.names.now c.read_tokens.new.names c.args.bytes.now l) (sym c.insert-kept.ensures.value) c.in-Ok.ensures.tokens in
    let still = c.read_checker.ensures.lexed c.args.number c.args.word.now tokens.pieces tokens.lexes in
    machine_known c.read_checker.new.names list c.in-Err-read_checker.refusal (lexed_known Metal c.args.number c.args.word.now c.read_checker.new.names tokens.pieces list still) c.in-Err-read_checker.ensures.refused

pub returns-in-Ok-read_checker-clause-ok : goal.returns-in-Ok-read_checker-clause-ok
returns-in-Ok-read_checker-clause-ok c =
    is_checker c.args.number c.args.names.now c.read_checker.new.names c.args.word.now c.args.bytes.now c.requires.size c.read_tokens.new.names c.insert-kept.result.now
    (subst (λ l. AreTokensOf Metal c.args.number c.args.word.now c.args.names.now c.read_tokens.new.names c.args.bytes.now l) (sym c.insert-kept.ensures.value) c.in-Ok.ensures.tokens)
    _ c.in-Ok-read_checker.ensures.named c.in-Ok-read_checker.ensures.machine

-- the tokens' end stands in the file with this number
pub returns-in-Ok-read_checker-clause-places : goal.returns-in-Ok-read_checker-clause-places
returns-in-Ok-read_checker-clause-places c =
    subst (λ file. HasPlaces file c.in-Ok-read_checker.machine.rules.now) (ap (λ l. l.end.place.file) c.insert-kept.ensures.value ∙ c.in-Ok.ensures.tokens.lexes.end.file) c.in-Ok-read_checker.ensures.places

pub returns-in-Ok-read_checker-clause-adds : goal.returns-in-Ok-read_checker-clause-adds
returns-in-Ok-read_checker-clause-adds c =
    adds_both c.args.names.now c.read_tokens.new.names c.read_checker.new.names (length c.args.bytes.now + 1) (length c.insert-kept.result.now.all) (2 * length c.args.bytes.now + 1)
    c.read_tokens.ensures.adds c.read_checker.ensures.adds
    (omega (arith, c.in-Ok.ensures.few, ap (λ l. length l.all) c.insert-kept.ensures.value))

pub returns-in-Err-read_checker-clause-stopped : goal.returns-in-Err-read_checker-clause-stopped
returns-in-Err-read_checker-clause-stopped c =
    unread_machine c.args.number c.args.names.now c.read_checker.new.names c.args.word.now c.args.bytes.now c.requires.size c.read_tokens.new.names c.insert-kept.result.now
    (subst (λ l. AreTokensOf Metal c.args.number c.args.word.now c.args.names.now c.read_tokens.new.names c.args.bytes.now l) (sym c.insert-kept.ensures.value) c.in-Ok.ensures.tokens)
    c.in-Err-read_checker.refusal c.refused-in-Err-read_checker.result c.in-Err-read_checker.ensures.named c.in-Err-read_checker.ensures.refused c.refused-in-Err-read_checker.ensures
