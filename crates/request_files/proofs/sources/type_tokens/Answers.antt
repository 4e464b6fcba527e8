use Rattle.std.proofs.Common.{◌∙◌, ap, arith}
use Rattle.request_files.proofs.KnownFiles.{stripped_few}
use Rattle.request_files.proofs.Refusing.{unit_known, has_no_unit}
use Rattle.request_files.proofs.sources.type_tokens.Goals as goal

pub read_typed-requires : goal.read_typed-requires
read_typed-requires c = omega (arith, c.requires.few, stripped_few c.args.tokens.now.all c.insert-kept.result.now.all (ap (λ l. l.all) c.insert-kept.ensures.value ∙ c.in-Ok.ensures.all))

pub refused-requires : goal.refused-requires
refused-requires c =
    unit_known c.args.names.now c.args.tokens.now c.insert-kept.result.now c.in-Err.refusal (ap (λ l. l.all) c.insert-kept.ensures.value ∙ c.in-Ok.ensures.all) (ap (λ l. l.end) c.insert-kept.ensures.value ∙ c.in-Ok.ensures.end)
    c.in-Err.ensures.refused c.requires.known

pub returns-in-Err-clause-stopped : goal.returns-in-Err-clause-stopped
returns-in-Err-clause-stopped c =
    has_no_unit c.args.names.now c.args.tokens.now c.insert-kept.result.now c.in-Err.refusal (ap (λ l. l.all) c.insert-kept.ensures.value ∙ c.in-Ok.ensures.all) (ap (λ l. l.end) c.insert-kept.ensures.value ∙ c.in-Ok.ensures.end)
    c.in-Err.ensures.refused c.refused.result c.refused.ensures
