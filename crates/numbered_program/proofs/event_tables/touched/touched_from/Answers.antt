use Rattle.std.proofs.Common.{◌∙◌, sym, ap, cond, None, Some}
use Rattle.numbered_program.specs.NumberedTuples.FollowedObjects.{number_of, row_of}
use Rattle.numbered_program.proofs.event_tables.touched.touched_from.Goals as goal

pub returns-then-is_same : goal.returns-then-is_same
returns-then-is_same c = sym (ap (λ b. cond b None (Some (row_of c.args.number (number_of c.args.numbering.now.objects.now.keys c.args.source.now)))) (sym c.is_same.ensures ∙ c.if-is_same.true))

pub returns : goal.returns
returns c =
    ap (λ k. Some (row_of c.args.number k)) c.number.ensures.number
    ∙ sym (ap (λ b. cond b None (Some (row_of c.args.number (number_of c.args.numbering.now.objects.now.keys c.args.source.now)))) (sym c.is_same.ensures ∙ c.if-is_same.false))
