use Rattle.std.proofs.Common.{◌∙◌}
use Rattle.std.specs.Prelude.{OnErr}
use Rattle.objects.proofs.Texts.{as_object}
use Rattle.objects.proofs.text.write_text.Goals as goal
use Rattle.objects.specs.Pieces.{HasBegun}

pub returns-clause-err : goal.returns-clause-err
returns-clause-err c =
    as_object (λ t. OnErr c.write_pieces.result (HasBegun c.args.into.now t c.write_pieces.new.into)) c.args.names.now c.args.object.now c.as_slice.result.now
    (c.as_slice.ensures.value ∙ c.pieces_of-pieces.ensures) c.write_pieces.ensures.err
