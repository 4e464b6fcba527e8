use Rattle.std.proofs.Common.{◌∙◌}
use Rattle.report_model.proofs.OfReporters.Appending.{begun, on_err}
use Rattle.command.proofs.generated_program.pieces.append_all.Goals as goal

pub returns-in_err-push_all-clause-err : goal.returns-in_err-push_all-clause-err
returns-in_err-push_all-clause-err c =
    on_err c.from_residual.result _
    (begun _ c.args.texts.now c.loop-piece.piece-index c.args.into.now c.push_all.new.self (c.in_err-push_all.ensures.err ∙ c.loop-piece.invariant))
