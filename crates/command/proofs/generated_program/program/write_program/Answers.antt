use Rattle.report_model.proofs.OfReporters.Appending.{on_err}
use Rattle.command.specs.GeneratedProgram.Generated.{line_of}
use Rattle.command.proofs.GeneratedProgram.Lines.{begun_line, one_more}
use Rattle.command.proofs.generated_program.program.write_program.Goals as goal

pub returns-in_err-write_line-clause-err : goal.returns-in_err-write_line-clause-err
returns-in_err-write_line-clause-err c =
    on_err c.from_residual.result _
    (begun_line (line_of c.args.count) c.loop-number.number c.args.count c.args.into.now c.loop-number.into c.write_line.new.into _ c.loop-number-test.true c.loop-number.invariant c.in_err-write_line.ensures.err)

pub loop-number-preserved : goal.loop-number-preserved
loop-number-preserved c = one_more (line_of c.args.count) c.loop-number.number c.args.into.now c.loop-number.into c.write_line.new.into c.loop-number.invariant c.in_ok-write_line.ensures.ok
