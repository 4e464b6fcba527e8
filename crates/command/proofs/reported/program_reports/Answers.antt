use Rattle.std.proofs.Common.{ap}
use Rattle.mx_io.specs.MemFiles.{first_of}
use Rattle.command.specs.Checker.{free_text}
use Rattle.command.specs.Measured.{checker_name, program_name}
use Rattle.command.proofs.Contents.{judged_as_told}
use Rattle.command.proofs.reported.program_reports.Goals as goal

pub returns-in-Ok : goal.returns-in-Ok
returns-in-Ok c =
    let held = c.in_ok-files.ensures in
    judged_as_told (first_of c.in_ok-files.files.files) checker_name program_name free_text c.args.program.now (ap (λ fs. first_of fs checker_name) held) (ap (λ fs. first_of fs program_name) held) 4 c.in-Ok.found.reports.items
    c.in-Ok.ensures.accepted.accepted
