use Rattle.command.proofs.Unique.OneDue.{one_due, plain_line}
use Rattle.request_files.specs.Telling.{surely_holds}
use Rattle.one_answer.proofs.theorems.plain_due_is_unique.Goals as goal

pub returns : goal.returns
returns c told words called rendered old new status other text more line next none x y =
    let one = one_due told rendered old new words called status other text more line next x y in
    (one.0, one.1, plain_line (surely_holds told) words called status line next none one.2)
