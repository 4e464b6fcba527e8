use Rattle.std.proofs.Common.{sym, subst}
use Rattle.command.specs.Ran.{DidAs}
use Rattle.command.proofs.Unique.OneDue.{determined, plain_line}
use Rattle.request_files.specs.Telling.{surely_holds}
use Rattle.one_answer.proofs.theorems.plain_what_is_due_is_done.Goals as goal

pub returns : goal.returns
returns c told words r old new result out errs status text line none ran due =
    let done = determined told words r old new result out errs status text line ran due in
    subst (λ l. DidAs status text l result out errs) (sym (plain_line (surely_holds told) words r.called status line done.0 none done.1)) done.2
