use Rattle.std.proofs.Common.{◌++◌, OnErr, codes, subst, ◌∙◌}
use Rattle.report_model.specs.OfReporters.Beginnings.{HasBegun}
use Rattle.command.proofs.generated_program.program.write_freeing.Goals as goal

pub returns-clause-err : goal.returns-clause-err
returns-clause-err c =
    subst (λ d. OnErr c.append_all.result (HasBegun c.args.into.now (codes "void f" ++ (d ++ codes "(char *p){ kfree(p); }\n")) c.append_all.new.into)) (c.as_bytes.ensures.value ∙ c.format.ensures.text) c.append_all.ensures.err
