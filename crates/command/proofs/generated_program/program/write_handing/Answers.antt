use Rattle.std.proofs.Common.{◌≡◌, ℕ, ◌+◌, List, ◌++◌, OnErr, OnOk, codes, subst, ◌∙◌}
use Rattle.std.specs.Fmt.{decimal}
use Rattle.report_model.specs.OfReporters.Beginnings.{HasBegun}
use Rattle.command.proofs.generated_program.program.write_handing.Goals as goal

-- the line of these two texts of numbers
abbrev with : List ℕ → List ℕ → List ℕ
with d e = codes "void f" ++ (d ++ (codes "(char *p){ f" ++ (e ++ codes "(p); *p; }\n")))

pub returns-clause-ok : goal.returns-clause-ok
returns-clause-ok c =
    subst (λ d. OnOk c.append_all.result (c.append_all.new.into ≡ c.args.into.now ++ with d (decimal (c.args.number + 1)))) (c.as_bytes.ensures.value ∙ c.format.ensures.text)
    (subst (λ e. OnOk c.append_all.result (c.append_all.new.into ≡ c.args.into.now ++ with c.as_bytes.result.now e)) (c.as_bytes-2.ensures.value ∙ c.format-2.ensures.text) c.append_all.ensures.ok)

pub returns-clause-err : goal.returns-clause-err
returns-clause-err c =
    subst (λ d. OnErr c.append_all.result (HasBegun c.args.into.now (with d (decimal (c.args.number + 1))) c.append_all.new.into)) (c.as_bytes.ensures.value ∙ c.format.ensures.text)
    (subst (λ e. OnErr c.append_all.result (HasBegun c.args.into.now (with c.as_bytes.result.now e) c.append_all.new.into)) (c.as_bytes-2.ensures.value ∙ c.format-2.ensures.text) c.append_all.ensures.err)
