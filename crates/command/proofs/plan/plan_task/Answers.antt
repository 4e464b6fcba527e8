use Rattle.std.proofs.Common.{length, map, string_bytes, sym, ap, ◌+◌, ◌∙◌}
use Rattle.std.proofs.lemmas.Result.{IfOk-weaker}
use Rattle.report_model.proofs.OfReporters.Appending.{on_err}
use Rattle.command_words.specs.Words.{is_checker_word, is_source_word}
use Rattle.command.specs.Ways.Counts.{AreCounted}
use Rattle.command.specs.Ways.Plans.{IsAmong, IsPlanOf}
use Rattle.command.specs.Tasks.{command_of}
use Rattle.command.proofs.Plans.{due_for_none, due_for_reports, failed_for_none, is_among, kind_few, leaves_for_none, leaves_for_reports, of_both, with_both}
use Rattle.command.specs.JudgedFiles.FirstFault.{AnswersUnjudged}
use Rattle.request_files.specs.Telling.{may_hold}
use Rattle.request_files.specs.Views.{words_of}
use Rattle.command.proofs.plan.plan_task.Goals as goal

pub reports_of-requires-clause-few_checkers : goal.reports_of-requires-clause-few_checkers
reports_of-requires-clause-few_checkers g c = kind_few string_bytes is_checker_word c.args.task.now.files.now c.deref.result.now 80 (ap words_of c.deref.ensures.value ∙ c.in_ok-checkers.ensures) c.requires.few

pub reports_of-requires-clause-few_sources : goal.reports_of-requires-clause-few_sources
reports_of-requires-clause-few_sources g c = kind_few string_bytes is_source_word c.args.task.now.files.now c.deref-2.result.now 80 (ap words_of c.deref-2.ensures.value ∙ c.in_ok-sources.ensures) c.requires.few

pub returns-in-Ok-clause-due : goal.returns-in-Ok-clause-due
returns-in-Ok-clause-due g c =
    let holds = may_hold (g.F.Files.contents c.args.files.now) in
    let command = command_of c.args.task.now in
    let counted = of_both (λ xs ys. AreCounted holds xs ys c.args.task.now.depth c.args.task.now.stats c.in-Ok.found.reports.items c.in-Ok.found.entries) _ _ _ _ (ap words_of c.deref.ensures.value ∙ c.in_ok-checkers.ensures) (ap words_of c.deref-2.ensures.value ∙ c.in_ok-sources.ensures) c.in-Ok.ensures.accepted in
    IfOk-weaker c.plan_reports.result _ _
    (λ plan p. due_for_reports holds command (g.F.Files.failed c.args.files.now) (g.F.Files.failed c.reports_of.new.files)
    (λ reports. map (λ b. (goal.Reporter-dyn g (b.vtable, b.value)).rendered b.value reports) c.args.reporters.now.items) c.in-Ok.found.reports.items c.in-Ok.found.entries plan.status plan.text.items plan.line counted c.in-Ok.ensures.none_failed p)
    (rw c.deref-in-Ok.ensures.value at c.plan_reports.ensures.plan)

pub returns-in-Ok-clause-leaves : goal.returns-in-Ok-clause-leaves
returns-in-Ok-clause-leaves g c =
    with_both c.plan_reports.result _ _ _
    (λ plan p empty. leaves_for_reports c.args.task.now.place (map (λ b. (goal.Reporter-dyn g (b.vtable, b.value)).taken b.value) c.args.reporters.now.items) (map (λ b. (goal.Reporter-dyn g (b.vtable, b.value)).taken b.value) c.plan_reports.new.reporters.items)
    c.deref-in-Ok.result.now plan.status p.0 empty)
    c.plan_reports.ensures.plan c.plan_reports.ensures.empty

pub plan_refusal-requires : goal.plan_refusal-requires
plan_refusal-requires g c =
    of_both (λ xs ys. IsAmong (length xs + length ys) c.in-Err.unjudged) c.deref.result.now c.deref-2.result.now c.deref-in-Err.result.now c.deref-in-Err-2.result.now
    (c.deref.ensures.value ∙ sym c.deref-in-Err.ensures.value) (c.deref-2.ensures.value ∙ sym c.deref-in-Err-2.ensures.value)
    (is_among (may_hold (g.F.Files.contents c.args.files.now)) c.deref.result.now c.deref-2.result.now (g.F.Files.failed c.args.files.now) (g.F.Files.failed c.reports_of.new.files) c.in-Err.unjudged c.in-Err.ensures.unjudged)

pub returns-clause-due : goal.returns-clause-due
returns-clause-due g c =
    let holds = may_hold (g.F.Files.contents c.args.files.now) in
    let command = command_of c.args.task.now in
    let old = g.F.Files.failed c.args.files.now in
    let new = g.F.Files.failed c.reports_of.new.files in
    let answers = of_both (λ xs ys. AnswersUnjudged holds xs ys old new c.in-Err.unjudged) _ _ _ _ (ap words_of c.deref.ensures.value ∙ c.in_ok-checkers.ensures) (ap words_of c.deref-2.ensures.value ∙ c.in_ok-sources.ensures) c.in-Err.ensures.unjudged in
    IfOk-weaker c.plan_refusal.result _ _
    (λ plan p. due_for_none holds command old new (λ reports. map (λ b. (goal.Reporter-dyn g (b.vtable, b.value)).rendered b.value reports) c.args.reporters.now.items) c.in-Err.unjudged plan.status plan.text.items plan.line answers
    (of_both (λ xs ys. IsPlanOf xs ys c.in-Err.unjudged plan.status plan.text.items plan.line) _ _ _ _ (ap words_of c.deref-in-Err.ensures.value ∙ c.in_ok-checkers.ensures) (ap words_of c.deref-in-Err-2.ensures.value ∙ c.in_ok-sources.ensures) p))
    c.plan_refusal.ensures

pub returns-clause-failed : goal.returns-clause-failed
returns-clause-failed g c =
    let command = command_of c.args.task.now in
    on_err c.plan_refusal.result _
    (failed_for_none (may_hold (g.F.Files.contents c.args.files.now)) command (g.F.Files.failed c.args.files.now) (g.F.Files.failed c.reports_of.new.files) c.in-Err.unjudged
    (of_both (λ xs ys. AnswersUnjudged (may_hold (g.F.Files.contents c.args.files.now)) xs ys (g.F.Files.failed c.args.files.now) (g.F.Files.failed c.reports_of.new.files) c.in-Err.unjudged) _ _ _ _
    (ap words_of c.deref.ensures.value ∙ c.in_ok-checkers.ensures) (ap words_of c.deref-2.ensures.value ∙ c.in_ok-sources.ensures) c.in-Err.ensures.unjudged))

pub returns-clause-leaves : goal.returns-clause-leaves
returns-clause-leaves g c =
    IfOk-weaker c.plan_refusal.result _ _
    (λ plan p. leaves_for_none c.args.task.now.place (map (λ b. (goal.Reporter-dyn g (b.vtable, b.value)).taken b.value) c.args.reporters.now.items) (words_of c.deref-in-Err.result.now) (words_of c.deref-in-Err-2.result.now) c.in-Err.unjudged plan.status plan.text.items plan.line p)
    c.plan_refusal.ensures
