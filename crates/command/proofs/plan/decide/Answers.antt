use Rattle.std.proofs.Common.{Global, map, string_bytes, refl, inl}
use Rattle.report_model.proofs.OfReporters.Appending.{on_err}
use Rattle.command.specs.Tasks.{command_of}
use Rattle.command.proofs.Plans.{failed_for_words, leaves_for_words, leaves_unasked}
use Rattle.request_files.specs.Telling.{may_hold}
use Rattle.command.proofs.plan.decide.Goals as goal

pub returns-in-Some-clause-leaves : goal.returns-in-Some-clause-leaves
returns-in-Some-clause-leaves g c =
    let words = map (string_bytes {Z = Global}) c.args.words.now in
    let called = map (λ b. (goal.Reporter-dyn g (b.vtable, b.value)).called b.value) c.args.reporters.now.items in
    let held = map (λ b. (goal.Reporter-dyn g (b.vtable, b.value)).taken b.value) c.args.reporters.now.items in
    leaves_unasked words called c.in-Some.count (λ reports. map (λ b. (goal.Reporter-dyn g (b.vtable, b.value)).rendered b.value reports) c.args.reporters.now.items) held held c.in_ok-plan.plan.status c.in-Some.ensures.generation
    refl

pub returns-in_default-task_of-clause-due : goal.returns-in_default-task_of-clause-due
returns-in_default-task_of-clause-due g c = inl (record {
  none = record { no_command = rw c.deref.ensures.value at (c.in_default-task_of.ensures.none refl); no_generation = c.read_generation.ensures.none c.in_default.is };
  none_failed = refl;
  status_is = refl;
  text_is = c.new-text.ensures.items;
  line_is = c.in_ok-line.ensures;
})

pub returns-in_err-plan-2-clause-failed : goal.returns-in_err-plan-2-clause-failed
returns-in_err-plan-2-clause-failed g c =
    let words = map (string_bytes {Z = Global}) c.args.words.now in
    let called = map (λ b. (goal.Reporter-dyn g (b.vtable, b.value)).called b.value) c.args.reporters.now.items in
    on_err c.from_residual-in_err-plan-2.result _
    (failed_for_words words called (command_of c.in-Some-task_of.task) (rw c.deref.ensures.value at c.in-Some-task_of.ensures.given) (rw c.deref.ensures.value at c.in-Some-task_of.ensures.only) (may_hold (g.F.Files.contents c.args.files.now)) (g.F.Files.failed c.args.files.now) (g.F.Files.failed c.plan_task.new.files) c.in_err-plan-2.ensures.failed)

pub returns-in_err-plan-2-clause-others : goal.returns-in_err-plan-2-clause-others
returns-in_err-plan-2-clause-others g c k other = c.plan_task.ensures.others k (λ e. other (command_of c.in-Some-task_of.task) (rw c.deref.ensures.value at c.in-Some-task_of.ensures.given) e)

pub returns-in_err-plan-2-clause-unread : goal.returns-in_err-plan-2-clause-unread
returns-in_err-plan-2-clause-unread g c none = absurd (none.no_command (command_of c.in-Some-task_of.task) (rw c.deref.ensures.value at c.in-Some-task_of.ensures.given))

pub returns-in_err-plan-2-clause-untouched : goal.returns-in_err-plan-2-clause-untouched
returns-in_err-plan-2-clause-untouched g c count is = absurd (c.read_generation.ensures.none c.in_default.is count is)

pub returns-in_err-plan-2-clause-spares : goal.returns-in_err-plan-2-clause-spares
returns-in_err-plan-2-clause-spares g c count is = absurd (c.read_generation.ensures.none c.in_default.is count is)

pub returns-clause-others : goal.returns-clause-others
returns-clause-others g c k other = c.plan_task.ensures.others k (λ e. other (command_of c.in-Some-task_of.task) (rw c.deref.ensures.value at c.in-Some-task_of.ensures.given) e)

pub returns-clause-unread : goal.returns-clause-unread
returns-clause-unread g c none = absurd (none.no_command (command_of c.in-Some-task_of.task) (rw c.deref.ensures.value at c.in-Some-task_of.ensures.given))

pub returns-clause-untouched : goal.returns-clause-untouched
returns-clause-untouched g c count is = absurd (c.read_generation.ensures.none c.in_default.is count is)

pub returns-clause-spares : goal.returns-clause-spares
returns-clause-spares g c count is = absurd (c.read_generation.ensures.none c.in_default.is count is)

pub returns-clause-leaves : goal.returns-clause-leaves
returns-clause-leaves g c =
    let words = map (string_bytes {Z = Global}) c.args.words.now in
    let called = map (λ b. (goal.Reporter-dyn g (b.vtable, b.value)).called b.value) c.args.reporters.now.items in
    leaves_for_words words called (command_of c.in-Some-task_of.task) (rw c.deref.ensures.value at c.in-Some-task_of.ensures.given) (rw c.deref.ensures.value at c.in-Some-task_of.ensures.only)
    (λ reports. map (λ b. (goal.Reporter-dyn g (b.vtable, b.value)).rendered b.value reports) c.args.reporters.now.items) _ _ c.in_ok-plan-2.plan.status c.in_ok-plan-2.ensures.leaves
