use Rattle.std.proofs.Common.{Global, map, string_bytes, sym, ◌∙◌}
use Rattle.command.proofs.GivenWords.{nothing_given, without_reporter, asked_deep, asked_few, only_without, only_with}
use Rattle.command.proofs.words.task_of.Goals as goal

pub returns-in_err-asked-clause-none : goal.returns-in_err-asked-clause-none
returns-in_err-asked-clause-none g c e = nothing_given (map (string_bytes {Z = Global}) c.args.words.now) (map (λ b. (goal.Reporter-dyn g (b.vtable, b.value)).called b.value) c.args.reporters.now) (c.read_asked.ensures.none c.in_err-asked.was)

pub returns-in_default-clause-only : goal.returns-in_default-clause-only
returns-in_default-clause-only g c =
    only_without (map (string_bytes {Z = Global}) c.args.words.now) (map (λ b. (goal.Reporter-dyn g (b.vtable, b.value)).called b.value) c.args.reporters.now) c.in_ok-asked.asked c.in_ok-asked.ensures.request c.in_ok-asked.ensures.only c.in_default.is

pub returns-in_default-clause-deep : goal.returns-in_default-clause-deep
returns-in_default-clause-deep g c =
    asked_deep (map (string_bytes {Z = Global}) c.args.words.now) (map (λ b. (goal.Reporter-dyn g (b.vtable, b.value)).called b.value) c.args.reporters.now) c.in_ok-asked.asked c.in_ok-asked.ensures.request c.in_ok-asked.ensures.only

pub returns-in_default-clause-few : goal.returns-in_default-clause-few
returns-in_default-clause-few g c =
    asked_few (map (string_bytes {Z = Global}) c.args.words.now) (map (λ b. (goal.Reporter-dyn g (b.vtable, b.value)).called b.value) c.args.reporters.now) c.in_ok-asked.asked c.in_ok-asked.ensures.request c.in_ok-asked.ensures.only

pub returns-in-None-clause-none : goal.returns-in-None-clause-none
returns-in-None-clause-none g c e =
    without_reporter (map (string_bytes {Z = Global}) c.args.words.now) (map (λ b. (goal.Reporter-dyn g (b.vtable, b.value)).called b.value) c.args.reporters.now) c.in_ok-asked.asked c.in_ok-asked.ensures.request c.in_ok-asked.ensures.only
    c.in-Some.name c.in-Some.is (sym c.place_of.ensures.first ∙ c.in-None.is)

pub returns-in-Some-place_of-clause-only : goal.returns-in-Some-place_of-clause-only
returns-in-Some-place_of-clause-only g c =
    only_with (map (string_bytes {Z = Global}) c.args.words.now) (map (λ b. (goal.Reporter-dyn g (b.vtable, b.value)).called b.value) c.args.reporters.now) c.in_ok-asked.asked c.in_ok-asked.ensures.request c.in_ok-asked.ensures.only
    c.in-Some.name c.in-Some-place_of.place c.in-Some.is (sym c.place_of.ensures.first ∙ c.in-Some-place_of.is)

pub returns-in-Some-place_of-clause-deep : goal.returns-in-Some-place_of-clause-deep
returns-in-Some-place_of-clause-deep g c =
    asked_deep (map (string_bytes {Z = Global}) c.args.words.now) (map (λ b. (goal.Reporter-dyn g (b.vtable, b.value)).called b.value) c.args.reporters.now) c.in_ok-asked.asked c.in_ok-asked.ensures.request c.in_ok-asked.ensures.only

pub returns-in-Some-place_of-clause-few : goal.returns-in-Some-place_of-clause-few
returns-in-Some-place_of-clause-few g c =
    asked_few (map (string_bytes {Z = Global}) c.args.words.now) (map (λ b. (goal.Reporter-dyn g (b.vtable, b.value)).called b.value) c.args.reporters.now) c.in_ok-asked.asked c.in_ok-asked.ensures.request c.in_ok-asked.ensures.only
