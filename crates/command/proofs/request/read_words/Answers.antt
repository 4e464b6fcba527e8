use Rattle.std.proofs.Common.{Global, map, string_bytes, Some, ap, sym, subst, arith}
use Rattle.std.proofs.lemmas.List.{length-map}
use Rattle.command.specs.Commands.{IsCommand}
use Rattle.command.specs.Requests.{words_at}
use Rattle.command.specs.Tasks.{command_of}
use Rattle.command.proofs.Positions.{by_positions, last_positions, command_few}
use Rattle.command.proofs.request.read_words.Goals as goal

pub returns-in-Some-clause-generation : goal.returns-in-Some-clause-generation
returns-in-Some-clause-generation g c count is = ap Some (sym (c.in-Some.ensures.only count is))

pub returns-in_default-task_of-clause-generation : goal.returns-in_default-task_of-clause-generation
returns-in_default-task_of-clause-generation g c count is = absurd (c.read_generation.ensures.none c.in_default.is count is)

pub returns-in_default-task_of-clause-usage : goal.returns-in_default-task_of-clause-usage
returns-in_default-task_of-clause-usage g c e = record { no_command = c.task_of.ensures.none c.in_default-task_of.is; no_generation = c.read_generation.ensures.none c.in_default.is }

pub positions-requires-clause-bounded : goal.positions-requires-clause-bounded
positions-requires-clause-bounded g c =
    let h = command_few (map (string_bytes {Z = Global}) c.args.words.now) (map (λ b. (goal.Reporter-dyn g (b.vtable, b.value)).called b.value) c.args.reporters.now) (command_of c.in-Some-task_of.task) c.in-Some-task_of.ensures.given in
    omega (arith, h, length-map c.args.words.now (string_bytes {Z = Global}))

pub returns-in_default-positions-clause-generation : goal.returns-in_default-positions-clause-generation
returns-in_default-positions-clause-generation g c count is = absurd (c.read_generation.ensures.none c.in_default.is count is)

pub returns-clause-request : goal.returns-clause-request
returns-clause-request g c =
    let words = map (string_bytes {Z = Global}) c.args.words.now in
    let called = map (λ b. (goal.Reporter-dyn g (b.vtable, b.value)).called b.value) c.args.reporters.now in
    let many = sym (length-map c.args.words.now (string_bytes {Z = Global})) in
    let few = sym (length-map c.in-Some-task_of.task.files.now (string_bytes {Z = Global})) in
    let command = command_of c.in-Some-task_of.task in
    let given = c.in-Some-task_of.ensures.given in
    let whole = by_positions words called command c.in-Ok.files.items _ _ given many few c.in-Ok.ensures in
    let last = last_positions words called command c.in-Ok.files.items _ _ given many few c.in-Ok.ensures in
    (subst (λ place. IsCommand words called (record { depth = command.depth; stats = command.stats; place = place; files = words_at words c.in-Ok.files.items })) (sym c.short_place.ensures) whole, last)

pub returns-clause-generation : goal.returns-clause-generation
returns-clause-generation g c count is = absurd (c.read_generation.ensures.none c.in_default.is count is)

pub returns-clause-none : goal.returns-clause-none
returns-clause-none g c none = absurd (none.no_command (command_of c.in-Some-task_of.task) c.in-Some-task_of.ensures.given)
