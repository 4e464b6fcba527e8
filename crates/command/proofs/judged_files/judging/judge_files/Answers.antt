use Rattle.std.proofs.Common.{length, ap, arith}
use Rattle.std.proofs.lemmas.List.{length-map}
use Rattle.metal_tree.specs.Whole.{machine_view}
use Rattle.request_files.specs.Views.{machines_of, text_of, texts_of}
use Rattle.command.proofs.JudgedFiles.Accepting.{as_many_machines, as_many_texts, counted, unlinked}
use Rattle.command.proofs.JudgedFiles.Texts.{few_in_all, have_token}
use Rattle.command.proofs.judged_files.judging.judge_files.Goals as goal

pub judge_units-requires-clause-few_machines : goal.judge_units-requires-clause-few_machines
judge_units-requires-clause-few_machines g c =
    let h = as_many_machines _ _ _ _ _ _ c.in-Ok.ensures.read in
    omega (arith, h, c.requires.few_checkers, length-map c.args.checkers.now (λ w. w.now), length-map c.in-Ok.read.checkers.machines.items machine_view, ap length c.deref.ensures.value)

pub judge_units-requires-clause-few_units : goal.judge_units-requires-clause-few_units
judge_units-requires-clause-few_units g c =
    let h = as_many_texts _ _ _ _ _ _ c.in-Ok.ensures.read in
    omega (arith, h, c.requires.few_sources, length-map c.args.sources.now (λ w. w.now), length-map c.in-Ok.read.sources.units.items text_of, ap length c.deref-2.ensures.value)

pub judge_units-requires-clause-few_functions : goal.judge_units-requires-clause-few_functions
judge_units-requires-clause-few_functions g c = rw c.deref-2.ensures.value (few_in_all _ _ _ _ _ _ _ _ _ c.in-Ok.ensures.read.sound c.in-Ok.ensures.read.texts_are)

pub judge_units-requires-clause-placed : goal.judge_units-requires-clause-placed
judge_units-requires-clause-placed g c = rw c.deref-2.ensures.value (have_token _ _ _ _ _ c.in-Ok.ensures.read.texts_are)

pub returns-in-Ok-judge_units-clause-accepted : goal.returns-in-Ok-judge_units-clause-accepted
returns-in-Ok-judge_units-clause-accepted g c =
    counted _ _ _ c.read_files.new.names (machines_of c.in-Ok.read.checkers.machines.items) (texts_of c.in-Ok.read.sources.units.items) c.in-Ok.ensures.read c.args.depth c.args.stats c.in-Ok-judge_units.found.reports.items c.in-Ok-judge_units.found.entries
    (rw c.deref-2.ensures.value at c.in-Ok-judge_units.ensures.linked) (rw c.deref.ensures.value at (rw c.deref-2.ensures.value at c.in-Ok-judge_units.ensures.reports))
    (rw c.deref.ensures.value at (rw c.deref-2.ensures.value at c.in-Ok-judge_units.ensures.counted))

pub returns-clause-unjudged : goal.returns-clause-unjudged
returns-clause-unjudged g c =
    unlinked _ _ _ c.read_files.new.names (machines_of c.in-Ok.read.checkers.machines.items) (texts_of c.in-Ok.read.sources.units.items) c.in-Ok.ensures.read _ _ c.in-Err.unjudged c.in-Ok.ensures.none_failed
    (rw c.deref-2.ensures.value at c.in-Err.ensures.unlinked)
