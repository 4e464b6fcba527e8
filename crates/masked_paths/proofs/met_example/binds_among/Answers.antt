use Rattle.std.proofs.Common.{true, false, sym, ◌∙◌}
use Rattle.std.proofs.lemmas.List.{at_drop_more, at_drop_all}
use Rattle.masked_paths.specs.declared.met_example.Event.TheVariants.{AssignQ}
use Rattle.masked_paths.proofs.MetWalks.{bound_in, or_first, answered}
use Rattle.masked_paths.proofs.met_example.binds_among.Goals as goal

-- src/met_example.rt:62:13
pub returns-then-binds : goal.returns-then-binds
returns-then-binds c =
    let step = at_drop_more (λ es. bound_in es c.loop-event.global c.args.pointer) c.args.events.now c.loop-event.event-index AssignQ c.loop-event-test.true in
    answered true c.args.events.now c.args.first c.args.pointer (c.loop-event.invariant ∙ step ∙ or_first _ _ (sym c.binds.ensures ∙ c.if-binds.true))

-- src/met_example.rt:56:1
pub returns : goal.returns
returns c =
    let end = at_drop_all (λ es. bound_in es c.loop-event.global c.args.pointer) c.args.events.now c.loop-event.event-index c.loop-event-test.false in
    answered false c.args.events.now c.args.first c.args.pointer (c.loop-event.invariant ∙ end)
