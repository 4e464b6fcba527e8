use Rattle.std.proofs.Common.{◌+◌, ◌-◌, ◌^◌, ◌∙◌, min, length, ap, sym, subst}
use Rattle.numbered_engine.specs.Held.{AreRight, fresh}
use Rattle.numbered_engine.proofs.Resuming.{derived_closed, derived_only, none_right}
use Rattle.numbered_engine.proofs.Steps.{all_fresh}
use Rattle.numbered_engine.proofs.engine.tabulate.Goals as goal

pub returns-clause-closed : goal.returns-clause-closed
returns-clause-closed g c = derived_closed c.args.engine.now.program.now c.new.result.entries c.new.ensures.empty c.in_ok-log.log.keys (c.in_ok-log.ensures.fresh (subst (AreRight c.args.engine.now.program.now) (sym c.new.ensures.empty) (none_right c.args.engine.now.program.now)))

pub returns-clause-only : goal.returns-clause-only
returns-clause-only g c = derived_only c.args.engine.now.program.now c.new.result.entries c.new.ensures.empty c.in_ok-log.log.keys (c.in_ok-log.ensures.fresh (subst (AreRight c.args.engine.now.program.now) (sym c.new.ensures.empty) (none_right c.args.engine.now.program.now)))

pub returns-clause-steps : goal.returns-clause-steps
returns-clause-steps g c =
    let keys = c.in_ok-log.log.keys in
    let before = c.args.engine.now.steps.count in
    c.in_ok-log.ensures.steps ∙ ap (λ h. min (before + length (fresh h keys)) (2 ^ 64 - 1)) c.new.ensures.empty ∙ ap (λ l. min (before + length l) (2 ^ 64 - 1)) (all_fresh keys)
