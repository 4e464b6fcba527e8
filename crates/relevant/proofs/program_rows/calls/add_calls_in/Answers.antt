use Rattle.std.proofs.Common.{map, subst}
use Rattle.std.proofs.lemmas.List.{take_all}
use Rattle.least_set.specs.Logs.{Adds, SomeGives}
use Rattle.least_set.proofs.Growing.{adds_nothing}
use Rattle.relevant.specs.ProgramRows.Ends.{followed_in}
use Rattle.relevant.proofs.ProgramRows.FollowedCalls.{EndsIn, calls-next, sites-next}
use Rattle.relevant.proofs.program_rows.calls.add_calls_in.Goals as goal

pub loop-block-init : goal.loop-block-init
loop-block-init c = record {
  calls = adds_nothing (EndsIn c.args.table.now c.args.caller) (map followed_in c.args.calls.now.items);
  sites = c.requires.sites;
}

pub loop-block-preserved : goal.loop-block-preserved
loop-block-preserved c =
    let at = c.loop-block in
    let call = c.followed_at-call in
    let new = c.add_call.new.calls.items in
    record {
      calls = calls-next c.args.table.now c.args.caller c.args.blocks.now at.block-index _ call.result c.args.calls.now.items at.calls.items new c.loop-block-test.true call.ensures.call c.in_ok-add_call.ensures at.invariant.calls;
      sites = sites-next c.args.program.now.units.items call.result at.calls.items new call.ensures.site c.in_ok-add_call.ensures at.invariant.sites;
    }

pub returns-clause-calls : goal.returns-clause-calls
returns-clause-calls c =
    let at = c.loop-block in
    subst (λ blocks. Adds (SomeGives (EndsIn c.args.table.now c.args.caller) blocks) (map followed_in c.args.calls.now.items) (map followed_in at.calls.items)) (take_all at.block-index c.args.blocks.now c.loop-block-test.false) at.invariant.calls
