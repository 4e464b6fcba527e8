use Rattle.std.proofs.Common.{◌≡◌, ◌<◌, All, length, map, sym, subst, arith}
use Rattle.std.proofs.lemmas.Grind.{common_steps}
use Rattle.std.proofs.lemmas.List.Elements.{All-nil}
use Rattle.least_set.specs.Logs.{IsExactly}
use Rattle.relevant.specs.ProgramRows.Ends.{followed_in, SomeHasFollowed, IsSite}
use Rattle.relevant.proofs.ProgramRows.FollowedCalls.{none-followed, functions-next}
use Rattle.relevant.proofs.program_rows.calls.followed_calls.Goals as goal
use Rattle.call_graph.specs.OfPrograms.Definitions.{definitions, trees_in}

pub loop-caller-init : goal.loop-caller-init
loop-caller-init c = record {
  calls = subst (λ calls. IsExactly (map followed_in calls) (SomeHasFollowed c.args.tables.now 0)) (sym c.new-calls.ensures.items) (none-followed c.args.tables.now);
  sites = subst (All (IsSite c.args.program.now.units.items)) (sym c.new-calls.ensures.items) (All-nil (IsSite c.args.program.now.units.items));
  within = omega arith;
}

pub loop-caller-preserved : goal.loop-caller-preserved
loop-caller-preserved c =
    let at = c.loop-caller in
    let further : at.caller < length (definitions (trees_in c.args.program.now.units.items)) = grind (arith, common_steps) in
    record {
      calls = functions-next c.args.tables.now at.caller (map followed_in at.calls.items) (map followed_in c.add_calls_of.new.calls.items) c.in_ok-add_calls_of.ensures.calls at.invariant.calls;
      sites = c.in_ok-add_calls_of.ensures.sites;
      within = grind (arith, further);
    }

pub returns-clause-calls : goal.returns-clause-calls
returns-clause-calls c =
    let at = c.loop-caller in
    let all : at.caller ≡ length (definitions (trees_in c.args.program.now.units.items)) = grind (arith, common_steps) in
    subst (λ n. IsExactly (map followed_in at.calls.items) (SomeHasFollowed c.args.tables.now n)) all at.invariant.calls
