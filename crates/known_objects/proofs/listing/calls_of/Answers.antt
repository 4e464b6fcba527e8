use Rattle.std.proofs.Common.{◌≡◌, ◌<◌, map, sym, subst, arith}
use Rattle.std.proofs.lemmas.Grind.{common_steps}
use Rattle.known_objects.proofs.Listings.{first-none, first-next, none-numbered}
use Rattle.known_objects.proofs.listing.calls_of.Goals as goal
use Rattle.known_objects.specs.Listed.{call_in, AreNumbered, IsCallOf, SomeIsCallIn}
use Rattle.least_set.specs.Logs.{IsExactly}

pub loop-function-init : goal.loop-function-init
loop-function-init c = record {
  calls = subst (λ l. IsExactly (map call_in l) (SomeIsCallIn c.args.rows.now 0)) (sym c.new-calls.ensures.items) (first-none (IsCallOf c.args.rows.now));
  numbered = subst AreNumbered (sym c.new-calls.ensures.items) none-numbered;
  within = omega arith;
}

pub loop-function-preserved : goal.loop-function-preserved
loop-function-preserved c =
    let at = c.loop-function in
    let further : at.function < c.args.count = grind (arith, common_steps) in
    record {
      calls = first-next (IsCallOf c.args.rows.now) at.function (map call_in at.calls.items) (map call_in c.add_calls_at.new.calls.items) c.in_ok-add_calls_at.ensures.calls at.invariant.calls;
      numbered = c.in_ok-add_calls_at.ensures.numbered;
      within = grind (arith, further);
    }

pub returns-clause-calls : goal.returns-clause-calls
returns-clause-calls c =
    let at = c.loop-function in
    let all : at.function ≡ c.args.count = grind (arith, common_steps) in
    subst (λ n. IsExactly (map call_in at.calls.items) (SomeIsCallIn c.args.rows.now n)) all at.invariant.calls
