use Rattle.std.proofs.Common.{◌≡◌, ◌<◌, sym, subst, arith}
use Rattle.std.proofs.lemmas.Grind.{common_steps}
use Rattle.known_objects.proofs.Listings.{first-none, first-next}
use Rattle.known_objects.proofs.listing.moves_of.Goals as goal
use Rattle.known_objects.specs.Listed.{IsMoveOf, SomeIsMoveIn}
use Rattle.least_set.specs.Logs.{IsExactly}

pub loop-function-init : goal.loop-function-init
loop-function-init c = record {
  moves = subst (λ l. IsExactly l (SomeIsMoveIn c.args.depth c.args.rows.now 0)) (sym c.new-moves.ensures.items) (first-none (IsMoveOf c.args.depth c.args.rows.now));
  within = omega arith;
}

pub loop-function-preserved : goal.loop-function-preserved
loop-function-preserved c =
    let at = c.loop-function in
    let further : at.function < c.args.count = grind (arith, common_steps) in
    record {
      moves = first-next (IsMoveOf c.args.depth c.args.rows.now) at.function at.moves.items c.add_moves_at.new.moves.items c.in_ok-add_moves_at.ensures at.invariant.moves;
      within = grind (arith, further);
    }

pub returns : goal.returns
returns c =
    let at = c.loop-function in
    let all : at.function ≡ c.args.count = grind (arith, common_steps) in
    subst (λ n. IsExactly at.moves.items (SomeIsMoveIn c.args.depth c.args.rows.now n)) all at.invariant.moves
