use Rattle.std.proofs.Common.{ap, ◌∙◌, arith}
use Rattle.metal_grammar.specs.Rules as rules
use Rattle.metal_written.specs.Placed.{placed_views}
use Rattle.metal_written.specs.Written.{clause_views}
use Rattle.metal_written.proofs.InPlaces.{ClausesLeft, clause-here, clause-turn, clause-rules-end}
use Rattle.metal_written.proofs.placed.rules_of.Goals as goal

pub add_rules-requires-clause-few : goal.add_rules-requires-clause-few
add_rules-requires-clause-few c =
    let l = c.loop-clause in
    let left : ClausesLeft c.args.clauses.now l.clause-index l.number l.position l.placed.items (rules.rules_of (clause_views c.args.clauses.now)) = record { placed = l.invariant.placed; few = l.invariant.few; sizes = l.invariant.sizes; room = l.invariant.room } in
    (clause-here c.args.clauses.now l.clause-index c.clause-item.result l.number l.position l.placed.items _ (omega arith) c.clause-item.is left).few

pub loop-clause-preserved : goal.loop-clause-preserved
loop-clause-preserved c =
    let l = c.loop-clause in
    let left : ClausesLeft c.args.clauses.now l.clause-index l.number l.position l.placed.items (rules.rules_of (clause_views c.args.clauses.now)) = record { placed = l.invariant.placed; few = l.invariant.few; sizes = l.invariant.sizes; room = l.invariant.room } in
    let t = clause-turn c.args.clauses.now l.clause-index c.clause-item.result l.number c.in_ok-number.number l.position l.placed.items c.add_rules.new.placed.items _ (omega arith) c.clause-item.is left c.in_ok-number.ensures.number c.in_ok-number.ensures.placed in
    record { placed = t.placed; few = t.few; sizes = t.sizes; room = t.room }

pub returns : goal.returns
returns c =
    let l = c.loop-clause in
    ap placed_views c.into_bump_slice.ensures ∙ clause-rules-end c.args.clauses.now l.clause-index l.number l.position l.placed.items _ (omega arith) l.invariant.placed
