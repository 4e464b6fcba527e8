use Rattle.std.proofs.Common.{◌≡◌, ◌≤◌, [], length, Contains, sym, ap, subst, inl, inr, arith}
use Rattle.least_set.specs.Logs.{Adds}
use Rattle.least_set.proofs.Growing.{adds_none, all_of, either, nothing}
use Rattle.numbered_program.proofs.NumberedTuples.FewStates.{distinct_more, fewer_more, same_state}
use Rattle.state_tuples.specs.Ways.Equality.{states_agree}
use Rattle.numbered_program.proofs.numbered_tuples.object_states.distinct.Goals as goal

pub loop-state-init : goal.loop-state-init
loop-state-init c = record {
  same = subst (Adds (Contains []) []) (sym c.new-states.ensures.empty) (adds_none [] nothing);
  few = omega (arith, ap length c.new-states.ensures.empty);
}

pub loop-state-preserved : goal.loop-state-preserved
loop-state-preserved c =
    let at = c.loop-state in
    record {
      same = distinct_more states_agree same_state c.args.named.now at.state-index _ at.states.keys c.insert.new.self.keys c.loop-state-test.true at.invariant.same c.in_ok-insert.ensures.keys;
      few = fewer_more states_agree at.state-index _ at.states.keys c.insert.new.self.keys at.invariant.few c.in_ok-insert.ensures.keys;
    }

pub returns-clause-same : goal.returns-clause-same
returns-clause-same c = λ x.
    let at = c.loop-state in
    let all = all_of (λ l. Adds (Contains l) [] at.states.keys) c.args.named.now at.state-index c.loop-state-test.false at.auto.state-index-end at.invariant.same in
    (λ m. elim (either all x m) [ inl o ↦ absurd (nothing x o) | inr p ↦ p ], all.added x)

pub returns-clause-few : goal.returns-clause-few
returns-clause-few c =
    let few = c.loop-state.invariant.few in
    let end = c.loop-state.auto.state-index-end in
    omega arith
