use Rattle.std.proofs.Common.{arith, ◌≡◌, ◌<◌, ◌≤◌, ◌+◌, List, ℕ, length, get_or, refl, sym, ap, ◌∙◌, subst}
use Rattle.std.proofs.lemmas.Grind.{common_steps}
use Rattle.std.proofs.lemmas.List.{length-set}
use Rattle.std.proofs.lemmas.Option.{slice_get-get_or}
use Rattle.flow_graph.specs.KeptBlocks.{HaveNumbers}
use Rattle.flow_graph.proofs.ReachedBlocks.NewNumbers.{one_more_has}
use Rattle.flow_graph.proofs.kept_blocks.note_places.Goals as goal

pub loop-place-init : goal.loop-place-init
loop-place-init c = record { all = refl; have = λ i b before. absurd (omega (arith, before)) }

pub loop-place-preserved : goal.loop-place-preserved
loop-place-preserved c =
    let at = c.loop-place in
    let kept = c.args.kept.now in
    let count = length c.args.numbers.now in
    let within : at.place < length kept = grind (arith, common_steps) in
    let block = get_or kept at.place 0 in
    let more = one_more_has at.place kept count block at.numbers at.invariant.all (slice_get-get_or kept at.place 0 within) at.invariant.have in
    record {
      all = ap length c.set_target.ensures ∙ length-set at.numbers block at.place ∙ at.invariant.all;
      have = subst (λ (ns : List ℕ). HaveNumbers (at.place + 1) kept count ns) (sym c.set_target.ensures) more;
    }

pub returns : goal.returns
returns c =
    let all : length c.args.kept.now ≤ c.loop-place.place = grind (arith, common_steps) in
    λ i b before below at. c.loop-place.invariant.have i b (omega (arith, all, before)) below at
