use Rattle.std.proofs.Common.{map, ◌∙◌, sym, subst}
use Rattle.std.proofs.lemmas.List.{length-map}
use Rattle.known_objects.proofs.KnownLists.{known-lists, if-three}
use Rattle.known_objects.proofs.program_sets.sets_over.Goals as goal
use Rattle.known_objects.specs.ByFunction.{AreSets}
use Rattle.known_objects.specs.Listed.{call_in, AreNumbered, SomeIsMoveIn, SomeIsCallIn}
use Rattle.least_set.specs.Logs.{IsExactly}

pub returns : goal.returns
returns c =
    let rows = c.args.rows.now in
    let count = c.args.count in
    let found = c.in_ok-found.found.keys in
    let moves = subst (λ l. IsExactly l (SomeIsMoveIn c.args.depth rows count)) (sym c.as_slice.ensures.value) c.in_ok-moves.ensures in
    let calls = subst (λ l. IsExactly (map call_in l) (SomeIsCallIn rows count)) (sym c.as_slice-2.ensures.value) c.in_ok-calls.ensures.calls in
    let numbered = subst AreNumbered (sym c.as_slice-2.ensures.value) c.in_ok-calls.ensures.numbered in
    if-three _ _ _ _ c.sets_of.result
    (λ sets many are once k ts gs deep graphs apart right all plain.
    let lists = map (λ s. s.keys) sets.items in
    known-lists k ts gs graphs apart rows right count all c.args.bound.now plain c.as_slice.result.now c.as_slice-2.result.now calls numbered found lists
    (length-map sets.items (λ s. s.keys) ∙ many ∙ sym all)
    (subst (λ l. AreSets l lists) c.as_slice-3.ensures.keys are)
    once c.args.depth deep moves (record { closed = c.in_ok-found.ensures.closed; only = c.in_ok-found.ensures.only }))
    c.sets_of.ensures.count c.sets_of.ensures.sets c.sets_of.ensures.once
