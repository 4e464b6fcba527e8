use Rattle.std.proofs.Common.{◌≡◌, ◌∷◌, [], ◌++◌, List, length, refl, sym, ap, subst, ◌∙◌, append_assoc, append-nil, arith, Contains}
use Rattle.std.proofs.lemmas.List.Elements.{Contains-append_left, Contains-push, Contains-push_cases}
use Rattle.std.specs.Vec.Iter.{into_iter_items}
use Rattle.least_set.specs.Logs.{Adds}
use Rattle.least_set.proofs.Growing.{adds_both, adds_one}
use Rattle.row_flows.proofs.crossing.add_all.Goals as goal

nothing_left : {X : Type 0} (l : List X) → length l ≡ 0 → l ≡ []
nothing_left [] h = refl
nothing_left (x ∷ xs) h = absurd (omega arith)

pub loop-value-preserved : goal.loop-value-preserved
loop-value-preserved g c =
    let at = c.loop-value in
    let x = c.in-Some.value in
    let steps : into_iter_items at.value-iterator ≡ x ∷ into_iter_items c.next.new.self = c.in-Some.ensures.steps.0 in record {
      split = append_assoc at.yielded (x ∷ []) _ ∙ rw (← steps) at.invariant.split;
      adds = rw c.in_ok-insert.ensures.keys (adds_both at.invariant.adds (adds_one g.T.PartialEq.eq g.met.T.Key.same at.set.keys x)
          (λ y w. Contains-push_cases at.yielded x y w)
          (λ y w. Contains-append_left at.yielded (x ∷ []) y w)
          (λ y w. subst (Contains (at.yielded ++ x ∷ [])) w (Contains-push at.yielded x)));
      len = let was = at.invariant.len in
          let gone = c.in-Some.ensures.steps.1 in
          let short = ap length steps in
          omega arith;
    }

pub returns : goal.returns
returns g c =
    let at = c.loop-value in
    let none = c.in-None.ensures.steps in
    let empty : into_iter_items at.value-iterator ≡ [] = nothing_left _ (sym at.invariant.len ∙ none.0) in
    let all = sym (append-nil at.yielded) ∙ rw empty at at.invariant.split ∙ c.into_iter-value-iterator.ensures.into_iter_gives.0 in
    subst (λ l. Adds (Contains l) c.args.set.now.keys at.set.keys) all at.invariant.adds
