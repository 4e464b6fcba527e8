use Rattle.std.proofs.Common.{rules, ◌≡◌, ◌∷◌, [], ◌++◌, List, length, refl, sym, ap, subst, ◌∙◌, append_assoc, append-nil, arith, Contains}
use Rattle.std.proofs.lemmas.List.Elements.{Contains-append_left, Contains-push, Contains-push_cases}
use Rattle.std.specs.Vec.Iter.{into_iter_items}
use Rattle.least_set.specs.Logs.{Adds}
use Rattle.least_set.proofs.Growing.{adds_both, adds_none, adds_one, nothing}
use Rattle.least_set.proofs.logs.add_all.Goals as goal

nothing_left : {X : Type 0} (l : List X) → length l ≡ 0 → l ≡ []
nothing_left [] h = refl
nothing_left (x ∷ xs) h = absurd (omega arith)

pub loop-member-init : goal.loop-member-init
loop-member-init g c = record {
  split = refl;
  adds = adds_none (g.L.Log.keys c.args.log.now) (λ y w. nothing y w);
  len = search rules;
}

pub loop-member-preserved : goal.loop-member-preserved
loop-member-preserved g c =
    let at = c.loop-member in
    let x = c.in-Some.member in
    let one = subst (Adds (λ y. x ≡ y) (g.L.Log.keys at.log)) (sym c.in_ok-insert.ensures.last) (adds_one g.M.PartialEq.eq g.met.M.Key.same (g.L.Log.keys at.log) x) in
    let steps : into_iter_items at.member-iterator ≡ x ∷ into_iter_items c.next.new.self = c.in-Some.ensures.steps.0 in record {
      split = append_assoc at.yielded (x ∷ []) _ ∙ rw (← steps) at.invariant.split;
      adds = adds_both {new = g.L.Log.keys c.insert.new.self} at.invariant.adds one
          (λ y w. Contains-push_cases at.yielded x y w)
          (λ y w. Contains-append_left at.yielded (x ∷ []) y w)
          (λ y w. subst (Contains (at.yielded ++ x ∷ [])) w (Contains-push at.yielded x));
      len = let was = at.invariant.len in
          let gone = c.in-Some.ensures.steps.1 in
          let short = ap length steps in
          omega arith;
    }

pub returns : goal.returns
returns g c =
    let at = c.loop-member in
    let none = c.in-None.ensures.steps in
    let empty : into_iter_items at.member-iterator ≡ [] = nothing_left _ (sym at.invariant.len ∙ none.0) in
    let all = sym (append-nil at.yielded) ∙ rw empty at at.invariant.split ∙ c.into_iter-member-iterator.ensures.into_iter_gives.0 in
    subst (λ l. Adds (Contains l) (g.L.Log.keys c.args.log.now) (g.L.Log.keys at.log)) all at.invariant.adds
