use Rattle.std.proofs.Common.{rules, ◌≡◌, ◌∷◌, [], ◌<◌, List, length, refl, sym, ap, subst, ◌∙◌, append_assoc, append-nil, arith, Contains}
use Rattle.std.specs.Vec.Iter.{into_iter_items}
use Rattle.least_set.specs.Logs.{Adds}
use Rattle.least_set.specs.Indexes.{at, Extends}
use Rattle.least_set.specs.TwoPremises.{Answers, Kept}
use Rattle.least_set.proofs.Growing.{not_shorter}
use Rattle.least_set.proofs.Meeting.{all_met_before, answers_nothing, answers_more, keeps_nothing, keeps_more}
use Rattle.least_set.proofs.driver.join.Goals as goal

nothing_left : {X : Type 0} (l : List X) → length l ≡ 0 → l ≡ []
nothing_left [] h = refl
nothing_left (x ∷ xs) h = absurd (omega arith)

pub loop-wait-init : goal.loop-wait-init
loop-wait-init g c = record {
  split = refl;
  len = search rules;
  adds = answers_nothing (g.R.CachingRules.wakes (g.R.CachingRules.source c.args.rules.now)) (g.L.Log.keys c.args.log.now) (at g.R.Context.PartialEq.eq c.args.ended.now);
  extends = keeps_nothing (at g.R.Context.PartialEq.eq c.args.waiting.now);
}

pub answer-requires : goal.answer-requires
answer-requires g c j m =
    let h : j < length (g.L.Log.keys c.args.log.now) = c.requires c.in-Some.wait.on j (subst (λ l. Contains l j) c.list_at.ensures m) in
    omega (arith, h, not_shorter c.loop-wait.invariant.adds)

pub loop-wait-preserved : goal.loop-wait-preserved
loop-wait-preserved g c =
    let wakes = g.R.CachingRules.wakes (g.R.CachingRules.source c.args.rules.now) in
    let ends = at g.R.Context.PartialEq.eq c.args.ended.now in
    let old = g.L.Log.keys c.args.log.now in
    let at_loop = c.loop-wait in
    let x = c.in-Some.wait in
    let steps : into_iter_items at_loop.wait-iterator ≡ x ∷ into_iter_items c.next.new.self = c.in-Some.ensures.steps.0 in record {
      split = append_assoc at_loop.yielded (x ∷ []) _ ∙ rw (← steps) at_loop.invariant.split;
      len = let was = at_loop.invariant.len in
          let gone = c.in-Some.ensures.steps.1 in
          let short = ap length steps in
          omega arith;
      adds = answers_more wakes old ends at_loop.yielded x at_loop.invariant.adds
          (all_met_before wakes x.waiter c.list_at.result.now (ends x.on) at_loop.invariant.adds (c.requires x.on) c.list_at.ensures c.in_ok-answer.ensures);
      extends = keeps_more at_loop.yielded x at_loop.invariant.extends c.in_ok-push_at.ensures;
    }

pub returns : goal.returns
returns g c =
    let at_loop = c.loop-wait in
    let none = c.in-None.ensures.steps in
    let empty : into_iter_items at_loop.wait-iterator ≡ [] = nothing_left _ (sym at_loop.invariant.len ∙ none.0) in
    let all = sym (append-nil at_loop.yielded) ∙ rw empty at at_loop.invariant.split ∙ c.into_iter-wait-iterator.ensures.into_iter_gives.0 in record {
      log = subst (λ l. Adds (Answers (g.R.CachingRules.wakes (g.R.CachingRules.source c.args.rules.now)) (g.L.Log.keys c.args.log.now) (at g.R.Context.PartialEq.eq c.args.ended.now) l) (g.L.Log.keys c.args.log.now) (g.L.Log.keys at_loop.log)) all at_loop.invariant.adds;
      waiting = subst (λ l. Extends (Kept l) (at g.R.Context.PartialEq.eq c.args.waiting.now) (at g.R.Context.PartialEq.eq at_loop.waiting)) all at_loop.invariant.extends;
    }
