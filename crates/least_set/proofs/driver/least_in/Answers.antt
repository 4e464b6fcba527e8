use Rattle.std.proofs.Common.{◌≡◌, ◌<◌, ◌∙◌, arith, length, refl, subst, ap, Some, slice_get}
use Rattle.std.specs.Map.{lookup}
use Rattle.least_set.specs.Logs.{Adds}
use Rattle.least_set.specs.Indexes.{at, items_of}
use Rattle.least_set.specs.TwoPremises.{Processed}
use Rattle.least_set.proofs.Growing.{adds_exactly, not_shorter, once}
use Rattle.least_set.proofs.Counting.{counted_next, counted_whole}
use Rattle.least_set.proofs.TwoWorking.{works_begin, works_more, works_all, below}
use Rattle.least_set.proofs.driver.least_in.Goals as goal

pub loop-i-init : goal.loop-i-init
loop-i-init g c =
    let rules = g.R.CachingRules.source c.args.rules.now in
    let eq = g.R.Context.PartialEq.eq in
    let log = g.L.Log.keys c.add_all.new.log in
    record {
      works = works_begin (g.R.CachingRules.base rules) (g.R.CachingRules.goes rules) (g.R.CachingRules.waits rules) (g.R.CachingRules.ends rules) (g.R.CachingRules.wakes rules)
          log (at eq c.new-waiting.result) (at eq c.new-ended.result)
          (subst (λ l. Adds (g.R.CachingRules.base rules) l log) c.requires (adds_exactly c.in_ok-begin.field-0.items c.in_ok-add_all.ensures c.in_ok-begin.ensures.exact))
          (λ k. ap (λ l. items_of (lookup (eq k) l)) c.new-waiting.ensures.empty)
          (λ k. ap (λ l. items_of (lookup (eq k) l)) c.new-ended.ensures.empty);
      same = refl;
      asked = refl;
      below = omega arith;
    }

pub process-requires-clause-below : goal.process-requires-clause-below
process-requires-clause-below g c =
    let rules = g.R.CachingRules.source c.args.rules.now in
    let eq = g.R.Context.PartialEq.eq in
    below (g.R.CachingRules.base rules) (g.R.CachingRules.goes rules) (g.R.CachingRules.waits rules) (g.R.CachingRules.ends rules) (g.R.CachingRules.wakes rules)
    c.loop-i.i (g.L.Log.keys c.loop-i.log) (at eq c.loop-i.waiting) (at eq c.loop-i.ended) c.loop-i.invariant.works c.loop-i.invariant.below

pub loop-i-preserved : goal.loop-i-preserved
loop-i-preserved g c =
    let rules = g.R.CachingRules.source c.args.rules.now in
    let eq = g.R.Context.PartialEq.eq in
    let log = g.L.Log.keys c.loop-i.log in
    let h : c.loop-i.i < length log = omega (arith, c.loop-i-test.true, c.len.ensures.len) in
    let same = c.loop-i.invariant.same in
    let p = subst (λ r. (e : g.row.R-Member.Denot) × (slice_get log c.loop-i.i ≡ Some e) × Processed (g.R.CachingRules.goes r) (g.R.CachingRules.waits r) (g.R.CachingRules.ends r) (g.R.CachingRules.wakes r)
    c.loop-i.i e log (g.L.Log.keys c.process.new.log) (at eq c.loop-i.waiting) (at eq c.process.new.waiting) (at eq c.loop-i.ended) (at eq c.process.new.ended)) same c.in_ok-process.ensures.done in
    record {
      works = works_more (g.R.CachingRules.base rules) (g.R.CachingRules.goes rules) (g.R.CachingRules.waits rules) (g.R.CachingRules.ends rules) (g.R.CachingRules.wakes rules)
          c.loop-i.i p.0 log (g.L.Log.keys c.process.new.log) (at eq c.loop-i.waiting) (at eq c.process.new.waiting) (at eq c.loop-i.ended) (at eq c.process.new.ended)
          c.loop-i.invariant.works h p.1 p.2;
      same = c.in_ok-process.ensures.same ∙ same;
      asked = c.in_ok-process.ensures.asked p.0 p.1
          ∙ ap (λ r. g.R.CachingRules.counting r p.0 (g.R.CachingRules.asked c.loop-i.rules)) same
          ∙ counted_next (g.R.CachingRules.counting rules) p.2.members c.loop-i.i p.0 (g.R.CachingRules.asked c.args.rules.now) (g.R.CachingRules.asked c.loop-i.rules) h p.1 c.loop-i.invariant.asked;
      below = omega (arith, h, not_shorter p.2.members);
    }

pub returns-clause-closed : goal.returns-clause-closed
returns-clause-closed g c =
    let rules = g.R.CachingRules.source c.args.rules.now in
    let eq = g.R.Context.PartialEq.eq in
    works_all (g.R.CachingRules.base rules) (g.R.CachingRules.goes rules) (g.R.CachingRules.waits rules) (g.R.CachingRules.ends rules) (g.R.CachingRules.wakes rules)
    c.loop-i.i (g.L.Log.keys c.loop-i.log) (at eq c.loop-i.waiting) (at eq c.loop-i.ended) c.loop-i.invariant.works (omega (arith, c.loop-i-test.false, c.len.ensures.len))

pub returns-clause-once : goal.returns-clause-once
returns-clause-once g c = once g.R.Member.PartialEq.eq g.met.R.Member.Eq.laws.refl (g.L.Log.keys c.loop-i.log) c.len.ensures.unique

pub returns-clause-asked : goal.returns-clause-asked
returns-clause-asked g c =
    counted_whole (g.R.CachingRules.counting (g.R.CachingRules.source c.args.rules.now)) (g.L.Log.keys c.loop-i.log) c.loop-i.i (g.R.CachingRules.asked c.args.rules.now) (g.R.CachingRules.asked c.loop-i.rules)
    c.loop-i.invariant.below (omega (arith, c.loop-i-test.false, c.len.ensures.len)) c.loop-i.invariant.asked
