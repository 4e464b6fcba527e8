use Rattle.std.proofs.Common.{◌<◌, arith, length, get_or, refl, subst, ap, ◌∙◌}
use Rattle.std.proofs.lemmas.Option.{slice_get_read}
use Rattle.least_set.specs.Logs.{Adds}
use Rattle.least_set.proofs.Growing.{adds_exactly, not_shorter, once}
use Rattle.least_set.proofs.OneWorking.{works_begin, works_more, works_all}
use Rattle.least_set.proofs.one_premise.closure.Goals as goal

pub loop-i-init : goal.loop-i-init
loop-i-init g c =
    let log = c.add_all.new.log.keys in
    let base = g.S.Steps.base c.args.steps.now in
    record {
      works = works_begin base (g.S.Steps.goes c.args.steps.now) log
          (subst (λ l. Adds base l log) c.new-log.ensures.empty (adds_exactly c.in_ok-begin.field-0.items c.in_ok-add_all.ensures c.in_ok-begin.ensures.exact));
      below = omega arith;
    }

pub loop-i-preserved : goal.loop-i-preserved
loop-i-preserved g c =
    let log = c.loop-i.log.keys in
    let i = c.loop-i.i in
    let e = c.index-as_slice-i.result in
    let h : i < length log = omega (arith, c.loop-i-test.true, c.len.ensures.len) in
    let w = adds_exactly c.in_ok-found.found.items c.in_ok-add_all-2.ensures c.in_ok-found.ensures.exact in
    record {
      works = works_more (g.S.Steps.base c.args.steps.now) (g.S.Steps.goes c.args.steps.now) i e log c.add_all-in-loop-i.new.log.keys c.loop-i.invariant.works h
          (slice_get_read log (length log) i e refl h (c.index-as_slice-i.is ∙ ap (λ l. get_or l i e) c.as_slice.ensures.keys)) w;
      below = omega (arith, h, not_shorter w);
    }

pub returns-clause-closed : goal.returns-clause-closed
returns-clause-closed g c = works_all (g.S.Steps.base c.args.steps.now) (g.S.Steps.goes c.args.steps.now) c.loop-i.i c.loop-i.log.keys c.loop-i.invariant.works (omega (arith, c.loop-i-test.false, c.len.ensures.len))

pub returns-clause-once : goal.returns-clause-once
returns-clause-once g c = once g.S.Member.PartialEq.eq g.met.S.Member.Eq.laws.refl c.loop-i.log.keys c.len.ensures.unique
