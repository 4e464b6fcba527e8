use Rattle.std.proofs.Common.{◌<◌, arith, length, sym, subst, ◌∙◌}
use Rattle.std.proofs.lemmas.Option.{same_Some}
use Rattle.least_set.specs.Logs.{Adds, SomeGives}
use Rattle.least_set.specs.Indexes.{at}
use Rattle.least_set.specs.TwoPremises.{Answers, Met}
use Rattle.least_set.proofs.Growing.{not_shorter, stays}
use Rattle.least_set.proofs.Processing.{processed_inside, processed_end}
use Rattle.least_set.proofs.driver.process.Goals as goal

pub join-requires : goal.join-requires
join-requires g c k j m =
    let h : j < length (g.L.Log.keys c.args.log.now) = c.requires.below k j m in
    omega (arith, h, not_shorter c.in_ok-add_all.ensures)

pub returns-in_default-clause-done : goal.returns-in_default-clause-done
returns-in_default-clause-done g c =
    let rules = g.R.CachingRules.source c.args.rules.now in
    let eq = g.R.Context.PartialEq.eq in
    let old = g.L.Log.keys c.args.log.now in
    let entry = c.in_ok-entered.ensures.enters in
    let e = entry.0 in
    let entered = c.in_ok-entered.entered in
    let is = entry.1 in (
      e,
      is,
      processed_inside (g.R.CachingRules.goes rules) (g.R.CachingRules.waits rules) (g.R.CachingRules.ends rules) (g.R.CachingRules.wakes rules)
          c.args.place e entered.next.items entered.waits.items entry.2.next entry.2.waits
          old (g.L.Log.keys c.add_all.new.log) (g.L.Log.keys c.join.new.log) (g.L.Log.keys c.join.new.log) (at eq c.args.waiting.now) (at eq c.join.new.waiting) (at eq c.args.ended.now) (at eq c.args.ended.now) c.requires.below
          c.in_ok-add_all.ensures
          (subst (λ r. Adds (Answers (g.R.CachingRules.wakes r) (g.L.Log.keys c.add_all.new.log) (at eq c.args.ended.now) entered.waits.items) (g.L.Log.keys c.add_all.new.log) (g.L.Log.keys c.join.new.log)) c.in_ok-entered.ensures.same c.in_ok-join.ensures.log)
          c.in_ok-join.ensures.waiting
          (λ k l. c.in_default.not-Some k ((entry.2.end k).1 l)),
    )

pub returns-in_ok-push_at-clause-done : goal.returns-in_ok-push_at-clause-done
returns-in_ok-push_at-clause-done g c =
    let rules = g.R.CachingRules.source c.args.rules.now in
    let eq = g.R.Context.PartialEq.eq in
    let old = g.L.Log.keys c.args.log.now in
    let entry = c.in_ok-entered.ensures.enters in
    let e = entry.0 in
    let entered = c.in_ok-entered.entered in
    let context = c.in-Some.context in
    let is = entry.1 in
    let a₁ = c.in_ok-add_all.ensures in
    let same = c.in_ok-entered.ensures.same in
    let a₂ = subst (λ r. Adds (Answers (g.R.CachingRules.wakes r) (g.L.Log.keys c.add_all.new.log) (at eq c.args.ended.now) entered.waits.items) (g.L.Log.keys c.add_all.new.log) (g.L.Log.keys c.join.new.log)) same c.in_ok-join.ensures.log in
    let inside = c.requires.inside in (
      e,
      is,
      processed_end (g.R.CachingRules.goes rules) (g.R.CachingRules.waits rules) (g.R.CachingRules.ends rules) (g.R.CachingRules.wakes rules)
          c.args.place e entered.next.items entered.waits.items entry.2.next entry.2.waits
          old (g.L.Log.keys c.add_all.new.log) (g.L.Log.keys c.join.new.log) (g.L.Log.keys c.wake_all.new.log) (at eq c.args.waiting.now) (at eq c.join.new.waiting) (at eq c.args.ended.now) (at eq c.push_at.new.lists) c.requires.below
          a₁ a₂ c.in_ok-join.ensures.waiting
          context ((entry.2.end context).0 c.in-Some.is) (λ k l. same_Some context k (sym c.in-Some.is ∙ (entry.2.end k).1 l))
          (stays a₂ c.args.place (omega (arith, inside, not_shorter a₁)) ∙ stays a₁ c.args.place inside ∙ is)
          c.list_at.result.now c.list_at.ensures
          (subst (λ r. Adds (SomeGives (λ w. Met (g.R.CachingRules.wakes r) (g.L.Log.keys c.join.new.log) w c.args.place) c.list_at.result.now) (g.L.Log.keys c.join.new.log) (g.L.Log.keys c.wake_all.new.log)) same c.in_ok-wake_all.ensures)
          c.in_ok-push_at.ensures,
    )
