use Rattle.std.proofs.Common.{◌≡◌, Some, slice_get, sym, subst}
use Rattle.std.proofs.lemmas.Result.{IfOk-weaker}
use Rattle.least_set.proofs.Meeting.{exactly_met}
use Rattle.least_set.proofs.driver.woken.Goals as goal

pub returns : goal.returns
returns g c =
    let wakes = g.R.CachingRules.wakes (g.R.CachingRules.source c.args.rules.now) in
    let log = g.L.Log.keys c.args.log.now in
    let is = subst (λ e. slice_get log c.args.end ≡ Some e) (sym c.member.ensures) c.get-found.ensures in
    IfOk-weaker c.wake.result _ _ (λ v x. exactly_met wakes c.args.waiter.now c.args.end _ log v.items is x) c.wake.ensures.exact
