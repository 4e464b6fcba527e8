use Rattle.std.proofs.Common.{◌≡◌, Some, slice_get, sym, subst, ap, ◌∙◌}
use Rattle.std.proofs.lemmas.Option.{same_Some}
use Rattle.least_set.proofs.Processing.{enters}
use Rattle.least_set.proofs.driver.enter_at.Goals as goal

pub returns-clause-enters : goal.returns-clause-enters
returns-clause-enters g c =
    let log = g.L.Log.keys c.args.log.now in
    let is = subst (λ e. slice_get log c.args.place ≡ Some e) (sym c.member.ensures) c.get-found.ensures in
    let rules = g.R.CachingRules.source c.args.rules.now in
    enters (g.R.CachingRules.goes rules) (g.R.CachingRules.waits rules) (g.R.CachingRules.ends rules) c.enter.result log c.args.place _ is c.enter.ensures.goes c.enter.ensures.waits c.enter.ensures.ends

pub returns-clause-asked : goal.returns-clause-asked
returns-clause-asked g c e is =
    let log = g.L.Log.keys c.args.log.now in
    let rules = c.args.rules.now in
    let found = subst (λ x. slice_get log c.args.place ≡ Some x) (sym c.member.ensures) c.get-found.ensures in
    c.enter.ensures.asked ∙ ap (λ m. g.R.CachingRules.counting (g.R.CachingRules.source rules) m (g.R.CachingRules.asked rules)) (same_Some c.member.result.now e (sym found ∙ is))
