use Rattle.std.proofs.Common.{◌≡◌, [], ◌∷◌, ◌++◌, Some, None, cond, subst, sym, ap, ◌∙◌, refl}
use Rattle.std.specs.Option.{IsSome, option_copied_mut}
use Rattle.indexmap.specs.IndexMap.{get}
use Rattle.least_set.specs.Indexes.{items_of}
use Rattle.least_set.proofs.Keyed.{extends_push}
use Rattle.known_search.proofs.keyed_index.lists.push_at.Goals as goal

pub returns-in-Some : goal.returns-in-Some
returns-in-Some g c =
    let eq = g.K.PartialEq.eq in
    let e : get eq c.args.lists.now c.args.key ≡ Some c.in-Some.list.now = sym c.get_mut.ensures.value ∙ ap option_copied_mut c.in-Some.is in
    let h = c.get_mut.follows.holds c.push.new.self in
    extends_push eq g.met.K.Key.same g.met.K.Eq.laws.refl (get eq c.args.lists.now) (get eq (c.get_mut.follows.lender c.push.new.self)) c.args.key c.args.position c.push.new.self
    (c.in_ok-push.ensures.items ∙ ap (λ o. items_of o ++ c.args.position ∷ []) (sym e))
    ((h.3 (subst IsSome (sym e) refl)).0)

pub returns : goal.returns
returns g c =
    let eq = g.K.PartialEq.eq in
    let n = c.get_mut.follows.holds-at-none in
    let e : get eq c.args.lists.now c.args.key ≡ None = sym c.get_mut.ensures.value ∙ ap option_copied_mut c.in_default.is in
    extends_push eq g.met.K.Key.same g.met.K.Eq.laws.refl (get eq c.args.lists.now) (get eq c.insert.new.self) c.args.key c.args.position c.push-2.new.self
    (c.in_ok-push-2.ensures.items ∙ ap (λ l. l ++ c.args.position ∷ []) (c.new-list.ensures.items ∙ ap items_of (sym e)))
    (λ q. subst (λ m. get eq c.insert.new.self q ≡ cond (eq c.args.key q) (Some c.push-2.new.self) (get eq m q)) n (c.in_ok-insert.ensures.updates.0 q))
