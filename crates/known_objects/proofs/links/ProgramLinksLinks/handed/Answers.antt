use Rattle.std.proofs.Common.{◌∙◌, sym, ap, subst}
use Rattle.std.specs.Option.{option_map}
use Rattle.known_objects.proofs.Gifts.{at-number, no-number}
use Rattle.known_objects.proofs.links.ProgramLinksLinks.handed.Goals as goal
use Rattle.known_objects.specs.Linked.{HandsIn}
use Rattle.known_search.proofs.Lists.{if-ok}
use Rattle.least_set.specs.Logs.{IsExactly}

pub returns-in-Some : goal.returns-in-Some
returns-in-Some c =
    let s = c.args.self.now in
    let at = sym c.call_at.ensures ∙ ap (option_map (λ x. x.now)) c.in-Some.is in
    if-ok _ _ c.handed_over.result
    (λ list is. at-number s.callers.filing.now.depth s.callers.changes.now c.args.callee c.args.object.now c.args.call c.args.caller c.in-Some.found.now list.items at is)
    c.handed_over.ensures

pub returns-in-None : goal.returns-in-None
returns-in-None c =
    let s = c.args.self.now in
    let at = sym c.call_at.ensures ∙ ap (option_map (λ x. x.now)) c.in-None.is in
    subst (λ l. IsExactly l (HandsIn s.callers.filing.now.depth s.callers.changes.now c.args.call c.args.callee c.args.object.now c.args.caller)) (sym c.new.ensures.items)
    (no-number s.callers.filing.now.depth s.callers.changes.now c.args.callee c.args.object.now c.args.call c.args.caller at)

pub handed_over-requires : goal.handed_over-requires
handed_over-requires c = c.args.self.now.callers.filing.now.low
