use Rattle.std.proofs.Common.{refl}
use Rattle.suffix_summary.proofs.MetStates.Gifts.{none-yet, events-next, behind-next, events-all}
use Rattle.suffix_summary.proofs.met_states.events.add_at_events.Goals as goal

pub loop-rules-init : goal.loop-rules-init
loop-rules-init c = λ k f hs are. (refl, none-yet k f c.args.frames.is_root c.args.frames.function c.args.first c.args.found.now.items)

pub loop-rules-preserved : goal.loop-rules-preserved
loop-rules-preserved c =
    let at = c.loop-rules in
    let kind = c.args.frames.is_root in
    let n = c.args.frames.function in
    let rules = c.args.events.now in
    let r = c.rules-item.result in
    λ k f hs are.
    let was = at.invariant k f hs are in (
      behind-next k f kind n c.args.first hs rules are at.rules-index r at.global c.next_global-global.result c.loop-rules-test.true c.rules-item.is was.0
          (λ h is. c.next_global-global.ensures k.machine k.depth h f is),
      events-next k f kind n c.args.first hs rules are at.rules-index r at.global c.args.found.now.items at.found.items c.add_at_event.new.found.items c.loop-rules-test.true c.rules-item.is was.0 was.1
          (λ h is. c.in_ok-add_at_event.ensures k f h is),
    )

pub returns : goal.returns
returns c =
    let at = c.loop-rules in
    λ k f hs are.
    events-all k f c.args.frames.is_root c.args.frames.function c.args.first hs c.args.events.now are at.rules-index c.args.found.now.items at.found.items c.loop-rules-test.false (at.invariant k f hs are).1
