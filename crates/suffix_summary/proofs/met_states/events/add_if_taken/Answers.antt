use Rattle.suffix_summary.proofs.MetStates.Gifts.{gives-one, gives-none}
use Rattle.suffix_summary.proofs.met_states.events.add_if_taken.Goals as goal

pub returns-then-not-takes : goal.returns-then-not-takes
returns-then-not-takes c = λ k f h is.
    gives-none k f c.args.frames.is_root c.args.frames.function h c.args.global c.args.object c.args.found.now.items c.takes.result c.if-not-takes.true (c.takes.ensures k f h is)

pub returns : goal.returns
returns c = λ k f h is.
    gives-one k f c.args.frames.is_root c.args.frames.function h c.args.global c.args.object c.args.found.now.items c.push.new.self.items c.takes.result c.if-not-takes.false (c.takes.ensures k f h is)
    c.in_ok-push.ensures.items
