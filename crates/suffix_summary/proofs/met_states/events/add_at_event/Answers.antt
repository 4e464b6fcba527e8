use Rattle.function_tables.proofs.EngineTables.Places.{if-ok}
use Rattle.suffix_summary.proofs.MetStates.Gifts.{gives-at}
use Rattle.suffix_summary.proofs.met_states.events.add_at_event.Goals as goal

pub returns : goal.returns
returns c =
    if-ok _ _ c.add_taken.result
    (λ u added k f h is.
    gives-at k f c.args.frames.is_root c.args.frames.function h c.args.global c.in_ok-objects.objects.items c.args.found.now.items c.add_taken.new.found.items
    (c.in_ok-objects.ensures k.machine k.depth h f is) (added k f h is))
    c.add_taken.ensures
