use Rattle.std.proofs.Common.{inl, inr}
use Rattle.function_tables.proofs.EngineTables.Places.{if-ok}
use Rattle.least_set.proofs.Growing.{adds_both}
use Rattle.suffix_summary.specs.InStart.{GivesInStart}
use Rattle.suffix_summary.proofs.met_states.start.add_in_start.Goals as goal

pub returns : goal.returns
returns c =
    if-ok _ _ c.add_at_events-2.result
    (λ u added k f hs are.
    adds_both {R = GivesInStart k f hs c.args.function} (c.in_ok-add_at_events.ensures k f hs are) (added k f hs are)
    (λ y w. elim w.1 [ inl t ↦ inl (w.0, t) | inr t ↦ inr (w.0, t) ]) (λ y w. (w.0, inl w.1)) (λ y w. (w.0, inr w.1)))
    c.add_at_events-2.ensures
