use Rattle.std.proofs.Common.{◌≡◌, ◌++◌, length}
use Rattle.std.specs.Vec.Iter.{into_iter_items, into_iter_len}
use Rattle.least_set.specs.Logs.{Adds, SomeGives}
use Rattle.path_model.specs.CheckerModel.Happenings.{Function, Happening}
use Rattle.path_model.specs.CheckerModel.Reports.{Checker}
use Rattle.suffix_summary.specs.MetStates.{GivesOne}
use Rattle.state_tuples.specs.AppliedRules.Events.{AreOfEvent}
use Rattle.suffix_summary.proofs.met_states.events.add_taken.Given as goal

-- what those that were gone through give was put behind
abbrev pub invariant-loop-object : goal.invariant-loop-object
invariant-loop-object l = record {
  split : l.yielded ++ into_iter_items l.object-iterator ≡ into_iter_items l.initial.object-iterator;
  adds : (c : Checker) (f : Function) (h : Happening) → AreOfEvent c.machine c.depth h f l.rules → Adds (SomeGives (GivesOne c f l.frames.is_root h l.global l.frames.function) l.yielded) l.fn.found.items l.found.items;
  len : into_iter_len l.object-iterator ≡ length (into_iter_items l.object-iterator);
}
