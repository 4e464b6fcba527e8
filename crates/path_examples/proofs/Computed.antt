-- A path of the program through two frames of walk, built step by step, and what computes along it.
use Rattle.std.proofs.Common.{true, false, Some, [], ◌∷◌, refl, inl}
use Rattle.path_examples.specs.declared.checker.Variable.TheVariants.{WalkFormal, WalkLocal}
use Rattle.path_examples.specs.declared.checker.Event.TheVariants.{Lock, Unlock, Copy, Disable, Leave}
use Rattle.path_examples.specs.declared.checker.Report.TheVariants.{DoubleLock}
use Rattle.path_examples.specs.declared.program.Function.TheVariants.{Walk}
use Rattle.path_examples.specs.declared.program.CallSite.TheVariants.{WalkAgain}
use Rattle.path_examples.specs.declared.program.Block.TheVariants.{Entry, Calling, Otherwise, After, Exit}
use Rattle.path_theory.specs.Trails.{More}
use Rattle.path_theory.specs.Callers.{Callers, NoCaller, Waiting}
use Rattle.path_theory.specs.Actions.{Did}
use Rattle.path_theory.specs.FlatPaths as flat
use Rattle.path_theory.specs.FlatPaths.{LeadsTo, Begins, Skips, Does, Returns, IsPath}
use Rattle.path_theory.specs.FlowGraphs.{Head, Before, EntersBlock, LeavesBlock, PassesEvent, MakesCall, EndsFrame}
use Rattle.path_theory.specs.Facts.{NoObject}
use Rattle.path_theory.specs.Flows.{StartsNone, EventNone, CallNone}
use Rattle.path_theory.specs.Tabulation.{AtRoot, AlongSkip, AlongEvent, IntoCallee}
use Rattle.path_examples.specs.declared.checker.Interrupts.TheVariants.{Enabled, Disabled}
use Rattle.path_examples.specs.Steps.{Edge, EndsWith}
use Rattle.path_examples.specs.Checker.{locks}
use Rattle.path_examples.specs.Program.{Calls, program}
use Rattle.path_examples.specs.Log.{IsReported, into_second, back_from_second}

again : Calls Walk Calling WalkAgain Walk After
again = record { caller = refl; block = refl; callee = refl; behind = refl }

-- the frame below, which waits behind the call
abbrev one_frame : Callers locks program
one_frame = Waiting Walk true WalkAgain (Head After) NoCaller

abbrev second_frame : LeadsTo locks program Walk into_second Walk false (Head Entry) one_frame
second_frame =
    let begun = Skips (Begins {root = Walk} tt) (EntersBlock Entry) in
    let locked = Does begun (Lock WalkFormal) (PassesEvent Entry (Lock WalkFormal) (Copy ∷ [])) in
    let copied = Does locked Copy (PassesEvent Entry Copy []) in
    let calling = Skips (Skips copied (LeavesBlock {b = Entry} {c = Calling} tt)) (EntersBlock Calling) in
    flat.Calls calling WalkAgain Walk (MakesCall again)

abbrev second_locked : LeadsTo locks program Walk (More into_second (Did (Lock WalkFormal))) Walk false (Before Entry (Copy ∷ [])) one_frame
second_locked = Does (Skips second_frame (EntersBlock Entry)) (Lock WalkFormal) (PassesEvent Entry (Lock WalkFormal) (Copy ∷ []))

abbrev first_again : LeadsTo locks program Walk back_from_second Walk true (Head After) NoCaller
first_again =
    let copied = Does second_locked Copy (PassesEvent Entry Copy []) in
    let otherwise = Skips (Skips copied (LeavesBlock {b = Entry} {c = Otherwise} tt)) (EntersBlock Otherwise) in
    let disabled = Does otherwise Disable (PassesEvent Otherwise Disable []) in
    let after = Skips (Skips disabled (LeavesBlock {b = Otherwise} {c = After} tt)) (EntersBlock After) in
    let unlocked = Does after (Unlock WalkLocal) (PassesEvent After (Unlock WalkLocal) []) in
    let exit = Skips (Skips unlocked (LeavesBlock {b = After} {c = Exit} tt)) (EntersBlock Exit) in
    Returns WalkAgain (Does exit Leave (PassesEvent Exit Leave [])) (EndsFrame {b = Exit} tt)

pub back_is_path : IsPath locks program Walk back_from_second
back_is_path = record { fn = Walk; kind = true; place = Head After; below = NoCaller; leads = first_again }

-- the lock of the second frame takes a lock that is held: the report is that of the fold, by computation
pub double_lock : IsReported (DoubleLock WalkFormal)
double_lock = record {
  root = Walk;
  actions = into_second;
  event = Lock WalkFormal;
  path = record { fn = Walk; kind = false; place = Before Entry (Copy ∷ []); below = one_frame; leads = second_locked };
  taken = inl (WalkFormal, refl);
}

-- into the second frame of walk without object, by path edges
abbrev into_walk : Edge Walk false Enabled NoObject (Head Entry) Enabled NoObject
into_walk =
    let begun = AlongSkip (AtRoot {f = Walk} tt StartsNone) (EntersBlock Entry) in
    let locked = AlongEvent begun (Lock WalkFormal) (PassesEvent Entry (Lock WalkFormal) (Copy ∷ [])) EventNone in
    let copied = AlongEvent locked Copy (PassesEvent Entry Copy []) EventNone in
    let calling = AlongSkip (AlongSkip copied (LeavesBlock {b = Entry} {c = Calling} tt)) (EntersBlock Calling) in
    IntoCallee calling WalkAgain (MakesCall again) CallNone

-- the second frame of walk ends with interrupts off
pub walk_ends : EndsWith WalkAgain Enabled (Some Disabled)
walk_ends =
    let begun = AlongSkip into_walk (EntersBlock Entry) in
    let locked = AlongEvent begun (Lock WalkFormal) (PassesEvent Entry (Lock WalkFormal) (Copy ∷ [])) EventNone in
    let copied = AlongEvent locked Copy (PassesEvent Entry Copy []) EventNone in
    let otherwise = AlongSkip (AlongSkip copied (LeavesBlock {b = Entry} {c = Otherwise} tt)) (EntersBlock Otherwise) in
    let disabled = AlongEvent otherwise Disable (PassesEvent Otherwise Disable []) EventNone in
    let after = AlongSkip (AlongSkip disabled (LeavesBlock {b = Otherwise} {c = After} tt)) (EntersBlock After) in
    let unlocked = AlongEvent after (Unlock WalkLocal) (PassesEvent After (Unlock WalkLocal) []) EventNone in
    let exit = AlongSkip (AlongSkip unlocked (LeavesBlock {b = After} {c = Exit} tt)) (EntersBlock Exit) in
    (Before Exit [], AlongEvent exit Leave (PassesEvent Exit Leave []) EventNone, EndsFrame {b = Exit} tt)
