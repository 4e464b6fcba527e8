-- The rules of the checker, on whole maps: a lock that is held mustn't be taken again nor be held at the end of a
-- frame, and interrupts mustn't be off at the end of a root.
-- At the end of a called frame only its local is asked.
use Rattle.std.specs.Prelude.{◌≡◌, Bool, true, false, Option, Some, None, if◌then◌else◌, option_and_then}
use Rattle.path_examples.specs.declared.checker.Variable.{Variable}
use Rattle.path_examples.specs.declared.checker.Variable.TheVariants.{WalkFormal, WalkLocal, StartFormal, HelpFormal}
use Rattle.path_examples.specs.declared.checker.Event.{Event}
use Rattle.path_examples.specs.declared.checker.Event.TheVariants.{Lock, Unlock, Copy, Disable, Leave}
use Rattle.path_examples.specs.declared.checker.LockState.{LockState}
use Rattle.path_examples.specs.declared.checker.LockState.TheVariants.{Locked, Unlocked}
use Rattle.path_examples.specs.declared.checker.Interrupts.{Interrupts}
use Rattle.path_examples.specs.declared.checker.Interrupts.TheVariants.{Enabled, Disabled}
use Rattle.path_examples.specs.declared.checker.Report.{Report}
use Rattle.path_examples.specs.declared.checker.Report.TheVariants.{DoubleLock, DoubleUnlock, StillLocked, StillDisabled}
use Rattle.path_examples.specs.declared.program.Function.{Function}
use Rattle.path_examples.specs.declared.program.CallSite.{CallSite}
use Rattle.path_examples.specs.declared.program.CallSite.TheVariants.{WalkAgain, FirstHelp, SecondHelp}
use Rattle.path_theory.specs.Model.{Model}
use Rattle.path_theory.specs.Origins.{Origins, handed}

-- the local of walk takes the state of its formal
abbrev pub source_of : Event → Variable → Option Variable
source_of Copy WalkLocal = Some WalkFormal
source_of _ o = Some o

-- at its entry a formal has the state of the actual
abbrev pub into_of : CallSite → Variable → Option Variable
into_of WalkAgain WalkFormal = Some WalkFormal
into_of FirstHelp HelpFormal = Some StartFormal
into_of SecondHelp HelpFormal = Some StartFormal
into_of _ _ = None

-- behind the call the actual has the state of the formal, and all else is saved
abbrev pub out_of : CallSite → Variable → Option Variable
out_of WalkAgain WalkFormal = Some WalkFormal
out_of FirstHelp StartFormal = Some HelpFormal
out_of SecondHelp StartFormal = Some HelpFormal
out_of _ _ = None

abbrev pub same_variable : Variable → Variable → Bool
same_variable WalkFormal WalkFormal = true
same_variable WalkLocal WalkLocal = true
same_variable StartFormal StartFormal = true
same_variable HelpFormal HelpFormal = true
same_variable _ _ = false

-- which variables are asked at the end of a frame: in a root's own frame all, else the local
abbrev pub is_asked : Bool → Variable → Bool
is_asked true o = true
is_asked false WalkLocal = true
is_asked false _ = false

abbrev pub when_unlocked : Option LockState → Option LockState
when_unlocked (Some s) = Some Unlocked
when_unlocked None = None

abbrev pub when_left : Option LockState → Option LockState
when_left (Some Locked) = None
when_left x = x

abbrev pub choice : Event → Bool → Variable → Option LockState → Option LockState
choice (Lock v) k o x = if same_variable v o then Some Locked else x
choice (Unlock v) k o x = if same_variable v o then when_unlocked x else x
choice Copy k o x = x
choice Disable k o x = x
choice Leave k o x = if is_asked k o then when_left x else x

abbrev pub if_locked : Option LockState → Report → Option Report
if_locked (Some Locked) r = Some r
if_locked _ r = None

abbrev pub if_unlocked : Option LockState → Report → Option Report
if_unlocked (Some Unlocked) r = Some r
if_unlocked _ r = None

abbrev pub report_of : Event → Bool → Variable → Option LockState → Option Report
report_of (Lock v) k o x = if same_variable v o then if_locked x (DoubleLock o) else None
report_of (Unlock v) k o x = if same_variable v o then if_unlocked x (DoubleUnlock o) else None
report_of Copy k o x = None
report_of Disable k o x = None
report_of Leave k o x = if is_asked k o then if_locked x (StillLocked o) else None

abbrev pub next_interrupts : Event → Interrupts → Interrupts
next_interrupts Disable g = Disabled
next_interrupts _ g = g

abbrev pub global_report : Event → Bool → Interrupts → Option Report
global_report Leave true Disabled = Some StillDisabled
global_report _ _ _ = None

abbrev pub locks : Model
locks = record {
  Fn = Function;
  Event = Event;
  Site = CallSite;
  Obj = Variable;
  Global = Interrupts;
  State = LockState;
  Report = Report;
  start = Enabled;
  moved = λ e m o. option_and_then m (source_of e o);
  entered = λ s m o. option_and_then m (into_of s o);
  returned = λ s n m o. handed (out_of s o) n (m o);
  next_global = λ e f k g. next_interrupts e g;
  choose = λ e f k g o x. choice e k o x;
  Fires = λ e f k g o x r. report_of e k o x ≡ Some r;
  FiresGlobal = λ e f k g r. global_report e k g ≡ Some r;
}

abbrev pub lock_origins : Origins locks
lock_origins = record { source = source_of; into = into_of; out = out_of }
