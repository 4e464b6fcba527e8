-- The instance meets each law of the theory: locality, closed sets of objects, kinds of frame, and blocks that end
-- frames.
use Rattle.std.proofs.Common.{◌≡◌, Bool, true, false, Option, Some, None, [], ◌∷◌, refl, ◌⊎◌, inl, inr, subst}
use Rattle.path_examples.specs.declared.checker.Variable.{Variable}
use Rattle.path_examples.specs.declared.checker.Variable.TheVariants.{WalkFormal, WalkLocal, StartFormal, HelpFormal}
use Rattle.path_examples.specs.declared.checker.Event.{Event}
use Rattle.path_examples.specs.declared.checker.Event.TheVariants.{Lock, Unlock, Copy, Disable, Leave}
use Rattle.path_examples.specs.declared.checker.LockState.{LockState}
use Rattle.path_examples.specs.declared.checker.Interrupts.{Interrupts}
use Rattle.path_examples.specs.declared.checker.Interrupts.TheVariants.{Enabled, Disabled}
use Rattle.path_examples.specs.declared.checker.Report.{Report}
use Rattle.path_examples.specs.declared.program.Function.{Function}
use Rattle.path_examples.specs.declared.program.Function.TheVariants.{Walk, Start, Help}
use Rattle.path_examples.specs.declared.program.CallSite.{CallSite}
use Rattle.path_examples.specs.declared.program.CallSite.TheVariants.{WalkAgain, FirstHelp, SecondHelp}
use Rattle.path_examples.specs.declared.program.Block.{Block}
use Rattle.path_examples.specs.declared.program.Block.TheVariants.{Entry, Calling, Otherwise, Between, After, Exit}
use Rattle.path_theory.specs.Origins.{IsLocal}
use Rattle.path_theory.specs.Facts.{Fact, NoObject, HasObject}
use Rattle.path_theory.specs.FrameEnds.{IgnoresKind, EndsQuietly, Exits, EachStays, ExitsApart}
use Rattle.path_theory.specs.Merged.{IsUnknown, Kinds}
use Rattle.path_examples.specs.Checker.{source_of, out_of, choice, report_of, global_report, next_interrupts, locks, lock_origins}
use Rattle.path_examples.specs.Program.{IsRoot, events_of, Next, Calls, block_of, Ends, graphs, is_own}

-- moves, entries and returns are given by origins
pub local : IsLocal locks lock_origins
local = record { moved = λ e m o. refl; entered = λ s m o. refl; returned = λ s n m o. refl }

abbrev pub IsExit : Event → Type 0
IsExit Leave = Unit {0}
IsExit _ = ⊥

abbrev pub Stays : Event → Type 0
Stays Leave = ⊥
Stays _ = Unit {0}

same_choice : (e : Event) → Stays e → (k l : Bool) (o : Variable) (x : Option LockState)
    → choice e k o x ≡ choice e l o x
same_choice (Lock v) a k l o x = refl
same_choice (Unlock v) a k l o x = refl
same_choice Copy a k l o x = refl
same_choice Disable a k l o x = refl
same_choice Leave a k l o x = absurd a

same_report : (e : Event) → Stays e → (k l : Bool) (o : Variable) (x : Option LockState)
    → report_of e k o x ≡ report_of e l o x
same_report (Lock v) a k l o x = refl
same_report (Unlock v) a k l o x = refl
same_report Copy a k l o x = refl
same_report Disable a k l o x = refl
same_report Leave a k l o x = absurd a

same_global : (e : Event) → Stays e → (k l : Bool) (g : Interrupts) → global_report e k g ≡ global_report e l g
same_global (Lock v) a k l g = refl
same_global (Unlock v) a k l g = refl
same_global Copy a k l g = refl
same_global Disable a k l g = refl
same_global Leave a k l g = absurd a

-- an event that ends no frame does the same in both kinds of frame
pub ignores_kind : IgnoresKind locks Stays
ignores_kind = record {
  global = λ e a f k l g. refl;
  choice = λ e a f k l g o x. same_choice e a k l o x;
  fires = λ e a f k l g o x r i. subst (λ y. y ≡ Some r) (same_report e a k l o x) i;
  fires_global = λ e a f k l g r i. subst (λ y. y ≡ Some r) (same_global e a k l g) i;
}

exit_next : (e : Event) → IsExit e → (g : Interrupts) → next_interrupts e g ≡ g
exit_next Leave a g = refl
exit_next (Lock v) a g = absurd a
exit_next (Unlock v) a g = absurd a
exit_next Copy a g = absurd a
exit_next Disable a g = absurd a

exit_source : (e : Event) → IsExit e → (o : Variable) → source_of e o ≡ Some o
exit_source Leave a o = refl
exit_source (Lock v) a o = absurd a
exit_source (Unlock v) a o = absurd a
exit_source Copy a o = absurd a
exit_source Disable a o = absurd a

exit_report : (e : Event) → IsExit e → (o : Variable) (x : Option LockState) (r : Report)
    → report_of e false o x ≡ Some r → report_of e true o x ≡ Some r
exit_report Leave a WalkLocal x r i = i
exit_report Leave a WalkFormal x r i = cc
exit_report Leave a StartFormal x r i = cc
exit_report Leave a HelpFormal x r i = cc
exit_report (Lock v) a o x r i = absurd a
exit_report (Unlock v) a o x r i = absurd a
exit_report Copy a o x r i = absurd a
exit_report Disable a o x r i = absurd a

exit_global : (e : Event) → IsExit e → (g : Interrupts) (r : Report) → global_report e false g ≡ Some r
    → global_report e true g ≡ Some r
exit_global Leave a g r i = cc
exit_global (Lock v) a g r i = absurd a
exit_global (Unlock v) a g r i = absurd a
exit_global Copy a g r i = absurd a
exit_global Disable a g r i = absurd a

-- the end of a called frame does nothing that its caller could see
pub ends_quietly : EndsQuietly locks IsExit
ends_quietly = record {
  global = λ e a f g. exit_next e a g;
  fires = λ e a f g o x r i. exit_report e a o x r i;
  fires_global = λ e a f g r i. exit_global e a g r i;
}

abbrev pub exits : Exits locks
exits = record { IsExit = IsExit; Stays = Stays; same = ignores_kind; quiet = ends_quietly }

either_is : (f : Function) (b : Block) → EachStays exits (events_of f b) ⊎ Ends f b
either_is Walk Entry = inl (tt, (tt, tt))
either_is Walk Calling = inl tt
either_is Walk Otherwise = inl (tt, tt)
either_is Walk Between = inl tt
either_is Walk After = inl (tt, tt)
either_is Walk Exit = inr tt
either_is Start Entry = inl tt
either_is Start Calling = inl tt
either_is Start Otherwise = inl tt
either_is Start Between = inl tt
either_is Start After = inl tt
either_is Start Exit = inr tt
either_is Help Entry = inl (tt, tt)
either_is Help Calling = inl tt
either_is Help Otherwise = inl tt
either_is Help Between = inl tt
either_is Help After = inl tt
either_is Help Exit = inr tt

-- nothing is behind the exit
exit_goes : (f : Function) (b c : Block) → Ends f b → Next f b c → ⊥
exit_goes Walk Exit c e n = n
exit_goes Start Exit c e n = n
exit_goes Help Exit c e n = n
exit_goes f Entry c e n = e
exit_goes f Calling c e n = e
exit_goes f Otherwise c e n = e
exit_goes f Between c e n = e
exit_goes f After c e n = e

exit_calls : (s : CallSite) (b : Block) → Ends Walk b → b ≡ block_of s → ⊥
exit_calls WalkAgain Exit e d = cc
exit_calls FirstHelp Exit e d = cc
exit_calls SecondHelp Exit e d = cc
exit_calls s Entry e d = e
exit_calls s Calling e d = e
exit_calls s Otherwise e d = e
exit_calls s Between e d = e
exit_calls s After e d = e

next_stays : (f : Function) (b c : Block) → Next f b c → EachStays exits (events_of f b)
next_stays f b c n = elim (either_is f b) [ inl a ↦ a | inr e ↦ absurd (exit_goes f b c e n) ]

call_stays : (f h : Function) (s : CallSite) (b c : Block) → Calls f b s h c → EachStays exits (events_of f b)
call_stays f h s b c n = elim (either_is f b) [ inl a ↦ a | inr e ↦ absurd (exit_calls s b e n.block) ]

last_is : (f : Function) (b : Block) → Ends f b → (e : Event) × IsExit e × (events_of f b ≡ e ∷ [])
last_is Walk Exit n = (Leave, tt, refl)
last_is Start Exit n = (Leave, tt, refl)
last_is Help Exit n = (Leave, tt, refl)
last_is f Entry n = absurd n
last_is f Calling n = absurd n
last_is f Otherwise n = absurd n
last_is f Between n = absurd n
last_is f After n = absurd n

-- no call hands back the local
out_local : (s : CallSite) (o : Variable) → out_of s o ≡ Some WalkLocal → ⊥
out_local WalkAgain WalkFormal d = cc
out_local WalkAgain WalkLocal d = cc
out_local WalkAgain StartFormal d = cc
out_local WalkAgain HelpFormal d = cc
out_local FirstHelp WalkFormal d = cc
out_local FirstHelp WalkLocal d = cc
out_local FirstHelp StartFormal d = cc
out_local FirstHelp HelpFormal d = cc
out_local SecondHelp WalkFormal d = cc
out_local SecondHelp WalkLocal d = cc
out_local SecondHelp StartFormal d = cc
out_local SecondHelp HelpFormal d = cc

kept_at : (e : Event) → IsExit e → (s : CallSite) (o a : Variable) → out_of s o ≡ Some a → (x : Option LockState)
    → choice e false a x ≡ x
kept_at Leave i s o WalkFormal d x = refl
kept_at Leave i s o StartFormal d x = refl
kept_at Leave i s o HelpFormal d x = refl
kept_at Leave i s o WalkLocal d x = absurd (out_local s o d)
kept_at (Lock v) i s o a d x = absurd i
kept_at (Unlock v) i s o a d x = absurd i
kept_at Copy i s o a d x = absurd i
kept_at Disable i s o a d x = absurd i

pub apart : ExitsApart locks lock_origins exits graphs
apart = record { next = λ n. next_stays _ _ _ n; call = λ n. call_stays _ _ _ _ _ n; last = λ n. last_is _ _ n; unmoved = λ j e i o a d. exit_source e i a; kept = λ j e i g o a d x. kept_at e i _ o a d x; either = either_is }

pub own_of_root : (f : Function) (t : Fact locks) → IsRoot f → IsUnknown locks t → is_own f Enabled t ≡ true
own_of_root Walk NoObject r u = refl
own_of_root Walk (HasObject o None) r u = refl
own_of_root Walk (HasObject o (Some x)) r u = absurd u
own_of_root Start NoObject r u = refl
own_of_root Start (HasObject o None) r u = refl
own_of_root Start (HasObject o (Some x)) r u = absurd u
own_of_root Help t r u = absurd r

pub root_of_own : (f : Function) (g : Interrupts) (t : Fact locks) → is_own f g t ≡ true
    → IsRoot f × (g ≡ Enabled) × IsUnknown locks t
root_of_own Walk Enabled NoObject d = (tt, refl, tt)
root_of_own Walk Enabled (HasObject o None) d = (tt, refl, tt)
root_of_own Walk Enabled (HasObject o (Some x)) d = cc
root_of_own Walk Disabled t d = cc
root_of_own Start Enabled NoObject d = (tt, refl, tt)
root_of_own Start Enabled (HasObject o None) d = (tt, refl, tt)
root_of_own Start Enabled (HasObject o (Some x)) d = cc
root_of_own Start Disabled t d = cc
root_of_own Help g t d = cc

abbrev pub kinds : Kinds locks graphs
kinds = record { kind = is_own; of_root = λ t r u. own_of_root _ t r u; is_root = λ d. root_of_own _ _ _ d }
