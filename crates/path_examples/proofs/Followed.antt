-- Each function's own variables are a set that is closed under the events and calls of the program, so the others may
-- be left out.
use Rattle.std.proofs.Common.{◌≡◌, Bool, true, false, Some, None, if◌then◌else◌, [], ◌∷◌, refl, sym, ◌∙◌, subst, inl, inr, ◌↔◌}
use Rattle.path_examples.specs.declared.checker.Variable.{Variable}
use Rattle.path_examples.specs.declared.checker.Variable.TheVariants.{WalkFormal, WalkLocal, StartFormal, HelpFormal}
use Rattle.path_examples.specs.declared.checker.Event.{Event}
use Rattle.path_examples.specs.declared.checker.Event.TheVariants.{Lock, Unlock, Copy, Disable, Leave}
use Rattle.path_examples.specs.declared.checker.LockState.{LockState}
use Rattle.path_examples.specs.declared.checker.LockState.TheVariants.{Locked}
use Rattle.path_examples.specs.declared.checker.Report.{Report}
use Rattle.path_examples.specs.declared.program.Function.{Function}
use Rattle.path_examples.specs.declared.program.Function.TheVariants.{Walk, Start, Help}
use Rattle.path_examples.specs.declared.program.CallSite.{CallSite}
use Rattle.path_examples.specs.declared.program.CallSite.TheVariants.{WalkAgain, FirstHelp, SecondHelp}
use Rattle.path_examples.specs.declared.program.Block.{Block}
use Rattle.path_examples.specs.declared.program.Block.TheVariants.{Entry, Calling, Otherwise, Between, After, Exit}
use Rattle.path_theory.specs.Relevant.{EventOf, CallOf, IsClosed}
use Rattle.path_theory.proofs.SmallFacts.{some_is, none_known}
use Rattle.path_theory.proofs.BlockEvents.{IsIn, event_in_block, call_in_block}
use Rattle.path_examples.specs.Checker.{same_variable, is_asked, source_of, into_of, out_of, choice, report_of, locks, lock_origins}
use Rattle.path_examples.specs.Program.{events_of, caller_of, callee_of, graphs, program, followed}

-- the set is closed under this event in this function
record FitsEvent (f : Function) (e : Event) : Type 0 where
  source : (o b : Variable) → source_of e o ≡ Some b → followed f o ↔ followed f b
  binds : (k : Bool) (o : Variable) (x : LockState) → choice e k o None ≡ Some x → followed f o
  fires : (k : Bool) (o : Variable) (r : Report) → report_of e k o None ≡ Some r → followed f o

same_followed : (f : Function) (o b : Variable) → Some o ≡ Some b → followed f o ↔ followed f b
same_followed f o b d = ((λ a. subst (followed f) (some_is o b d) a), (λ a. subst (followed f) (sym (some_is o b d)) a))

same_is : (v o : Variable) → same_variable v o ≡ true → v ≡ o
same_is WalkFormal WalkFormal d = refl
same_is WalkLocal WalkLocal d = refl
same_is StartFormal StartFormal d = refl
same_is HelpFormal HelpFormal d = refl
same_is WalkFormal WalkLocal d = cc
same_is WalkFormal StartFormal d = cc
same_is WalkFormal HelpFormal d = cc
same_is WalkLocal WalkFormal d = cc
same_is WalkLocal StartFormal d = cc
same_is WalkLocal HelpFormal d = cc
same_is StartFormal WalkFormal d = cc
same_is StartFormal WalkLocal d = cc
same_is StartFormal HelpFormal d = cc
same_is HelpFormal WalkFormal d = cc
same_is HelpFormal WalkLocal d = cc
same_is HelpFormal StartFormal d = cc

if_known : {A : Type 0} (b : Bool) (s x : A) → (if b then Some s else None) ≡ Some x → b ≡ true
if_known true s x d = refl
if_known false s x d = none_known x d

if_same : {A : Type 0} (b : Bool) (x : A) → (if b then x else x) ≡ x
if_same true x = refl
if_same false x = refl

-- an unknown variable takes a state at a lock alone
binds_none : {B : Type 0} (b : Bool) (x : LockState) → (if b then None else None) ≡ Some x → B
binds_none b x d = none_known x (sym (if_same b None) ∙ d)

reports_none : {B : Type 0} (b : Bool) (r : Report) → (if b then None else None) ≡ Some r → B
reports_none b r d = none_known r (sym (if_same b None) ∙ d)

lock_fits : (f : Function) (v : Variable) → followed f v → FitsEvent f (Lock v)
lock_fits f v a = record {
  source = same_followed f;
  binds = λ k o x d. subst (followed f) (same_is v o (if_known (same_variable v o) Locked x d)) a;
  fires = λ k o r d. reports_none (same_variable v o) r d;
}

unlock_fits : (f : Function) (v : Variable) → FitsEvent f (Unlock v)
unlock_fits f v = record { source = same_followed f; binds = λ k o x d. binds_none (same_variable v o) x d; fires = λ k o r d. reports_none (same_variable v o) r d }

disable_fits : (f : Function) → FitsEvent f Disable
disable_fits f = record { source = same_followed f; binds = λ k o x d. none_known x d; fires = λ k o r d. none_known r d }

leave_fits : (f : Function) → FitsEvent f Leave
leave_fits f = record { source = same_followed f; binds = λ k o x d. binds_none (is_asked k o) x d; fires = λ k o r d. reports_none (is_asked k o) r d }

copy_source : (o b : Variable) → source_of Copy o ≡ Some b → followed Walk o ↔ followed Walk b
copy_source WalkLocal b d = ((λ a. subst (followed Walk) (some_is WalkFormal b d) tt), (λ a. tt))
copy_source WalkFormal b d = same_followed Walk WalkFormal b d
copy_source StartFormal b d = same_followed Walk StartFormal b d
copy_source HelpFormal b d = same_followed Walk HelpFormal b d

copy_fits : FitsEvent Walk Copy
copy_fits = record { source = copy_source; binds = λ k o x d. none_known x d; fires = λ k o r d. none_known r d }

-- the only event of this list
only : (f : Function) (d e : Event) → FitsEvent f d → IsIn e (d ∷ []) → FitsEvent f e
only f d e w i = elim i [ inl a ↦ subst (FitsEvent f) (sym a) w | inr a ↦ absurd a ]

block_fits : (f : Function) (b : Block) (e : Event) → IsIn e (events_of f b) → FitsEvent f e
block_fits Walk Entry e i = elim i [ inl a ↦ subst (FitsEvent Walk) (sym a) (lock_fits Walk WalkFormal tt) | inr a ↦ only Walk Copy e copy_fits a ]
block_fits Walk Otherwise e i = only Walk Disable e (disable_fits Walk) i
block_fits Walk After e i = only Walk (Unlock WalkLocal) e (unlock_fits Walk WalkLocal) i
block_fits Help Entry e i = only Help (Lock HelpFormal) e (lock_fits Help HelpFormal tt) i
block_fits Walk Exit e i = only Walk Leave e (leave_fits Walk) i
block_fits Start Exit e i = only Start Leave e (leave_fits Start) i
block_fits Help Exit e i = only Help Leave e (leave_fits Help) i
block_fits Walk Calling e i = absurd i
block_fits Walk Between e i = absurd i
block_fits Start Entry e i = absurd i
block_fits Start Calling e i = absurd i
block_fits Start Otherwise e i = absurd i
block_fits Start Between e i = absurd i
block_fits Start After e i = absurd i
block_fits Help Calling e i = absurd i
block_fits Help Otherwise e i = absurd i
block_fits Help Between e i = absurd i
block_fits Help After e i = absurd i

fits : {f : Function} {e : Event} → EventOf locks program f e → FitsEvent f e
fits w = let v = event_in_block locks graphs w in block_fits _ v.0 _ v.1

-- what goes into a callee, and what comes out, is followed on both sides
into_followed : (s : CallSite) (c o : Variable) → into_of s c ≡ Some o
    → followed (callee_of s) c × followed (caller_of s) o
into_followed WalkAgain WalkFormal o d = (tt, subst (followed Walk) (some_is WalkFormal o d) tt)
into_followed FirstHelp HelpFormal o d = (tt, subst (followed Start) (some_is StartFormal o d) tt)
into_followed SecondHelp HelpFormal o d = (tt, subst (followed Start) (some_is StartFormal o d) tt)
into_followed WalkAgain WalkLocal o d = none_known o d
into_followed WalkAgain StartFormal o d = none_known o d
into_followed WalkAgain HelpFormal o d = none_known o d
into_followed FirstHelp WalkFormal o d = none_known o d
into_followed FirstHelp WalkLocal o d = none_known o d
into_followed FirstHelp StartFormal o d = none_known o d
into_followed SecondHelp WalkFormal o d = none_known o d
into_followed SecondHelp WalkLocal o d = none_known o d
into_followed SecondHelp StartFormal o d = none_known o d

pub out_followed : (s : CallSite) (o c : Variable) → out_of s o ≡ Some c
    → followed (callee_of s) c × followed (caller_of s) o
out_followed WalkAgain WalkFormal c d = (subst (followed Walk) (some_is WalkFormal c d) tt, tt)
out_followed FirstHelp StartFormal c d = (subst (followed Help) (some_is HelpFormal c d) tt, tt)
out_followed SecondHelp StartFormal c d = (subst (followed Help) (some_is HelpFormal c d) tt, tt)
out_followed WalkAgain WalkLocal c d = none_known c d
out_followed WalkAgain StartFormal c d = none_known c d
out_followed WalkAgain HelpFormal c d = none_known c d
out_followed FirstHelp WalkFormal c d = none_known c d
out_followed FirstHelp WalkLocal c d = none_known c d
out_followed FirstHelp HelpFormal c d = none_known c d
out_followed SecondHelp WalkFormal c d = none_known c d
out_followed SecondHelp WalkLocal c d = none_known c d
out_followed SecondHelp HelpFormal c d = none_known c d

in_caller : {f h : Function} {s : CallSite} → CallOf locks program f s h → (o : Variable) → followed (caller_of s) o
    → followed f o
in_caller w o a = let v = call_in_block locks graphs w in subst (λ g. followed g o) (sym v.2.caller) a

in_callee : {f h : Function} {s : CallSite} → CallOf locks program f s h → (o : Variable) → followed (callee_of s) o
    → followed h o
in_callee w o a = let v = call_in_block locks graphs w in subst (λ g. followed g o) (sym v.2.callee) a

pub closed : IsClosed locks program lock_origins followed
closed = record {
  source = λ o b w d a. ((fits w).source o b d).0 a;
  source_on = λ o b w d a. ((fits w).source o b d).1 a;
  into = λ {s = s} c o w d a. in_caller w o (into_followed s c o d).1;
  into_on = λ {s = s} c o w d a. in_callee w c (into_followed s c o d).0;
  out = λ {s = s} o c w d a. in_callee w c (out_followed s o c d).0;
  out_on = λ {s = s} o c w d a. in_caller w o (out_followed s o c d).1;
  binds = λ k g o x w d. (fits w).binds k o x d;
  fires = λ k g o r w i. (fits w).fires k o r i;
}
