-- What the steps of the engine promise holds of the paths and the path edges of the program.
use Rattle.std.proofs.Common.{◌≡◌, Bool, Option, Some, None, refl, sym, ap, subst}
use Rattle.path_examples.specs.declared.checker.Variable.{Variable}
use Rattle.path_examples.specs.declared.checker.LockState.{LockState}
use Rattle.path_examples.specs.declared.checker.Interrupts.{Interrupts}
use Rattle.path_examples.specs.declared.checker.Interrupts.TheVariants.{Enabled}
use Rattle.path_examples.specs.declared.program.Function.{Function}
use Rattle.path_examples.specs.declared.program.CallSite.{CallSite}
use Rattle.path_theory.specs.Callers.{Callers, Waiting}
use Rattle.path_theory.specs.OpenFrames.{OpenFrames, CalledFrame}
use Rattle.path_theory.specs.Facts.{HasObject}
use Rattle.path_theory.specs.Flows.{StartsUnknown, ReturnObject}
use Rattle.path_theory.specs.Tabulation.{AtRoot, OverCall, AroundCall}
use Rattle.path_theory.specs.FlowGraphs.{Head, PointCalls, MakesCall}
use Rattle.path_theory.specs.Merged.{IsUnknown}
use Rattle.path_theory.proofs.Splitting.{split}
use Rattle.path_theory.proofs.MergedComplete.{of_kind}
use Rattle.path_examples.specs.Checker.{locks, lock_origins, out_of}
use Rattle.path_examples.specs.Program.{IsRoot, caller_of, behind_of, graphs, program, followed}
use Rattle.path_examples.specs.Steps.{Spot, ReturnsTo, GoesBehind, HandsBack, EndsWith, BeginsOwnFrame}
use Rattle.path_examples.proofs.Laws.{exits, apart, kinds, root_of_own}
use Rattle.path_examples.proofs.Followed.{out_followed}

behind_call : {f h : Function} {s : CallSite} (p q : Spot) → PointCalls locks graphs f p s h q
    → q ≡ Head (behind_of s)
behind_call _ _ (MakesCall c) = ap Head c.behind

waits : {f h : Function} {k l : Bool} {s : CallSite} {q : Spot} {b : Callers locks program}
    → OpenFrames locks program h l (Waiting f k s q b) → q ≡ Head (behind_of s)
waits (CalledFrame O R s h t) = behind_call _ _ t

-- a frame that waits at a site goes on behind it
pub returns_to : (s : CallSite) → ReturnsTo s (behind_of s)
returns_to s h f k l r q b P = waits (split locks program P).opened

-- a saved object goes around a call whose callee ends
pub goes_around : (s : CallSite) (g i : Interrupts) (o : Variable) (x : Option LockState) → out_of s o ≡ None
    → EndsWith s g (Some i) → GoesBehind s g (HasObject o x) i (HasObject o x)
goes_around s g i o x saved ends f k g₀ t₀ p q edge call = AroundCall edge s call ends.1 ends.2 saved

called_by : {f h : Function} {s : CallSite} (p q : Spot) → PointCalls locks graphs f p s h q → f ≡ caller_of s
called_by _ _ (MakesCall c) = c.caller

-- what a call hands back goes over it
pub goes_over : (s : CallSite) (g : Interrupts) (o c : Variable) (x : Option LockState) → out_of s o ≡ Some c
    → HandsBack s g (HasObject c x) g (HasObject o x)
goes_over s g o c x d f k g₀ h t₀ t u p q r edge call into summary ends =
    OverCall edge s call into summary ends (ReturnObject o c x (subst (λ n. followed n o) (sym (called_by p q call)) (out_followed s o c d).1) d)

pub goes_over_at : (s at : CallSite) (g : Interrupts) (o c formal : Variable) (x : Option LockState) → s ≡ at
    → c ≡ formal → out_of at o ≡ Some formal → HandsBack s g (HasObject c x) g (HasObject o x)
goes_over_at s at g o c formal x here this d = goes_over s g o c x (subst (λ y. out_of y o ≡ Some c) (sym here) (subst (λ y. out_of at o ≡ Some y) (sym this) d))

-- a root's own frame begins with each of its objects unknown
pub begins_unknown : (f : Function) (o : Variable) → followed f o → IsRoot f → BeginsOwnFrame f Enabled o None
begins_unknown f o own root = AtRoot root (StartsUnknown o own)

-- and with nothing else
pub own_begins : (f : Function) (g : Interrupts) (o : Variable) (x : Option LockState) → BeginsOwnFrame f g o x
    → IsRoot f × (g ≡ Enabled) × IsUnknown locks (HasObject o x)
own_begins f g o x edge = root_of_own f g (HasObject o x) (of_kind locks lock_origins followed graphs kinds exits apart edge refl)
