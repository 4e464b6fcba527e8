-- What the steps of an engine promise at this instance, said of its paths and path edges.
use Rattle.std.specs.Prelude.{◌≡◌, Bool, true, false, Option, Some, None}
use Rattle.path_examples.specs.declared.checker.Variable.{Variable}
use Rattle.path_examples.specs.declared.checker.Event.{Event}
use Rattle.path_examples.specs.declared.checker.LockState.{LockState}
use Rattle.path_examples.specs.declared.checker.Interrupts.{Interrupts}
use Rattle.path_examples.specs.declared.program.Function.{Function}
use Rattle.path_examples.specs.declared.program.CallSite.{CallSite}
use Rattle.path_examples.specs.declared.program.Block.{Block}
use Rattle.path_examples.specs.declared.program.Block.TheVariants.{Entry}
use Rattle.path_theory.specs.Callers.{Callers, Waiting}
use Rattle.path_theory.specs.Paths.{Path}
use Rattle.path_theory.specs.Facts.{Fact, NoObject, HasObject}
use Rattle.path_theory.specs.Flows.{CallFlow}
use Rattle.path_theory.specs.Tabulation.{PathEdge}
use Rattle.path_theory.specs.FlowGraphs.{Point, Head}
use Rattle.path_examples.specs.Checker.{locks, lock_origins}
use Rattle.path_examples.specs.Program.{callee_of, program, followed}

abbrev pub Spot : Type 0
Spot = Point Block Event

abbrev pub Edge : Function → Bool → Interrupts → Fact locks → Spot → Interrupts → Fact locks → Type 0
Edge = PathEdge locks program lock_origins followed

-- on each path a frame that waits at this call site goes on at the head of this block
abbrev pub ReturnsTo : CallSite → Block → Type 0
ReturnsTo s d = (h f : Function) (k l : Bool) (r q : Spot) (b : Callers locks program)
    → Path locks program h l r (Waiting f k s q b) → q ≡ Head d

-- a tuple at a call of the site stands, as that tuple, behind it
abbrev pub GoesBehind : CallSite → Interrupts → Fact locks → Interrupts → Fact locks → Type 0
GoesBehind s g t i u = (f : Function) (k : Bool) (g₀ : Interrupts) (t₀ : Fact locks) (p q : Spot)
    → Edge f k g₀ t₀ p g t → program.Calls f p s (callee_of s) q
    → Edge f k g₀ t₀ q i u

-- a tuple at the end of a callee, whatever went in, stands as that tuple behind the call
abbrev pub HandsBack : CallSite → Interrupts → Fact locks → Interrupts → Fact locks → Type 0
HandsBack s g v i w = (f : Function) (k : Bool) (g₀ h : Interrupts) (t₀ t u : Fact locks) (p q r : Spot)
    → Edge f k g₀ t₀ p h t → program.Calls f p s (callee_of s) q
    → CallFlow locks lock_origins followed s (callee_of s) t u
    → Edge (callee_of s) false h u r g v → program.Ends (callee_of s) r
    → Edge f k g₀ t₀ q i w

-- the callee, entered with that global state, ends with this one, if one is given
abbrev pub EndsWith : CallSite → Interrupts → Option Interrupts → Type 0
EndsWith s g None = Unit {0}
EndsWith s g (Some i) = (r : Spot) × Edge (callee_of s) false g NoObject r i NoObject × program.Ends (callee_of s) r

-- a root's own frame begins with this tuple
abbrev pub BeginsOwnFrame : Function → Interrupts → Variable → Option LockState → Type 0
BeginsOwnFrame f g o x = Edge f true g (HasObject o x) (Head Entry) g (HasObject o x)
