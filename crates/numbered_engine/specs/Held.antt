-- WHAT IS HELD of contexts that an earlier run worked off, and the rules by which a run goes on that passes them by.
use Rattle.std.specs.Prelude.{◌≡◌, ℕ, Bool, true, cond, not, is_some, List, [], ◌++◌, Option, Some, Contains, None}
use Rattle.std.specs.List.{filter}
use Rattle.std.specs.Map.{lookup}
use Rattle.std.specs.Option.{option_map_or}
use Rattle.least_set.specs.Logs.{IsExactly}
use Rattle.numbered_engine.specs.Counted.{counted}
use Rattle.numbered_engine.specs.Following.{first, led}
use Rattle.numbered_engine.specs.Program.{call_at}
use Rattle.numbered_engine.specs.Rules.{Begins, IsDerived, IsEndOf, LeadsTo}
use Rattle.numbered_engine.specs.Waiting.{on, waiting}
use Rattle.numbered_engine.specs.Ways.Equality.{contexts_agree, edges_agree}
use Rattle.numbered_engine.specs.declared.edges.NumberedContext.{NumberedContext}
use Rattle.numbered_engine.specs.declared.edges.NumberedEdge.{NumberedEdge}
use Rattle.numbered_engine.specs.declared.edges.NumberedWaiter.{NumberedWaiter}
use Rattle.numbered_engine.specs.declared.held.HeldContext.{HeldContext}
use Rattle.numbered_engine.specs.declared.program.Call.{Call}
use Rattle.numbered_engine.specs.declared.program.ProgramRows.{ProgramRows}

-- contexts, each with what is known of it
abbrev pub Held : Type 0
Held = List (NumberedContext × HeldContext)

abbrev pub held_at : Held → NumberedContext → Option HeldContext
held_at h k = lookup (contexts_agree k) h

abbrev pub is_held : Held → NumberedContext → Bool
is_held h k = is_some (held_at h k)

-- the edges of contexts that aren't held
abbrev pub fresh : Held → List NumberedEdge → List NumberedEdge
fresh h = filter (λ e. not (is_held h e.context))

-- THE FIRST EDGE OF A FRAME
abbrev pub first_of : NumberedContext → NumberedEdge
first_of k = first k.function k.entry

abbrev pub is_first : NumberedEdge → Bool
is_first e = edges_agree e (first_of e.context)

-- WHAT IS HELD IS RIGHT where it is so of each frame that begins: its ends are the derived ones, and its calls begin what its edges do
abbrev pub IsCalledFrom : ProgramRows → NumberedContext → NumberedEdge → Type 0
IsCalledFrom p k e = (a : NumberedEdge) × (c : Call) × (a.context ≡ k) × IsDerived p a × (call_at p a.context.function a.block ≡ Some c) × LeadsTo p a e

pub record IsRightOf (p : ProgramRows) (k : NumberedContext) (c : HeldContext) : Type 0 where
  pub ends : IsExactly c.ends.items (λ e. IsDerived p e × IsEndOf p e k)
  pub calls : IsExactly c.calls.items (IsCalledFrom p k)

pub record AreRight (p : ProgramRows) (h : Held) : Type 0 where
  pub contexts : (k : NumberedContext) (c : HeldContext) → held_at h k ≡ Some c → IsDerived p (first_of k) → IsRightOf p k c
  -- where something is held, paths begin with the first edges of frames
  pub begun : (e : NumberedEdge) → Begins p e → is_held h e.context ≡ true → is_first e ≡ true

-- WHAT FOLLOWS from an edge alone: from the first edge of a held context what is held of it, from its other edges nothing
abbrev pub passed_by : NumberedEdge → HeldContext → List NumberedEdge
passed_by e c = cond (is_first e) (c.ends.items ++ c.calls.items) []

abbrev pub led_on : ProgramRows → Held → NumberedEdge → List NumberedEdge
led_on p h e = option_map_or (passed_by e) (held_at h e.context) (led p e)

abbrev pub GoesOn : ProgramRows → Held → NumberedEdge → NumberedEdge → Type 0
GoesOn p h a e = Contains (led_on p h a) e

-- nobody waits in a held context
abbrev pub WaitsOn : ProgramRows → Held → NumberedEdge → NumberedContext → NumberedWaiter → Type 0
WaitsOn p h a k w = (held_at h a.context ≡ None) × Contains (waiting p a) (on k w)

-- steps count the edges of contexts that aren't held
abbrev pub counted_on : Held → NumberedEdge → ℕ → ℕ
counted_on h e n = cond (is_held h e.context) n (counted n)
