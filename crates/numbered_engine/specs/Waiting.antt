-- WHO WAITS AT A CALL, where a frame ends, and what a waiter and an end give together.
use Rattle.std.specs.Prelude.{nat_eq, cond, List, [], ◌∷◌, ◌++◌, flat_map, map, Option, None, Some, option_and_then}
use Rattle.std.specs.Option.{option_map_or}
use Rattle.least_set.specs.declared.two_premises.Wait.{Wait}
use Rattle.row_flows.specs.Choices.{bare}
use Rattle.row_flows.specs.Numbers.{is_own}
use Rattle.row_flows.specs.declared.tuples.NumberedTuple.{NumberedTuple}
use Rattle.numbered_engine.specs.Following.{at, context, passed}
use Rattle.numbered_engine.specs.Program.{block_at, block_of, call_at, ends_in, function_at}
use Rattle.numbered_engine.specs.declared.edges.NumberedContext.{NumberedContext}
use Rattle.numbered_engine.specs.declared.edges.NumberedEdge.{NumberedEdge}
use Rattle.numbered_engine.specs.declared.edges.NumberedWaiter.{NumberedWaiter}
use Rattle.numbered_engine.specs.declared.program.Block.{Block}
use Rattle.numbered_engine.specs.declared.program.Call.{Call}
use Rattle.numbered_engine.specs.declared.program.Ending.{Ending}
use Rattle.numbered_engine.specs.declared.program.Ending.TheVariants as ending
use Rattle.numbered_engine.specs.declared.program.FunctionRows.{FunctionRows}
use Rattle.numbered_engine.specs.declared.program.ProgramRows.{ProgramRows}

abbrev pub Waits : Type 0
Waits = Wait NumberedContext NumberedWaiter

-- this one, at this context
abbrev pub on : NumberedContext → NumberedWaiter → Waits
on k w = record { on = k; waiter = w }

abbrev pub waiter : NumberedEdge → NumberedTuple → NumberedWaiter
waiter e saved = record { context = e.context; block = e.block; saved = saved }

-- for what the callee hands back that is entered so
abbrev pub waits_for : NumberedEdge → Call → NumberedTuple → Waits
waits_for e c t = on (context c.callee t) (waiter e (bare 0))

-- with an object that is saved, for the callee that is entered without one
abbrev pub waits_with : NumberedEdge → Call → NumberedTuple → List Waits
waits_with e c t = cond (is_own c.saved.items t.object) (on (context c.callee (bare t.global)) (waiter e t) ∷ []) []

abbrev pub waits_from : NumberedEdge → Call → NumberedTuple → List Waits
waits_from e c t = map (waits_for e c) (passed c.entered.items t) ++ waits_with e c t

abbrev pub waiting_at : NumberedEdge → Ending → NumberedTuple → List Waits
waiting_at e (ending.Next bs) t = []
waiting_at e (ending.Calls c) t = waits_from e c t
waiting_at e ending.Exit t = []

abbrev pub waiting_in : NumberedEdge → FunctionRows → Block → List Waits
waiting_in e f b = flat_map (waiting_at e b.ending) (ends_in f b e.context.entry e.tuple)

abbrev pub waiting_by : NumberedEdge → FunctionRows → List Waits
waiting_by e f = option_map_or (waiting_in e f) (block_of f e.block) []

-- WHO WAITS, and at which context
abbrev pub waiting : ProgramRows → NumberedEdge → List Waits
waiting p e = option_map_or (waiting_by e) (function_at p e.context.function) []

-- THE CONTEXT OF WHICH AN EDGE IS AN END: its own, where its block ends the function
abbrev pub ended_in : NumberedEdge → Ending → Option NumberedContext
ended_in e (ending.Next bs) = None
ended_in e (ending.Calls c) = None
ended_in e ending.Exit = Some e.context

abbrev pub ended : ProgramRows → NumberedEdge → Option NumberedContext
ended p e = option_and_then (λ (b : Block). ended_in e b.ending) (block_at p e.context.function e.block)

-- the saved object's state, in the global state of the callee's end
abbrev pub restored : NumberedTuple → NumberedTuple → NumberedTuple
restored saved end = record { global = end.global; state = saved.state; object = saved.object }

-- WHAT A WAITER AND AN END GIVE: behind the call, what is handed back, or at an end without object what was saved
abbrev pub tuples_behind : Call → NumberedTuple → NumberedTuple → List NumberedTuple
tuples_behind c saved end = cond (nat_eq saved.object 0) (passed c.handed.items end) (cond (nat_eq end.object 0) (restored saved end ∷ []) [])

abbrev pub woken_at : NumberedWaiter → NumberedTuple → Call → List NumberedEdge
woken_at w end c = map (λ t. at w.context t c.behind) (tuples_behind c w.saved end)

abbrev pub woken : ProgramRows → NumberedWaiter → NumberedEdge → List NumberedEdge
woken p w e = option_map_or (woken_at w e.tuple) (call_at p w.context.function w.block) []
