-- What stands at the end of an edge's block by its tables, and where it leads.
use Rattle.std.proofs.Common.{◌≡◌, ◌∙◌, refl, ap, Some, Contains}
use Rattle.std.specs.Prelude.{option_and_then}
use Rattle.std.proofs.lemmas.Option.{none-some, same_Some}
use Rattle.numbered_engine.specs.Following.{led_by, led_from, led_in}
use Rattle.numbered_engine.specs.Program.{block_at, block_of, call_at, call_in, ends_in, function_at}
use Rattle.numbered_engine.specs.Rules.{LeadsTo, WaitsAt}
use Rattle.numbered_engine.specs.Waiting.{ended_in, on, waiting_at, waiting_by, waiting_in}
use Rattle.numbered_engine.specs.declared.edges.NumberedContext.{NumberedContext}
use Rattle.numbered_engine.specs.declared.edges.NumberedEdge.{NumberedEdge}
use Rattle.numbered_engine.specs.declared.edges.NumberedWaiter.{NumberedWaiter}
use Rattle.numbered_engine.specs.declared.program.Block.{Block}
use Rattle.numbered_engine.specs.declared.program.Call.{Call}
use Rattle.numbered_engine.specs.declared.program.Ending.{Ending}
use Rattle.numbered_engine.specs.declared.program.Ending.TheVariants as ending
use Rattle.numbered_engine.specs.declared.program.FunctionRows.{FunctionRows}
use Rattle.numbered_engine.specs.declared.program.ProgramRows.{ProgramRows}
use Rattle.row_flows.proofs.Lists.{of_flat, of_present, to_flat, to_present}
use Rattle.row_flows.specs.declared.tuples.NumberedTuple.{NumberedTuple}

-- an edge is an end of its own context, at a block that ends the function
pub exits : (b : NumberedEdge) (e : Ending) (k : NumberedContext) → ended_in b e ≡ Some k → (e ≡ ending.Exit) × (b.context ≡ k)
exits b (ending.Next bs) k h = absurd (none-some k h)
exits b (ending.Calls c) k h = absurd (none-some k h)
exits b ending.Exit k h = (refl, same_Some b.context k h)

module _ (p : ProgramRows) (a : NumberedEdge) where
  -- the block of an edge, by its tables
  pub record IsBlock (r : FunctionRows) (b : Block) : Type 0 where
    pub function : function_at p a.context.function ≡ Some r
    pub block : block_of r a.block ≡ Some b

  -- a tuple at the end of a block that is there leads to the edge
  pub record LeadsFrom (c : NumberedEdge) : Type 0 where
    pub rows : FunctionRows
    pub block : Block
    pub there : IsBlock rows block
    pub end : NumberedTuple
    pub ends : Contains (ends_in rows block a.context.entry a.tuple) end
    pub leads : Contains (led_from a.context block.ending end) c

  pub of_led : (c : NumberedEdge) → LeadsTo p a c → LeadsFrom c
  of_led c h =
      let f = of_present (led_by a) (function_at p a.context.function) c h in
      let b = of_present (led_in a f.0) (block_of f.0 a.block) c f.2 in
      let t = of_flat (led_from a.context b.0.ending) (ends_in f.0 b.0 a.context.entry a.tuple) c b.2 in
      record { rows = f.0; block = b.0; there = record { function = f.1; block = b.1 }; end = t.0; ends = t.1; leads = t.2 }

  -- a frame waits so with a tuple at the end of a block that is there
  pub record WaitsFrom (k : NumberedContext) (w : NumberedWaiter) : Type 0 where
    pub rows : FunctionRows
    pub block : Block
    pub there : IsBlock rows block
    pub end : NumberedTuple
    pub ends : Contains (ends_in rows block a.context.entry a.tuple) end
    pub waits : Contains (waiting_at a block.ending end) (on k w)

  pub of_waiting : (k : NumberedContext) (w : NumberedWaiter) → WaitsAt p a k w → WaitsFrom k w
  of_waiting k w h =
      let f = of_present (waiting_by a) (function_at p a.context.function) (on k w) h in
      let b = of_present (waiting_in a f.0) (block_of f.0 a.block) (on k w) f.2 in
      let t = of_flat (waiting_at a b.0.ending) (ends_in f.0 b.0 a.context.entry a.tuple) (on k w) b.2 in
      record { rows = f.0; block = b.0; there = record { function = f.1; block = b.1 }; end = t.0; ends = t.1; waits = t.2 }

  module _ (r : FunctionRows) (b : Block) (there : IsBlock r b) where
    block_there : block_at p a.context.function a.block ≡ Some b
    block_there = ap (option_and_then (λ (g : FunctionRows). block_of g a.block)) there.function ∙ there.block

    pub call_there : (c : Call) → b.ending ≡ ending.Calls c → call_at p a.context.function a.block ≡ Some c
    call_there c is = ap (option_and_then (λ (s : Block). call_in s.ending)) block_there ∙ ap call_in is

    module _ (t : NumberedTuple) (ends : Contains (ends_in r b a.context.entry a.tuple) t) where
      pub to_led : (c : NumberedEdge) → Contains (led_from a.context b.ending t) c → LeadsTo p a c
      to_led c h = to_present (led_by a) (function_at p a.context.function) r c there.function
          (to_present (led_in a r) (block_of r a.block) b c there.block (to_flat (led_from a.context b.ending) (ends_in r b a.context.entry a.tuple) c (t, ends, h)))

      pub to_waiting : (k : NumberedContext) (w : NumberedWaiter) → Contains (waiting_at a b.ending t) (on k w) → WaitsAt p a k w
      to_waiting k w h = to_present (waiting_by a) (function_at p a.context.function) r (on k w) there.function
          (to_present (waiting_in a r) (block_of r a.block) b (on k w) there.block (to_flat (waiting_at a b.ending) (ends_in r b a.context.entry a.tuple) (on k w) (t, ends, h)))
