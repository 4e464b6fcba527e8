-- What an edge gives, by the tuples at the end of its block.
use Rattle.std.proofs.Common.{◌≡◌, ◌∙◌, sym, ap, subst, ℕ, Bool, List, [], Some, Contains}
use Rattle.std.proofs.Math.Logic.{∥∥₁_map}
use Rattle.std.specs.Prelude.{flat_map, option_and_then}
use Rattle.std.specs.Option.{option_map_or}
use Rattle.block_summary.specs.Kept.{IsRight}
use Rattle.block_summary.specs.declared.summary.BlockSummary.{BlockSummary}
use Rattle.least_set.specs.Logs.{IsExactly}
use Rattle.row_flows.proofs.Lists.{of_flat, to_flat}
use Rattle.row_flows.specs.declared.rows.EventRow.{EventRow}
use Rattle.row_flows.specs.declared.tuples.NumberedTuple.{NumberedTuple}
use Rattle.numbered_engine.proofs.Stable.{tuples_known}
use Rattle.numbered_engine.specs.Following.{led, led_by, led_from}
use Rattle.numbered_engine.specs.Program.{block_at, block_of, ends_in, function_at}
use Rattle.numbered_engine.specs.Showing.{shown_at, shown_by, shown_in}
use Rattle.numbered_engine.specs.Tables.{own_in, rows_in}
use Rattle.numbered_engine.specs.Waiting.{ended, ended_in, waiting, waiting_at, waiting_by}
use Rattle.numbered_engine.specs.declared.edges.NumberedEdge.{NumberedEdge}
use Rattle.numbered_engine.specs.declared.program.Block.{Block}
use Rattle.numbered_engine.specs.declared.program.FunctionRows.{FunctionRows}
use Rattle.numbered_engine.specs.declared.program.ProgramRows.{ProgramRows}

-- lists that have the same have the same as what each gives
pub flat_exactly : {A B : Type 0} (f : A → List B) (xs ys : List A) → IsExactly xs (Contains ys) → IsExactly (flat_map f xs) (Contains (flat_map f ys))
flat_exactly f xs ys e = (
  λ b m. let s = of_flat f xs b m in to_flat f ys b (s.0, e.0 s.0 s.1, s.2),
  λ b m. let s = of_flat f ys b m in to_flat f xs b (s.0, e.1 s.0 s.1, s.2),
)

module _ (p : ProgramRows) (e : NumberedEdge) (f : FunctionRows) (b : Block) (function : function_at p e.context.function ≡ Some f) (block : block_of f e.block ≡ Some b) where
  block_there : block_at p e.context.function e.block ≡ Some b
  block_there = ap (option_and_then (λ (g : FunctionRows). block_of g e.block)) function ∙ block

  pub rows_there : rows_in p e.context.function e.block ≡ b.rows.rows.items
  rows_there = ap (λ o. option_map_or (λ (s : Block). s.rows.rows.items) o []) block_there

  pub own_there : own_in p e.context.function ≡ f.own.items
  own_there = ap (λ o. option_map_or (λ (g : FunctionRows). g.own.items) o []) function

  led_there : led p e ≡ flat_map (led_from e.context b.ending) (ends_in f b e.context.entry e.tuple)
  led_there = ap (λ o. option_map_or (led_by e) o []) function ∙ ap (λ o. option_map_or (λ (s : Block). flat_map (led_from e.context s.ending) (ends_in f s e.context.entry e.tuple)) o []) block

  waiting_there : waiting p e ≡ flat_map (waiting_at e b.ending) (ends_in f b e.context.entry e.tuple)
  waiting_there = ap (λ o. option_map_or (waiting_by e) o []) function ∙ ap (λ o. option_map_or (λ (s : Block). flat_map (waiting_at e s.ending) (ends_in f s e.context.entry e.tuple)) o []) block

  pub shown_there : shown_at p e ≡ shown_in e f b
  shown_there = ap (λ o. option_map_or (shown_by e) o []) function ∙ ap (λ o. option_map_or (shown_in e f) o []) block

  pub ended_there : ended p e ≡ ended_in e b.ending
  ended_there = ap (option_and_then (λ (s : Block). ended_in e s.ending)) block_there

  module _ (ts : List NumberedTuple) (exact : IsExactly ts (Contains (ends_in f b e.context.entry e.tuple))) where
    pub led_exactly : IsExactly (flat_map (led_from e.context b.ending) ts) (Contains (led p e))
    led_exactly = subst (λ l. IsExactly (flat_map (led_from e.context b.ending) ts) (Contains l)) (sym led_there) (flat_exactly (led_from e.context b.ending) ts (ends_in f b e.context.entry e.tuple) exact)

    pub waiting_exactly : IsExactly (flat_map (waiting_at e b.ending) ts) (Contains (waiting p e))
    waiting_exactly = subst (λ l. IsExactly (flat_map (waiting_at e b.ending) ts) (Contains l)) (sym waiting_there) (flat_exactly (waiting_at e b.ending) ts (ends_in f b e.context.entry e.tuple) exact)

  -- by a summary that is known to be right
  pub exactly_by : (s : BlockSummary) (ts : List NumberedTuple)
      → ((rows_of : ℕ → ℕ → List EventRow) (own_of : ℕ → List Bool) → rows_of e.context.function e.block ≡ b.rows.rows.items → own_of e.context.function ≡ f.own.items → IsRight rows_of own_of s
      → IsExactly ts (Contains (ends_in f b e.context.entry e.tuple)))
      → ∥ IsRight (rows_in p) (own_in p) s ∥₁ → IsExactly ts (Contains (ends_in f b e.context.entry e.tuple))
  exactly_by s ts by known = tuples_known ts (ends_in f b e.context.entry e.tuple) (∥∥₁_map known (by (rows_in p) (own_in p) rows_there own_there))
