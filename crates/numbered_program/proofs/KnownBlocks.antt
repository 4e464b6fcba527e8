-- The blocks of a function, by what is known of it.
use Rattle.std.proofs.Common.{◌≡◌, ℕ, ◌+◌, ◌<◌, ◌≤◌, List, ◌∷◌, ◌++◌, [], map, length, Option, None, Some, slice_get, inl, inr, sym, ap, subst, ◌∙◌, arith}
use Rattle.std.proofs.lemmas.Option.{same_Some, slice_get_past}
use Rattle.std.specs.Option.{option_map}
use Rattle.block_flows.specs.Events.{AreOfEvents}
use Rattle.block_flows.specs.TupleFlows.Moved.{AreObjects}
use Rattle.c_objects.specs.Objects.{Object}
use Rattle.numbered_program.specs.EventTables.ObjectIndex.{IsIndexOf}
use Rattle.numbered_program.specs.EventTables.Rows.{AreEventRows}
use Rattle.flow_graph.specs.CPaths.Building.{Graph}
use Rattle.flow_graph.specs.CPaths.Graphs as graphs
use Rattle.flow_graph.specs.Seen.{graph_in}
use Rattle.function_tables.proofs.EngineTables.Places.{of-events}
use Rattle.function_tables.specs.EngineTables.Known.{checker_in, objects_in, texts_in}
use Rattle.function_tables.specs.Tables.{IsBlockTable}
use Rattle.function_tables.specs.declared.engine_tables.tables.Tables.{Tables}
use Rattle.function_tables.specs.declared.table.BlockTable.{BlockTable}
use Rattle.metal_tree.specs.MetalMachines.Machine.{Machine}
use Rattle.numbered_engine.specs.declared.program.Block.{Block}
use Rattle.numbered_program.proofs.KnownSources.{first_within, here, own_function, own_list, own_listed}
use Rattle.function_tables.proofs.OneByOne.{no-partner, partner}
use Rattle.numbered_program.proofs.ListSteps.{item_of_more, not_missing, past_end}
use Rattle.numbered_program.proofs.SwappedNumbers.{swapped_past, swapped_within}
use Rattle.numbered_program.specs.Made.{AreBlocksOf, IsBlockAt, IsEndingIn}
use Rattle.numbered_program.specs.Numbered.{EndsIn, IsSourceOf}
use Rattle.numbered_program.specs.Views.{listed_at, swapped}
use Rattle.numbered_program.specs.declared.numbers.FunctionSource.{FunctionSource}
use Rattle.path_model.specs.CheckerModel.Choices.{State}
use Rattle.path_model.specs.CheckerModel.Happenings.{Function, Happening}
use Rattle.path_model.specs.CheckerPrograms.Texts.{function_of, happening}
use Rattle.row_flows.specs.declared.rows.EventRow.{EventRow}
use Rattle.state_tuples.specs.declared.applied_rules.rules.EventRules.{EventRules}

no_ending : (end : graphs.Ending) → None ≡ Some end → ⊥
no_ending end e = cc

module _ (states : List State) (s : FunctionSource) (f : Function) (i : IsSourceOf states s f) where
  abbrev t : Tables
  t = s.tables.now

  abbrev graph : Graph
  graph = graph_in s.table.now.graph.now

  abbrev keys : List Object
  keys = s.own.now.numbering.objects.now.keys

  abbrev named : List State
  named = s.own.now.numbering.states.now.states.keys

  abbrev m : Machine
  m = (checker_in t).machine

  -- the block that has a table
  tabled : (b : ℕ) (table : BlockTable) → slice_get s.table.now.blocks.items b ≡ Some table → (d : graphs.Block) × (slice_get graph.blocks b ≡ Some d) × IsBlockTable m t.depth (texts_in t) (here states s f i).defined d table
  tabled b table there = partner (IsBlockTable m t.depth (texts_in t) (here states s f i).defined) graph.blocks s.table.now.blocks.items b table (here states s f i).blocks there

  -- each block has one
  pub no_table : (b : ℕ) → b < length graph.blocks → slice_get s.table.now.blocks.items b ≡ None → ⊥
  no_table b within none = not_missing graph.blocks b within (no-partner (IsBlockTable m t.depth (texts_in t) (here states s f i).defined) graph.blocks s.table.now.blocks.items b (here states s f i).blocks none)

  -- and what has one ends somehow
  pub no_end : (b : ℕ) (table : BlockTable) → slice_get s.table.now.blocks.items b ≡ Some table → option_map (λ (d : graphs.Block). d.ending) (slice_get graph.blocks b) ≡ None → ⊥
  no_end b table there none = let x = tabled b table there in no_ending x.0.ending (sym none ∙ ap (option_map (λ (d : graphs.Block). d.ending)) x.1)

  -- the rows of these rules are those of the block's events
  pub block_is : (b : ℕ) (table : BlockTable) (rules : List EventRules) (r : Block) → slice_get s.table.now.blocks.items b ≡ Some table → rules ≡ table.rules.items
      → ((m : Machine) (depth : ℕ) (hs : List Happening) (g : Function) → AreOfEvents m depth g hs rules → IsIndexOf keys s.own.now.index → AreObjects depth keys → AreEventRows m depth g keys named hs r.rows.rows.items)
      → (end : graphs.Ending) → EndsIn s b end → IsEndingIn states s f end r.ending → IsBlockAt states s f b r
  block_is b table rules r there same rows end ends ending =
      let at = here states s f i in
      let x = tabled b table there in
      let g = function_of at.defined in
      let hs = map (happening (texts_in t) g) x.0.events in
      let own = (own_list states s f i).2 in
      let of_rules = subst (AreOfEvents m t.depth g hs) (sym same) (of-events m t.depth g hs table.rules.items x.2.rules) in
      let one = rows m t.depth hs g of_rules own.index at.plain in
      let two = subst (λ (os : List Object). AreEventRows m t.depth g os named hs r.rows.rows.items) (own_listed states s f i) one in
      let three = subst (λ (qs : List State). AreEventRows m t.depth g (listed_at (objects_in t) s.function) qs hs r.rows.rows.items) own.named two in
      let four = subst (λ (z : Function). AreEventRows m t.depth z (listed_at (objects_in t) s.function) states (map (happening (texts_in t) z) x.0.events) r.rows.rows.items) (sym (own_function states s f i)) three in
      let end_is : end ≡ x.0.ending = sym (same_Some x.0.ending end (sym (ap (option_map (λ (d : graphs.Block). d.ending)) x.1) ∙ ends)) in
      (x.0, x.1, record { rows = four; ending = subst (λ (z : graphs.Ending). IsEndingIn states s f z r.ending) end_is ending })

  -- one block more
  pub blocks_more : (n at : ℕ) (block : Block) (old new : List Block) → n < length graph.blocks → at ≡ swapped graph.entry n → (at < length graph.blocks → IsBlockAt states s f at block)
      → length old ≡ n → new ≡ old ++ block ∷ [] → ((b : ℕ) (r : Block) → slice_get old b ≡ Some r → IsBlockAt states s f (swapped graph.entry b) r)
      → (b : ℕ) (r : Block) → slice_get new b ≡ Some r → IsBlockAt states s f (swapped graph.entry b) r
  blocks_more n at block old new within is gives count more before b r e = elim (item_of_more old new block r b more e) [
    | inl h ↦ before b r h
    | inr h ↦
        let inside = swapped_within graph.entry n (length graph.blocks) (first_within states s f i) within in
        let made = gives (subst (λ (z : ℕ). z < length graph.blocks) (sym is) inside) in
        let number : at ≡ swapped graph.entry b = is ∙ ap (swapped graph.entry) (sym count ∙ sym h.0) in
        subst (λ (z : ℕ). IsBlockAt states s f z r) number (subst (IsBlockAt states s f at) h.1 made)
  ]

  -- all blocks
  pub blocks_all : (n : ℕ) (blocks : List Block) → length graph.blocks ≤ n → length blocks ≡ n → ((b : ℕ) (r : Block) → slice_get blocks b ≡ Some r → IsBlockAt states s f (swapped graph.entry b) r)
      → AreBlocksOf states s f blocks
  blocks_all n blocks all count made = record {
    made = made;
    missing = λ b none.
        let end : length blocks ≤ b = past_end blocks b none in
        let past : length graph.blocks ≤ b = omega (arith, all, count, end) in
        ap (slice_get graph.blocks) (swapped_past graph.entry b (length graph.blocks) (first_within states s f i) past) ∙ slice_get_past graph.blocks b past;
  }
