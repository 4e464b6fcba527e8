-- What rules bind in `start`: a block and a function more.
use Rattle.std.proofs.Common.{◌≡◌, ◌≤◌, ◌<◌, ◌+◌, ◌∙◌, arith, ℕ, suc, List, [], map, take, length, get_or, slice_get, Option, Some, None, inl, inr, refl, sym, ap, subst}
use Rattle.std.proofs.lemmas.List.{take_all}
use Rattle.std.proofs.lemmas.Option.{get_or_from_slice_get, none-some, same_Some, slice_get-map, slice_get_read, slice_get_within}
use Rattle.std.proofs.lemmas.Slice.Zip.{AllZip-long}
use Rattle.std.specs.Option.{option_map}
use Rattle.block_flows.specs.Events.{AreOfEvents}
use Rattle.flow_graph.specs.CPaths.BlockGraphs.{events_at}
use Rattle.flow_graph.specs.CPaths.Building.{Graph}
use Rattle.flow_graph.specs.CPaths.Graphs.{Block}
use Rattle.flow_graph.specs.Seen.{graph_in}
use Rattle.function_tables.proofs.EngineTables.Places.{rules-there, there-too}
use Rattle.function_tables.specs.Tables.{AreBlockTables, AreTables, IsBlockTable}
use Rattle.function_tables.specs.declared.table.BlockTable.{BlockTable}
use Rattle.function_tables.specs.declared.table.FunctionTable.{FunctionTable}
use Rattle.least_set.proofs.Growing.{adds_both, adds_next, adds_none, adds_same, before_or_at}
use Rattle.least_set.specs.Logs.{Adds, SomeGives}
use Rattle.path_model.specs.CheckerGraphs.Members.{Member}
use Rattle.path_model.specs.CheckerModel.Happenings.{Function, Happening}
use Rattle.path_model.specs.CheckerModel.Reports.{Checker}
use Rattle.path_model.specs.CheckerPrograms.Texts.{functions_in, function_of, happening}
use Rattle.suffix_summary.specs.InStart.{GivesBelow, GivesInBlock, GivesInFunction, GivesInStart}
use Rattle.type_rules.specs.Functions.{Defined}
use Rattle.typed_unit.specs.Texts.{Text}

module _ (c : Checker) (ts : List Text) (n : ℕ) where
  -- ---- in the blocks of a function, by their tables

  module _ (d : Defined) (bs : List Block) (tables : List BlockTable) (are : AreBlockTables c.machine c.depth ts d bs tables) where
    same-count : length tables ≡ length bs
    same-count = AllZip-long (IsBlockTable c.machine c.depth ts d) bs tables are

    abbrev Gives : Block → Member → Type 0
    Gives = GivesInBlock c ts d n

    pub block-next : (i : ℕ) (t : BlockTable) {old mid new : List Member} → i < length tables → t ≡ get_or tables i t → Adds (SomeGives Gives (take i bs)) old mid
        → ((f : Function) (hs : List Happening) → AreOfEvents c.machine c.depth f hs t.rules.items → Adds (GivesInStart c f hs n) mid new) → Adds (SomeGives Gives (take (i + 1) bs)) old new
    block-next i t {mid = mid} {new = new} within is was gives =
        let l : suc i ≤ length tables = omega (arith, within) in
        let at = slice_get_read tables (length tables) i t refl l is in
        let x = there-too tables bs i t same-count at in
        let rules = subst (λ (q : Option Block). AreOfEvents c.machine c.depth (function_of d) (map (happening ts (function_of d)) (events_at q)) t.rules.items) x.1 (rules-there c.machine c.depth ts d bs tables i t are at) in
        let one = gives (function_of d) (map (happening ts (function_of d)) x.0.events) rules in
        adds_next Gives bs i x.0 (slice_get_within bs i x.0 x.1) was (subst (λ b. Adds (Gives b) mid new) (sym (get_or_from_slice_get bs i x.0 x.0 x.1)) one)

    pub blocks-all : (i : ℕ) {old new : List Member} → length tables ≤ i → Adds (SomeGives Gives (take i bs)) old new → Adds (SomeGives Gives bs) old new
    blocks-all i {old = old} {new = new} all v =
        let l : length bs ≤ i = omega (arith, all, same-count) in
        subst (λ (xs : List Block). Adds (SomeGives Gives xs) old new) (take_all i bs l) v

  -- ---- in the function with this number, by its table

  module _ (tables : List FunctionTable) (are : AreTables c.machine c.depth ts tables) where
    abbrev graph : FunctionTable → Graph
    graph t = graph_in t.graph.now

    abbrev gs : List Graph
    gs = map (λ (t : FunctionTable). graph_in t.graph.now) tables

    pub function-there : (t : FunctionTable) {old new : List Member} → slice_get tables n ≡ Some t
        → ((d : Defined) (bs : List Block) → AreBlockTables c.machine c.depth ts d bs t.blocks.items → Adds (SomeGives (GivesInBlock c ts d n) bs) old new) → Adds (GivesInFunction c ts gs n) old new
    function-there t at v = adds_same (v d.0 (graph t).blocks (are.blocks n d.0 t d.1 at)) (λ y s. record { defined = d.0; is = d.1; graph = graph t; has = there; gives = s }) from
      where
        there : slice_get gs n ≡ Some (graph t)
        there = slice_get-map (λ (x : FunctionTable). graph_in x.graph.now) tables n ∙ ap (option_map (λ (x : FunctionTable). graph_in x.graph.now)) at

        d : (x : Defined) × (slice_get (functions_in ts) n ≡ Some x)
        d = there-too gs (functions_in ts) n (graph t) are.graphs.count there

        from : (y : Member) → GivesInFunction c ts gs n y → SomeGives (GivesInBlock c ts d.0 n) (graph t).blocks y
        from y w =
            subst (λ (z : Defined). SomeGives (GivesInBlock c ts z n) (graph t).blocks y) (same_Some w.defined d.0 (sym w.is ∙ d.1))
            (subst (λ (z : Graph). SomeGives (GivesInBlock c ts w.defined n) z.blocks y) (same_Some w.graph (graph t) (sym w.has ∙ there)) w.gives)

    pub function-missing : (old : List Member) → slice_get tables n ≡ None → Adds (GivesInFunction c ts gs n) old old
    function-missing old at =
        let missing : slice_get gs n ≡ None = slice_get-map (λ (x : FunctionTable). graph_in x.graph.now) tables n ∙ ap (option_map (λ (x : FunctionTable). graph_in x.graph.now)) at in
        adds_none old (λ y w. none-some w.graph (sym missing ∙ w.has))

-- ---- in the first functions

module _ (c : Checker) (ts : List Text) (gs : List Graph) where
  pub below-none : Adds (GivesBelow c ts gs 0) [] []
  below-none = adds_none [] (λ y w. let within = w.1 in absurd (omega (arith, within)))

  pub below-next : (n : ℕ) {old mid new : List Member} → Adds (GivesBelow c ts gs n) old mid → Adds (GivesInFunction c ts gs n) mid new → Adds (GivesBelow c ts gs (n + 1)) old new
  below-next n v w =
      adds_both {R = GivesBelow c ts gs (n + 1)} v w
      (λ y g. let h = g.1 in let before : g.0 < n + 1 = omega (arith, h) in elim (before_or_at n g.0 before) [
        | inl b ↦ inl (g.0, omega (arith, b), g.2)
        | inr e ↦ inr (subst (λ m. GivesInFunction c ts gs m y) e g.2)
      ])
      (λ y g. let h = g.1 in (g.0, omega (arith, h), g.2))
      (λ y g. (n, omega arith, g))
