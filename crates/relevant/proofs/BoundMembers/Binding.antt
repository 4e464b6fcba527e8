-- What the rules bind that begin in some states, from one event up to all functions of a program: each loop adds what it goes through.
use Rattle.std.proofs.Common.{arith, ◌≡◌, ◌↔◌, inl, inr, ℕ, ◌+◌, ◌<◌, ◌≤◌, List, [], ◌∷◌, ◌++◌, Contains, map, length, take, get_or, None, Some, refl, sym, ap, ◌∙◌, subst}
use Rattle.std.specs.Prelude.{slice_get}
use Rattle.std.specs.Option.{option_map}
use Rattle.std.proofs.lemmas.List.{take_all, length-map}
use Rattle.std.proofs.lemmas.Option.{same_Some, none-some, slice_get-map, slice_get_within, slice_get_read, get_or_from_slice_get}
use Rattle.std.proofs.lemmas.Slice.Zip.{AllZip-long}
use Rattle.state_tuples.specs.declared.applied_rules.rules.EventRules.{EventRules}
use Rattle.state_tuples.specs.AppliedRules.Events.{AreOfEvent}
use Rattle.relevant.specs.BoundMembers.Bound.{BoundAt, BoundIn, BoundOf, BoundWith, BoundBefore}
use Rattle.function_tables.proofs.OneByOne.{no-partner, partner, there}
use Rattle.c_objects.specs.Objects.{Object}
use Rattle.flow_graph.specs.CPaths.BlockGraphs.{events_at}
use Rattle.flow_graph.specs.CPaths.Building.{Graph}
use Rattle.flow_graph.specs.CPaths.Events.{Event}
use Rattle.flow_graph.specs.CPaths.Graphs.{Block}
use Rattle.flow_graph.specs.CPaths.Membership.{Among}
use Rattle.type_rules.specs.Functions.{Defined}
use Rattle.state_tuples.specs.AppliedRules.Bound.{BindsFrom}
use Rattle.state_tuples.specs.declared.applied_rules.sources.RuleSources.{RuleSources}
use Rattle.path_model.specs.CheckerModel.Happenings.{Function, Happening}
use Rattle.path_model.specs.CheckerModel.Reports.{Checker}
use Rattle.path_model.specs.CheckerPrograms.Texts.{functions_in, function_of, happening}
use Rattle.typed_unit.specs.Texts.{Text}
use Rattle.flow_graph.specs.Seen.{graph_in}
use Rattle.function_tables.specs.declared.table.BlockTable.{BlockTable}
use Rattle.function_tables.specs.declared.table.FunctionTable.{FunctionTable}
use Rattle.function_tables.specs.Rules.{AreOfEvents}
use Rattle.function_tables.specs.Tables.{IsBlockTable, AreBlockTables, AreTables}
use Rattle.least_set.specs.Logs.{IsExactly, Adds, SomeGives}
use Rattle.least_set.proofs.Growing.{nothing, either, kept, adds_none, adds_same, adds_next, before_or_at}
use Rattle.relevant.proofs.LinkedObjects.Listed.{among-contains, contains-among}
use Rattle.metal_tree.specs.MetalMachines.Machine.{Machine}
use Rattle.flow_graph.specs.ReachedBlocks.Reached.{Happens, AreReached}
use Rattle.relevant.proofs.RelevantObjects.Adding.{members-added}
use Rattle.relevant.specs.RelevantSteps.Steps.{IsBound, Base}
use Rattle.path_model.specs.CheckerGraphs.Members.{Member, members}

-- ---- one after the other

-- all of the list gave what they give
pub gave-all : {T : Type 0} (G : T → Member → Type 0) (xs : List T) (i : ℕ) (old new : List Member) → length xs ≤ i → Adds (SomeGives G (take i xs)) old new → Adds (SomeGives G xs) old new
gave-all G xs i old new l h = subst (λ ys. Adds (SomeGives G ys) old new) (take_all i xs l) h

module _ (sources : RuleSources) (m : Machine) (depth n : ℕ) where
  -- ---- events

  pub at-added : (f : Function) (h : Happening) (os : List Object) (old new : List Member) → ((o : Object) → Contains os o ↔ BindsFrom sources m depth f h o) → new ≡ old ++ members n os → Adds (BoundAt sources m depth n f h) old new
  at-added f h os old new is e = members-added (BindsFrom sources m depth f h) n os old new (λ o k. (is o).0 k, λ o k. (is o).1 k) e

  module _ (f : Function) (hs : List Happening) (rules : List EventRules) (are : AreOfEvents m depth f hs rules) where
    pub events-next : (i : ℕ) (r : EventRules) (old mid new : List Member) → i < length rules → r ≡ get_or rules i r → Adds (SomeGives (BoundAt sources m depth n f) (take i hs)) old mid
        → ((h : Happening) → AreOfEvent m depth h f r → Adds (BoundAt sources m depth n f h) mid new) → Adds (SomeGives (BoundAt sources m depth n f) (take (i + 1) hs)) old new
    events-next i r old mid new l e v w =
        let p = partner (λ h x. AreOfEvent m depth h f x) hs rules i r are (slice_get_read rules (length rules) i r refl l e) in
        adds_next (BoundAt sources m depth n f) hs i p.0 (slice_get_within hs i p.0 p.1) v (subst (λ h. Adds (BoundAt sources m depth n f h) mid new) (sym (get_or_from_slice_get hs i p.0 p.0 p.1)) (w p.0 p.2))

    pub events-all : (i : ℕ) (old new : List Member) → length rules ≤ i → Adds (SomeGives (BoundAt sources m depth n f) (take i hs)) old new → Adds (SomeGives (BoundAt sources m depth n f) hs) old new
    events-all i old new l v = gave-all (BoundAt sources m depth n f) hs i old new (subst (λ k. k ≤ i) (AllZip-long (λ h x. AreOfEvent m depth h f x) hs rules are) l) v

  -- ---- blocks

  module _ (ts : List Text) (d : Defined) where
    -- the events of a block, as happenings
    given-by : (es : List Event) (y : Member) → SomeGives (BoundAt sources m depth n (function_of d)) (map (happening ts (function_of d)) es) y
        → (e : Event) × Among e es × BoundAt sources m depth n (function_of d) (happening ts (function_of d) e) y
    given-by es y s = by es (contains-among (map (happening ts (function_of d)) es) s.0 s.1)
      where
        by : (es : List Event) → Among s.0 (map (happening ts (function_of d)) es) → (e : Event) × Among e es × BoundAt sources m depth n (function_of d) (happening ts (function_of d) e) y
        by [] h = absurd h
        by (e ∷ es) (inl k) = (e, inl refl, subst (λ h. BoundAt sources m depth n (function_of d) h y) k s.2)
        by (e ∷ es) (inr h) = let q = by es h in (q.0, inr q.1, q.2)

    gives : (es : List Event) (y : Member) → (e : Event) × Among e es × BoundAt sources m depth n (function_of d) (happening ts (function_of d) e) y
        → SomeGives (BoundAt sources m depth n (function_of d)) (map (happening ts (function_of d)) es) y
    gives es y s = (happening ts (function_of d) s.0, among-contains (map (happening ts (function_of d)) es) (happening ts (function_of d) s.0) (by es s.1), s.2)
      where
        by : (es : List Event) → Among s.0 es → Among (happening ts (function_of d) s.0) (map (happening ts (function_of d)) es)
        by [] h = absurd h
        by (e ∷ es) (inl k) = inl (ap (happening ts (function_of d)) k)
        by (e ∷ es) (inr h) = inr (by es h)

    module _ (bs : List Block) (tables : List BlockTable) (are : AreBlockTables m depth ts d bs tables) where
      pub in-block : (b : ℕ) (t : BlockTable) (old new : List Member) → slice_get tables b ≡ Some t
          → ((hs : List Happening) → AreOfEvents m depth (function_of d) hs t.rules.items → Adds (SomeGives (BoundAt sources m depth n (function_of d)) hs) old new)
          → Adds (BoundIn sources m depth n ts d bs b) old new
      in-block b t old new at v =
          let p = partner (IsBlockTable m depth ts d) bs tables b t are at in
          let es = (p.0).events in
          let same : es ≡ events_at (slice_get bs b) = ap events_at (sym p.1) in
          adds_same (v (map (happening ts (function_of d)) es) (p.2).rules)
          (λ y h. subst (λ l. (e : Event) × Among e l × BoundAt sources m depth n (function_of d) (happening ts (function_of d) e) y) same (given-by es y h))
          (λ y h. gives es y (subst (λ l. (e : Event) × Among e l × BoundAt sources m depth n (function_of d) (happening ts (function_of d) e) y) (sym same) h))

      pub no-block : (b : ℕ) (old : List Member) → slice_get tables b ≡ None → Adds (BoundIn sources m depth n ts d bs b) old old
      no-block b old at =
          let empty : events_at (slice_get bs b) ≡ [] = ap events_at (no-partner (IsBlockTable m depth ts d) bs tables b are at) in
          adds_none old (λ y h. subst (Among h.0) empty h.1)

    -- ---- functions

    -- the blocks that control reaches are all in which something happens
    pub in-blocks : (g : Graph) (blocks : List ℕ) (old new : List Member) → AreReached g blocks → Adds (SomeGives (BoundIn sources m depth n ts d g.blocks) blocks) old new → Adds (BoundOf sources m depth n ts d g) old new
    in-blocks g blocks old new are v = adds_same v
        (λ y s. ((s.2).0, record { block = s.0; reached = are.exact.0 s.0 s.1; among = (s.2).1 }, (s.2).2))
        (λ y h. ((h.1).block, are.exact.1 (h.1).block (h.1).reached, (h.0, (h.1).among, h.2)))

-- ---- programs

abbrev graphs_of : List FunctionTable → List Graph
graphs_of tables = map (λ (t : FunctionTable). graph_in t.graph.now) tables

module _ (sources : RuleSources) (c : Checker) (ts : List Text) (tables : List FunctionTable) (are : AreTables c.machine c.depth ts tables) where
  abbrev gs : List Graph
  gs = graphs_of tables

  -- a table is that of a function
  named : (n : ℕ) (t : FunctionTable) → slice_get tables n ≡ Some t → (d : Defined) × (slice_get (functions_in ts) n ≡ Some d)
  named n t at =
      let count : length tables ≡ length (functions_in ts) = sym (length-map tables (λ (x : FunctionTable). graph_in x.graph.now)) ∙ are.graphs.count in
      there (functions_in ts) n (subst (λ k. n < k) count (slice_get_within tables n t at))

  graph-at : (n : ℕ) (t : FunctionTable) → slice_get tables n ≡ Some t → slice_get gs n ≡ Some (graph_in t.graph.now)
  graph-at n t at = slice_get-map (λ (x : FunctionTable). graph_in x.graph.now) tables n ∙ ap (option_map (λ (x : FunctionTable). graph_in x.graph.now)) at

  pub with-number : (n : ℕ) (t : FunctionTable) (old new : List Member) → slice_get tables n ≡ Some t
      → ((d : Defined) → AreBlockTables c.machine c.depth ts d (graph_in t.graph.now).blocks t.blocks.items → Adds (BoundOf sources c.machine c.depth n ts d (graph_in t.graph.now)) old new)
      → Adds (BoundWith sources c ts gs n) old new
  with-number n t old new at v = adds_same (v d.0 (are.blocks n d.0 t d.1 at)) to from
    where
      d : (x : Defined) × (slice_get (functions_in ts) n ≡ Some x)
      d = named n t at

      to : (y : Member) → BoundOf sources c.machine c.depth n ts d.0 (graph_in t.graph.now) y → BoundWith sources c ts gs n y
      to y h = (
        (h.2).0,
        subst (λ k. IsBound c ts gs sources k y.1) (h.2).0 (record {
          function = function_of d.0;
          graph = graph_in t.graph.now;
          is = record { named = ap (option_map function_of) d.1; graph = graph-at n t at };
          event = h.0;
          happens = h.1;
          binds = (h.2).1;
        }),
      )

      bound-there : (y : Member) → n ≡ y.0 → IsBound c ts gs sources n y.1 → BoundOf sources c.machine c.depth n ts d.0 (graph_in t.graph.now) y
      bound-there y e b =
          let f : b.function ≡ function_of d.0 = same_Some b.function (function_of d.0) (sym b.is.named ∙ ap (option_map function_of) d.1) in
          let g : b.graph ≡ graph_in t.graph.now = same_Some b.graph (graph_in t.graph.now) (sym b.is.graph ∙ graph-at n t at) in
          (b.event, subst (λ (x : Graph). Happens x b.event) g b.happens, (e, subst (λ (x : Function). BindsFrom sources c.machine c.depth x (happening ts x b.event) y.1) f b.binds))

      from : (y : Member) → BoundWith sources c ts gs n y → BoundOf sources c.machine c.depth n ts d.0 (graph_in t.graph.now) y
      from y h = bound-there y h.0 (subst (λ k. IsBound c ts gs sources k y.1) (sym h.0) h.1)

  pub no-number : (n : ℕ) (old : List Member) → slice_get tables n ≡ None → Adds (BoundWith sources c ts gs n) old old
  no-number n old at = adds_none old (λ y h. away y h.0 h.1)
    where
      away : (y : Member) → n ≡ y.0 → IsBound c ts gs sources y.0 y.1 → ⊥
      away y e b =
          let none : slice_get gs n ≡ None = slice_get-map (λ (x : FunctionTable). graph_in x.graph.now) tables n ∙ ap (option_map (λ (x : FunctionTable). graph_in x.graph.now)) at in
          none-some b.graph (sym none ∙ ap (slice_get gs) e ∙ b.is.graph)

  -- one function more, and all
  pub before-next : (n : ℕ) (old new : List Member) → IsExactly old (BoundBefore sources c ts gs n) → Adds (BoundWith sources c ts gs n) old new → IsExactly new (BoundBefore sources c ts gs (n + 1))
  before-next n old new is v = (
    λ y h. elim (either v y h) [
      | inl o ↦ let b = is.0 y o in let l = b.0 in (omega (arith, l), b.1)
      | inr w ↦ let e = w.0 in (omega (arith, e), w.1)
    ],
    λ y h. elim (before_or_at n y.0 h.0) [
      | inl l ↦ kept v y (is.1 y (l, h.1))
      | inr e ↦ v.added y (sym e, h.1)
    ],
  )

  pub before-all : (n : ℕ) (found : List Member) → length (functions_in ts) ≤ n → IsExactly found (BoundBefore sources c ts gs n) → IsExactly found (Base c ts gs sources)
  before-all n found l is = (
    λ y h. (is.0 y h).1,
    λ y b. is.1 y (below y b, b),
  )
    where
      below : (y : Member) → IsBound c ts gs sources y.0 y.1 → y.0 < n
      below y b = let k = slice_get_within gs y.0 b.graph b.is.graph in let e = are.graphs.count in omega (arith, l, k, e)

pub before-none : (sources : RuleSources) (c : Checker) (ts : List Text) (gs : List Graph) → IsExactly [] (BoundBefore sources c ts gs 0)
before-none sources c ts gs = (λ y h. absurd (nothing y h), λ y h. let l = h.0 in absurd (omega (arith, l)))
