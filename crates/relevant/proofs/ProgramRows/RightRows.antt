-- Rows that are made of right tables are the rows of the program.
use Rattle.std.proofs.Common.{◌≡◌, inl, inr, ℕ, ◌<◌, List, map, length, Contains, All, Some, slice_get, Bor, refl, sym, ap, ◌∙◌, subst}
use Rattle.std.specs.Option.{option_map}
use Rattle.std.proofs.lemmas.List.Elements.{All-contains}
use Rattle.std.proofs.lemmas.Option.{slice_get-map, slice_get_within, same_Some}
use Rattle.flow_graph.specs.CPaths.Building.{Graph}
use Rattle.flow_graph.specs.CPaths.Events.{Event}
use Rattle.c_tree.specs.Node.{Node}
use Rattle.c_tree.specs.Views.{node_of}
use Rattle.type_rules.specs.Functions.{Defined}
use Rattle.call_graph.specs.Followed.{followed}
use Rattle.path_model.specs.CheckerGraphs.Graphs.{function_at}
use Rattle.path_model.proofs.CheckerGraphs.Units.{functions-are, objects-are, place-filed}
use Rattle.path_model.specs.CheckerModel.Happenings.{Function, Site}
use Rattle.path_model.specs.CheckerModel.Reports.{Checker}
use Rattle.path_model.specs.CheckerPrograms.Texts.{functions_in, function_of, objects_in, site, type_table}
use Rattle.typed_unit.specs.Texts.{Text, texts_of}
use Rattle.flow_graph.specs.Seen.{graph_in}
use Rattle.function_tables.specs.declared.table.FunctionTable.{FunctionTable}
use Rattle.function_tables.specs.Tables.{AreTables}
use Rattle.least_set.specs.Logs.{IsExactly}
use Rattle.objects.specs.Units.{facts_in}
use Rattle.relevant.specs.ProgramRows.Ends.{Followed, followed_in, SomeHasFollowed, IsSite}
use Rattle.relevant.specs.ProgramRows.Made.{HappensIn, IsMade, AreMade}
use Rattle.relevant.proofs.ProgramRows.Lists.{contains-map, map-contains, of-map, there}
use Rattle.relevant.proofs.ProgramRows.TabledCalls.{end-of, end-followed, has-call, end-follows, follows-end, followed-within, call-passes}
use Rattle.call_graph.specs.OfPrograms.Definitions.{definitions, trees_in}
use Rattle.flow_graph.specs.ReachedBlocks.Reached.{Happens, Called}
use Rattle.relevant.specs.declared.relevant_objects.rows.FollowedCall.{FollowedCall}
use Rattle.relevant.specs.declared.relevant_objects.rows.FunctionRow.{FunctionRow}
use Rattle.relevant.specs.RelevantRows.Rows.{Passes, IsCallOfProgram, IsRow, AreRows}
use Rattle.relevant.specs.RelevantSteps.Steps.{IsNumbered, IsCall}
use Rattle.typed_unit.specs.declared.typed_unit.TypedUnit.{TypedUnit}

module _ (c : Checker) (units : List (Bor TypedUnit)) (tables : List FunctionTable) (A : AreTables c.machine c.depth (texts_of units) tables) where
  abbrev ts : List Text
  ts = texts_of units

  abbrev fs : List Defined
  fs = definitions (trees_in units)

  abbrev gs : List Graph
  gs = map (λ t. graph_in t.graph.now) tables

  at-text : (n : ℕ) (d : Defined) → slice_get fs n ≡ Some d → slice_get (functions_in ts) n ≡ Some d
  at-text n d e = ap (λ (l : List Defined). slice_get l n) (functions-are units) ∙ e

  function-named : (n : ℕ) (d : Defined) → slice_get fs n ≡ Some d → function_at ts n ≡ Some (function_of d)
  function-named n d e = ap (option_map function_of) (at-text n d e)

  -- ---- functions with their tables

  record IsTabled (n : ℕ) (f : Function) (g : Graph) : Type 0 where
    defined : Defined
    at : slice_get fs n ≡ Some defined
    named : function_of defined ≡ f
    table : FunctionTable
    is : slice_get tables n ≡ Some table
    same : graph_in table.graph.now ≡ g

  tabled : (n : ℕ) (f : Function) (g : Graph) → IsNumbered c ts gs n f g → IsTabled n f g
  tabled n f g is =
      let d = of-map function_of (slice_get (functions_in ts) n) f is.named in
      let t = of-map (λ (x : FunctionTable). graph_in x.graph.now) (slice_get tables n) g (sym (slice_get-map (λ (x : FunctionTable). graph_in x.graph.now) tables n) ∙ is.graph) in
      record { defined = d.0; at = sym (ap (λ (l : List Defined). slice_get l n) (functions-are units)) ∙ d.1; named = d.2; table = t.0; is = t.1; same = t.2 }

  numbered : (n : ℕ) (d : Defined) (t : FunctionTable) → slice_get fs n ≡ Some d → slice_get tables n ≡ Some t → IsNumbered c ts gs n (function_of d) (graph_in t.graph.now)
  numbered n d t at is = record {
    named = function-named n d at;
    graph = slice_get-map (λ (x : FunctionTable). graph_in x.graph.now) tables n ∙ ap (option_map (λ (x : FunctionTable). graph_in x.graph.now)) is;
  }

  -- a call is followed by the file in which the function stands
  by-file : (n : ℕ) (d : Defined) (call : Node) → slice_get fs n ≡ Some d
      → followed c.machine (type_table ts d.place.file) d.place.file (functions_in ts) call ≡ followed c.machine (type_table ts d.file) d.file (functions_in ts) call
  by-file n d call at = ap (λ (i : ℕ). followed c.machine (type_table ts i) i (functions_in ts) call) (place-filed (trees_in units) n d at)

  -- ---- what happens

  right-unit : (n : ℕ) (row : FunctionRow) (calls : List FollowedCall) → IsMade units tables calls n row → (f : Function) (g : Graph) → IsNumbered c ts gs n f g → facts_in row.unit.now ≡ objects_in ts f.place.file
  right-unit n row calls made f g is =
      let k = tabled n f g is in
      let d : Defined = k.defined in
      let file : f.place.file ≡ d.file = ap (λ (x : Function). x.place.file) (sym k.named) ∙ place-filed (trees_in units) n d k.at in
      sym (objects-are units f.place.file row.unit (ap (slice_get units) file ∙ made.unit d k.at))

  happens-there : (n : ℕ) (f : Function) (g : Graph) (e : Event) → IsNumbered c ts gs n f g → HappensIn tables n e → Happens g e
  happens-there n f g e is h =
      let k = tabled n f g is in
      let same : graph_in (h.table).graph.now ≡ g = ap (λ (t : FunctionTable). graph_in t.graph.now) (same_Some h.table k.table (sym h.is ∙ k.is)) ∙ k.same in
      subst (λ (x : Graph). Happens x e) same h.happens

  there-happens : (n : ℕ) (f : Function) (g : Graph) (e : Event) → IsNumbered c ts gs n f g → Happens g e → HappensIn tables n e
  there-happens n f g e is h =
      let k = tabled n f g is in
      record { table = k.table; is = k.is; happens = subst (λ (x : Graph). Happens x e) (sym k.same) h }

  -- ---- calls

  module _ (calls : List FollowedCall) (D : IsExactly (map followed_in calls) (SomeHasFollowed tables (length fs))) (S : All (IsSite units) calls) where
    -- a call of the program, with what it passes
    pub right-call : (k : FollowedCall) → Contains calls k → IsCallOfProgram c ts gs k
    right-call k among =
        let h = D.0 (followed_in k) (contains-map followed_in calls k among) in
        let has = h.2 in
        let e = end-of has.table h.0 has.block (followed_in k) has.ends in
        let call : Node = node_of k.site.call.now in
        let d = there fs k.caller (subst (λ n. n < length fs) e.0 h.1) in
        let is : slice_get tables k.caller ≡ Some has.table = ap (slice_get tables) (sym e.0) ∙ has.is in
        let follows = end-follows c.machine c.depth ts d.0 has.table (A.blocks k.caller d.0 has.table (at-text k.caller d.0 d.1) is) has.block k.callee call e.1 in
        let within : k.callee < length fs = subst (λ (l : List Defined). k.callee < length l) (functions-are units) (followed-within c.machine (type_table ts (d.0).file) (d.0).file (functions_in ts) call k.callee follows) in
        let callee = there fs k.callee within in
        let ends = has-call (graph_in (has.table).graph.now) has.block call e.1.call_is in
        record {
          site = site c.depth ts (function_of d.0) call;
          call = record {
            function = function_of d.0;
            graph = graph_in (has.table).graph.now;
            is = numbered k.caller d.0 has.table d.1 is;
            call = call;
            called = record { block = has.block; events = (ends.1).events; next = ends.0; reached = has.reached; has = ends.2 };
            same = refl;
            follows = by-file k.caller d.0 call d.1 ∙ follows;
            callee = function_of callee.0;
            named = function-named k.callee callee.0 callee.1;
          };
          passes = call-passes c units k d.0 callee.0 (All-contains (IsSite units) calls k S among) d.1 callee.1 follows;
        }

    -- and each of them is among these
    record IsListed (n m : ℕ) (s : Site) : Type 0 where
      call : FollowedCall
      among : Contains calls call
      caller : call.caller ≡ n
      callee : call.callee ≡ m
      passes : Passes c.depth call s

    listed : (n m : ℕ) (s : Site) → IsCall c ts gs n m s → IsListed n m s
    listed n m s v =
        let k = tabled n v.function v.graph v.is in
        let d : Defined = k.defined in
        let t : FunctionTable = k.table in
        let file : v.function.place.file ≡ d.file = ap (λ (x : Function). x.place.file) (sym k.named) ∙ place-filed (trees_in units) n d k.at in
        let follows : followed c.machine (type_table ts d.file) d.file (functions_in ts) v.call ≡ Some m = ap (λ (i : ℕ). followed c.machine (type_table ts i) i (functions_in ts) v.call) (sym file) ∙ v.follows in
        let called : Called (graph_in t.graph.now) v.call = subst (λ (x : Graph). Called x v.call) (sym k.same) v.called in
        let ends = follows-end c.machine c.depth ts d t (A.blocks n d t (at-text n d k.at) k.is) called.block m called.next _ v.call called.has refl follows in
        let f : Followed = record { caller = n; callee = m; call = v.call } in
        let one = map-contains followed_in calls f (D.1 f (n, slice_get_within fs n d k.at, record { table = t; is = k.is; block = called.block; reached = called.reached; ends = end-followed t n called.block m v.call ends })) in
        let e = of-map function_of (slice_get (functions_in ts) m) v.callee v.named in
        by d e.0 k.at (sym (ap (λ (l : List Defined). slice_get l m) (functions-are units)) ∙ e.1) follows (v.same ∙ ap (λ (x : Function). site c.depth ts x v.call) (sym k.named)) one.0 one.1 one.2
      where
        by : (d e : Defined) → slice_get fs n ≡ Some d → slice_get fs m ≡ Some e → followed c.machine (type_table ts d.file) d.file (functions_in ts) v.call ≡ Some m → s ≡ site c.depth ts (function_of d) v.call
            → (q : FollowedCall) → Contains calls q → followed_in q ≡ record { caller = n; callee = m; call = v.call } → IsListed n m s
        by d e at into follows same q among is =
            let caller : q.caller ≡ n = ap (λ (x : Followed). x.caller) is in
            let callee : q.callee ≡ m = ap (λ (x : Followed). x.callee) is in
            let call : node_of q.site.call.now ≡ v.call = ap (λ (x : Followed). x.call) is in
            let passes = call-passes c units q d e (All-contains (IsSite units) calls q S among) (ap (slice_get fs) caller ∙ at) (ap (slice_get fs) callee ∙ into)
            (ap (followed c.machine (type_table ts d.file) d.file (functions_in ts)) call ∙ follows ∙ ap Some (sym callee)) in
            record {
              call = q;
              among = among;
              caller = caller;
              callee = callee;
              passes = subst (Passes c.depth q) (ap (site c.depth ts (function_of d)) call ∙ sym same) passes;
            }

    -- ---- rows

    right-row : (n : ℕ) (row : FunctionRow) → IsMade units tables calls n row → IsRow c ts gs n row
    right-row n row made = record {
      unit = right-unit n row calls made;
      happens = λ f g e is h. happens-there n f g e is (made.events.0 e h);
      events = λ f g e is h. made.events.1 e (there-happens n f g e is h);
      real = λ k h. right-call k (made.calls.0 k h).0;
      calls = λ m s v. let k = listed n m s v in record { call = k.call; among = made.calls.1 k.call (k.among, inl k.caller); caller = k.caller; callee = k.callee; passes = k.passes };
      called = λ m s v. let k = listed m n s v in record { call = k.call; among = made.calls.1 k.call (k.among, inr k.callee); caller = k.caller; callee = k.callee; passes = k.passes };
    }

    pub right-rows : (rows : List FunctionRow) → length rows ≡ length fs → AreMade units tables calls rows → AreRows c ts gs rows
    right-rows rows count made = record {
      count = count ∙ sym (ap length (functions-are units));
      each = λ n row at. right-row n row (made n row at);
    }
