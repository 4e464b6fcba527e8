-- The rows of functions, by what is known of them.
use Rattle.std.proofs.Common.{◌≡◌, ℕ, ◌+◌, ◌<◌, ◌≤◌, Bool, true, nat_eq, List, ◌∷◌, ◌++◌, [], map, length, Contains, None, Some, slice_get, get_or, take, inl, inr, refl, sym, ap, subst, ◌∙◌, arith}
use Rattle.std.specs.Prelude.{◌↔◌}
use Rattle.std.proofs.lemmas.Bool.{eqb-true, eq-eqb}
use Rattle.std.proofs.lemmas.List.{get_or-map, length-map}
use Rattle.std.proofs.lemmas.Map.Views.{Contains-from_any, list_any-from_Contains}
use Rattle.std.proofs.lemmas.Option.{same_Some, slice_get_within}
use Rattle.std.specs.List.{list_any}
use Rattle.c_objects.specs.Objects.{Object}
use Rattle.call_graph.specs.declared.programs.functions.FnId.{FnId}
use Rattle.flow_graph.specs.CPaths.Building.{Graph}
use Rattle.flow_graph.specs.Seen.{graph_in}
use Rattle.function_tables.specs.EngineTables.Known.{checker_in, graphs_in, objects_in, texts_in}
use Rattle.function_tables.specs.declared.engine_tables.tables.Tables.{Tables}
use Rattle.indexmap.specs.IndexSet.{insert_key}
use Rattle.least_set.specs.Logs.{Adds}
use Rattle.numbered_engine.specs.declared.program.FunctionRows.{FunctionRows}
use Rattle.numbered_program.specs.NumberedEvents.Listed.{own_of}
use Rattle.numbered_program.proofs.KnownSources.{here, own_graph, own_listed}
use Rattle.numbered_program.proofs.ListSteps.{item_of_more}
use Rattle.numbered_program.specs.Made.{AreBlocksOf, AreRowsAt}
use Rattle.numbered_program.specs.Numbered.{AreRootsOf, IsSourceOf}
use Rattle.numbered_program.specs.Rows.{IsFunctionOf}
use Rattle.numbered_program.specs.declared.numbers.FunctionSource.{FunctionSource}
use Rattle.numbered_program.proofs.NumberedTuples.FewStates.{distinct_more}
use Rattle.objects.specs.Equality.{decided}
use Rattle.path_model.specs.CheckerGraphs.Graphs.{function_at}
use Rattle.path_model.specs.CheckerModel.Choices.{State}
use Rattle.path_model.specs.CheckerModel.Happenings.{Function}
use Rattle.path_model.specs.CheckerPrograms.Roots.{IsRoot, Leads}
use Rattle.path_model.specs.CheckerPrograms.Texts.{functions_in}

-- ---- numbers of roots

-- one root more
pub roots_more : (roots : List FnId) (i : ℕ) (d : FnId) (old new : List ℕ) → i < length roots → Adds (Contains (take i (map (λ (f : FnId). f.number) roots))) [] old
    → new ≡ insert_key nat_eq old (get_or roots i d).number → Adds (Contains (take (i + 1) (map (λ (f : FnId). f.number) roots))) [] new
roots_more roots i d old new within before more =
    let numbers = map (λ (f : FnId). f.number) roots in
    let inside : i < length numbers = subst (λ (n : ℕ). i < n) (sym (length-map roots (λ (f : FnId). f.number))) within in
    distinct_more nat_eq eqb-true numbers i 0 old new inside before (more ∙ ap (insert_key nat_eq old) (sym (get_or-map (λ (f : FnId). f.number) roots i d 0 within)))

-- whether a number is one of these
number_found : (numbers : List ℕ) (n : ℕ) (b : Bool) → b ≡ list_any (nat_eq n) numbers → (b ≡ true) ↔ Contains numbers n
number_found numbers n b e = (
  λ h. Contains-from_any eqb-true n numbers (sym e ∙ h),
  λ h. e ∙ list_any-from_Contains (decided nat_eq eqb-true (λ k. eq-eqb k k refl)) n numbers h,
)

module _ (states : List State) (s : FunctionSource) (f : Function) (i : IsSourceOf states s f) where
  abbrev t : Tables
  t = s.tables.now

  abbrev graph : Graph
  graph = graph_in s.table.now.graph.now

  -- whether it is a root
  root_is : (roots : List ℕ) (b : Bool) → AreRootsOf t roots → b ≡ list_any (nat_eq s.function) roots → (b ≡ true) ↔ IsRoot (Leads (checker_in t).machine (texts_in t)) s.function
  root_is roots b are e =
      let found = number_found roots s.function b e in
      let at = here states s f i in
      let within = slice_get_within (functions_in (texts_in t)) s.function at.defined at.is in (
        λ h. ((i.known.roots s.function).0 ((are s.function).0 (found.0 h))).0,
        λ r. found.1 ((are s.function).1 ((i.known.roots s.function).1 (r, within))),
      )

  pub function_is : (r : FunctionRows) (objects : List Object) (roots : List ℕ) → AreBlocksOf states s f r.blocks.items → r.own.items ≡ own_of objects → objects ≡ s.own.now.numbering.objects.now.keys
      → AreRootsOf t roots → r.is_root ≡ list_any (nat_eq s.function) roots → AreRowsAt t states s.function r
  function_is r objects roots blocks own same are root h g named there =
      let is_function : f ≡ h = same_Some f h (sym i.named ∙ named) in
      let is_graph : graph ≡ g = same_Some graph g (sym (own_graph states s f i) ∙ there) in
      let here_is : IsFunctionOf (checker_in t) (texts_in t) (graphs_in t) (objects_in t) states s.function f graph r = record {
        blocks = blocks.made;
        missing = blocks.missing;
        own = own ∙ ap own_of (same ∙ own_listed states s f i);
        root = root_is roots r.is_root are root;
      } in
      subst (λ (z : Graph). IsFunctionOf (checker_in t) (texts_in t) (graphs_in t) (objects_in t) states s.function h z r) is_graph
      (subst (λ (z : Function). IsFunctionOf (checker_in t) (texts_in t) (graphs_in t) (objects_in t) states s.function z graph r) is_function here_is)

-- ---- all functions

-- of a function that isn't there nothing is said
pub no_rows : (t : Tables) (states : List State) (n : ℕ) (r : FunctionRows) → function_at (texts_in t) n ≡ None → AreRowsAt t states n r
no_rows t states n r none f g named there = absurd (by f (sym none ∙ named))
  where
    by : (f : Function) → None ≡ Some f → ⊥
    by f e = cc

-- one function more
pub functions_more : (t : Tables) (states : List State) (n : ℕ) (row : FunctionRows) (old new : List FunctionRows) → AreRowsAt t states n row → length old ≡ n → new ≡ old ++ row ∷ []
    → ((k : ℕ) (r : FunctionRows) → slice_get old k ≡ Some r → AreRowsAt t states k r) → (k : ℕ) (r : FunctionRows) → slice_get new k ≡ Some r → AreRowsAt t states k r
functions_more t states n row old new gives count more before k r e = elim (item_of_more old new row r k more e) [
  | inl h ↦ before k r h
  | inr h ↦
      let number : n ≡ k = sym count ∙ sym h.0 in
      subst (λ (z : ℕ). AreRowsAt t states z r) number (subst (AreRowsAt t states n) h.1 gives)
]
