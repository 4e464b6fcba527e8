-- WHAT IS GIVEN of rows that are those of tables, and the parts that each function has: a graph, and its rows.
use Rattle.std.proofs.Common.{◌≡◌, sym, ap, ℕ, List, length, Some, slice_get}
use Rattle.std.specs.Option.{option_map}
use Rattle.c_objects.specs.Objects.{Object}
use Rattle.flow_graph.specs.CPaths.Building.{Graph}
use Rattle.function_tables.proofs.EngineTables.Places.{there-too}
use Rattle.least_set.specs.Logs.{IsOnce}
use Rattle.numbered_engine.specs.Program as engine
use Rattle.numbered_engine.specs.declared.program.FunctionRows.{FunctionRows}
use Rattle.numbered_engine.specs.declared.program.ProgramRows.{ProgramRows}
use Rattle.path_model.proofs.CheckerGraphs.Numbers.{defined-at}
use Rattle.numbered_program.specs.Rows.{AreRowsOf, IsFunctionOf}
use Rattle.numbered_program.specs.Theorems.{AreStatesOf}
use Rattle.path_model.specs.CheckerGraphs.Graphs.{AreApartPlaces, function_at}
use Rattle.path_model.specs.CheckerModel.Choices.{State}
use Rattle.path_model.specs.CheckerModel.Happenings.{Function}
use Rattle.path_model.specs.CheckerModel.Reports.{Checker}
use Rattle.path_model.specs.CheckerPrograms.Texts.{function_of, functions_in}
use Rattle.typed_unit.specs.Texts.{Text}

module _ (c : Checker) (ts : List Text) (gs : List Graph) (lists : List (List Object)) (states : List State) (p : ProgramRows) where
  pub record AreGiven : Type 0 where
    pub apart : AreApartPlaces (functions_in ts)
    pub count : length gs ≡ length (functions_in ts)
    pub once : (n : ℕ) (os : List Object) → slice_get lists n ≡ Some os → IsOnce os
    pub states_of : AreStatesOf c states
    pub rows_of : AreRowsOf c ts gs lists states p

  pub record HasParts (n : ℕ) (f : Function) : Type 0 where
    pub graph : Graph
    pub here : slice_get gs n ≡ Some graph
    pub rows : FunctionRows
    pub there : engine.function_at p n ≡ Some rows
    pub is : IsFunctionOf c ts gs lists states n f graph rows

  pub has_parts : AreGiven → (n : ℕ) (f : Function) → function_at ts n ≡ Some f → HasParts n f
  has_parts H n f named =
      let d = defined-at ts n f named in
      let g = there-too (functions_in ts) gs n d.0 (sym H.count) d.1 in
      let r = there-too (functions_in ts) p.functions.items n d.0 (sym H.rows_of.count) d.1 in
      record { graph = g.0; here = g.1; rows = r.0; there = r.1; is = H.rows_of.functions n f g.0 r.0 named g.1 r.1 }

  -- rows are those of a function
  pub function_of_rows : AreGiven → (n : ℕ) (r : FunctionRows) → engine.function_at p n ≡ Some r → (f : Function) × (function_at ts n ≡ Some f)
  function_of_rows H n r there =
      let d = there-too p.functions.items (functions_in ts) n r H.rows_of.count there in
      (function_of d.0, ap (option_map function_of) d.1)
