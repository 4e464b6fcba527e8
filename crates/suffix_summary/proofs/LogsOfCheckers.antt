-- THE LOG of a checker's engine that follows lists of objects: where these are enough, it shows exactly the reports of all paths.
use Rattle.std.proofs.Common.{◌≡◌, ◌↔◌, ℕ, List, Contains, IsTrue, false, Option, None, Some, slice_get, refl}
use Rattle.block_flows.specs.FollowedLists.{is_followed, mask_in}
use Rattle.block_flows.specs.Masks.{model_under, origins_under, objects_under, graphs_under, AreEnough}
use Rattle.block_flows.specs.TupleFlows.Facts.{is_in}
use Rattle.block_flows.proofs.TupleFlows.Followed.{in-contains}
use Rattle.c_objects.specs.Objects.{Object, IsObject, is_object}
use Rattle.c_objects.proofs.Plain.{object-is}
use Rattle.flow_graph.specs.CPaths.Building.{Graph}
use Rattle.path_model.specs.CheckerGraphs.Graphs.{AreGraphs, number_of, flow_graphs}
use Rattle.path_model.specs.CheckerModel.Checkers.{model, origins}
use Rattle.path_model.specs.CheckerModel.Choices.{State}
use Rattle.path_model.specs.CheckerModel.Happenings.{Function}
use Rattle.path_model.specs.CheckerModel.Reports.{Checker}
use Rattle.path_model.specs.CheckerPrograms.Texts.{functions_in}
use Rattle.path_model.proofs.CheckerModel.Laws.{local}
use Rattle.path_theory.specs.Entries.{Entry, among, IsLeastLog}
use Rattle.path_theory.specs.Facts.{FactOf, IsFollowed}
use Rattle.path_theory.specs.FlowGraphs.{supergraph}
use Rattle.path_theory.specs.Merged.{Kinds, Shown}
use Rattle.path_theory.specs.Paths.{Reported}
use Rattle.path_theory.specs.Relevant.{IsClosed}
use Rattle.path_theory.proofs.Merged.{InSome}
use Rattle.report_model.specs.declared.report.Report.{Report}
use Rattle.type_rules.specs.Options.{if_there, ◌>?◌}
use Rattle.typed_unit.specs.Texts.{Text}
use Rattle.suffix_summary.proofs.ExitsOfCheckers.{exits, exits_apart}
use Rattle.suffix_summary.proofs.StrictLogs.{strict_log_reports, strict_log_entries}

-- each that is listed is an object at the checker's depth
abbrev pub ArePlain : Checker → List (List Object) → Type 0
ArePlain c lists = (n : ℕ) (os : List Object) → slice_get lists n ≡ Some os → (o : Object) → Contains os o → IsObject c.depth o

module _ (c : Checker) (ts : List Text) (lists : List (List Object)) (plain : ArePlain c lists) where
  listed-there : (n : ℕ) (o : Object) (q : Option (List Object)) → slice_get lists n ≡ q → IsTrue (if_there q false (λ objects. is_in objects o)) → IsTrue (is_object c.depth o)
  listed-there n o None e h = cc
  listed-there n o (Some os) e h = object-is c.depth o (plain n os e o (in-contains os o h))

  listed-object : (o : Object) (k : Option ℕ) → IsTrue (if_there (k >? slice_get lists) false (λ objects. is_in objects o)) → IsTrue (is_object c.depth o)
  listed-object o None h = cc
  listed-object o (Some n) h = listed-there n o (slice_get lists n) refl h

  -- so is each that is followed
  pub followed-objects : (f : Function) (o : Object) → IsTrue (is_followed ts lists f o) → IsTrue (is_object c.depth o)
  followed-objects f o h = listed-object o (number_of (functions_in ts) f) h

module _ (c : Checker) (ts : List Text) (gs : List Graph) (A : AreGraphs ts gs) (lists : List (List Object)) (plain : ArePlain c lists)
    (C : Kinds (model_under c ts lists) (graphs_under c ts gs lists)) (X : Entry (model_under c ts lists) (graphs_under c ts gs lists) → Type 0)
    (least : IsLeastLog (model_under c ts lists) (origins_under c ts lists) (objects_under c ts lists) (graphs_under c ts gs lists) C X) where
  -- THE REPORTS
  pub checker_log_reports : AreEnough c ts gs lists → (r : Report)
      → Shown (model_under c ts lists) (origins_under c ts lists) (objects_under c ts lists) (graphs_under c ts gs lists) C (among (model_under c ts lists) (graphs_under c ts gs lists) X) r
      ↔ Reported (model c) (supergraph (model c) (flow_graphs c ts gs)) r
  checker_log_reports enough r =
      strict_log_reports (model c) (origins c) (local c) (mask_in c ts lists) (is_object c.depth) (followed-objects c ts lists plain) (flow_graphs c ts gs) C (exits c) (exits_apart c ts gs A) X least enough r

  -- AND THE ENTRIES, where nothing flows between what is followed and what isn't
  pub checker_log_entries : IsClosed (model c) (supergraph (model c) (flow_graphs c ts gs)) (origins c) (objects_under c ts lists)
      → (f : Function) (g₀ : ℕ) (t₀ : FactOf Object State) (b : ℕ) (g : ℕ) (t : FactOf Object State)
      → among (model_under c ts lists) (graphs_under c ts gs lists) X f g₀ t₀ b g t
      ↔ (InSome (model c) (origins c) (flow_graphs c ts gs) f g₀ t₀ b g t × IsFollowed (model c) (objects_under c ts lists) f t)
  checker_log_entries Q f g₀ t₀ b g t =
      strict_log_entries (model c) (origins c) (local c) (mask_in c ts lists) (is_object c.depth) (followed-objects c ts lists plain) (flow_graphs c ts gs) C (exits c) (exits_apart c ts gs A) X least Q f g₀ t₀ b g t
