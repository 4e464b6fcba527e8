-- An event by its number, and the rules of it.
use Rattle.std.proofs.Common.{◌≡◌, ℕ, zero, suc, List, [], ◌∷◌, map, Option, None, Some, slice_get, Bor, refl, sym, ap, subst, ◌∙◌}
use Rattle.std.specs.Option.{option_copied}
use Rattle.state_tuples.specs.declared.applied_rules.rules.EventRules.{EventRules}
use Rattle.block_flows.specs.Events.{AreOfEvents}
use Rattle.block_flows.specs.declared.taken_rules.Firing.{Firing}
use Rattle.c_objects.specs.Objects.{Object}
use Rattle.flow_graph.specs.CPaths.Events.{Event}
use Rattle.type_rules.specs.Options.{◌>?◌}
use Rattle.path_model.proofs.CheckerGraphs.Units.{happening-is}
use Rattle.path_model.specs.CheckerModel.Happenings.{Function, Happening}
use Rattle.path_model.specs.CheckerModel.Reports.{Checker, report_of}
use Rattle.path_model.specs.CheckerPrograms.Texts.{happening}
use Rattle.typed_unit.specs.Texts.{texts_of}
use Rattle.saturation.specs.EdgeReports.Said.{happening_at, said_by}
use Rattle.hole_matcher.specs.HoleMessages.Sources.{maybe_object}
use Rattle.metal_tree.specs.MetalMachines.Machine.{Machine}
use Rattle.report_model.specs.declared.report.Report.{Report}
use Rattle.state_tuples.specs.RuleChoices.Values.{taken_of}
use Rattle.state_tuples.specs.Values.{happening_in}
use Rattle.typed_unit.specs.declared.typed_unit.TypedUnit.{TypedUnit}

-- the events of a function are those of its unit
pub of-unit : (units : List (Bor TypedUnit)) (u : Bor TypedUnit) (f : Function) (es : List Event) → slice_get units f.place.file ≡ Some u
    → map (happening (texts_of units) f) es ≡ map (happening_at u.now) es
of-unit units u f [] at = refl
of-unit units u f (e ∷ es) at =
    ap (λ (h : Happening). h ∷ map (happening (texts_of units) f) es) (happening-is units u f e at)
    ∙ ap (λ (hs : List Happening). happening_at u.now e ∷ hs) (of-unit units u f es at)

module _ (m : Machine) (depth : ℕ) (f : Function) (u : TypedUnit) where
  pub event-there : (es : List Event) (rs : List EventRules) (i : ℕ) (r : EventRules) → AreOfEvents m depth f (map (happening_at u) es) rs → slice_get rs i ≡ Some r
      → slice_get (map (happening_at u) es) i ≡ Some (happening_in u r.event)
  event-there [] [] i r a e = cc
  event-there [] (x ∷ rs) i r a e = absurd a
  event-there (d ∷ es) [] i r a e = absurd a
  event-there (d ∷ es) (x ∷ rs) zero r a e =
      let same : x ≡ r = cc in
      subst (λ (z : EventRules). Some (happening_at u d) ≡ Some (happening_in u z.event)) same (ap (λ (z : Event). Some (happening_at u z)) (sym a.0.event))
  event-there (d ∷ es) (x ∷ rs) (suc i) r a e = event-there es rs i r a.1 e

  pub event-missing : (es : List Event) (rs : List EventRules) (i : ℕ) → AreOfEvents m depth f (map (happening_at u) es) rs → slice_get rs i ≡ None
      → slice_get (map (happening_at u) es) i ≡ None
  event-missing [] [] i a e = refl
  event-missing [] (x ∷ rs) i a e = absurd a
  event-missing (d ∷ es) [] i a e = absurd a
  event-missing (d ∷ es) (x ∷ rs) zero a e = cc
  event-missing (d ∷ es) (x ∷ rs) (suc i) a e = event-missing es rs i a.1 e

copied : (o : Option (Bor Object)) → maybe_object o ≡ option_copied o
copied None = refl
copied (Some o) = refl

module _ (c : Checker) (f : Function) (u : TypedUnit) (es : List Event) (rs : List EventRules) (a : AreOfEvents c.machine c.depth f (map (happening_at u) es) rs) (x : Firing) where
  abbrev report : Option Happening → Option Report
  report o = o >? λ h. report_of c h f x.object (taken_of x.taken.now)

  -- what it says is its report at that event
  pub says : (r : EventRules) (o : Option (Bor Object)) (q : Option Report) → slice_get rs x.event ≡ Some r → option_copied o ≡ x.object
      → q ≡ report_of c (happening_in u r.event) f (maybe_object o) (taken_of x.taken.now) → q ≡ said_by c f (map (happening_at u) es) x
  says r o q at object e =
      e
      ∙ ap (λ z. report_of c (happening_in u r.event) f z (taken_of x.taken.now)) (copied o ∙ object)
      ∙ sym (ap report (event-there c.machine c.depth f u es rs x.event r a at))

  -- and nothing where no event has its number
  pub silent : slice_get rs x.event ≡ None → None ≡ said_by c f (map (happening_at u) es) x
  silent e = sym (ap report (event-missing c.machine c.depth f u es rs x.event a e))
