-- What a firing says at an event, by the event's number and the rules of it.
use Rattle.std.proofs.Common.{◌≡◌, ℕ, zero, suc, List, [], ◌∷◌, map, Option, None, Some, slice_get, Bor, refl, sym, ap, subst, ◌∙◌}
use Rattle.std.specs.Option.{option_copied, option_map}
use Rattle.std.proofs.lemmas.Option.{slice_get-map}
use Rattle.state_tuples.specs.declared.applied_rules.rules.EventRules.{EventRules}
use Rattle.block_flows.specs.Events.{AreOfEvents}
use Rattle.c_objects.specs.Objects.{Object}
use Rattle.flow_graph.specs.CPaths.Events.{Event}
use Rattle.type_rules.specs.Options.{◌>?◌}
use Rattle.path_model.proofs.CheckerGraphs.Units.{happening-is}
use Rattle.path_model.specs.CheckerModel.Happenings.{Function, Happening}
use Rattle.path_model.specs.CheckerModel.Reports.{Checker, report_of}
use Rattle.path_model.specs.CheckerPrograms.Texts.{happening}
use Rattle.typed_unit.specs.Texts.{texts_of}
use Rattle.suffix_summary.specs.EdgeReports.Said.{alternative_at, happening_at, said, said_at}
use Rattle.hole_matcher.specs.HoleMessages.Sources.{maybe_object}
use Rattle.metal_tree.specs.MetalMachines.Machine.{Machine}
use Rattle.report_model.specs.declared.report.Report.{Report}
use Rattle.row_flows.specs.Numbers.{item_numbered}
use Rattle.row_flows.specs.declared.behind.Firing.{Firing}
use Rattle.state_tuples.specs.AppliedRules.Applied.{Applied}
use Rattle.state_tuples.specs.AppliedRules.Events.{AreOfEvent, applied_of}
use Rattle.state_tuples.specs.RuleChoices.Values.{taken_of}
use Rattle.state_tuples.specs.Values.{happening_in}
use Rattle.state_tuples.specs.declared.rule_choices.fired.Fired.{Fired}
use Rattle.typed_unit.specs.declared.typed_unit.TypedUnit.{TypedUnit}

-- the events of a function are those of its unit
pub of-unit : (units : List (Bor TypedUnit)) (u : Bor TypedUnit) (f : Function) (es : List Event) → slice_get units f.place.file ≡ Some u
    → map (happening (texts_of units) f) es ≡ map (happening_at u.now) es
of-unit units u f [] at = refl
of-unit units u f (e ∷ es) at =
    ap (λ (h : Happening). h ∷ map (happening (texts_of units) f) es) (happening-is units u f e at)
    ∙ ap (λ (hs : List Happening). happening_at u.now e ∷ hs) (of-unit units u f es at)

-- ---- the event with a number

module _ (m : Machine) (depth : ℕ) (f : Function) (u : TypedUnit) where
  -- its rules are those with this number
  pub record IsThere (hs : List Happening) (i : ℕ) (r : EventRules) : Type 0 where
    pub event : Event
    pub is : slice_get hs i ≡ Some (happening_at u event)
    pub rules : AreOfEvent m depth (happening_at u event) f r

  pub event-there : (es : List Event) (rs : List EventRules) (i : ℕ) (r : EventRules) → AreOfEvents m depth f (map (happening_at u) es) rs → slice_get rs i ≡ Some r
      → IsThere (map (happening_at u) es) i r
  event-there [] [] i r a e = cc
  event-there [] (x ∷ rs) i r a e = absurd a
  event-there (d ∷ es) [] i r a e = absurd a
  event-there (d ∷ es) (x ∷ rs) zero r a e =
      let same : x ≡ r = cc in
      record { event = d; is = refl; rules = subst (AreOfEvent m depth (happening_at u d) f) same a.0 }
  event-there (d ∷ es) (x ∷ rs) (suc i) r a e =
      let later = event-there es rs i r a.1 e in
      record { event = later.event; is = later.is; rules = later.rules }

  pub event-missing : (es : List Event) (rs : List EventRules) (i : ℕ) → AreOfEvents m depth f (map (happening_at u) es) rs → slice_get rs i ≡ None
      → slice_get (map (happening_at u) es) i ≡ None
  event-missing [] [] i a e = refl
  event-missing [] (x ∷ rs) i a e = absurd a
  event-missing (d ∷ es) [] i a e = absurd a
  event-missing (d ∷ es) (x ∷ rs) zero a e = cc
  event-missing (d ∷ es) (x ∷ rs) (suc i) a e = event-missing es rs i a.1 e

copied : (o : Option (Bor Object)) → maybe_object o ≡ option_copied o
copied None = refl
copied (Some o) = refl

-- ---- at one event

module _ (c : Checker) (f : Function) (u : TypedUnit) (e : Event) (r : EventRules) (is : AreOfEvent c.machine c.depth (happening_at u e) f r) (followed : List Object) (x : Firing) where
  alternative-is : alternative_at c f x.place (happening_at u e) ≡ option_map applied_of (slice_get r.applied.items x.place)
  alternative-is = ap (λ l. slice_get l x.place) (sym is.applied) ∙ slice_get-map applied_of r.applied.items x.place

  abbrev gives : Option Applied → Option Report
  gives o = o >? λ (a : Applied). report_of c (happening_at u e) f (item_numbered followed x.object) a.taken

  -- the report of the alternative at its place
  pub says : (a : Fired) (o : Option (Bor Object)) (q : Option Report) → slice_get r.applied.items x.place ≡ Some a → option_copied o ≡ item_numbered followed x.object
      → q ≡ report_of c (happening_in u r.event) f (maybe_object o) (taken_of a) → q ≡ said_at c f followed x (happening_at u e)
  says a o q at object s =
      s
      ∙ ap (λ (z : Option Object). report_of c (happening_in u r.event) f z (taken_of a)) (copied o ∙ object)
      ∙ ap (λ (z : Event). report_of c (happening_at u z) f (item_numbered followed x.object) (taken_of a)) is.event
      ∙ sym (ap gives (alternative-is ∙ ap (option_map applied_of) at))

  -- nothing where there is none
  pub silent : slice_get r.applied.items x.place ≡ None → None ≡ said_at c f followed x (happening_at u e)
  silent none = sym (ap gives (alternative-is ∙ ap (option_map applied_of) none))

-- ---- at the events of a block

module _ (c : Checker) (f : Function) (followed : List Object) (hs : List Happening) (x : Firing) where
  pub says-at : (h : Happening) (q : Option Report) → slice_get hs x.event ≡ Some h → q ≡ said_at c f followed x h → q ≡ said c f followed hs x
  says-at h q at s = s ∙ sym (ap (λ (o : Option Happening). o >? said_at c f followed x) at)

  pub silent-at : slice_get hs x.event ≡ None → None ≡ said c f followed hs x
  silent-at none = sym (ap (λ (o : Option Happening). o >? said_at c f followed x) none)
