-- The reports on the way of a tuple over a block's events are what the rules say that are taken there.
use Rattle.std.proofs.Common.{◌≡◌, Bool, List, [], ◌∷◌, map, Some, slice_get, ap, sym, subst, ◌∙◌}
use Rattle.std.specs.List.{filter_map}
use Rattle.block_flows.specs.Events.{AreOfEvents}
use Rattle.block_flows.specs.Firings.{Fire, fire_in, TakenAt}
use Rattle.block_flows.specs.declared.taken_rules.Firing.{Firing}
use Rattle.block_flows.proofs.Fires.{gives-some, some-gives}
use Rattle.block_flows.proofs.Reports.{reports}
use Rattle.c_objects.specs.Objects.{Object}
use Rattle.type_rules.specs.Options.{◌>?◌}
use Rattle.path_model.proofs.CheckerModel.Sources.{given}
use Rattle.path_model.specs.CheckerModel.Checkers.{model}
use Rattle.path_model.specs.CheckerModel.Happenings.{Function, Happening}
use Rattle.path_model.specs.CheckerModel.Reports.{Checker, report_of}
use Rattle.saturation.specs.EdgeReports.Said.{said, said_by}
use Rattle.least_set.specs.Logs.{IsExactly}
use Rattle.least_set.proofs.Growing.{nothing}
use Rattle.path_theory.specs.BlockEdges.{Shows}
use Rattle.report_model.specs.declared.report.Report.{Report}
use Rattle.state_tuples.specs.declared.tuple.Tuple.{Tuple}
use Rattle.block_flows.specs.TupleFlows.Facts.{listed, origins_in, fact_in}
use Rattle.block_flows.proofs.TupleFlows.Lists.{contains-map, map-contains}

module _ (c : Checker) (f : Function) (k : Bool) (followed : List Object) (hs : List Happening) (t : Tuple) where
  abbrev pub ShowsHere : Report → Type 0
  ShowsHere r = Shows (model c) (origins_in c followed followed) (listed c followed) f k r hs t.global (fact_in t)

  says-shown : (x : Fire) (r : Report) → TakenAt c hs f k followed t x → said c f hs x ≡ Some r → ShowsHere r
  says-shown x r w e =
      let g = given (slice_get hs x.event) (λ h. report_of c h f x.object x.taken) r e in
      (reports c f k followed hs t.global (fact_in t) r).1 (record {
        number = x.event;
        event = g.0;
        object = x.object;
        what = x.taken;
        there = g.1;
        happens = w;
        says = g.2;
      })

  shown-said : (r : Report) → ShowsHere r → (x : Fire) × TakenAt c hs f k followed t x × (said c f hs x ≡ Some r)
  shown-said r w =
      let s = (reports c f k followed hs t.global (fact_in t) r).0 w in
      (record { event = s.number; object = s.object; taken = s.what }, s.happens, ap (λ o. o >? λ h. report_of c h f s.object s.what) s.there ∙ s.says)

  -- exactly these reports are shown
  pub shown-here : (fires : List Firing) (list : List Report) → IsExactly (map fire_in fires) (TakenAt c hs f k followed t) → list ≡ filter_map (said_by c f hs) fires → IsExactly list ShowsHere
  shown-here fires list is e = subst (λ l. IsExactly l ShowsHere) (sym e) (
    λ r m.
        let g = gives-some (said_by c f hs) fires r m in
        says-shown (fire_in g.0) r (is.0 (fire_in g.0) (contains-map fire_in fires g.0 g.1)) g.2,
    λ r w.
        let s = shown-said r w in
        let m = map-contains fire_in fires s.0 (is.1 s.0 s.1) in
        some-gives (said_by c f hs) fires m.0 r m.1 (ap (said c f hs) m.2 ∙ s.2),
  )

  -- where there are no events
  pub nothing-here : AreOfEvents c.machine c.depth f hs [] → IsExactly [] ShowsHere
  nothing-here a = (λ r m. absurd (nothing r m), λ r w. absurd (by hs a r w))
    where
      by : (es : List Happening) → AreOfEvents c.machine c.depth f es [] → (r : Report) → Shows (model c) (origins_in c followed followed) (listed c followed) f k r es t.global (fact_in t) → ⊥
      by [] a r w = elim w [ ]
      by (e ∷ es) a r w = a
