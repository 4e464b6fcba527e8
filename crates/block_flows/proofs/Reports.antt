-- THE REPORTS on the way of a tuple are those of the rules with an action that it takes there.
use Rattle.std.proofs.Common.{◌≡◌, ◌↔◌, ℕ, Bool, cond, List, Option, None, Some, ap, ◌∙◌}
use Rattle.std.specs.Option.{option_map}
use Rattle.std.specs.Prelude.{is_some}
use Rattle.flow_graph.specs.CPaths.EventPlaces.{event_place}
use Rattle.block_flows.specs.Firings.{if_acting, acting, ObjectActs, GlobalActs}
use Rattle.c_objects.specs.Objects.{Object}
use Rattle.type_rules.specs.Options.{◌>?◌}
use Rattle.path_model.proofs.CheckerModel.Sources.{given, tested}
use Rattle.path_model.specs.CheckerModel.Checkers.{model}
use Rattle.path_model.specs.CheckerModel.Choices.{State, Taken, taken, taken_global}
use Rattle.path_model.specs.CheckerModel.Happenings.{Function, Happening}
use Rattle.path_model.specs.CheckerModel.Reports.{Checker, report_of, report_at, token_at}
use Rattle.path_theory.proofs.EventWalks.Shown.{Reported, shown_where}
use Rattle.report_model.specs.declared.report.Report.{Report}
use Rattle.path_theory.specs.BlockEdges.{Shows}
use Rattle.path_theory.specs.Facts.{FactOf}
use Rattle.block_flows.specs.TupleFlows.Facts.{listed, origins_in}

module _ (c : Checker) (f : Function) where
  -- a taken rule says this report
  abbrev pub Says : Happening → Option Object → Taken → Report → Type 0
  Says h q a r = report_of c h f q a ≡ Some r

  acts : (h : Happening) (q : Option Object) (t : Taken) (r : Report) → Says h q t r → if_acting t ≡ Some t
  acts h q t r s =
      let g = given t.rule.action (λ pieces. option_map (λ token. report_at c h f q t token pieces) (token_at (event_place h.event) h.tokens)) r s in
      ap (λ z. cond (is_some z) (Some t) None) g.1

  taken-is : (q : Option Taken) (a : Taken) → acting q ≡ Some a → q ≡ Some a
  taken-is q a e =
      let g = given q if_acting a e in
      g.1 ∙ (tested (is_some g.0.rule.action) (Some g.0) a g.2).1

  pub acts-is : (h : Happening) (o : Option Object) (q : Option Taken) (r : Report) → (q >? report_of c h f o) ≡ Some r → (a : Taken) × (acting q ≡ Some a) × Says h o a r
  acts-is h o q r e = let g = given q (report_of c h f o) r e in (g.0, ap acting g.1 ∙ acts h o g.0 r g.2, g.2)

  pub is-acts : (h : Happening) (o : Option Object) (q : Option Taken) (r : Report) → (a : Taken) × (acting q ≡ Some a) × Says h o a r → (q >? report_of c h f o) ≡ Some r
  is-acts h o q r (a, p, s) = ap (λ z. z >? report_of c h f o) (taken-is q a p) ∙ s

  -- A REPORT IS SHOWN on the way of a tuple exactly where a rule with an action is taken there that says it
  pub reports : (k : Bool) (followed : List Object) (hs : List Happening) (g : ℕ) (t : FactOf Object State) (r : Report)
      → Shows (model c) (origins_in c followed followed) (listed c followed) f k r hs g t ↔ Reported (model c) (origins_in c followed followed) (listed c followed) (ObjectActs c) (GlobalActs c) f k Says
      (λ h g o x r. (acts-is h (Some o) (taken c.machine c.depth h f k g o x) r, is-acts h (Some o) (taken c.machine c.depth h f k g o x) r))
      (λ h g r. (acts-is h None (taken_global c.machine c.depth h f k g) r, is-acts h None (taken_global c.machine c.depth h f k g) r)) hs g t r
  reports k followed hs g t r = shown_where (model c) (origins_in c followed followed) (listed c followed) (ObjectActs c) (GlobalActs c) f k Says
      (λ h g o x r. (acts-is h (Some o) (taken c.machine c.depth h f k g o x) r, is-acts h (Some o) (taken c.machine c.depth h f k g o x) r))
      (λ h g r. (acts-is h None (taken_global c.machine c.depth h f k g) r, is-acts h None (taken_global c.machine c.depth h f k g) r)) hs g t r
