-- Where a flat list of events, calls and returns is a path, each rule with an action that is taken at its last event is an error of the program.
use Rattle.std.proofs.Common.{◌≡◌, false, List, Option, None, Some, inl, inr, ap, ◌∙◌}
use Rattle.c_objects.specs.Objects.{Object}
use Rattle.c_tree.specs.declared.token.Token.{Token}
use Rattle.type_rules.specs.Options.{◌>?◌}
use Rattle.flow_graph.specs.CPaths.EventPlaces.{event_place}
use Rattle.metal_tree.specs.MetalMachines.Machine.{Piece}
use Rattle.path_theory.specs.Actions.{Actions, Did, State, TakenAt, fold}
use Rattle.path_theory.specs.FlatPaths.{IsPath}
use Rattle.path_theory.proofs.FlatPaths.{last_event}
use Rattle.path_theory.specs.Trails.{More}
use Rattle.path_model.specs.CheckerModel.Checkers.{model, source_at}
use Rattle.path_model.specs.CheckerModel.Choices.{Taken}
use Rattle.path_model.specs.CheckerModel.Happenings.{Function, Happening}
use Rattle.path_model.specs.CheckerModel.Reports.{Checker, token_at, report_at, report_of}
use Rattle.path_model.specs.CheckerPrograms.Paths.{program}
use Rattle.report_model.specs.declared.report.Report.{Report}
use Rattle.typed_unit.specs.Texts.{Text}
use Rattle.event_places.specs.Standing.{StandInFiles}
use Rattle.event_places.specs.Theorems.{IsErrorThere, is_declaration, takes}
use Rattle.event_places.proofs.Reports.{elsewhere, global-elsewhere, has-report, taken-elsewhere}

module _ (c : Checker) (ts : List Text) (stand : StandInFiles ts) (root : Function) (l : Actions (model c)) (h : Happening) (w : IsPath (model c) (program c ts) root (More l (Did h))) where
  abbrev now : State (model c)
  now = fold (model c) root l

  token-there : is_declaration h.event ≡ false → (token : Token) × (token_at (event_place h.event) h.tokens ≡ Some token)
  token-there n = let v = last_event (model c) (program c ts) root l h w in elsewhere c ts stand v.path h v.goes n

  is-error : (o : Option Object) (t : Taken) (pieces : List Piece) → is_declaration h.event ≡ false → t.rule.action ≡ Some pieces
      → ((r : Report) → report_of c h now.top.fn o t ≡ Some r → TakenAt (model c) h now r) → IsErrorThere c ts now.top.fn h o t pieces
  is-error o t pieces n a fires =
      let u = token-there n in
      record {
        token = u.0;
        there = u.1;
        error = record { root = root; actions = l; event = h; path = w; taken = fires (report_at c h now.top.fn o t u.0 pieces) (has-report c h now.top.fn o t pieces u.0 a u.1) };
      }

  -- THE ERROR of a rule that is taken at the path's last event
  pub error-there : (o : Option Object) (t : Taken) (pieces : List Piece) → takes c h now o ≡ Some t → t.rule.action ≡ Some pieces → IsErrorThere c ts now.top.fn h o t pieces
  error-there (Some o) t pieces e a =
      is-error (Some o) t pieces (taken-elsewhere c.machine c.depth h now.top.fn now.top.is_root now.global o (source_at c.depth h o >? now.top.map) t e) a
      (λ r k. inl (o, ap (λ (x : Option Taken). x >? report_of c h now.top.fn (Some o)) e ∙ k))
  error-there None t pieces e a =
      is-error None t pieces (global-elsewhere c.machine c.depth h now.top.fn now.top.is_root now.global t e) a
      (λ r k. inr (ap (λ (x : Option Taken). x >? report_of c h now.top.fn None) e ∙ k))
