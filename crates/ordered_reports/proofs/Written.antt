-- A report has the file, the line and the column of the token at its place, and the name of its checker.
use Rattle.std.proofs.Common.{◌≡◌, ℕ, nat_eq, List, [], ◌∷◌, Bool, true, false, cond, Option, None, Some, refl, sym, ap, subst, ◌∙◌}
use Rattle.std.proofs.lemmas.Bool.{eqb-true}
use Rattle.std.specs.Option.{option_map}
use Rattle.c_objects.specs.Objects.{Object}
use Rattle.c_objects.specs.Text.{text_of}
use Rattle.flow_graph.specs.CPaths.EventPlaces.{event_place}
use Rattle.flow_graph.specs.CPaths.Events.{Event}
use Rattle.c_tree.specs.TokenPlaces.{AreOfFile}
use Rattle.c_tree.specs.declared.place.Place.{Place}
use Rattle.c_tree.specs.declared.token.Token.{Token}
use Rattle.type_rules.specs.Options.{◌>?◌}
use Rattle.path_model.specs.CheckerModel.Checkers.{model, source_at}
use Rattle.path_model.specs.CheckerModel.Choices.{State, Taken, taken, taken_global}
use Rattle.path_model.specs.CheckerModel.Happenings.{Function, Happening}
use Rattle.path_model.specs.CheckerModel.Reports.{Checker, first_token, token_at, report_at, report_of, Fires, FiresGlobal}
use Rattle.path_model.specs.CheckerPrograms.Paths.{program}
use Rattle.path_model.specs.CheckerPrograms.Texts.{tokens_of, happening}
use Rattle.typed_unit.specs.Texts.{Text}
use Rattle.ordered_reports.proofs.OwnFiles.{StandInOwnFiles}
use Rattle.hole_matching.specs.Message.{from_place, is_at}
use Rattle.least_set.specs.Ways.Same.{both}
use Rattle.metal_tree.specs.MetalMachines.Machine.{Piece}
use Rattle.path_theory.specs.Paths.{Reported, ReportOf, ReportOfGlobal, after}
use Rattle.report_model.specs.declared.report.Report.{Report}

pub record IsWritten (ts : List Text) (c : Checker) (r : Report) : Type 0 where
  pub token : Token
  pub there : token_at r.place (tokens_of ts r.place.file) ≡ Some token
  pub file : r.file ≡ text_of c.names token.source
  pub line : r.line ≡ token.line
  pub col : r.col ≡ token.col
  pub checker : r.checker ≡ c.number
  pub checker_name : r.checker_name ≡ text_of c.names c.machine.name

-- where a token of a file is found, the place is of this file
of-file : (file : ℕ) (p : Place) (ts : List Token) (t : Token) → AreOfFile file ts → token_at p ts ≡ Some t → p.file ≡ file
of-file file p [] t h e = cc
of-file file p (x ∷ xs) t h e = by (of-file file p xs t h.1) (is_at p x) refl e
  where
    by : (first_token (from_place p xs) ≡ Some t → p.file ≡ file) → (b : Bool) → is_at p x ≡ b → first_token (cond b (x ∷ xs) (from_place p xs)) ≡ Some t → p.file ≡ file
    by later true q e = let parts = both (nat_eq x.place.file p.file) (nat_eq x.place.token p.token) q in sym (eqb-true x.place.file p.file parts.0) ∙ h.0
    by later false q e = later e

module _ (ts : List Text) (own : StandInOwnFiles ts) (c : Checker) (f : Function) (i : Event) (r : Report) where
  -- the report of a taken rule with these pieces at this token
  at-token : (o : Option Object) (t : Taken) (pieces : List Piece) (token : Token) → token_at (event_place i) (tokens_of ts f.place.file) ≡ Some token
      → report_at c (happening ts f i) f o t token pieces ≡ r → IsWritten ts c r
  at-token o t pieces token e s =
      let file : (event_place i).file ≡ f.place.file = of-file f.place.file (event_place i) (tokens_of ts f.place.file) token (own.own f.place.file) e in
      subst (IsWritten ts c) s
      (record {
        token = token;
        there = ap (λ n. token_at (event_place i) (tokens_of ts n)) file ∙ e;
        file = refl;
        line = refl;
        col = refl;
        checker = refl;
        checker_name = refl;
      })

  some-same : (x y : Report) → Some x ≡ Some y → x ≡ y
  some-same x y e = cc

  of-token : (o : Option Object) (t : Taken) (pieces : List Piece) (found : Option Token) → token_at (event_place i) (tokens_of ts f.place.file) ≡ found
      → option_map (λ token. report_at c (happening ts f i) f o t token pieces) found ≡ Some r → IsWritten ts c r
  of-token o t pieces None e s = cc
  of-token o t pieces (Some token) e s = at-token o t pieces token e (some-same _ r s)

  of-rule : (o : Option Object) (t : Taken) (action : Option (List Piece))
      → (action >? λ pieces. option_map (λ token. report_at c (happening ts f i) f o t token pieces) (token_at (event_place i) (tokens_of ts f.place.file))) ≡ Some r → IsWritten ts c r
  of-rule o t None s = cc
  of-rule o t (Some pieces) s = of-token o t pieces (token_at (event_place i) (tokens_of ts f.place.file)) refl s

  of-taken : (o : Option Object) (t : Option Taken) → (t >? report_of c (happening ts f i) f o) ≡ Some r → IsWritten ts c r
  of-taken o None s = cc
  of-taken o (Some t) s = of-rule o t t.rule.action s

  of-event : (e : Happening) → e ≡ happening ts f i → (k : Bool) (g : ℕ) (o : Object) (x : Option State) → Fires c e f k g o x r → IsWritten ts c r
  of-event e is k g o x s = of-taken (Some o) (taken c.machine c.depth (happening ts f i) f k g o x) (subst (λ h. Fires c h f k g o x r) is s)

  of-event-global : (e : Happening) → e ≡ happening ts f i → (k : Bool) (g : ℕ) → FiresGlobal c e f k g r → IsWritten ts c r
  of-event-global e is k g s = of-taken None (taken_global c.machine c.depth (happening ts f i) f k g) (subst (λ h. FiresGlobal c h f k g r) is s)

-- EACH REPORT of a program's checker
pub written : (ts : List Text) → StandInOwnFiles ts → (c : Checker) (r : Report) → Reported (model c) (program c ts) r → IsWritten ts c r
written ts own c r (ReportOf {f = f} {k = k} P e g o fires) =
    let now = after (model c) (program c ts) P in
    of-event ts own c f g.0 r e g.4 k now.global o (source_at c.depth e o >? now.here) fires
written ts own c r (ReportOfGlobal {f = f} {k = k} P e g fires) =
    let now = after (model c) (program c ts) P in
    of-event-global ts own c f g.0 r e g.4 k now.global fires
