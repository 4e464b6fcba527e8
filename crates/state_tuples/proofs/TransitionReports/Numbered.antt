-- The report of a rule by its number is that of the taken rule.
use Rattle.std.proofs.Common.{◌≡◌, ℕ, nat_eq, List, [], ◌∷◌, Bool, true, false, cond, not, is_some, slice_get, Option, Some, None, refl, sym, ap, subst, ◌∙◌}
use Rattle.std.proofs.lemmas.Bool.{eqb-true, true≢false}
use Rattle.std.specs.Borrow.{Bor}
use Rattle.std.specs.Option.{option_map, option_copied}
use Rattle.c_objects.specs.Facts.{Facts}
use Rattle.c_objects.specs.Objects.{Object}
use Rattle.flow_graph.specs.CPaths.EventPlaces.{event_place}
use Rattle.c_tree.specs.declared.place.Place.{Place}
use Rattle.c_tree.specs.declared.token.Token.{Token}
use Rattle.type_rules.specs.Options.{if_there, ◌>?◌}
use Rattle.path_model.specs.CheckerModel.Choices.{Taken}
use Rattle.path_model.specs.CheckerModel.Happenings.{Function}
use Rattle.path_model.specs.CheckerModel.Reports.{token_at, first_token, report_at, report_of}
use Rattle.flow_graph.specs.declared.event.Event.{Event}
use Rattle.flow_graph.specs.Values.{event_of}
use Rattle.hole_matching.specs.MachineMatches.{setting_of}
use Rattle.hole_matching.specs.Matching.{Binding}
use Rattle.hole_matching.specs.Message.{Source, is_at, from_place, message}
use Rattle.hole_matcher.specs.HoleMessages.RuleMessages.{rule_message}
use Rattle.hole_matcher.specs.HoleMessages.Sources.{source_in}
use Rattle.least_set.specs.Ways.Same.{both}
use Rattle.metal_tree.specs.MetalMachines.Machine.{Piece, Rule, Machine}
use Rattle.metal_tree.specs.MetalMachines.Rules.{rule_numbered}
use Rattle.metal_tree.specs.Views.{action_view, rule_view}
use Rattle.metal_tree.specs.Whole.{machine_view}
use Rattle.metal_tree.specs.declared.messages.Action.{Action}
use Rattle.metal_tree.specs.declared.rules.Rule as code
use Rattle.objects.specs.Units.{facts_in}
use Rattle.report_model.specs.declared.report.Report.{Report}
use Rattle.state_tuples.specs.TransitionReports.TakenRules.{IsTaken, checker_at, report_with}
use Rattle.state_tuples.specs.Values.{happening_in}
use Rattle.state_tuples.specs.declared.transition_reports.checker.Checker.{Checker}
use Rattle.typed_unit.specs.declared.typed_unit.TypedUnit.{TypedUnit}

-- the rule that is found by a number has it
numbered : (number : ℕ) (rs : List Rule) (r : Rule) → rule_numbered number rs ≡ Some r → number ≡ r.number
numbered number [] r e = cc
numbered number (x ∷ rs) r e = by (numbered number rs r) (nat_eq x.number number) refl e
  where
    by : (rule_numbered number rs ≡ Some r → number ≡ r.number) → (b : Bool) → nat_eq x.number number ≡ b → cond b (Some x) (rule_numbered number rs) ≡ Some r → number ≡ r.number
    by later true q e = let same : x ≡ r = cc in sym (eqb-true x.number number q) ∙ ap (λ (y : Rule). y.number) same
    by later false q e = later e

-- the token that is found at a place stands there
stands_at : (p : Place) (ts : List Token) (t : Token) → token_at p ts ≡ Some t → t.place ≡ p
stands_at p [] t e = cc
stands_at p (x ∷ ts) t e = by (stands_at p ts t) (is_at p x) refl e
  where
    by : (first_token (from_place p ts) ≡ Some t → t.place ≡ p) → (b : Bool) → is_at p x ≡ b → first_token (cond b (x ∷ ts) (from_place p ts)) ≡ Some t → t.place ≡ p
    by later true q e =
        let same : x ≡ t = cc in
        let parts = both (nat_eq x.place.file p.file) (nat_eq x.place.token p.token) q in
        let place : x.place ≡ p = λ i. record { file = eqb-true x.place.file p.file parts.0 i; token = eqb-true x.place.token p.token parts.1 i } in
        subst (λ (y : Token). y.place ≡ p) same place
    by later false q e = later e

message_is : (m : Machine) (number : ℕ) (b : Binding) (t : Taken) → IsTaken m number b t → (pieces : List Piece) → t.rule.action ≡ Some pieces
    → (u : Facts) (depth function : ℕ) (w : Source) (o : Option Object) → rule_message m number u depth function w b o ≡ message (setting_of m u depth function) w pieces t.binding o
message_is m number b t h pieces e u depth function w o =
    ap (λ (r : Option Rule). if_there (r >? λ x. x.action) [] (λ ps. message (setting_of m u depth function) w ps b o)) h.rule
    ∙ ap (λ (a : Option (List Piece)). if_there a [] (λ ps. message (setting_of m u depth function) w ps b o)) e
    ∙ ap (λ (c : Binding). message (setting_of m u depth function) w pieces c o) h.binding

report_is : (c : Checker) (u : TypedUnit) (e : Event) (depth : ℕ) (f : Function) (o : Option Object) (number : ℕ) (b : Binding) (t : Taken)
    → IsTaken (machine_view c.machine.now) number b t → (pieces : List Piece) → t.rule.action ≡ Some pieces
    → (token : Token) → token_at (event_place (event_of e)) u.unit.tokens.now ≡ Some token
    → report_with c u depth f.name token o number b ≡ report_at (checker_at c depth) (happening_in u e) f o t token pieces
report_is c u e depth f o number b t h pieces a token k = λ i. record {
  place = stands_at (event_place (event_of e)) u.unit.tokens.now token k i;
  file = (report_with c u depth f.name token o number b).file;
  line = token.line;
  col = token.col;
  checker = c.number;
  checker_name = (report_with c u depth f.name token o number b).checker_name;
  rule = numbered number (machine_view c.machine.now).rules t.rule h.rule i;
  object = (report_with c u depth f.name token o number b).object;
  message = message_is (machine_view c.machine.now) number b t h pieces a (facts_in u) depth f.name (source_in u c.names.now) o i;
}

some_same : {X : Type 0} (x y : X) → Some x ≡ Some y → x ≡ y
some_same x y e = cc

-- the first of tokens, as code asks for it
pub first_is : (ts : List Token) → slice_get ts 0 ≡ first_token ts
first_is [] = refl
first_is (t ∷ ts) = refl

is_nothing : {X : Type 0} (a : Option X) (b : Bool) → is_some a ≡ not b → b ≡ true → a ≡ None
is_nothing None b n k = refl
is_nothing (Some a) b n k = absurd (true≢false (n ∙ ap not k))

some_action : (r : code.Rule) (b : Bool) → is_some r.action ≡ not b → b ≡ false → (pieces : List Piece) × ((rule_view r).action ≡ Some pieces)
some_action r b n k = by r.action refl
  where
    by : (a : Option Action) → r.action ≡ a → (pieces : List Piece) × (option_map action_view r.action ≡ Some pieces)
    by None e = absurd (true≢false (sym (sym (ap is_some e) ∙ n ∙ ap not k)))
    by (Some a) e = (action_view a, ap (option_map action_view) e)

module _ (c : Checker) (u : TypedUnit) (e : Event) (depth : ℕ) (f : Function) (o : Option Object) (t : Taken) where
  -- the report, by the pieces of the action and by the token
  abbrev reported : Option (List Piece) → Option Token → Option Report
  reported a k = a >? λ pieces. option_map (λ token. report_at (checker_at c depth) (happening_in u e) f o t token pieces) k

  without_token : (a : Option (List Piece)) → reported a None ≡ None
  without_token None = refl
  without_token (Some pieces) = refl

  -- nothing without a token
  pub nowhere : (k : Option (Bor Token)) → option_copied k ≡ token_at (event_place (event_of e)) u.unit.tokens.now → k ≡ None → None ≡ report_of (checker_at c depth) (happening_in u e) f o t
  nowhere k there none =
      let missing : token_at (event_place (event_of e)) u.unit.tokens.now ≡ None = sym there ∙ ap option_copied none in
      sym (ap (reported t.rule.action) missing ∙ without_token t.rule.action)

  -- nothing without an action
  pub no_action : (number : ℕ) (b : Binding) (r : code.Rule) (without : Bool) → IsTaken (machine_view c.machine.now) number b t → rule_numbered number (machine_view c.machine.now).rules ≡ Some (rule_view r) → is_some r.action ≡ not without → without ≡ true
      → None ≡ report_of (checker_at c depth) (happening_in u e) f o t
  no_action number b r without h found n k =
      let same : rule_view r ≡ t.rule = let j = sym found ∙ h.rule in cc in
      let none : t.rule.action ≡ None = sym (ap (λ (x : Rule). x.action) same) ∙ ap (option_map action_view) (is_nothing r.action without n k) in
      sym (ap (λ a. reported a (token_at (event_place (event_of e)) u.unit.tokens.now)) none)

  -- THE REPORT
  pub the_report : (number : ℕ) (b : Binding) (r : code.Rule) (without : Bool) → IsTaken (machine_view c.machine.now) number b t → rule_numbered number (machine_view c.machine.now).rules ≡ Some (rule_view r) → is_some r.action ≡ not without → without ≡ false
      → (k : Option (Bor Token)) (token : Bor Token) → option_copied k ≡ token_at (event_place (event_of e)) u.unit.tokens.now → k ≡ Some token
      → (report : Report) → report ≡ report_with c u depth f.name token.now o number b → Some report ≡ report_of (checker_at c depth) (happening_in u e) f o t
  the_report number b r without h found n w k token there some report is =
      let same : rule_view r ≡ t.rule = let j = sym found ∙ h.rule in cc in
      let pieces = some_action r without n w in
      let action : t.rule.action ≡ Some pieces.0 = sym (ap (λ (x : Rule). x.action) same) ∙ pieces.1 in
      let here : token_at (event_place (event_of e)) u.unit.tokens.now ≡ Some token.now = sym there ∙ ap option_copied some in
      ap Some (is ∙ report_is c u e depth f o number b t h pieces.0 action token.now here)
      ∙ sym (ap (λ a. reported a (token_at (event_place (event_of e)) u.unit.tokens.now)) action ∙ ap (reported (Some pieces.0)) here)
