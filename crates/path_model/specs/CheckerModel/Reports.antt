-- REPORTS: what a rule with an action that is taken says, and where.
use Rattle.std.specs.Prelude.{◌≡◌, Bool, ℕ, List, [], ◌∷◌, Option, None, Some}
use Rattle.std.specs.Option.{option_map}
use Rattle.c_objects.specs.Objects.{Object}
use Rattle.c_objects.specs.Text.{text_of, object_text}
use Rattle.flow_graph.specs.CPaths.EventPlaces.{event_place}
use Rattle.c_tree.specs.declared.place.Place.{Place}
use Rattle.c_tree.specs.declared.token.Token.{Token}
use Rattle.type_rules.specs.Options.{◌>?◌}
use Rattle.hole_matching.specs.Message.{Source, from_place, message}
use Rattle.metal_tree.specs.MetalMachines.Machine.{Piece, Machine}
use Rattle.report_model.specs.declared.report.Report.{Report}
use Rattle.path_model.specs.CheckerModel.Choices.{State, Taken, taken, taken_global, scene}
use Rattle.path_model.specs.CheckerModel.Happenings.{Function, Happening}

abbrev pub first_token : List Token → Option Token
first_token [] = None
first_token (t ∷ ts) = Some t

-- the token at a place
abbrev pub token_at : Place → List Token → Option Token
token_at p ts = first_token (from_place p ts)

-- which checker reports: its place among those of the command, from 0 on, its machine, the depth of its objects, and the texts of names
pub record Checker : Type 0 where
  pub number : ℕ
  pub machine : Machine
  pub depth : ℕ
  pub names : List (List ℕ)

abbrev pub source_of : Checker → Happening → Source
source_of c h = record { names = c.names; tokens = h.tokens }

-- the report of a taken rule at this token, about this object, if it is about one
abbrev pub report_at : Checker → Happening → Function → Option Object → Taken → Token → List Piece → Report
report_at c h f o t token pieces = record {
  place = event_place h.event;
  file = text_of c.names token.source;
  line = token.line;
  col = token.col;
  checker = c.number;
  checker_name = text_of c.names c.machine.name;
  rule = t.rule.number;
  object = option_map (object_text c.names) o;
  message = message (scene c.machine c.depth h f) (source_of c h) pieces t.binding o;
}

-- THE REPORT of a taken rule, if it has an action
abbrev pub report_of : Checker → Happening → Function → Option Object → Taken → Option Report
report_of c h f o t = t.rule.action >? λ pieces. option_map (λ token. report_at c h f o t token pieces) (token_at (event_place h.event) h.tokens)

-- an object takes a rule with this report, by its state behind the move
abbrev pub Fires : Checker → Happening → Function → Bool → ℕ → Object → Option State → Report → Type 0
Fires c h f is_root state o x r = (taken c.machine c.depth h f is_root state o x >? report_of c h f (Some o)) ≡ Some r

-- the global state takes one
abbrev pub FiresGlobal : Checker → Happening → Function → Bool → ℕ → Report → Type 0
FiresGlobal c h f is_root state r = (taken_global c.machine c.depth h f is_root state >? report_of c h f None) ≡ Some r
