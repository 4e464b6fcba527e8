-- What is found over right rows from the objects that rules bind are those that are relevant to these rules.
use Rattle.std.proofs.Common.{◌≡◌, ◌↔◌, ℕ, List, Contains, Some}
use Rattle.c_objects.specs.Objects.{Object}
use Rattle.flow_graph.specs.CPaths.Building.{Graph}
use Rattle.path_model.specs.CheckerGraphs.Graphs.{AreGraphs, AreApartPlaces, function_at}
use Rattle.path_model.specs.CheckerModel.Happenings.{Function}
use Rattle.path_model.specs.CheckerModel.Reports.{Checker}
use Rattle.path_model.specs.CheckerPrograms.Texts.{functions_in}
use Rattle.typed_unit.specs.Texts.{Text}
use Rattle.least_set.specs.Logs.{IsExactly}
use Rattle.least_set.specs.OnePremise.{Least, LeastBase, LeastOne}
use Rattle.relevant.specs.RelevantObjects.Links.{LinksFrom}
use Rattle.path_model.specs.CheckerGraphs.Members.{Member}
use Rattle.relevant.specs.declared.relevant_objects.rows.FunctionRow.{FunctionRow}
use Rattle.relevant.specs.RelevantRows.Rows.{AreRows}
use Rattle.relevant.proofs.RelevantRows.Linking.{links-go, goes-link}
use Rattle.relevant.specs.RelevantSteps.Families.{RelevantTo}
use Rattle.relevant.specs.RelevantSteps.Steps.{Base}
use Rattle.state_tuples.specs.declared.applied_rules.sources.RuleSources.{RuleSources}
use Rattle.relevant.proofs.RelevantSteps.Found.{found}

-- the least set under rules that are the same
least-on : {M : Type 0} {B D : M → Type 0} {G H : M → M → Type 0} → ((x : M) → B x → D x) → ((x y : M) → G x y → H x y) → {x : M} → Least B G x → Least D H x
least-on f g (LeastBase {c = x} b) = LeastBase (f x b)
least-on f g (LeastOne {a = x} {c = y} l k) = LeastOne (least-on f g l) (g x y k)

pub are-relevant : (w : RuleSources) (c : Checker) (ts : List Text) (gs : List Graph) (rows : List FunctionRow) (bound keys : List Member) → AreGraphs ts gs → AreApartPlaces (functions_in ts) → AreRows c ts gs rows → IsExactly bound (Base c ts gs w)
    → IsExactly keys (Least (Contains bound) (LinksFrom c.depth rows)) → (n : ℕ) (f : Function) (o : Object) → function_at ts n ≡ Some f → Contains keys (n, o) ↔ RelevantTo w c ts f o
are-relevant w c ts gs rows bound keys A apart R is all n f o e =
    let t = found w c ts gs A apart n f o e in (
      λ h. t.0 (least-on is.0 (links-go c ts gs rows A R) (all.0 (n, o) h)),
      λ r. all.1 (n, o) (least-on is.1 (goes-link c ts gs rows A R) (t.1 r)),
    )
