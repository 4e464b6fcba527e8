-- The objects that are followed in a function are those that have a number there, each once.
use Rattle.std.proofs.Common.{◌≡◌, ◌∙◌, refl, sym, ℕ, ◌+◌, Bool, true, false, List, Contains, Some, arith, true≢false}
use Rattle.block_flows.proofs.TupleFlows.Followed.{contains-in, in-contains}
use Rattle.block_flows.specs.FollowedLists.{is_followed}
use Rattle.block_flows.specs.TupleFlows.Facts.{is_in}
use Rattle.c_objects.specs.Objects.{Object}
use Rattle.flow_graph.specs.CPaths.Building.{Graph}
use Rattle.least_set.proofs.Growing.{at_place}
use Rattle.least_set.specs.Logs.{IsOnce}
use Rattle.numbered_program.proofs.NumberedCalls.FollowedNumbers.{has_number}
use Rattle.numbered_program.proofs.NumberedCalls.NumberedItems.{placed}
use Rattle.numbered_program.specs.NumberedCalls.Stands.{IsNumberedBy}
use Rattle.numbered_paths.specs.Views.{AreNumbers, Views}
use Rattle.numbered_program.proofs.NumberedTuples.Numbers.{item_at}
use Rattle.block_flows.specs.Masks.{graphs_under, model_under, objects_under}
use Rattle.path_model.specs.CheckerModel.Happenings.{Function}
use Rattle.path_model.specs.CheckerModel.Reports.{Checker}
use Rattle.typed_unit.specs.Texts.{Text}

same_truth : (a b : Bool) → (a ≡ true → b ≡ true) → (b ≡ true → a ≡ true) → a ≡ b
same_truth true b f g = sym (f refl)
same_truth false true f g = g refl
same_truth false false f g = refl

module _ (c : Checker) (ts : List Text) (gs : List Graph) (lists : List (List Object)) (V : Views (model_under c ts lists) (graphs_under c ts gs lists))
    (N : AreNumbers (model_under c ts lists) (objects_under c ts lists) (graphs_under c ts gs lists) V) (n : ℕ) (f : Function) (objects : List Object) (k : IsNumberedBy c ts gs lists V n f objects) where
  pub named_in : (i : ℕ) (o : Object) → V.object n i ≡ Some o → Contains objects o
  named_in i o e = let p = placed objects i o (sym (k.object i) ∙ e) in at_place objects p.0 o p.2

  pub follows : (o : Object) → is_followed ts lists f o ≡ is_in objects o
  follows o = same_truth (is_followed ts lists f o) (is_in objects o)
      (λ a. let p = N.numbered n f o k.function a in contains-in objects o (named_in p.0 o p.1))
      (λ h. let p = has_number objects o h in N.followed n f p.0 o k.function (k.object p.0 ∙ p.2))

  pub once : IsOnce objects
  once i j o a b =
      let x = k.object (i + 1) ∙ item_at objects (i + 1) i refl ∙ a in
      let y = k.object (j + 1) ∙ item_at objects (j + 1) j refl ∙ b in
      omega (arith, N.objects n (i + 1) (j + 1) o x y)
