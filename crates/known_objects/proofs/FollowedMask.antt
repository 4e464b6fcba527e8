-- What lists follow is what their mask keeps.
use Rattle.std.proofs.Common.{◌≡◌, ◌∙◌, ℕ, List, slice_get, Option, None, Some, true, false, IsTrue, refl, ap}
use Rattle.std.specs.Prelude.{◌↔◌}
use Rattle.block_flows.proofs.TupleFlows.Followed.{contains-in, in-contains}
use Rattle.block_flows.specs.FollowedLists.{is_followed}
use Rattle.block_flows.specs.TupleFlows.Facts.{is_in}
use Rattle.c_objects.specs.Objects.{Object}
use Rattle.known_objects.specs.Followed.{IsFollowed}
use Rattle.path_model.specs.CheckerGraphs.Graphs.{number_of}
use Rattle.path_model.specs.CheckerModel.Happenings.{Function}
use Rattle.path_model.specs.CheckerPrograms.Texts.{functions_in}
use Rattle.type_rules.specs.Options.{if_there, ◌>?◌}
use Rattle.typed_unit.specs.Texts.{Text}

module _ (ts : List Text) (lists : List (List Object)) where
  abbrev Listed : Object → Option (List Object) → Type 0
  Listed o q = if_there q false (λ objects. is_in objects o) ≡ true

  kept-followed : (f : Function) (o : Object) → IsFollowed ts lists f o → IsTrue (is_followed ts lists f o)
  kept-followed f o w =
      ap (λ q. if_there (q >? slice_get lists) false (λ objects. is_in objects o)) w.numbered
      ∙ ap (λ q. if_there q false (λ objects. is_in objects o)) w.listed
      ∙ contains-in w.objects o w.among

  in-list : (f : Function) (o : Object) (n : ℕ) → number_of (functions_in ts) f ≡ Some n → (q : Option (List Object)) → slice_get lists n ≡ q → Listed o q → IsFollowed ts lists f o
  in-list f o n e None s h = cc
  in-list f o n e (Some os) s h = record { number = n; objects = os; numbered = e; listed = s; among = in-contains os o h }

  followed-kept : (f : Function) (o : Object) → IsTrue (is_followed ts lists f o) → IsFollowed ts lists f o
  followed-kept f o k = by (number_of (functions_in ts) f) refl k
    where
      by : (q : Option ℕ) → number_of (functions_in ts) f ≡ q → Listed o (q >? slice_get lists) → IsFollowed ts lists f o
      by None e h = cc
      by (Some n) e h = in-list f o n e (slice_get lists n) refl h

  pub followed-by-mask : (f : Function) (o : Object) → IsTrue (is_followed ts lists f o) ↔ IsFollowed ts lists f o
  followed-by-mask f o = (followed-kept f o, kept-followed f o)
