-- THE FUNCTION WITH A NUMBER: its definition, its graph, and the objects that are followed in it.
use Rattle.std.proofs.Common.{◌≡◌, ◌∙◌, refl, sym, ap, subst, ℕ, false, List, [], Option, None, Some, slice_get}
use Rattle.std.proofs.lemmas.Option.{same_Some}
use Rattle.std.specs.Option.{option_map}
use Rattle.block_flows.specs.FollowedLists.{is_followed}
use Rattle.block_flows.specs.TupleFlows.Facts.{is_in}
use Rattle.c_objects.specs.Objects.{Object}
use Rattle.flow_graph.specs.CPaths.Building.{Graph}
use Rattle.numbered_program.specs.Views.{listed_at}
use Rattle.path_model.proofs.CheckerGraphs.Numbers.{defined-at, defines-is, found-at, graph-at, number-is}
use Rattle.path_model.specs.CheckerGraphs.Graphs.{AreApartPlaces, function_at, graph_at, number_of}
use Rattle.path_model.specs.CheckerModel.Happenings.{Function}
use Rattle.path_model.specs.CheckerPrograms.Texts.{function_of, functions_in}
use Rattle.type_rules.specs.Options.{if_there, ◌>?◌}
use Rattle.typed_unit.specs.Texts.{Text}

module _ (ts : List Text) where
  -- one number is that of one function
  pub one_function : (n : ℕ) (f g : Function) → function_at ts n ≡ Some f → function_at ts n ≡ Some g → f ≡ g
  one_function n f g a b = same_Some f g (sym a ∙ b)

  -- what is found as a function's number is its number
  pub found_number : (n : ℕ) (f : Function) → number_of (functions_in ts) f ≡ Some n → function_at ts n ≡ Some f
  found_number n f e =
      let x = found-at (functions_in ts) f n e in
      ap (option_map function_of) x.numbered ∙ ap (λ (g : Function). Some g) (defines-is x.found f x.same)

module _ (ts : List Text) (apart : AreApartPlaces (functions_in ts)) (n : ℕ) (f : Function) (named : function_at ts n ≡ Some f) where
  pub graph_is : (gs : List Graph) (g : Graph) → slice_get gs n ≡ Some g → graph_at ts gs f ≡ g
  graph_is gs g h =
      let d = defined-at ts n f named in
      subst (λ (k : Function). graph_at ts gs k ≡ g) d.2 (graph-at ts apart gs n d.0 g d.1 h)

  pub follows_listed : (lists : List (List Object)) (o : Object) → is_followed ts lists f o ≡ is_in (listed_at lists n) o
  follows_listed lists o = ap (λ m. if_there (m >? slice_get lists) false (λ objects. is_in objects o)) (number-is ts apart n f named) ∙ by (slice_get lists n)
    where
      by : (q : Option (List Object)) → if_there q false (λ objects. is_in objects o) ≡ is_in (if_there q [] (λ os. os)) o
      by None = refl
      by (Some os) = refl
