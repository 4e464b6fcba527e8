-- The rows of a site are those of a call of the program under the checker that follows the objects of two lists alone.
use Rattle.std.proofs.Common.{◌≡◌, ◌∙◌, refl, sym, ap, subst, ℕ, Bool, true, false, List, map, Contains, Option, None, Some}
use Rattle.std.proofs.lemmas.Option.{none-some, same_Some, slice_get-map}
use Rattle.std.specs.List.{enumerate_from}
use Rattle.std.specs.Option.{option_map, option_map_or}
use Rattle.std.specs.Prelude.{◌↔◌, is_none}
use Rattle.block_flows.proofs.Fires.{gives-some, some-gives}
use Rattle.block_flows.proofs.TupleFlows.Followed.{some-from}
use Rattle.block_flows.proofs.TupleFlows.Lists.{contains-map, map-contains, none-found}
use Rattle.block_flows.specs.FollowedLists.{mask_in}
use Rattle.block_flows.specs.TupleFlows.Facts.{is_in}
use Rattle.block_flows.specs.TupleFlows.Passed.{into_in, out_in}
use Rattle.c_objects.specs.Objects.{Object}
use Rattle.flow_graph.specs.CPaths.Building.{Graph}
use Rattle.masked_paths.proofs.StrictFlows.Among.{origins_are}
use Rattle.numbered_program.proofs.NumberedCalls.CallParts.{AreEntered, AreHanded, AreSaved, IsHanded}
use Rattle.numbered_program.proofs.NumberedCalls.FollowedLists.{follows, once}
use Rattle.numbered_program.proofs.NumberedCalls.FollowedNumbers.{number_there}
use Rattle.numbered_program.proofs.NumberedCalls.NumberedItems.{enumerated, numbered, placed}
use Rattle.numbered_program.specs.NumberedCalls.Rows.{entered_row, entered_rows, handed_row, handed_rows, is_saved, saved_flags, source_number}
use Rattle.numbered_program.specs.NumberedCalls.Stands.{IsNumberedBy}
use Rattle.numbered_paths.specs.RowParts.{IsNumberOf}
use Rattle.numbered_paths.specs.Views.{AreNumbers, Views}
use Rattle.numbered_program.proofs.NumberedTuples.Numbers.{item_at}
use Rattle.numbered_program.specs.NumberedTuples.FollowedObjects.{number_of, row_of}
use Rattle.block_flows.specs.Masks.{between, graphs_under, model_under, objects_under, origins_under}
use Rattle.path_model.specs.CheckerModel.Calls.{into, out}
use Rattle.path_model.specs.CheckerModel.Checkers.{model, origins}
use Rattle.path_model.specs.CheckerModel.Happenings.{Function, Site}
use Rattle.path_model.specs.CheckerModel.Reports.{Checker}
use Rattle.path_theory.specs.Origins.{Origins}
use Rattle.row_flows.specs.Numbers.{is_own, item_numbered}
use Rattle.row_flows.specs.declared.rows.Touched.{Touched}
use Rattle.type_rules.specs.Options.{if_there}
use Rattle.typed_unit.specs.Texts.{Text}

module _ (c : Checker) (ts : List Text) (gs : List Graph) (lists : List (List Object)) (V : Views (model_under c ts lists) (graphs_under c ts gs lists))
    (N : AreNumbers (model_under c ts lists) (objects_under c ts lists) (graphs_under c ts gs lists) V) (n m : ℕ) (f h : Function) (s : Site) (here there : List Object)
    (k : IsNumberedBy c ts gs lists V n f here) (l : IsNumberedBy c ts gs lists V m h there) where
  -- ---- where states come from, by the two lists

  abbrev Into : Object → Option Object
  Into o = (origins_under c ts lists).into (between f s h) o

  abbrev Out : Object → Option Object
  Out o = (origins_under c ts lists).out (between f s h) o

  abbrev Number : ℕ → Option Object → Type 0
  Number i z = IsNumberOf (model_under c ts lists) (origins_under c ts lists) (objects_under c ts lists) (graphs_under c ts gs lists) V n i z

  into_is : (o : Object) → Into o ≡ into_in c.depth s here there o
  into_is o = ap (λ (L : Origins (model c)). L.into s o)
      (origins_are (model c) (origins c) (mask_in c ts lists) refl f h (is_in here) (is_in there) (follows c ts gs lists V N n f here k) (follows c ts gs lists V N m h there l))

  out_is : (o : Object) → Out o ≡ out_in c.depth s here there o
  out_is o = ap (λ (L : Origins (model c)). L.out s o)
      (origins_are (model c) (origins c) (mask_in c ts lists) refl f h (is_in here) (is_in there) (follows c ts gs lists V N n f here k) (follows c ts gs lists V N m h there l))

  -- ---- the entry

  begins_with : (o : Object) → Number (source_number c.depth s here there o) (Into o)
  begins_with o = subst (Number (source_number c.depth s here there o)) (sym (into_is o)) (by (into_in c.depth s here there o) refl)
    where
      by : (z : Option Object) → into_in c.depth s here there o ≡ z → Number (if_there z 0 (number_of here)) z
      by None e = refl
      by (Some b) e = k.object (number_of here b) ∙ number_there here (once c ts gs lists V N n f here k) b (some-from there here o (into c.depth s o) b e).1

  abbrev IsEnteredRow : Touched → Type 0
  IsEnteredRow x = (o : Object) × (V.object m x.object ≡ Some o) × Number x.source (Into o)

  abbrev pub Entering : List Touched → Type 0
  Entering rows = AreEntered (model_under c ts lists) (origins_under c ts lists) (objects_under c ts lists) (graphs_under c ts gs lists) V n m (between f s h) rows

  pub entered_are : (rows : List Touched) → rows ≡ entered_rows c.depth s here there → Entering rows
  entered_are rows e = subst Entering (sym e) (record {
    sources = λ x w.
        let p = map-contains (entered_row c.depth s here there) (enumerate_from 1 there) x w in
        let own : IsEnteredRow (entered_row c.depth s here there p.0) = (p.0.1, l.object p.0.0 ∙ numbered there p.0 p.1, begins_with p.0.1) in
        subst IsEnteredRow p.2 own;
    each = λ i o d.
        (entered_row c.depth s here there (i, o), contains-map (entered_row c.depth s here there) (enumerate_from 1 there) (i, o) (enumerated there i o (sym (l.object i) ∙ d)), refl);
  })

  -- ---- the return

  abbrev IsHandedRow : Touched → Type 0
  IsHandedRow x = IsHanded (model_under c ts lists) (origins_under c ts lists) (objects_under c ts lists) (graphs_under c ts gs lists) V n m (between f s h) x

  -- of an object with a number
  is_handed : (p : ℕ × Object) (x : Touched) → Contains (enumerate_from 1 here) p → handed_row c.depth s here there p ≡ Some x → IsHandedRow x
  is_handed p x w = by (out_in c.depth s here there p.1) refl
    where
      by : (z : Option Object) → out_in c.depth s here there p.1 ≡ z → option_map (row_of p.0) (option_map (number_of there) z) ≡ Some x → IsHandedRow x
      by None e d = absurd (none-some x d)
      by (Some b) e d = subst IsHandedRow (same_Some (row_of p.0 (number_of there b)) x d) (record {
        object = p.1;
        source = b;
        named = k.object p.0 ∙ numbered here p w;
        source_named = l.object (number_of there b) ∙ number_there there (once c ts gs lists V N m h there l) b (some-from here there p.1 (out c.depth s p.1) b e).1;
        out = out_is p.1 ∙ e;
      })

  abbrev pub Handing : List Touched → Type 0
  Handing rows = AreHanded (model_under c ts lists) (origins_under c ts lists) (objects_under c ts lists) (graphs_under c ts gs lists) V n m (between f s h) rows

  pub handed_are : (rows : List Touched) → rows ≡ handed_rows c.depth s here there → Handing rows
  handed_are rows e = subst Handing (sym e) (record {
    sources = λ x w. let p = gives-some (handed_row c.depth s here there) (enumerate_from 1 here) x w in is_handed p.0 x p.1 p.2;
    each = λ i o b d back.
        let row : handed_row c.depth s here there (i, o) ≡ Some (row_of i (number_of there b)) =
        ap (λ z. option_map (row_of i) (option_map (number_of there) z)) (sym (out_is o) ∙ back) in
        (row_of i (number_of there b), some-gives (handed_row c.depth s here there) (enumerate_from 1 here) (i, o) (row_of i (number_of there b)) (enumerated here i o (sym (k.object i) ∙ d)) row, refl);
  })

  -- ---- what is saved

  flag_of : (i : ℕ) (o : Object) → V.object n i ≡ Some o → is_own (saved_flags c.depth s here there) i ≡ is_none (out_in c.depth s here there o)
  flag_of i o d =
      let p = placed here i o (sym (k.object i) ∙ d) in
      let at : item_numbered (saved_flags c.depth s here there) i ≡ Some (is_none (out_in c.depth s here there o)) =
      item_at (saved_flags c.depth s here there) i p.0 p.1 ∙ slice_get-map (is_saved c.depth s here there) here p.0 ∙ ap (option_map (is_saved c.depth s here there)) p.2 in
      ap (λ (z : Option Bool). option_map_or (λ b. b) z false) at

  abbrev pub Saving : List Bool → Type 0
  Saving flags = AreSaved (model_under c ts lists) (origins_under c ts lists) (objects_under c ts lists) (graphs_under c ts gs lists) V n m (between f s h) flags

  pub saved_are : (flags : List Bool) → flags ≡ saved_flags c.depth s here there → Saving flags
  saved_are flags e = subst Saving (sym e)
      (λ i o d. let q = flag_of i o d in (
        λ a. out_is o ∙ none-found (out_in c.depth s here there o) (is_own (saved_flags c.depth s here there) i) q a,
        λ a. q ∙ ap is_none (sym (out_is o) ∙ a),
      ))
