-- WHAT A MOVE TOUCHES, by number, is what the move of the checker that follows these objects alone touches.
use Rattle.std.proofs.Common.{◌≡◌, ◌∙◌, ◌⊎◌, inl, inr, refl, sym, ap, subst, arith, ℕ, ◌+◌, ◌-◌, ◌<◌, nat_eq, Bool, true, false, cond, List, length, get_or, Contains, Option, None, Some, slice_get}
use Rattle.std.specs.List.{enumerate_from}
use Rattle.std.proofs.lemmas.List.FromFn.{get_or-enumerate_from, length-enumerate_from}
use Rattle.std.proofs.lemmas.Option.{get_or_from_slice_get, none-some, same_Some, slice_get-get_or, slice_get_within}
use Rattle.block_flows.proofs.Fires.{gives-some, some-gives}
use Rattle.block_flows.proofs.TupleFlows.Followed.{in-contains, some-from}
use Rattle.block_flows.specs.FollowedLists.{is_followed, mask_in}
use Rattle.block_flows.specs.TupleFlows.Facts.{is_in}
use Rattle.block_flows.specs.TupleFlows.Moved.{source_in}
use Rattle.c_objects.specs.Objects.{Object}
use Rattle.numbered_program.specs.EventTables.Touched.{is_kept, source_number, touched_at, touched_from, touched_rows}
use Rattle.masked_paths.proofs.StrictFlows.Among.{origins_are}
use Rattle.masked_paths.specs.Masked.{EventIn}
use Rattle.numbered_program.proofs.NumberedEvents.ItemNumbers.{object_again}
use Rattle.least_set.specs.Logs.{IsOnce}
use Rattle.numbered_program.proofs.NumberedTuples.Numbers.{item_at}
use Rattle.numbered_program.specs.NumberedTuples.FollowedObjects.{number_of, row_of}
use Rattle.objects.specs.Equality.{same_object, same_object-true}
use Rattle.block_flows.specs.Masks.{origins_under}
use Rattle.path_model.proofs.CheckerModel.Sources.{untested}
use Rattle.path_model.specs.CheckerModel.Checkers.{model, origins}
use Rattle.path_model.specs.CheckerModel.Happenings.{Function, Happening}
use Rattle.path_model.specs.CheckerModel.Moves.{Move, move_of, source}
use Rattle.path_model.specs.CheckerModel.Reports.{Checker}
use Rattle.path_theory.specs.Origins.{Origins}
use Rattle.row_flows.specs.Numbers.{item_numbered}
use Rattle.row_flows.specs.declared.rows.Touched.{Touched}
use Rattle.typed_unit.specs.Texts.{Text}

-- THE SOURCE of an object under the mask, where the function follows these
pub source_is : (c : Checker) (ts : List Text) (lists : List (List Object)) (f : Function) (followed : List Object) → ((o : Object) → is_followed ts lists f o ≡ is_in followed o)
    → (h : Happening) (o : Object) → (origins_under c ts lists).source (record { fn = f; event = h }) o ≡ source_in c.depth (move_of h.facts c.depth h.event) followed o
source_is c ts lists f followed follows h o =
    ap (λ (L : Origins (model c)). L.source h o) (origins_are (model c) (origins c) (mask_in c ts lists) refl f f (is_in followed) (is_in followed) follows follows)

-- ---- objects with their numbers

module _ (followed : List Object) where
  -- what stands in the list with a number has it
  numbered : (p : ℕ × Object) → Contains (enumerate_from 1 followed) p → item_numbered followed p.0 ≡ Some p.1
  numbered p s =
      let within : s.0 < length followed = omega (arith, s.1, length-enumerate_from 1 followed) in
      let at : p ≡ (1 + s.0, get_or followed s.0 p.1) = sym s.2 ∙ get_or-enumerate_from 1 followed s.0 p within in
      let first : p.0 ≡ 1 + s.0 = ap (λ (q : ℕ × Object). q.0) at in
      let second : p.1 ≡ get_or followed s.0 p.1 = ap (λ (q : ℕ × Object). q.1) at in
      item_at followed p.0 s.0 (omega (arith, first)) ∙ slice_get-get_or followed s.0 p.1 within ∙ ap Some (sym second)

  -- and the other way round
  enumerated : (i : ℕ) (o : Object) → item_numbered followed i ≡ Some o → 0 < i → Contains (enumerate_from 1 followed) (i, o)
  enumerated i o has h =
      let number : i ≡ (i - 1) + 1 = omega (arith, h) in
      let there : slice_get followed (i - 1) ≡ Some o = sym (item_at followed i (i - 1) number) ∙ has in
      let within : i - 1 < length followed = slice_get_within followed (i - 1) o there in
      let first : 1 + (i - 1) ≡ i = omega (arith, h) in
      let at : ◌≡◌ {A = ℕ × Object} (1 + (i - 1), get_or followed (i - 1) o) (i, o) = λ j. (first j, get_or_from_slice_get followed (i - 1) o o there j) in
      (i - 1, omega (arith, within, length-enumerate_from 1 followed), get_or-enumerate_from 1 followed (i - 1) (i, o) within ∙ at)

-- ---- one object, by its source

-- the number of a source is that of the object that it is, or 0
abbrev pub IsSourceNumber : List Object → ℕ → Option Object → Type 0
IsSourceNumber followed i None = i ≡ 0
IsSourceNumber followed i (Some s) = item_numbered followed i ≡ Some s

module _ (followed : List Object) (once : IsOnce followed) (depth : ℕ) (m : Option Move) where
  numbered_source : (o : Object) (z : Option Object) → source_in depth m followed o ≡ z → IsSourceNumber followed (source_number followed z) z
  numbered_source o None e = refl
  numbered_source o (Some s) e = object_again followed once s (in-contains followed s (some-from followed followed o (source depth m o) s e).1)

  -- WHAT IS TOUCHED is a followed object, and has the number of its source
  pub record TouchedBy (x : Touched) : Type 0 where
    pub object : Object
    pub has : item_numbered followed x.object ≡ Some object
    pub given : IsSourceNumber followed x.source (source_in depth m followed object)

  row_touches : (p : ℕ × Object) (x : Touched) → item_numbered followed p.0 ≡ Some p.1 → touched_at depth m followed p ≡ Some x → TouchedBy x
  row_touches p x has e =
      let z : Option Object = source_in depth m followed p.1 in
      let tested = untested (is_kept p.1 z) (Some (row_of p.0 (source_number followed z))) x e in
      let same : row_of p.0 (source_number followed z) ≡ x = same_Some (row_of p.0 (source_number followed z)) x tested.1 in
      record {
        object = p.1;
        has = subst (λ (y : Touched). item_numbered followed y.object ≡ Some p.1) same has;
        given = subst (λ (y : Touched). IsSourceNumber followed y.source z) same (numbered_source p.1 z refl);
      }

  pub touched_by : (x : Touched) → Contains (touched_rows depth m followed) x → TouchedBy x
  touched_by x s =
      let g = gives-some (touched_at depth m followed) (enumerate_from 1 followed) x s in
      row_touches g.0 x (numbered followed g.0 g.1) g.2

  -- AN OBJECT KEEPS ITS STATE, or is touched
  pub kept_or_touched : (i : ℕ) (o : Object) → item_numbered followed i ≡ Some o → 0 < i
      → (source_in depth m followed o ≡ Some o) ⊎ ((x : Touched) × Contains (touched_rows depth m followed) x × (x.object ≡ i))
  kept_or_touched i o has h = by (source_in depth m followed o) refl
    where
      touched : (z : Option Object) → source_in depth m followed o ≡ z → is_kept o z ≡ false → (x : Touched) × Contains (touched_rows depth m followed) x × (x.object ≡ i)
      touched z e k =
          let row : Touched = row_of i (source_number followed z) in
          let gives : touched_at depth m followed (i, o) ≡ Some row = ap (touched_from followed i o) e ∙ ap (λ b. cond b None (Some row)) k in
          (row, some-gives (touched_at depth m followed) (enumerate_from 1 followed) (i, o) row (enumerated followed i o has h) gives, refl)

      by_same : (s : Object) → source_in depth m followed o ≡ Some s → (b : Bool) → same_object s o ≡ b
          → (source_in depth m followed o ≡ Some o) ⊎ ((x : Touched) × Contains (touched_rows depth m followed) x × (x.object ≡ i))
      by_same s e true k = inl (e ∙ ap Some (same_object-true s o k))
      by_same s e false k = inr (touched (Some s) e k)

      by : (z : Option Object) → source_in depth m followed o ≡ z → (source_in depth m followed o ≡ Some o) ⊎ ((x : Touched) × Contains (touched_rows depth m followed) x × (x.object ≡ i))
      by None e = inr (touched None e refl)
      by (Some s) e = by_same s e (same_object s o) refl

  -- only an object that is followed has its state from one
  pub source_followed : (o s : Object) → source_in depth m followed o ≡ Some s → is_in followed o ≡ true
  source_followed o s e = (some-from followed followed o (source depth m o) s e).0
