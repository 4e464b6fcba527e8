-- Objects that are gone through one after the other, with what each gives.
use Rattle.std.proofs.Common.{◌≡◌, ◌∙◌, sym, ap, subst, ℕ, ◌+◌, ◌<◌, Bool, true, List, [], ◌∷◌, ◌++◌, length, get_or, take, map, Contains, Option, None, Some}
use Rattle.std.specs.List.{enumerate_from, filter_map}
use Rattle.std.specs.Option.{option_map}
use Rattle.std.specs.Prelude.{is_none}
use Rattle.block_flows.proofs.TupleFlows.Followed.{contains-in}
use Rattle.block_flows.proofs.TupleFlows.Lists.{mapped-next}
use Rattle.block_flows.specs.TupleFlows.Facts.{is_in}
use Rattle.c_objects.specs.Objects.{Object}
use Rattle.masked_paths.specs.StrictFlows.Among.{if_followed, of_followed}
use Rattle.numbered_program.proofs.NumberedCalls.FollowedNumbers.{source_followed}
use Rattle.numbered_program.proofs.NumberedCalls.NumberedItems.{given_more, given_past, item_there, place_within}
use Rattle.numbered_program.specs.NumberedCalls.Rows.{entered_row, handed_row, handing_number, is_saved}
use Rattle.numbered_program.specs.NumberedTuples.FollowedObjects.{number_of, row_of}
use Rattle.path_model.specs.CheckerModel.Calls.{into, out}
use Rattle.path_model.specs.CheckerModel.Happenings.{Site}
use Rattle.row_flows.specs.declared.rows.Touched.{Touched}
use Rattle.type_rules.specs.Options.{if_there}

-- one of these objects is followed
followed_at : (xs own : List Object) (i : ℕ) (o : Object) → xs ≡ own → i < length xs → o ≡ get_or xs i o → is_in own o ≡ true
followed_at xs own i o same within is = contains-in own o (subst (λ (l : List Object). Contains l o) same (i, within, sym is))

module _ (depth : ℕ) (s : Site) (here there xs : List Object) (i : ℕ) (o : Object) (within : i < length xs) (is : o ≡ get_or xs i o) where
  -- ---- of the callee's objects

  pub entered_more : xs ≡ there → (k : ℕ) (old new : List Touched) → k ≡ if_there (into depth s o) 0 (number_of here) → old ≡ map (entered_row depth s here there) (take i (enumerate_from 1 xs))
      → new ≡ old ++ row_of (i + 1) k ∷ [] → new ≡ map (entered_row depth s here there) (take (i + 1) (enumerate_from 1 xs))
  entered_more same k old new e before pushed =
      let source = e ∙ source_followed here (is_in there o) (into depth s o) (followed_at xs there i o same within is) in
      mapped-next (entered_row depth s here there) (enumerate_from 1 xs) i (i + 1, o) old new (row_of (i + 1) k) (place_within xs i within) (item_there xs i o within is) before pushed
      (ap (row_of (i + 1)) source)

  -- ---- of the caller's objects

  module _ (same : xs ≡ here) where
    own : is_in here o ≡ true
    own = followed_at xs here i o same within is

    handing : (r : Option ℕ) → r ≡ option_map (number_of there) (if_followed (is_in there) (out depth s o)) → handed_row depth s here there (i + 1, o) ≡ option_map (row_of (i + 1)) r
    handing r e =
        let all : r ≡ handing_number depth s here there o =
        e ∙ ap (λ b. option_map (number_of there) (of_followed b (if_followed (is_in there) (out depth s o)))) (sym own) in
        ap (option_map (row_of (i + 1))) (sym all)

    pub handed_more : (k : ℕ) (old new : List Touched) → Some k ≡ option_map (number_of there) (if_followed (is_in there) (out depth s o))
        → old ≡ filter_map (handed_row depth s here there) (take i (enumerate_from 1 xs)) → new ≡ old ++ row_of (i + 1) k ∷ []
        → new ≡ filter_map (handed_row depth s here there) (take (i + 1) (enumerate_from 1 xs))
    handed_more k old new e before pushed =
        given_more (handed_row depth s here there) (enumerate_from 1 xs) i (i + 1, o) old (place_within xs i within) (item_there xs i o within is) before (row_of (i + 1) k) new (handing (Some k) e) pushed

    pub handed_past : (old : List Touched) → None ≡ option_map (number_of there) (if_followed (is_in there) (out depth s o))
        → old ≡ filter_map (handed_row depth s here there) (take i (enumerate_from 1 xs)) → old ≡ filter_map (handed_row depth s here there) (take (i + 1) (enumerate_from 1 xs))
    handed_past old e before =
        given_past (handed_row depth s here there) (enumerate_from 1 xs) i (i + 1, o) old (place_within xs i within) (item_there xs i o within is) before (handing None e)

    pub saved_more : (b : Bool) (old new : List Bool) → b ≡ is_none (if_followed (is_in there) (out depth s o)) → old ≡ map (is_saved depth s here there) (take i xs) → new ≡ old ++ b ∷ []
        → new ≡ map (is_saved depth s here there) (take (i + 1) xs)
    saved_more b old new e before pushed =
        mapped-next (is_saved depth s here there) xs i o old new b within is before pushed
        (e ∙ ap (λ t. is_none (of_followed t (if_followed (is_in there) (out depth s o)))) (sym own))
