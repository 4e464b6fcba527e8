-- What the rules of an event say of it, and rows one by one.
use Rattle.std.proofs.Common.{◌≡◌, ◌∙◌, sym, ap, refl, subst, zero, suc, ℕ, ◌+◌, List, [], ◌∷◌, ◌++◌, map, take, drop, slice_get, arith}
use Rattle.std.proofs.lemmas.Option.{none-some, same_Some}
use Rattle.std.specs.List.{AllZip}
use Rattle.c_objects.specs.Objects.{Object}
use Rattle.numbered_program.specs.EventTables.Alternatives.{alternative_row, fired_row}
use Rattle.numbered_program.specs.EventTables.Touched.{touched_rows}
use Rattle.flow_graph.specs.Values.{event_of}
use Rattle.hole_matcher.specs.HoleBindings.Settings.{setting_in}
use Rattle.hole_matching.specs.Holes.{Setting}
use Rattle.metal_tree.specs.MetalMachines.Machine.{Machine}
use Rattle.objects.specs.Units.{facts_in}
use Rattle.path_model.specs.CheckerModel.Choices.{State, scene}
use Rattle.path_model.specs.CheckerModel.Happenings.{Function, Happening}
use Rattle.path_model.specs.CheckerModel.Moves.{move_of}
use Rattle.state_tuples.specs.AppliedRules.Applied.{applied_at}
use Rattle.state_tuples.specs.AppliedRules.Events.{applied_of, AreOfEvent}
use Rattle.state_tuples.specs.declared.applied_rules.rules.EventRules.{EventRules}

map_both : {A B C : Type 0} (g : B → C) (f : A → B) (xs : List A) → map (λ x. g (f x)) xs ≡ map g (map f xs)
map_both g f [] = refl
map_both g f (x ∷ xs) = ap (λ z. g (f x) ∷ z) (map_both g f xs)

module _ (m : Machine) (depth : ℕ) (h : Happening) (f : Function) (r : EventRules) (a : AreOfEvent m depth h f r) where
  pub same_depth : depth ≡ r.setting.depth
  same_depth = sym (ap (λ (g : Setting). g.depth) a.setting)

  pub same_move : move_of (facts_in r.setting.unit.now) r.setting.depth (event_of r.event) ≡ move_of h.facts depth h.event
  same_move = ap (λ (g : Setting). move_of g.facts g.depth (event_of r.event)) a.setting ∙ ap (move_of h.facts depth) a.event

  pub same_touched : (followed : List Object) → touched_rows r.setting.depth (move_of (facts_in r.setting.unit.now) r.setting.depth (event_of r.event)) followed
      ≡ touched_rows depth (move_of h.facts depth h.event) followed
  same_touched followed =
      ap (λ z. touched_rows r.setting.depth z followed) same_move
      ∙ ap (λ d. touched_rows d (move_of h.facts depth h.event) followed) (sym same_depth)

  pub same_rows : (followed : List Object) (states : List State) → map (fired_row followed states (setting_in r.setting) (event_of r.event)) r.applied.items
      ≡ map (alternative_row followed states (scene m depth h f) h.event) (applied_at (scene m depth h f) h.event m.rules)
  same_rows followed states =
      map_both (alternative_row followed states (setting_in r.setting) (event_of r.event)) applied_of r.applied.items
      ∙ ap (λ g. map (alternative_row followed states g (event_of r.event)) (map applied_of r.applied.items)) a.setting
      ∙ ap (λ e. map (alternative_row followed states (scene m depth h f) e) (map applied_of r.applied.items)) a.event
      ∙ ap (map (alternative_row followed states (scene m depth h f) h.event)) a.applied

-- a list with an item isn't empty, and has one first item
no_first : {A : Type 0} (x : A) (xs : List A) → [] ≡ x ∷ xs → ⊥
no_first x xs e = none-some x (ap (λ l. slice_get l zero) e)

one_first : {A : Type 0} (x y : A) (xs ys : List A) → x ∷ xs ≡ y ∷ ys → y ≡ x
one_first x y xs ys e = same_Some y x (ap (λ l. slice_get l zero) (sym e))

module _ {A B : Type 0} (R : A → B → Type 0) where
  -- one more of each
  pub zip_next : (xs : List A) (i : ℕ) (x : A) (old new : List B) (y : B) → drop i xs ≡ x ∷ drop (i + 1) xs → AllZip R (take i xs) old → R x y → new ≡ old ++ y ∷ [] → AllZip R (take (i + 1) xs) new
  zip_next xs i x old new y here before r e = subst (AllZip R (take (i + 1) xs)) (sym e) (by xs i old here before)
    where
      one : (i : ℕ) → i + 1 ≡ suc i
      one i = omega arith

      by : (xs : List A) (i : ℕ) (old : List B) → drop i xs ≡ x ∷ drop (i + 1) xs → AllZip R (take i xs) old → AllZip R (take (i + 1) xs) (old ++ y ∷ [])
      by [] zero old here before = absurd (no_first x (drop (zero + 1) []) here)
      by [] (suc i) old here before = absurd (no_first x (drop (suc i + 1) []) here)
      by (z ∷ zs) zero [] here before = subst (λ n. AllZip R (take n (z ∷ zs)) (y ∷ [])) (sym (one zero)) (subst (λ w. R w y) (one_first z x zs (drop (zero + 1) (z ∷ zs)) here) r, tt)
      by (z ∷ zs) zero (b ∷ bs) here before = absurd before
      by (z ∷ zs) (suc i) [] here before = absurd before
      by (z ∷ zs) (suc i) (b ∷ bs) here before = subst (λ n. AllZip R (take n (z ∷ zs)) (b ∷ (bs ++ y ∷ []))) (sym (one (suc i)))
          (subst (λ n. AllZip R (z ∷ take n zs) (b ∷ (bs ++ y ∷ []))) (one i) (before.0, by zs i bs (subst (λ n. drop i zs ≡ x ∷ drop n zs) (sym (one i)) (subst (λ n. drop i zs ≡ x ∷ drop n (z ∷ zs)) (one (suc i)) here)) before.1))

  -- all of them
  pub zip_all : (xs : List A) (i : ℕ) (ys : List B) → drop i xs ≡ [] → AllZip R (take i xs) ys → AllZip R xs ys
  zip_all [] zero ys e h = h
  zip_all [] (suc i) ys e h = h
  zip_all (x ∷ xs) zero ys e h = absurd (no_first x xs (sym e))
  zip_all (x ∷ xs) (suc i) [] e h = absurd h
  zip_all (x ∷ xs) (suc i) (y ∷ ys) e h = (h.0, zip_all xs i ys e h.1)
