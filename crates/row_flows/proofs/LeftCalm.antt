-- Events that leave a tuple alone: behind them it stands alone, and nothing is noted.
use Rattle.std.proofs.Common.{◌≡◌, ◌∙◌, refl, sym, ap, ℕ, ◌+◌, suc, arith, nat_eq, nat_lt, Bool, true, false, not, ◌&&◌, ◌||◌, List, [], ◌∷◌, ◌++◌, length, None, Some, append-nil, true≢false}
use Rattle.std.proofs.lemmas.Bool.{le-ltb}
use Rattle.std.specs.Prelude.{cond, flat_map, map, option_and_then, position, slice_get}
use Rattle.std.specs.List.{list_all, list_any, position_or_len, prefix_len}
use Rattle.std.specs.Option.{option_map_or}
use Rattle.least_set.specs.Ways.Same.{both}
use Rattle.row_flows.specs.Behind.{behind, chosen, fired, firings, given, if_kept, moved, noted_at, touches, with_object}
use Rattle.row_flows.specs.Calm.{begins_in_object, is_calm, leaves, spares}
use Rattle.row_flows.specs.Concerns.{all_calm}
use Rattle.row_flows.specs.Crossing.{ends, shown}
use Rattle.row_flows.specs.Choices.{bare, begins_globally, begins_known, global_behind, global_takes, is_asked, known_takes, leads_globally, next_global, next_state, state_behind, taken_place, takes, unknown_takes}
use Rattle.row_flows.specs.declared.rows.Applied.{Applied}
use Rattle.row_flows.specs.declared.rows.EventRow.{EventRow}
use Rattle.row_flows.specs.declared.rows.NumberedSource.{NumberedSource}
use Rattle.row_flows.specs.declared.rows.NumberedSource.TheVariants as source
use Rattle.row_flows.specs.declared.rows.Touched.{Touched}
use Rattle.row_flows.specs.declared.tuples.NumberedTuple.{NumberedTuple}

-- ---- tests

not_so : (b : Bool) → not b ≡ true → b ≡ false
not_so true h = absurd (true≢false (sym h))
not_so false h = refl

and_false : (b : Bool) → b && false ≡ false
and_false true = refl
and_false false = refl

either : (a b : Bool) → a ≡ false → a || b ≡ true → b ≡ true
either true b e h = absurd (true≢false e)
either false b e h = h

first_false : (a : Bool) → a && true ≡ false → a ≡ false
first_false true h = h
first_false false h = refl

not_less : (n : ℕ) → nat_lt n n ≡ false
not_less n = le-ltb n n (omega arith)

-- ---- none passes

one_more : (n : ℕ) → 1 + n ≡ suc n
one_more n = omega arith

module _ {A : Type 0} (p : A → Bool) where
  passed_over : (xs : List A) → list_all (λ x. not (p x)) xs ≡ true → prefix_len (λ x. not (p x)) xs ≡ length xs
  passed_over [] h = refl
  passed_over (x ∷ xs) h =
      let k = both (not (p x)) (list_all (λ y. not (p y)) xs) h in
      ap (λ b. cond b (1 + prefix_len (λ y. not (p y)) xs) 0) k.0 ∙ ap (λ n. 1 + n) (passed_over xs k.1) ∙ one_more (length xs)

  pub no_position : (xs : List A) → list_all (λ x. not (p x)) xs ≡ true → position p xs ≡ None
  no_position xs h =
      let e = passed_over xs h in
      ap (λ n. cond (nat_lt n (length xs)) (Some (position_or_len p xs)) None) e ∙ ap (λ b. cond b (Some (position_or_len p xs)) None) (not_less (length xs))

-- one test after another
all_weaker : {A : Type 0} (p q : A → Bool) (xs : List A) → ((x : A) → p x ≡ true → q x ≡ true) → list_all p xs ≡ true → list_all q xs ≡ true
all_weaker p q [] w h = refl
all_weaker p q (x ∷ xs) w h = let k = both (p x) (list_all p xs) h in ap (λ b. b && list_all q xs) (w x k.0) ∙ all_weaker p q xs w k.1

not_by : (b : Bool) → b ≡ false → not b ≡ true
not_by b e = ap not e

-- ---- moves

untouched : (n : ℕ) (ts : List Touched) → list_all (spares n) ts ≡ true → list_any (touches n) ts ≡ false
untouched n [] h = refl
untouched n (x ∷ xs) h =
    let k = both (spares n x) (list_all (spares n) xs) h in
    let s = both (not (nat_eq x.object n)) (not (nat_eq x.source n)) k.0 in
    ap (λ b. b || list_any (touches n) xs) (not_so (nat_eq x.object n) s.0) ∙ untouched n xs k.1

gives_none : (t : NumberedTuple) (ts : List Touched) → list_all (spares t.object) ts ≡ true → flat_map (given t) ts ≡ []
gives_none t [] h = refl
gives_none t (x ∷ xs) h =
    let k = both (spares t.object x) (list_all (spares t.object) xs) h in
    let s = both (not (nat_eq x.object t.object)) (not (nat_eq x.source t.object)) k.0 in
    ap (λ b. cond b (with_object t x.object ∷ []) [] ++ flat_map (given t) xs) (not_so (nat_eq x.source t.object) s.1) ∙ gives_none t xs k.1

stays : (row : EventRow) (t : NumberedTuple) → list_all (spares t.object) row.touched.items ≡ true → moved row t ≡ t ∷ []
stays row t h =
    ap (λ b. if_kept t b ++ flat_map (given t) row.touched.items) (untouched t.object row.touched.items h)
    ∙ ap (λ l. t ∷ l) (gives_none t row.touched.items h)

-- ---- choices

no_exit : (x : ℕ) (is_exit : Bool) (s : NumberedSource) → is_exit && begins_in_object s ≡ false → begins_known x s && (is_exit || false) ≡ false
no_exit x is_exit (source.Global q) h = refl
no_exit x is_exit (source.Object q) h = ap (λ b. nat_eq q x && (b || false)) (first_false is_exit h) ∙ and_false (nat_eq q x)

global_leaves : (g : ℕ) (a : Applied) → leads_globally a.target ≡ false → global_takes g a ≡ false
global_leaves g a e = ap (λ b. begins_globally g a.source && b) e ∙ and_false (begins_globally g a.source)

object_leaves : (is_exit : Bool) (t : NumberedTuple) (a : Applied) (b : Bool) → leads_globally a.target ≡ false → nat_eq a.object t.object ≡ false → is_exit && begins_in_object a.source ≡ false
    → cond b (unknown_takes t.global t.object a) (known_takes is_exit t.state t.object a) ≡ false
object_leaves is_exit t a true e o x =
    ap (λ b. begins_globally t.global a.source && (not b && nat_eq a.object t.object)) e
    ∙ ap (λ b. begins_globally t.global a.source && b) o ∙ and_false (begins_globally t.global a.source)
object_leaves is_exit t a false e o x = ap (λ b. begins_known t.state a.source && (is_exit || b)) o ∙ no_exit t.state is_exit a.source x

not_taken : (is_exit : Bool) (t : NumberedTuple) (a : Applied) → leaves t.object is_exit a ≡ true → not (takes is_exit t a) ≡ true
not_taken is_exit t a h =
    let k = both (not (leads_globally a.target)) (nat_eq t.object 0 || (not (nat_eq a.object t.object) && not (is_exit && begins_in_object a.source))) h in
    not_by (takes is_exit t a) (by (nat_eq t.object 0) refl (not_so (leads_globally a.target) k.0) k.1)
  where
    by : (b : Bool) → nat_eq t.object 0 ≡ b → leads_globally a.target ≡ false → nat_eq t.object 0 || (not (nat_eq a.object t.object) && not (is_exit && begins_in_object a.source)) ≡ true
        → takes is_exit t a ≡ false
    by true e g o = ap (λ b. cond b (global_takes t.global a) (cond (nat_eq t.state 0) (unknown_takes t.global t.object a) (known_takes is_exit t.state t.object a))) e ∙ global_leaves t.global a g
    by false e g o =
        let r = either (nat_eq t.object 0) (not (nat_eq a.object t.object) && not (is_exit && begins_in_object a.source)) e o in
        let s = both (not (nat_eq a.object t.object)) (not (is_exit && begins_in_object a.source)) r in
        ap (λ b. cond b (global_takes t.global a) (cond (nat_eq t.state 0) (unknown_takes t.global t.object a) (known_takes is_exit t.state t.object a))) e
        ∙ object_leaves is_exit t a (nat_eq t.state 0) g (not_so (nat_eq a.object t.object) s.0) (not_so (is_exit && begins_in_object a.source) s.1)

global_not_taken : (n : ℕ) (is_exit : Bool) (g : ℕ) (a : Applied) → leaves n is_exit a ≡ true → not (takes is_exit (bare g) a) ≡ true
global_not_taken n is_exit g a h =
    let k = both (not (leads_globally a.target)) (nat_eq n 0 || (not (nat_eq a.object n) && not (is_exit && begins_in_object a.source))) h in
    not_by (global_takes g a) (global_leaves g a (not_so (leads_globally a.target) k.0))

no_place : (row : EventRow) (is_root : Bool) (own : List Bool) (t : NumberedTuple) → position (takes row.is_exit t) row.applied.items ≡ None → taken_place row is_root own t ≡ None
no_place row is_root own t e = by (nat_eq t.global 1 || not (is_asked row is_root own t.object))
  where
    by : (b : Bool) → cond b None (position (takes row.is_exit t) row.applied.items) ≡ None
    by true = refl
    by false = e

module _ (row : EventRow) (is_root : Bool) (own : List Bool) (t : NumberedTuple) (calm : is_calm row t.object ≡ true) where
  parts : (list_all (spares t.object) row.touched.items ≡ true) × (list_all (leaves t.object row.is_exit) row.applied.items ≡ true)
  parts = both (list_all (spares t.object) row.touched.items) (list_all (leaves t.object row.is_exit) row.applied.items) calm

  untaken : taken_place row is_root own t ≡ None
  untaken = no_place row is_root own t (no_position (takes row.is_exit t) row.applied.items (all_weaker (leaves t.object row.is_exit) (λ a. not (takes row.is_exit t a)) row.applied.items (not_taken row.is_exit t) parts.1))

  global_untaken : taken_place row is_root own (bare t.global) ≡ None
  global_untaken = no_place row is_root own (bare t.global) (no_position (takes row.is_exit (bare t.global)) row.applied.items
      (all_weaker (leaves t.object row.is_exit) (λ a. not (takes row.is_exit (bare t.global) a)) row.applied.items (global_not_taken t.object row.is_exit t.global) parts.1))

  same_global : next_global row is_root own t.global ≡ t.global
  same_global = ap (λ o. option_map_or (λ (a : Applied). global_behind a.target t.global) (option_and_then (slice_get row.applied.items) o) t.global) global_untaken

  same_state : next_state row is_root own t ≡ t.state
  same_state = ap (λ o. option_map_or (λ (a : Applied). state_behind a.target t.state) (option_and_then (slice_get row.applied.items) o) t.state) untaken

  same_tuple : chosen row is_root own (next_global row is_root own t.global) t ≡ t
  same_tuple = λ i. record { global = same_global i; state = same_state i; object = t.object }

  -- BEHIND THE EVENT the tuple stands alone,
  pub calm_behind : behind row is_root own t ≡ t ∷ []
  calm_behind = ap (map (chosen row is_root own (next_global row is_root own t.global))) (stays row t parts.0) ∙ ap (λ u. u ∷ []) same_tuple

  -- and nothing is noted
  pub calm_firings : (event : ℕ) → firings event row is_root own t ≡ []
  calm_firings event = ap (flat_map (fired event row is_root own)) (stays row t parts.0)
      ∙ ap (λ o. option_map_or (noted_at event t.object row.applied.items) o [] ++ []) untaken

-- over all events of a block
module _ (is_root : Bool) (own : List Bool) (t : NumberedTuple) where
  pub calm_ends : (rows : List EventRow) → all_calm t.object rows ≡ true → ends rows is_root own t ≡ t ∷ []
  calm_ends [] h = refl
  calm_ends (row ∷ rows) h =
      let k = both (is_calm row t.object) (all_calm t.object rows) h in
      ap (flat_map (ends rows is_root own)) (calm_behind row is_root own t k.0) ∙ append-nil (ends rows is_root own t) ∙ calm_ends rows k.1

  pub calm_shown : (event : ℕ) (rows : List EventRow) → all_calm t.object rows ≡ true → shown event rows is_root own t ≡ []
  calm_shown event [] h = refl
  calm_shown event (row ∷ rows) h =
      let k = both (is_calm row t.object) (all_calm t.object rows) h in
      ap (λ l. l ++ flat_map (shown (event + 1) rows is_root own) (behind row is_root own t)) (calm_firings row is_root own t k.0 event)
      ∙ ap (flat_map (shown (event + 1) rows is_root own)) (calm_behind row is_root own t k.0)
      ∙ append-nil (shown (event + 1) rows is_root own t) ∙ calm_shown (event + 1) rows k.1
