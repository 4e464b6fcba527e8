-- Objects that no event concerns are left calm.
use Rattle.std.proofs.Common.{◌≡◌, ◌∙◌, ◌⊎◌, inl, inr, refl, sym, ap, ℕ, nat_eq, Bool, true, false, not, ◌&&◌, ◌||◌, List, [], ◌∷◌, Contains, true≢false}
use Rattle.std.specs.Prelude.{cond, flat_map}
use Rattle.std.specs.List.{list_all, list_any}
use Rattle.std.proofs.lemmas.Bool.{eqb-true, eq-eqb}
use Rattle.std.proofs.lemmas.List.Folds.{list_any-append}
use Rattle.std.proofs.lemmas.Map.Views.{Contains-from_any}
use Rattle.std.proofs.lemmas.List.Elements.{Contains-append_cases}
use Rattle.least_set.proofs.Growing.{nothing}
use Rattle.row_flows.proofs.Lists.{the_one}
use Rattle.row_flows.specs.Calm.{begins_in_object, is_calm, leaves, spares}
use Rattle.row_flows.specs.Choices.{leads_globally}
use Rattle.row_flows.specs.Concerns.{all_calm, bound_numbers, concerned_by, moved_numbers, row_stirs, stirs}
use Rattle.row_flows.specs.declared.rows.Applied.{Applied}
use Rattle.row_flows.specs.declared.rows.EventRow.{EventRow}
use Rattle.row_flows.specs.declared.rows.Touched.{Touched}

neither : (a b : Bool) → a || b ≡ false → (a ≡ false) × (b ≡ false)
neither true b h = absurd (true≢false h)
neither false b h = (refl, h)

both_so : (a b : Bool) → a ≡ true → b ≡ true → a && b ≡ true
both_so a b e f = ap (λ c. c && b) e ∙ f

negated : (b : Bool) → b ≡ false → not b ≡ true
negated b e = ap not e

other_way : (a b : ℕ) → nat_eq a b ≡ false → nat_eq b a ≡ false
other_way a b h = by (nat_eq b a) refl
  where
    by : (c : Bool) → nat_eq b a ≡ c → nat_eq b a ≡ false
    by true e = absurd (true≢false (sym (eq-eqb a b (sym (eqb-true b a e))) ∙ h))
    by false e = e

spare : (n : ℕ) (xs : List Touched) → list_any (nat_eq n) (flat_map moved_numbers xs) ≡ false → list_all (spares n) xs ≡ true
spare n [] h = refl
spare n (x ∷ xs) h =
    let a = neither (nat_eq n x.object) (nat_eq n x.source || list_any (nat_eq n) (flat_map moved_numbers xs)) h in
    let b = neither (nat_eq n x.source) (list_any (nat_eq n) (flat_map moved_numbers xs)) a.1 in
    both_so (spares n x) (list_all (spares n) xs)
    (both_so (not (nat_eq x.object n)) (not (nat_eq x.source n)) (negated (nat_eq x.object n) (other_way n x.object a.0)) (negated (nat_eq x.source n) (other_way n x.source b.0)))
    (spare n xs b.1)

-- a followed object that an alternative hasn't bound, or none at all
unbound : (n : ℕ) (x : Applied) → list_any (nat_eq n) (bound_numbers x) ≡ false → (nat_eq n 0 ≡ true) ⊎ (nat_eq x.object n ≡ false)
unbound n x h = by (nat_eq x.object 0) refl
  where
    none_bound : nat_eq x.object 0 ≡ true → (b : Bool) → nat_eq n 0 ≡ b → (nat_eq n 0 ≡ true) ⊎ (nat_eq x.object n ≡ false)
    none_bound e true k = inl k
    none_bound e false k = inr (ap (λ o. nat_eq o n) (eqb-true x.object 0 e) ∙ other_way n 0 k)

    by : (b : Bool) → nat_eq x.object 0 ≡ b → (nat_eq n 0 ≡ true) ⊎ (nat_eq x.object n ≡ false)
    by true e = none_bound e (nat_eq n 0) refl
    by false e =
        let listed = ap (λ b. list_any (nat_eq n) (cond b [] (x.object ∷ []))) (sym e) ∙ h in
        inr (other_way n x.object (neither (nat_eq n x.object) false listed).0)

leave : (n : ℕ) (is_exit : Bool) (xs : List Applied) → list_any (nat_eq n) (flat_map bound_numbers xs) ≡ false → list_any (stirs is_exit) xs ≡ false → list_all (leaves n is_exit) xs ≡ true
leave n is_exit [] h s = refl
leave n is_exit (x ∷ xs) h s =
    let a = neither (list_any (nat_eq n) (bound_numbers x)) (list_any (nat_eq n) (flat_map bound_numbers xs)) (sym (list_any-append (nat_eq n) (bound_numbers x) (flat_map bound_numbers xs)) ∙ h) in
    let b = neither (stirs is_exit x) (list_any (stirs is_exit) xs) s in
    let c = neither (leads_globally x.target) (is_exit && begins_in_object x.source) b.0 in
    let alone : (nat_eq x.object n ≡ false) → not (nat_eq x.object n) && not (is_exit && begins_in_object x.source) ≡ true = λ e. both_so (not (nat_eq x.object n)) (not (is_exit && begins_in_object x.source)) (negated (nat_eq x.object n) e) (negated (is_exit && begins_in_object x.source) c.1) in
    let left : nat_eq n 0 || (not (nat_eq x.object n) && not (is_exit && begins_in_object x.source)) ≡ true = elim (unbound n x a.0) [
      | inl e ↦ ap (λ b. b || (not (nat_eq x.object n) && not (is_exit && begins_in_object x.source))) e
      | inr e ↦ at_last (nat_eq n 0) _ (alone e)
    ] in
    both_so (leaves n is_exit x) (list_all (leaves n is_exit) xs)
    (both_so (not (leads_globally x.target)) (nat_eq n 0 || (not (nat_eq x.object n) && not (is_exit && begins_in_object x.source))) (negated (leads_globally x.target) c.0) left)
    (leave n is_exit xs a.1 b.1)
  where
    at_last : (b c : Bool) → c ≡ true → b || c ≡ true
    at_last true c e = refl
    at_last false c e = e

row_calm : (n : ℕ) (row : EventRow) → list_any (nat_eq n) (concerned_by row) ≡ false → row_stirs row ≡ false → is_calm row n ≡ true
row_calm n row h s =
    let a = neither (list_any (nat_eq n) (flat_map moved_numbers row.touched.items)) (list_any (nat_eq n) (flat_map bound_numbers row.applied.items))
    (sym (list_any-append (nat_eq n) (flat_map moved_numbers row.touched.items) (flat_map bound_numbers row.applied.items)) ∙ h) in
    both_so (list_all (spares n) row.touched.items) (list_all (leaves n row.is_exit) row.applied.items) (spare n row.touched.items a.0) (leave n row.is_exit row.applied.items a.1 s)

unconcerned : (n : ℕ) (rows : List EventRow) → list_any (nat_eq n) (flat_map concerned_by rows) ≡ false → list_any row_stirs rows ≡ false → all_calm n rows ≡ true
unconcerned n [] h s = refl
unconcerned n (row ∷ rows) h s =
    let a = neither (list_any (nat_eq n) (concerned_by row)) (list_any (nat_eq n) (flat_map concerned_by rows)) (sym (list_any-append (nat_eq n) (concerned_by row) (flat_map concerned_by rows)) ∙ h) in
    let b = neither (row_stirs row) (list_any row_stirs rows) s in
    both_so (is_calm row n) (all_calm n rows) (row_calm n row a.0 b.0) (unconcerned n rows a.1 b.1)

there : (n : ℕ) (xs : List ℕ) → Contains xs n → list_any (nat_eq n) xs ≡ true
there n [] c = absurd (nothing n c)
there n (x ∷ xs) c = elim (Contains-append_cases (x ∷ []) xs n c) [
  | inl a ↦ ap (λ b. b || list_any (nat_eq n) xs) (eq-eqb n x (sym (the_one x n a)))
  | inr b ↦ last (nat_eq n x) (list_any (nat_eq n) xs) (there n xs b)
]
  where
    last : (b c : Bool) → c ≡ true → b || c ≡ true
    last true c e = refl
    last false c e = e

fewer : (n : ℕ) (xs ys : List ℕ) → ((m : ℕ) → Contains xs m → Contains ys m) → list_any (nat_eq n) ys ≡ false → list_any (nat_eq n) xs ≡ false
fewer n xs ys within h = by (list_any (nat_eq n) xs) refl
  where
    by : (b : Bool) → list_any (nat_eq n) xs ≡ b → list_any (nat_eq n) xs ≡ false
    by true e = absurd (true≢false (sym (there n ys (within n (Contains-from_any eqb-true n xs e))) ∙ h))
    by false e = e

-- A NUMBER THAT ISN'T COLLECTED is that of an object that is left calm
pub left_calm : (rows : List EventRow) (collected : List ℕ) → ((m : ℕ) → Contains (flat_map concerned_by rows) m → Contains collected m) → list_any row_stirs rows ≡ false
    → (n : ℕ) → list_any (nat_eq n) collected ≡ false → all_calm n rows ≡ true
left_calm rows collected within s n h = unconcerned n rows (fewer n (flat_map concerned_by rows) collected within h) s
