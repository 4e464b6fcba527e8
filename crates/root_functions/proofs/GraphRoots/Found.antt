-- The roots are found one after the other.
use Rattle.std.proofs.Common.{arith, ◌≡◌, ◌⊎◌, inl, inr, ℕ, suc, ◌+◌, ◌<◌, List, [], ◌∷◌, ◌++◌, Bool, true, false, true≢false, nat_eq, Contains, AllPairs, length, get_or, refl, sym, ap, ◌∙◌, subst, subst₂, append_assoc, append-nil, add-one, eqb-true}
use Rattle.std.specs.Cmp.{nat_eq_equiv}
use Rattle.std.specs.List.{list_any}
use Rattle.std.proofs.lemmas.List.{get_or_append_left, get_or_push, length_push}
use Rattle.std.proofs.lemmas.List.Elements.{Contains-append_left, Contains-push, Contains-push_cases, Contains-get_or}
use Rattle.std.proofs.lemmas.Option.{slice_get_within}
use Rattle.std.proofs.lemmas.Map.Views.{Contains-from_any, list_any-from_Contains}
use Rattle.root_functions.specs.declared.graph_roots.callees.Callees.{Callees}
use Rattle.path_model.specs.CheckerPrograms.Roots.{Reaches, Itself, Onward, IsUncalled, IsRootBelow, IsRoot}
use Rattle.path_model.proofs.CheckerPrograms.EarlierRoots.{root_below, root_of_below, below_of_root}
use Rattle.root_functions.specs.GraphRoots.Graphs.{LeadsIn, Entered}
use Rattle.root_functions.specs.GraphRoots.Listed.{AreListed}
use Rattle.root_functions.specs.GraphRoots.Searches.{unless, AreReached, HasUncalled, HasOthers}
use Rattle.least_set.specs.Logs.{IsExactly}
use Rattle.least_set.proofs.Growing.{nothing, place_of, at_place, below_or, before_or_at}

-- what the set has, by its own test
pub is_among : (keys : List ℕ) (f : ℕ) → list_any (nat_eq f) keys ≡ true → Contains keys f
is_among keys f h = Contains-from_any {eq = nat_eq} eqb-true f keys h

pub not_among : (keys : List ℕ) (f : ℕ) → list_any (nat_eq f) keys ≡ false → Contains keys f → ⊥
not_among keys f h m = true≢false (sym (list_any-from_Contains {eq = nat_eq} nat_eq_equiv f keys m) ∙ h)

rise-push : (xs : List ℕ) (f : ℕ) → AllPairs (λ a b. a < b) xs → ((a : ℕ) → Contains xs a → a < f) → AllPairs (λ a b. a < b) (xs ++ (f ∷ []))
rise-push xs f h below i j d k within = elim (below_or j (length xs)) [
  | inl l ↦ subst₂ (λ a b. a < b) (sym (left i (omega (arith, k, l)))) (sym (left j l)) (h i j d k l)
  | inr l ↦ subst₂ (λ a b. a < b) (sym (left i (omega (arith, k, long, within)))) (sym (get_or_push xs f d j (omega (arith, l, long, within)))) (below _ (Contains-get_or xs i d (omega (arith, k, long, within))))
]
  where
    long : length (xs ++ (f ∷ [])) ≡ length xs + 1
    long = length_push xs f

    left : (m : ℕ) → m < length xs → get_or (xs ++ (f ∷ [])) m d ≡ get_or xs m d
    left m l = get_or_append_left xs (f ∷ []) d m l

module _ (rows : List Callees) where
  abbrev L : ℕ → ℕ → Type 0
  L f g = LeadsIn rows f g

  -- what reaches a function is one itself
  reached_from : (g f : ℕ) → f < length rows → Reaches L g f → g < length rows
  reached_from g f h (Itself x) = h
  reached_from g f h (Onward {g = x} p s) = reached_from g x (let w = place_in x s in w) p
    where
      place_in : (x : ℕ) → L x f → x < length rows
      place_in x s = slice_get_within rows x s.0 s.1

  called_or_not : (called : List ℕ) (f : ℕ) → IsExactly called (Entered rows) → IsUncalled L f → Contains called f → ⊥
  called_or_not called f e none m = let s = e.0 f m in let p = place_of rows s.0 s.1 in none p.0 (s.0, p.2, s.2)

  uncalled_if : (called : List ℕ) (f : ℕ) → IsExactly called (Entered rows) → (Contains called f → ⊥) → IsUncalled L f
  uncalled_if called f e no_one g s = no_one (e.1 f (s.0, at_place rows g s.0 s.1, s.2))

  pub uncalled_none : (roots : List ℕ) → roots ≡ [] → HasUncalled rows 0 roots
  uncalled_none roots e = record {
    exact = (λ f m. absurd (nothing f (subst (λ xs. Contains xs f) e m)), λ f h. absurd (omega (arith, h.0)));
    rise = subst (λ xs. AllPairs (λ a b. a < b) xs) (sym e) (λ i j d k within. absurd (omega (arith, within)));
  }

  pub uncalled_next : (called : List ℕ) (known : Bool) (i : ℕ) (roots new : List ℕ) → IsExactly called (Entered rows) → known ≡ list_any (nat_eq i) called → new ≡ unless known roots i
      → HasUncalled rows i roots → HasUncalled rows (i + 1) new
  uncalled_next called true i roots new e k is u = subst (λ xs. HasUncalled rows (i + 1) xs) (sym is) (record {
    exact = (
      λ f m. let h = u.exact.0 f m in (omega (arith, h.0), h.1),
      λ f h. elim (before_or_at i f h.0) [
        | inl l ↦ u.exact.1 f (l, h.1)
        | inr q ↦ absurd (called_or_not called i e (subst (IsUncalled L) q h.1) (is_among called i (sym k)))
      ],
    );
    rise = u.rise;
  })
  uncalled_next called false i roots new e k is u = subst (λ xs. HasUncalled rows (i + 1) xs) (sym is) (record {
    exact = (
      λ f m. elim (Contains-push_cases roots i f m) [
        | inl o ↦ let h = u.exact.0 f o in (omega (arith, h.0), h.1)
        | inr q ↦ (omega (arith, q), subst (IsUncalled L) q (uncalled_if called i e (not_among called i (sym k))))
      ],
      λ f h. elim (before_or_at i f h.0) [
        | inl l ↦ Contains-append_left roots (i ∷ []) f (u.exact.1 f (l, h.1))
        | inr q ↦ subst (Contains (roots ++ (i ∷ []))) (sym q) (Contains-push roots i)
      ],
    );
    rise = rise-push roots i u.rise (λ a m. (u.exact.0 a m).0);
  })

  pub others_none : (uncalled roots : List ℕ) → roots ≡ uncalled → HasOthers rows 0 uncalled roots
  others_none uncalled roots e = record {
    others = [];
    in_order = e ∙ sym (append-nil uncalled);
    exact = (λ f m. inl (subst (λ xs. Contains xs f) e m), λ f h. elim h [ inl o ↦ subst (λ xs. Contains xs f) (sym e) o | inr r ↦ absurd r ]);
    last = λ f m. absurd (nothing f m);
    rise = λ i j d k within. absurd (omega (arith, within));
    below = λ f m. absurd (nothing f m);
  }

  module _ (uncalled : List ℕ) (first : HasUncalled rows (length rows) uncalled) (i : ℕ) (small : i < length rows) where
    -- it is reached already, or is the next root
    others_step : (known : Bool) (roots reached new : List ℕ) → known ≡ list_any (nat_eq i) reached → new ≡ unless known roots i
        → AreReached rows roots reached → HasOthers rows i uncalled roots → HasOthers rows (suc i) uncalled new
    others_step true roots reached new k is a o = subst (λ xs. HasOthers rows (suc i) uncalled xs) (sym is) (record {
      others = o.others;
      in_order = o.in_order;
      exact = (
        λ f m. elim (o.exact.0 f m) [ inl u ↦ inl u | inr r ↦ inr (inl r) ],
        λ f h. elim h [
          | inl u ↦ o.exact.1 f (inl u)
          | inr r ↦ elim r [
            | inl b ↦ o.exact.1 f (inr b)
            | inr q ↦ elim q.1 [
              | inl none ↦ o.exact.1 f (inl (subst (Contains uncalled) (sym q.0) (first.exact.1 i (small, none))))
              | inr free ↦ absurd (let s = a.exact.0 i (is_among reached i (sym k)) in free s.0 (elim (o.exact.0 s.0 s.1) [ inl u ↦ inl (first.exact.0 s.0 u).1 | inr b ↦ inr b ]) s.2)
            ]
          ]
        ],
      );
      last = o.last;
      rise = o.rise;
      below = λ f m. let h = o.below f m in omega arith;
    })
    others_step false roots reached new k is a o = subst (λ xs. HasOthers rows (suc i) uncalled xs) (sym is) (record {
      others = o.others ++ (i ∷ []);
      in_order = ap (λ xs. xs ++ (i ∷ [])) o.in_order ∙ append_assoc uncalled o.others (i ∷ []);
      exact = (
        λ f m. elim (Contains-push_cases roots i f m) [
          | inl b ↦ elim (o.exact.0 f b) [ inl u ↦ inl u | inr r ↦ inr (inl r) ]
          | inr q ↦ inr (inr (sym q, inr free))
        ],
        λ f h. elim h [
          | inl u ↦ Contains-append_left roots (i ∷ []) f (o.exact.1 f (inl u))
          | inr r ↦ elim r [
            | inl b ↦ Contains-append_left roots (i ∷ []) f (o.exact.1 f (inr b))
            | inr q ↦ subst (Contains (roots ++ (i ∷ []))) (sym q.0) (Contains-push roots i)
          ]
        ],
      );
      last = λ f m none. elim (Contains-push_cases o.others i f m) [
        | inl b ↦ o.last f b none
        | inr q ↦ free i (inl (subst (IsUncalled L) (sym q) none)) (Itself i)
      ];
      rise = rise-push o.others i o.rise o.below;
      below = λ f m. elim (Contains-push_cases o.others i f m) [ inl b ↦ (let h = o.below f b in omega arith) | inr q ↦ omega (arith, q) ];
    })
      where
        free : (g : ℕ) → IsUncalled L g ⊎ IsRootBelow L i g → Reaches L g i → ⊥
        free g (inl none) r = not_among reached i (sym k) (a.exact.1 i (g, o.exact.1 g (inl (first.exact.1 g (reached_from g i small r, none))), r))
        free g (inr b) r = not_among reached i (sym k) (a.exact.1 i (g, o.exact.1 g (inr b), r))

    pub others_next : (known : Bool) (roots reached new : List ℕ) → known ≡ list_any (nat_eq i) reached → new ≡ unless known roots i
        → AreReached rows roots reached → HasOthers rows i uncalled roots → HasOthers rows (i + 1) uncalled new
    others_next known roots reached new k is a o = subst (λ n. HasOthers rows n uncalled new) (sym (add-one i)) (others_step known roots reached new k is a o)

  -- THE LIST OF ROOTS, once all functions were gone through
  pub listed : (uncalled roots : List ℕ) → HasUncalled rows (length rows) uncalled → HasOthers rows (length rows) uncalled roots → AreListed (IsUncalled L) (IsRoot L) (length rows) roots
  listed uncalled roots u o = record {
    exact = λ f h. (
      λ m. elim (o.exact.0 f m) [ inl c ↦ inr (refl, inl (u.exact.0 f c).1) | inr b ↦ root_of_below L (length rows) f b ],
      λ r. o.exact.1 f (inr (below_of_root L (length rows) f h r)),
    );
    within = λ f m. elim (o.exact.0 f m) [ inl c ↦ (u.exact.0 f c).0 | inr b ↦ root_below L (length rows) f b ];
    uncalled = uncalled;
    others = o.others;
    in_order = o.in_order;
    first = λ f m. (u.exact.0 f m).1;
    last = o.last;
    first_rise = u.rise;
    last_rise = o.rise;
  }
