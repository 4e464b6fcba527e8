-- What is kept while a function is visited with all that it reaches.
use Rattle.std.proofs.Common.{arith, ◌≡◌, ◌⊎◌, inl, inr, ℕ, ◌+◌, ◌<◌, ◌≤◌, List, [], ◌∷◌, ◌++◌, nat_eq, Contains, Some, length, slice_get, get_or, take, refl, sym, ap, ◌∙◌, subst, eqb-true}
use Rattle.std.proofs.lemmas.List.{take_more}
use Rattle.std.proofs.lemmas.List.Elements.{Contains-append_left, Contains-push, Contains-push_cases}
use Rattle.std.proofs.lemmas.Option.{same_Some}
use Rattle.root_functions.specs.declared.graph_roots.callees.Callees.{Callees}
use Rattle.path_model.specs.CheckerPrograms.Roots.{Reaches, Itself, Onward}
use Rattle.root_functions.specs.GraphRoots.Graphs.{LeadsIn, Entered, StaysWithin, AreClosed, AreWithin, IsVisited}
use Rattle.indexmap.specs.IndexSet.{insert_key}
use Rattle.least_set.specs.Logs.{Adds, IsExactly}
use Rattle.least_set.proofs.Growing.{nothing, place_of, at_place, stays, kept, either, before_or_at, adds_one, adds_both, adds_next, all_of}

-- one more of a list is inserted
pub add_next : (xs : List ℕ) (i d : ℕ) (old mid new : List ℕ) → i < length xs → Adds (Contains (take i xs)) old mid → new ≡ insert_key nat_eq mid (get_or xs i d) → Adds (Contains (take (i + 1) xs)) old new
add_next xs i d old mid new h a e =
    let x = get_or xs i d in
    let one = subst (λ n. Adds (λ c. x ≡ c) mid n) (sym e) (adds_one nat_eq eqb-true mid x) in
    subst (λ l. Adds (Contains l) old new) (sym (take_more xs i d h)) (adds_both {R = Contains (take i xs ++ (x ∷ []))} a one
    (λ y w. Contains-push_cases (take i xs) x y w)
    (λ y w. Contains-append_left (take i xs) (x ∷ []) y w)
    (λ y w. subst (Contains (take i xs ++ (x ∷ []))) w (Contains-push (take i xs) x)))

-- what one more function leads to is added
pub entered_next : (rows : List Callees) (i : ℕ) (row : Callees) (old mid new : List ℕ) → i < length rows → row ≡ get_or rows i row → Adds (Entered (take i rows)) old mid → Adds (Contains row.numbers.items) mid new → Adds (Entered (take (i + 1) rows)) old new
entered_next rows i row old mid new h e v w = adds_next (λ (r : Callees) (f : ℕ). Contains r.numbers.items f) rows i row h v (subst (λ (r : Callees). Adds (Contains r.numbers.items) mid new) e w)

pub entered_all : (rows items : List Callees) (i : ℕ) (keys : List ℕ) → rows ≡ items → length rows ≤ i → i ≤ length rows → Adds (Entered (take i rows)) [] keys → IsExactly keys (Entered items)
entered_all rows items i keys e h k v =
    let w = all_of (λ xs. Adds (Entered xs) [] keys) rows i h k v in
    subst (λ xs. IsExactly keys (Entered xs)) e (λ f m. elim (either w f m) [ inl o ↦ absurd (nothing f o) | inr s ↦ s ], w.added)

module _ (rows : List Callees) (old : List ℕ) (root : ℕ) where
  -- The functions before i are worked off.
  pub record Visits (i : ℕ) (log : List ℕ) : Type 0 where
    pub only : (f : ℕ) → Contains log f → Contains old f ⊎ Reaches (LeadsIn rows) root f
    pub stay : (f : ℕ) → Contains old f → Contains log f
    pub begun : Contains log root
    pub gone : (j f g : ℕ) → j < i → slice_get log j ≡ Some f → LeadsIn rows f g → Contains log g

  pub visits_begin : (log : List ℕ) → AreClosed rows old → Adds (λ f. root ≡ f) old log → Visits (length old) log
  visits_begin log closed w = record {
    only = λ f m. elim (either w f m) [ inl o ↦ inl o | inr e ↦ inr (subst (λ g. Reaches (LeadsIn rows) root g) e (Itself root)) ];
    stay = kept w;
    begun = w.added root refl;
    gone = λ j f g h at s. kept w g (closed f g (at_place old j f (sym (stays w j h) ∙ at)) s);
  }

  leads_on : (f g : ℕ) → Contains old f ⊎ Reaches (LeadsIn rows) root f → AreClosed rows old → LeadsIn rows f g → Contains old g ⊎ Reaches (LeadsIn rows) root g
  leads_on f g (inl o) closed s = inl (closed f g o s)
  leads_on f g (inr r) closed s = inr (Onward r s)

  pub visits_more : (i f : ℕ) (row : Callees) (log new : List ℕ) → AreClosed rows old → Visits i log → i < length log → slice_get log i ≡ Some f → slice_get rows f ≡ Some row
      → Adds (Contains row.numbers.items) log new → Visits (i + 1) new
  visits_more i f row log new closed v h is at_f w = record {
    only = λ g m. elim (either w g m) [ inl o ↦ v.only g o | inr c ↦ leads_on f g (v.only f (at_place log i f is)) closed (row, at_f, c) ];
    stay = λ g o. kept w g (v.stay g o);
    begun = kept w root v.begun;
    gone = λ j e g k at s. elim (before_or_at i j k) [
      | inl b ↦ kept w g (v.gone j e g b (sym (stays w j (omega arith)) ∙ at) s)
      | inr q ↦ w.added g (called_by e g (same_Some _ _ (sym at ∙ ap (slice_get new) q ∙ stays w i h ∙ is)) s)
    ];
  }
    where
      called_by : (e g : ℕ) → e ≡ f → LeadsIn rows e g → Contains row.numbers.items g
      called_by e g q s = subst (λ (r : Callees). Contains r.numbers.items g) (same_Some _ _ (sym s.1 ∙ ap (slice_get rows) q ∙ at_f)) s.2

  reached : (log : List ℕ) → Contains log root → ((f g : ℕ) → Contains log f → LeadsIn rows f g → Contains log g) → {a g : ℕ} → a ≡ root → Reaches (LeadsIn rows) a g → Contains log g
  reached log b on e (Itself f) = subst (Contains log) (sym e) b
  reached log b on e (Onward {g = g} {h = h} r s) = on g h (reached log b on e r) s

  -- once all are worked off
  pub visits_all : (i : ℕ) (log : List ℕ) → Visits i log → length log ≤ i → IsVisited rows old root log
  visits_all i log v h = (v.only, λ f c. elim c [ inl o ↦ v.stay f o | inr r ↦ reached log v.begun on refl r ])
    where
      on : (f g : ℕ) → Contains log f → LeadsIn rows f g → Contains log g
      on f g m s = let p = place_of log f m in v.gone p.0 f g (omega (arith, p.1)) p.2 s

  -- what is reached is among the functions
  reach_within : StaysWithin rows → root < length rows → {a g : ℕ} → a ≡ root → Reaches (LeadsIn rows) a g → g < length rows
  reach_within within r e (Itself f) = subst (λ x. x < length rows) (sym e) r
  reach_within within r e (Onward {g = g} {h = h} p s) = within g h s

  pub visits_within : (i : ℕ) (log : List ℕ) → StaysWithin rows → root < length rows → AreWithin rows old → Visits i log → AreWithin rows log
  visits_within i log within r known v f m = elim (v.only f m) [ inl o ↦ known f o | inr p ↦ reach_within within r refl p ]
