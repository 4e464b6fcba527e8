-- A block that leads to one other may have that block's events and end as its own, whatever else leads there.
use Rattle.std.proofs.Common.{◌≡◌, ◌≢◌, ◌↔◌, ℕ, zero, suc, true, false, List, [], ◌∷◌, ◌++◌, ◌⊎◌, inl, inr, Option, Some, None, refl, sym, ap, ◌∙◌, subst, append_assoc}
use Rattle.std.specs.Prelude.{slice_get, slice_set}
use Rattle.std.proofs.lemmas.Bool.Decides.{eqb_tells}
use Rattle.std.proofs.Math.Dec.{eqb}
use Rattle.std.proofs.lemmas.List.{append-nil}
use Rattle.flow_graph.specs.CPaths.Events.{Event, Item}
use Rattle.flow_graph.specs.CPaths.Graphs.{Block, Ending, ToAny, Calls, Stops, marks_of, Leaves, AtBlock, Walks, GraphTrace}
use Rattle.flow_graph.specs.CPaths.Fragments.{Has}
use Rattle.flow_graph.proofs.CPaths.GraphWalks.{marks_append, leaves_maps, walks_more, opened, closed}

get_same : (g : List Block) (b : ℕ) (s t : Block) → slice_get g b ≡ Some t → slice_get (slice_set g b s) b ≡ Some s
get_same [] b s t e = cc
get_same (x ∷ g) zero s t e = refl
get_same (x ∷ g) (suc b) s t e = get_same g b s t e

get_other : (g : List Block) (b x : ℕ) (s : Block) → x ≢ b → slice_get (slice_set g b s) x ≡ slice_get g x
get_other [] b x s n = refl
get_other (y ∷ g) zero zero s n = absurd (n refl)
get_other (y ∷ g) zero (suc x) s n = refl
get_other (y ∷ g) (suc b) zero s n = refl
get_other (y ∷ g) (suc b) (suc x) s n = get_other g b x s (λ q. n (ap suc q))

leaves_nil : (f : ℕ → List Item → Type 0) (e : Ending) → Leaves f e []
leaves_nil f (ToAny bs) = inl refl
leaves_nil f (Calls s b) = inl refl
leaves_nil f Stops = refl

module _ (g : List Block) (b c : ℕ) (es fs : List Event) (e : Ending) (at_b : Has g b es (ToAny (c ∷ []))) (at_c : Has g c fs e) where
  abbrev joined : Block
  joined = record { events = es ++ fs; ending = e }

  abbrev pub inlined : List Block
  inlined = slice_set g b joined

  here : slice_get inlined b ≡ Some joined
  here = get_same g b joined _ at_b

  -- one more step in the new graph
  leaves_on : (n : ℕ) → ((y : ℕ) (r : List Item) → Walks g n y r → (m : ℕ) × (rest : List Item) × Walks inlined m y (r ++ rest)) → (d : Ending) (r : List Item) → Leaves (Walks g n) d r → (m : ℕ) × (rest : List Item) × Leaves (Walks inlined m) d (r ++ rest)
  leaves_on n ih (ToAny bs) r (inl q) = (0, [], inl (append-nil r ∙ q))
  leaves_on n ih (ToAny bs) r (inr (y, i, w)) = let a = ih y r w in (a.0, a.1, inr (y, i, a.2))
  leaves_on n ih (Calls s y) r (inl q) = (0, [], inl (append-nil r ∙ q))
  leaves_on n ih (Calls s y) r (inr (u, w, q)) = let a = ih y u w in (a.0, a.1, inr (u ++ a.1, a.2, ap (λ z. z ++ a.1) q))
  leaves_on n ih Stops r q = (0, [], append-nil r ∙ q)

  block_on : (n : ℕ) → ((y : ℕ) (r : List Item) → Walks g n y r → (m : ℕ) × (rest : List Item) × Walks inlined m y (r ++ rest)) → (o : Option Block) (l : List Item) → AtBlock (Walks g n) o l → (m : ℕ) × (rest : List Item) × AtBlock (Walks inlined m) o (l ++ rest)
  block_on n ih None l q = (0, [], append-nil l ∙ q)
  block_on n ih (Some s) l (inl q) = (0, [], inl (append-nil l ∙ q))
  block_on n ih (Some s) l (inr (r, v, q)) =
      let a = leaves_on n ih s.ending r v in
      (a.0, a.1, inr (r ++ a.1, a.2, ap (λ z. z ++ a.1) q ∙ append_assoc (marks_of s.events) r a.1))

  -- the block's own events alone are a beginning of the joined ones
  stops_between : (l : List Item) → l ≡ marks_of es → (m : ℕ) × (rest : List Item) × Walks inlined m b (l ++ rest)
  stops_between l q =
      (1, marks_of fs, closed inlined 0 b joined (l ++ marks_of fs) here (inr ([], leaves_nil (Walks inlined 0) e, ap (λ z. z ++ marks_of fs) q ∙ sym (marks_append es fs) ∙ sym (append-nil (marks_of (es ++ fs))))))

  through : (n : ℕ) → ((y : ℕ) (r : List Item) → Walks g n y r → (m : ℕ) × (rest : List Item) × Walks inlined m y (r ++ rest)) → (l r : List Item) → l ≡ marks_of es ++ r → Walks g n c r → (m : ℕ) × (rest : List Item) × Walks inlined m b (l ++ rest)
  through zero ih l r q w = stops_between l (q ∙ ap (λ z. marks_of es ++ z) w ∙ append-nil (marks_of es))
  through (suc n) ih l r q w = cases (opened g n c (record { events = fs; ending = e }) r at_c w)
    where
      cases : AtBlock (Walks g n) (Some (record { events = fs; ending = e })) r → (m : ℕ) × (rest : List Item) × Walks inlined m b (l ++ rest)
      cases (inl h) = stops_between l (q ∙ ap (λ z. marks_of es ++ z) h ∙ append-nil (marks_of es))
      cases (inr (u, v, h)) =
          let a = leaves_on (suc n) ih e u (leaves_maps (Walks g n) (Walks g (suc n)) (λ y z k. walks_more g n y z k) e u v) in
          let same : l ++ a.1 ≡ marks_of (es ++ fs) ++ (u ++ a.1) = ap (λ z. z ++ a.1) (q ∙ ap (λ z. marks_of es ++ z) h ∙ sym (append_assoc (marks_of es) (marks_of fs) u)) ∙ append_assoc (marks_of es ++ marks_of fs) u a.1 ∙ ap (λ z. z ++ (u ++ a.1)) (sym (marks_append es fs)) in
          (suc a.0, a.1, closed inlined a.0 b joined (l ++ a.1) here (inr (u ++ a.1, a.2, same)))

  there : (n x : ℕ) (l : List Item) → Walks g n x l → (m : ℕ) × (rest : List Item) × Walks inlined m x (l ++ rest)
  there zero x l w = (0, [], append-nil l ∙ w)
  there (suc n) x l w = go (λ y r v. there n y r v) (eqb_tells x b)
    where
      at_b_too : ((y : ℕ) (r : List Item) → Walks g n y r → (m : ℕ) × (rest : List Item) × Walks inlined m y (r ++ rest)) → AtBlock (Walks g n) (Some (record { events = es; ending = ToAny (c ∷ []) })) l → (m : ℕ) × (rest : List Item) × Walks inlined m b (l ++ rest)
      at_b_too ih (inl h) = (0, [], append-nil l ∙ h)
      at_b_too ih (inr (r, inl h, q)) = stops_between l (q ∙ ap (λ z. marks_of es ++ z) h ∙ append-nil (marks_of es))
      at_b_too ih (inr (r, inr (y, inl i, v), q)) = through n ih l r q (subst (λ z. Walks g n z r) i v)
      at_b_too ih (inr (r, inr (y, inr i, v), q)) = absurd i

      go : ((y : ℕ) (r : List Item) → Walks g n y r → (m : ℕ) × (rest : List Item) × Walks inlined m y (r ++ rest)) → ((eqb x b ≡ true) × (x ≡ b)) ⊎ ((eqb x b ≡ false) × (x ≢ b)) → (m : ℕ) × (rest : List Item) × Walks inlined m x (l ++ rest)
      go ih (inl p) =
          let a = at_b_too ih (opened g n b (record { events = es; ending = ToAny (c ∷ []) }) l at_b (subst (λ z. Walks g (suc n) z l) p.1 w)) in
          (a.0, a.1, subst (λ z. Walks inlined a.0 z (l ++ a.1)) (sym p.1) a.2)
      go ih (inr p) =
          let a = block_on n ih (slice_get g x) l w in
          (suc a.0, a.1, subst (λ o. AtBlock (Walks inlined a.0) o (l ++ a.1)) (sym (get_other g b x joined p.1)) a.2)

  -- and back
  leaves_from : (n : ℕ) → ((y : ℕ) (r : List Item) → Walks inlined n y r → (m : ℕ) × Walks g m y r) → (d : Ending) (r : List Item) → Leaves (Walks inlined n) d r → (m : ℕ) × Leaves (Walks g m) d r
  leaves_from n ih (ToAny bs) r (inl q) = (0, inl q)
  leaves_from n ih (ToAny bs) r (inr (y, i, w)) = let a = ih y r w in (a.0, inr (y, i, a.1))
  leaves_from n ih (Calls s y) r (inl q) = (0, inl q)
  leaves_from n ih (Calls s y) r (inr (u, w, q)) = let a = ih y u w in (a.0, inr (u, a.1, q))
  leaves_from n ih Stops r q = (0, q)

  block_from : (n : ℕ) → ((y : ℕ) (r : List Item) → Walks inlined n y r → (m : ℕ) × Walks g m y r) → (o : Option Block) (l : List Item) → AtBlock (Walks inlined n) o l → (m : ℕ) × AtBlock (Walks g m) o l
  block_from n ih None l q = (0, q)
  block_from n ih (Some s) l (inl q) = (0, inl q)
  block_from n ih (Some s) l (inr (r, v, q)) = let a = leaves_from n ih s.ending r v in (a.0, inr (r, a.1, q))

  back : (n x : ℕ) (l : List Item) → Walks inlined n x l → (m : ℕ) × Walks g m x l
  back zero x l w = (0, w)
  back (suc n) x l w = go (λ y r v. back n y r v) (eqb_tells x b)
    where
      at_b_from : ((y : ℕ) (r : List Item) → Walks inlined n y r → (m : ℕ) × Walks g m y r) → AtBlock (Walks inlined n) (Some joined) l → (m : ℕ) × Walks g m b l
      at_b_from ih (inl h) = (0, h)
      at_b_from ih (inr (r, v, q)) =
          let a = leaves_from n ih e r v in
          let at : Walks g (suc a.0) c (marks_of fs ++ r) = closed g a.0 c (record { events = fs; ending = e }) (marks_of fs ++ r) at_c (inr (r, a.1, refl)) in
          (suc (suc a.0), closed g (suc a.0) b (record { events = es; ending = ToAny (c ∷ []) }) l at_b (inr (marks_of fs ++ r, inr (c, inl refl, at), q ∙ ap (λ z. z ++ r) (marks_append es fs) ∙ append_assoc (marks_of es) (marks_of fs) r)))

      go : ((y : ℕ) (r : List Item) → Walks inlined n y r → (m : ℕ) × Walks g m y r) → ((eqb x b ≡ true) × (x ≡ b)) ⊎ ((eqb x b ≡ false) × (x ≢ b)) → (m : ℕ) × Walks g m x l
      go ih (inl p) =
          let a = at_b_from ih (opened inlined n b joined l here (subst (λ z. Walks inlined (suc n) z l) p.1 w)) in
          (a.0, subst (λ z. Walks g a.0 z l) (sym p.1) a.1)
      go ih (inr p) =
          let a = block_from n ih (slice_get g x) l (subst (λ o. AtBlock (Walks inlined n) o l) (get_other g b x joined p.1) w) in
          (suc a.0, a.1)

  pub same_traces : (x : ℕ) (l : List Item) → GraphTrace g x l ↔ GraphTrace inlined x l
  same_traces x l = (
    (λ t. let a = there t.0 x (l ++ t.1) t.2 in (a.0, t.1 ++ a.1, subst (Walks inlined a.0 x) (append_assoc l t.1 a.1) a.2)),
    λ t. let a = back t.0 x (l ++ t.1) t.2 in (a.0, t.1, a.1),
  )
