-- Where each end leads to where control comes from its old target, over blocks that only lead on, the traces stay.
use Rattle.std.proofs.Common.{◌≡◌, ◌↔◌, ℕ, zero, suc, List, [], ◌∷◌, ◌++◌, ◌⊎◌, inl, inr, Option, Some, None, map, refl, sym, ◌∙◌, subst}
use Rattle.std.specs.Prelude.{slice_get}
use Rattle.std.specs.Option.{option_map}
use Rattle.std.proofs.lemmas.Option.{slice_get-map}
use Rattle.flow_graph.specs.CPaths.Events.{Item}
use Rattle.flow_graph.specs.CPaths.Graphs.{Block, Ending, ToAny, Calls, Stops, Leaves, AtBlock, Walks, GraphTrace}
use Rattle.flow_graph.specs.CPaths.Forwarders.{Forwards, ComesTo, Stays, Over, led, redirected}
use Rattle.flow_graph.proofs.CPaths.GraphWalks.{opened, closed}
use Rattle.flow_graph.proofs.CPaths.MappedLists.{mapped, map-among}

-- who comes to c from b comes on to where c comes
pub comes_on : (g : List Block) {b c d : ℕ} → ComesTo g b c → ComesTo g c d → ComesTo g b d
comes_on g Stays k = k
comes_on g (Over h t) k = Over h (comes_on g t k)

-- what walks from there give, walks from here give
pub from_here : (g : List Block) {b c : ℕ} → ComesTo g b c → (n : ℕ) (l : List Item) → Walks g n c l → (m : ℕ) × Walks g m b l
from_here g Stays n l w = (n, w)
from_here g (Over {b} {c} {d} h t) n l w =
    let a = from_here g t n l w in
    (suc a.0, closed g a.0 b (record { events = []; ending = ToAny (c ∷ []) }) l h (inr (l, inr (c, inl refl, a.1), refl)))

module _ (g : List Block) (f : ℕ → ℕ) (comes : (b : ℕ) → ComesTo g b (f b)) where
  abbrev pub straight : List Block
  straight = map (redirected f) g

  get_led : (b : ℕ) → slice_get straight b ≡ option_map (redirected f) (slice_get g b)
  get_led b = slice_get-map (redirected f) g b

  -- one more step in the new graph
  abbrev GoOn : ℕ → Type 0
  GoOn n = (b : ℕ) (r : List Item) → Walks g n b r → (m : ℕ) × Walks straight m (f b) r

  leaves_on : (n : ℕ) → GoOn n → (d : Ending) (r : List Item) → Leaves (Walks g n) d r → (m : ℕ) × Leaves (Walks straight m) (led f d) r
  leaves_on n ih (ToAny bs) r (inl q) = (0, inl q)
  leaves_on n ih (ToAny bs) r (inr (y, i, w)) = let a = ih y r w in (a.0, inr (f y, map-among f bs y i, a.1))
  leaves_on n ih (Calls s y) r (inl q) = (0, inl q)
  leaves_on n ih (Calls s y) r (inr (u, w, q)) = let a = ih y u w in (a.0, inr (u, a.1, q))
  leaves_on n ih Stops r q = (0, q)

  block_on : (n : ℕ) → GoOn n → (o : Option Block) (l : List Item) → AtBlock (Walks g n) o l → (m : ℕ) × AtBlock (Walks straight m) (option_map (redirected f) o) l
  block_on n ih None l q = (0, q)
  block_on n ih (Some s) l (inl q) = (0, inl q)
  block_on n ih (Some s) l (inr (r, v, q)) = let a = leaves_on n ih s.ending r v in (a.0, inr (r, a.1, q))

  -- over a block that only leads on
  stepped : (n b c : ℕ) (l : List Item) → Forwards g b c → Walks g (suc n) b l → (l ≡ []) ⊎ Walks g n c l
  stepped n b c l h w = cases (opened g n b (record { events = []; ending = ToAny (c ∷ []) }) l h w)
    where
      cases : AtBlock (Walks g n) (Some (record { events = []; ending = ToAny (c ∷ []) })) l → (l ≡ []) ⊎ Walks g n c l
      cases (inl q) = inl q
      cases (inr (r, inl q, e)) = inl (e ∙ q)
      cases (inr (r, inr (y, inl i, v), e)) = inr (subst (λ m. Walks g n c m) (sym e) (subst (λ z. Walks g n z r) i v))
      cases (inr (r, inr (y, inr i, v), e)) = absurd i

  -- what walks from here give, walks from there give in the new graph
  there : (n : ℕ) {b c : ℕ} → ComesTo g b c → (l : List Item) → Walks g n b l → (m : ℕ) × Walks straight m c l
  there zero t l w = (0, w)
  there (suc n) (Stays {b}) l w =
      let a = block_on n (λ y r v. there n (comes y) r v) (slice_get g b) l w in
      (suc a.0, subst (λ o. AtBlock (Walks straight a.0) o l) (sym (get_led b)) a.1)
  there (suc n) (Over {b} {c} {d} h t) l w = elim (stepped n b c l h w) [ inl q ↦ (0, q) | inr v ↦ there n t l v ]

  -- and back
  abbrev ComeBack : ℕ → Type 0
  ComeBack n = (b : ℕ) (r : List Item) → Walks straight n b r → (m : ℕ) × Walks g m b r

  leaves_from : (n : ℕ) → ComeBack n → (d : Ending) (r : List Item) → Leaves (Walks straight n) (led f d) r → (m : ℕ) × Leaves (Walks g m) d r
  leaves_from n ih (ToAny bs) r (inl q) = (0, inl q)
  leaves_from n ih (ToAny bs) r (inr (y, i, w)) =
      let k = mapped f bs y i in
      let a = ih y r w in
      let b = from_here g (comes k.0) a.0 r (subst (λ z. Walks g a.0 z r) k.2 a.1) in
      (b.0, inr (k.0, k.1, b.1))
  leaves_from n ih (Calls s y) r (inl q) = (0, inl q)
  leaves_from n ih (Calls s y) r (inr (u, w, q)) =
      let a = ih (f y) u w in
      let b = from_here g (comes y) a.0 u a.1 in
      (b.0, inr (u, b.1, q))
  leaves_from n ih Stops r q = (0, q)

  block_from : (n : ℕ) → ComeBack n → (o : Option Block) (l : List Item) → AtBlock (Walks straight n) (option_map (redirected f) o) l → (m : ℕ) × AtBlock (Walks g m) o l
  block_from n ih None l q = (0, q)
  block_from n ih (Some s) l (inl q) = (0, inl q)
  block_from n ih (Some s) l (inr (r, v, q)) = let a = leaves_from n ih s.ending r v in (a.0, inr (r, a.1, q))

  back : (n b : ℕ) (l : List Item) → Walks straight n b l → (m : ℕ) × Walks g m b l
  back zero b l w = (0, w)
  back (suc n) b l w =
      let a = block_from n (λ y r v. back n y r v) (slice_get g b) l (subst (λ o. AtBlock (Walks straight n) o l) (get_led b) w) in
      (suc a.0, a.1)

  -- THE TRACES STAY, also where the first block is one to which control comes so.
  pub redirected_traces : (b c : ℕ) → ComesTo g b c → (l : List Item) → GraphTrace g b l ↔ GraphTrace straight c l
  redirected_traces b c t l = (
    (λ h. let a = there h.0 t (l ++ h.1) h.2 in (a.0, h.1, a.1)),
    λ h. let a = back h.0 c (l ++ h.1) h.2 in let d = from_here g t a.0 (l ++ h.1) a.1 in (d.0, h.1, d.1),
  )
