-- A graph of the blocks that control reaches, under new numbers, stands in place of the whole.
use Rattle.std.proofs.Common.{◌≡◌, ◌↔◌, ◌<◌, ℕ, zero, suc, List, [], ◌∷◌, ◌++◌, ◌⊎◌, inl, inr, length, map, Option, None, Some, refl, sym, ap, ◌∙◌, subst}
use Rattle.std.specs.Prelude.{slice_get}
use Rattle.std.specs.Option.{option_map}
use Rattle.std.proofs.lemmas.Option.{slice_get_within}
use Rattle.flow_graph.specs.CPaths.Building.{Graph}
use Rattle.flow_graph.specs.CPaths.Events.{Event, Item}
use Rattle.flow_graph.specs.CPaths.Forwarders.{led, redirected}
use Rattle.flow_graph.specs.CPaths.Graphs.{Block, Ending, ToAny, Calls, Stops, Leaves, AtBlock, Walks, GraphTrace}
use Rattle.flow_graph.specs.CPaths.Membership.{Among}
use Rattle.flow_graph.specs.CPaths.Occurrences.{InEvents, InEnding, InGraph}
use Rattle.flow_graph.specs.CPaths.SoundGraphs.{AllBelow, IsSoundEnd, AreSound, IsSoundGraph}
use Rattle.flow_graph.specs.Joins.{Replaces}
use Rattle.flow_graph.specs.ReachedBlocks.Reached.{GoesOn, Reaches, Begins, Onward, AllReached}
use Rattle.flow_graph.proofs.CPaths.MappedLists.{mapped, map-among}
use Rattle.flow_graph.proofs.JoinedGraphs.{sound_at, text_at}
use Rattle.flow_graph.proofs.RedirectedGraphs.{in_ending}

all_below : (n : ℕ) (f : ℕ → ℕ) (bs : List ℕ) → ((c : ℕ) → Among c bs → f c < n) → AllBelow n (map f bs)
all_below n f [] all = tt
all_below n f (b ∷ bs) all = (all b (inl refl), all_below n f bs (λ c i. all c (inr i)))

sound_end : (m n : ℕ) (f : ℕ → ℕ) (es : List Event) (e : Ending) → ((c : ℕ) → GoesOn e c → f c < n) → IsSoundEnd m es e → IsSoundEnd n es (led f e)
sound_end m n f es (ToAny bs) all h = (h.0, all_below n f bs all)
sound_end m n f es (Calls site b) all h = (h.0, all b refl)
sound_end m n f es Stops all h = h

are_sound : (n : ℕ) (ss : List Block) → ((k : ℕ) (s : Block) → slice_get ss k ≡ Some s → IsSoundEnd n s.events s.ending) → AreSound n ss
are_sound n [] all = tt
are_sound n (s ∷ ss) all = (all zero s refl, are_sound n ss (λ k t e. all (suc k) t e))

-- what stands in a graph stands in one of its blocks
found_at : (ss : List Block) (i : Item) → InGraph i ss → (k : ℕ) × (s : Block) × (slice_get ss k ≡ Some s) × (InEvents i s.events ⊎ InEnding i s.ending)
found_at [] i h = absurd h
found_at (s ∷ ss) i (inl h) = (zero, s, refl, h)
found_at (s ∷ ss) i (inr h) = let f = found_at ss i h in (suc f.0, f.1, f.2, f.3)

in_old : (f : ℕ → ℕ) (i : Item) (t : Block) → InEvents i t.events ⊎ InEnding i (led f t.ending) → InEvents i t.events ⊎ InEnding i t.ending
in_old f i t (inl h) = inl h
in_old f i t (inr h) = inr (in_ending f i t.ending h)

-- f has the new number of each block that is reached
module _ (g : Graph) (h : List Block) (f : ℕ → ℕ) (moved : (b : ℕ) → Reaches g b → slice_get h (f b) ≡ option_map (redirected f) (slice_get g.blocks b)) where
  -- what comes behind a block that is reached is reached
  behind : (b : ℕ) (s : Block) → Reaches g b → slice_get g.blocks b ≡ Some s → (c : ℕ) → GoesOn s.ending c → Reaches g c
  behind b s r e c k = Onward r (record { events = s.events; ending = s.ending; has = e; goes = k })

  abbrev GoThere : ℕ → Type 0
  GoThere n = (b : ℕ) → Reaches g b → (l : List Item) → Walks g.blocks n b l → Walks h n (f b) l

  leaves_there : (n : ℕ) → GoThere n → (d : Ending) → ((c : ℕ) → GoesOn d c → Reaches g c) → (l : List Item) → Leaves (Walks g.blocks n) d l → Leaves (Walks h n) (led f d) l
  leaves_there n ih (ToAny bs) on l (inl q) = inl q
  leaves_there n ih (ToAny bs) on l (inr (y, i, w)) = inr (f y, map-among f bs y i, ih y (on y i) l w)
  leaves_there n ih (Calls s y) on l (inl q) = inl q
  leaves_there n ih (Calls s y) on l (inr (u, w, q)) = inr (u, ih y (on y refl) u w, q)
  leaves_there n ih Stops on l q = q

  block_there : (n : ℕ) → GoThere n → (b : ℕ) → Reaches g b → (o : Option Block) → slice_get g.blocks b ≡ o → (l : List Item) → AtBlock (Walks g.blocks n) o l → AtBlock (Walks h n) (option_map (redirected f) o) l
  block_there n ih b r None e l q = q
  block_there n ih b r (Some s) e l (inl q) = inl q
  block_there n ih b r (Some s) e l (inr (m, v, q)) = inr (m, leaves_there n ih s.ending (behind b s r e) m v, q)

  go_there : (n : ℕ) → GoThere n
  go_there zero b r l w = w
  go_there (suc n) b r l w = subst (λ o. AtBlock (Walks h n) o l) (sym (moved b r)) (block_there n (λ c k m v. go_there n c k m v) b r (slice_get g.blocks b) refl l w)

  abbrev ComeBack : ℕ → Type 0
  ComeBack n = (b : ℕ) → Reaches g b → (l : List Item) → Walks h n (f b) l → Walks g.blocks n b l

  leaves_back : (n : ℕ) → ComeBack n → (d : Ending) → ((c : ℕ) → GoesOn d c → Reaches g c) → (l : List Item) → Leaves (Walks h n) (led f d) l → Leaves (Walks g.blocks n) d l
  leaves_back n ih (ToAny bs) on l (inl q) = inl q
  leaves_back n ih (ToAny bs) on l (inr (y, i, w)) = let k = mapped f bs y i in inr (k.0, k.1, ih k.0 (on k.0 k.1) l (subst (λ z. Walks h n z l) k.2 w))
  leaves_back n ih (Calls s y) on l (inl q) = inl q
  leaves_back n ih (Calls s y) on l (inr (u, w, q)) = inr (u, ih y (on y refl) u w, q)
  leaves_back n ih Stops on l q = q

  block_back : (n : ℕ) → ComeBack n → (b : ℕ) → Reaches g b → (o : Option Block) → slice_get g.blocks b ≡ o → (l : List Item) → AtBlock (Walks h n) (option_map (redirected f) o) l → AtBlock (Walks g.blocks n) o l
  block_back n ih b r None e l q = q
  block_back n ih b r (Some s) e l (inl q) = inl q
  block_back n ih b r (Some s) e l (inr (m, v, q)) = inr (m, leaves_back n ih s.ending (behind b s r e) m v, q)

  come_back : (n : ℕ) → ComeBack n
  come_back zero b r l w = w
  come_back (suc n) b r l w = block_back n (λ c k m v. come_back n c k m v) b r (slice_get g.blocks b) refl l (subst (λ o. AtBlock (Walks h n) o l) (moved b r) w)

  -- THE TRACES STAY.
  kept_traces : (l : List Item) → GraphTrace g.blocks g.entry l ↔ GraphTrace h (f g.entry) l
  kept_traces l = (λ t. (t.0, t.1, go_there t.0 g.entry Begins (l ++ t.1) t.2), λ t. (t.0, t.1, come_back t.0 g.entry Begins (l ++ t.1) t.2))

  abbrev kept : Graph
  kept = record { blocks = h; entry = f g.entry }

  goes_there : (d : Ending) (c : ℕ) → GoesOn d c → GoesOn (led f d) (f c)
  goes_there (ToAny bs) c i = map-among f bs c i
  goes_there (Calls s b) c e = ap f e
  goes_there Stops c k = k

  reaches_there : {b : ℕ} → Reaches g b → Reaches kept (f b)
  reaches_there Begins = Begins
  reaches_there (Onward {b} {c} r s) =
      Onward (reaches_there r) (record { events = s.events; ending = led f s.ending; has = moved b r ∙ ap (option_map (redirected f)) s.has; goes = goes_there s.ending c s.goes })

  module _ (only : (k : ℕ) → k < length h → (b : ℕ) × Reaches g b × (f b ≡ k)) where
    -- EACH BLOCK IS REACHED.
    pub all_reached : AllReached kept
    all_reached k within = let o = only k within in subst (Reaches kept) o.2 (reaches_there o.1)

    -- each new block is an old one with another end
    abbrev IsOld : Block → Type 0
    IsOld s = (b : ℕ) × (t : Block) × Reaches g b × (slice_get g.blocks b ≡ Some t) × (s ≡ redirected f t)

    is_old : (k : ℕ) (s : Block) → slice_get h k ≡ Some s → IsOld s
    is_old k s e =
        let o = only k (slice_get_within h k s e) in
        by o.0 o.1 (sym (subst (λ x. slice_get h x ≡ Some s) (sym o.2) e) ∙ moved o.0 o.1) (slice_get g.blocks o.0) refl
      where
        by : (b : ℕ) → Reaches g b → Some s ≡ option_map (redirected f) (slice_get g.blocks b) → (o : Option Block) → slice_get g.blocks b ≡ o → IsOld s
        by b r q None h = let no : ◌≡◌ {A = Option Block} (Some s) None = q ∙ ap (option_map (redirected f)) h in cc
        by b r q (Some t) h = let same : ◌≡◌ {A = Option Block} (Some s) (Some (redirected f t)) = q ∙ ap (option_map (redirected f)) h in (b, t, r, h, cc)

    is_sound : (within : (b : ℕ) → Reaches g b → f b < length h) → AreSound (length g.blocks) g.blocks → (k : ℕ) (s : Block) → slice_get h k ≡ Some s → IsSoundEnd (length h) s.events s.ending
    is_sound within sound k s e =
        let o = is_old k s e in
        subst (λ (x : Block). IsSoundEnd (length h) x.events x.ending) (sym o.4)
        (sound_end (length g.blocks) (length h) f o.1.events o.1.ending (λ c goes. within c (behind o.0 o.1 o.2 o.3 c goes)) (sound_at (length g.blocks) g.blocks o.0 o.1 o.3 sound))

    -- IT STANDS IN PLACE of the whole.
    pub stands_in_place : ((b : ℕ) → Reaches g b → f b < length h) → Replaces g kept
    stands_in_place within = record {
      traces = kept_traces;
      sound = λ s. (are_sound (length h) h (is_sound within s.0), within g.entry Begins);
      text = λ i m.
          let a = found_at h i m in
          let o = is_old a.0 a.1 a.2 in
          text_at g.blocks o.0 o.1 i o.3 (in_old f i o.1 (subst (λ (x : Block). InEvents i x.events ⊎ InEnding i x.ending) o.4 a.3));
    }
