-- A graph whose ends lead to where control comes over blocks that only lead on stands in place of the old one.
use Rattle.std.proofs.Common.{◌≡◌, ◌<◌, ℕ, List, [], ◌∷◌, inl, inr, map, length, sym, ap, ◌∙◌, subst}
use Rattle.std.proofs.lemmas.List.{length-map}
use Rattle.flow_graph.specs.CPaths.Building.{Graph}
use Rattle.flow_graph.specs.CPaths.Events.{Event, Item}
use Rattle.flow_graph.specs.CPaths.Graphs.{Block, Ending, ToAny, Calls, Stops}
use Rattle.flow_graph.specs.CPaths.Forwarders.{ComesTo, Stays, Over, led, redirected}
use Rattle.flow_graph.specs.CPaths.Occurrences.{InEnding, InGraph}
use Rattle.flow_graph.specs.CPaths.SoundGraphs.{AllBelow, IsSoundEnd, AreSound}
use Rattle.flow_graph.specs.Finals.{AreFinal}
use Rattle.flow_graph.specs.Targets.{target_of}
use Rattle.flow_graph.specs.Joins.{Replaces}
use Rattle.flow_graph.specs.Seen.{graph_with}
use Rattle.flow_graph.specs.Values.{blocks_of}
use Rattle.flow_graph.specs.declared.graph.Block.{Block as Declared}
use Rattle.flow_graph.proofs.CPaths.ForwardedWalks.{redirected_traces}
use Rattle.flow_graph.proofs.JoinedGraphs.{sound_at}

-- where control comes in a sound graph is one of its blocks
comes_within : (g : List Block) {b c : ℕ} → ComesTo g b c → AreSound (length g) g → b < length g → c < length g
comes_within g Stays s h = h
comes_within g (Over {b} {c} {d} k t) s h = comes_within g t s (sound_at (length g) g b (record { events = []; ending = ToAny (c ∷ []) }) k s).1.0

module _ (f : ℕ → ℕ) (n : ℕ) (within : (b : ℕ) → b < n → f b < n) where
  all_below : (bs : List ℕ) → AllBelow n bs → AllBelow n (map f bs)
  all_below [] h = tt
  all_below (b ∷ bs) h = (within b h.0, all_below bs h.1)

  sound_end : (es : List Event) (e : Ending) → IsSoundEnd n es e → IsSoundEnd n es (led f e)
  sound_end es (ToAny bs) h = (h.0, all_below bs h.1)
  sound_end es (Calls site b) h = (h.0, within b h.1)
  sound_end es Stops h = h

  are_sound : (ss : List Block) → AreSound n ss → AreSound n (map (redirected f) ss)
  are_sound [] h = tt
  are_sound (s ∷ ss) h = (sound_end s.events s.ending h.0, are_sound ss h.1)

pub in_ending : (f : ℕ → ℕ) (i : Item) (e : Ending) → InEnding i (led f e) → InEnding i e
in_ending f i (ToAny bs) h = h
in_ending f i (Calls site b) h = h
in_ending f i Stops h = h

-- nothing new stands in it
in_blocks : (f : ℕ → ℕ) (i : Item) (ss : List Block) → InGraph i (map (redirected f) ss) → InGraph i ss
in_blocks f i [] h = h
in_blocks f i (s ∷ ss) (inl (inl h)) = inl (inl h)
in_blocks f i (s ∷ ss) (inl (inr h)) = inl (inr (in_ending f i s.ending h))
in_blocks f i (s ∷ ss) (inr h) = inr (in_blocks f i ss h)

abbrev framed : List Block → ℕ → Graph
framed bs entry = record { blocks = bs; entry = entry }

pub graph_redirected : (g : Graph) (f : ℕ → ℕ) → ((b : ℕ) → ComesTo g.blocks b (f b)) → Replaces g (record { blocks = map (redirected f) g.blocks; entry = f g.entry })
graph_redirected g f comes = record {
  traces = λ l. redirected_traces g.blocks f comes g.entry (f g.entry) (comes g.entry) l;
  sound = λ s.
      let k = are_sound f (length g.blocks) (λ b h. comes_within g.blocks (comes b) s.0 h) g.blocks s.0 in
      subst (λ n. AreSound n (map (redirected f) g.blocks) × (f g.entry < n)) (sym (length-map g.blocks (redirected f))) (k, comes_within g.blocks (comes g.entry) s.0 s.1);
  text = λ i h. in_blocks f i g.blocks h;
}

-- the graph of blocks that were redirected so
pub straightened : (bs cs : List Declared) (finals : List ℕ) (entry begin : ℕ) (g : Graph) → AreFinal (blocks_of bs) finals → begin ≡ target_of finals entry → blocks_of cs ≡ map (redirected (target_of finals)) (blocks_of bs)
    → g.blocks ≡ blocks_of cs → g.entry ≡ begin → Replaces (graph_with bs entry) g
straightened bs cs finals entry begin g final begins led blocks at = subst (Replaces (graph_with bs entry)) (sym same) (graph_redirected (graph_with bs entry) (target_of finals) final)
  where
    same : g ≡ record { blocks = map (redirected (target_of finals)) (blocks_of bs); entry = target_of finals entry }
    same = ap (λ (xs : List Block). framed xs g.entry) (blocks ∙ led) ∙ ap (framed (map (redirected (target_of finals)) (blocks_of bs))) (at ∙ begins)
