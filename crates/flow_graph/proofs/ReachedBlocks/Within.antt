-- In a sound graph the blocks that control reaches are there.
use Rattle.std.proofs.Common.{◌≡◌, inl, inr, ℕ, zero, suc, ◌<◌, List, [], ◌∷◌, length, slice_get, Some, sym, subst}
use Rattle.flow_graph.specs.CPaths.Building.{Graph}
use Rattle.flow_graph.specs.CPaths.Events.{Event}
use Rattle.flow_graph.specs.CPaths.Graphs.{Block, Ending, ToAny, Calls, Stops}
use Rattle.flow_graph.specs.CPaths.Membership.{Among}
use Rattle.flow_graph.specs.CPaths.SoundGraphs.{AllBelow, IsSoundEnd, AreSound, IsSoundGraph}
use Rattle.flow_graph.specs.ReachedBlocks.Reached.{GoesOn, Reaches, Begins, Onward}

below : (n : ℕ) (bs : List ℕ) (c : ℕ) → AllBelow n bs → Among c bs → c < n
below n [] c all h = absurd h
below n (b ∷ bs) c all (inl e) = subst (λ x. x < n) (sym e) all.0
below n (b ∷ bs) c all (inr h) = below n bs c all.1 h

end-within : (n : ℕ) (es : List Event) (end : Ending) (c : ℕ) → IsSoundEnd n es end → GoesOn end c → c < n
end-within n es (ToAny bs) c sound h = below n bs c sound.1 h
end-within n es (Calls site b) c sound h = subst (λ x. x < n) h sound.1
end-within n es Stops c sound h = absurd h

sound-at : (n : ℕ) (ss : List Block) (b : ℕ) (s : Block) → AreSound n ss → slice_get ss b ≡ Some s → IsSoundEnd n s.events s.ending
sound-at n [] b s sound h = cc
sound-at n (t ∷ ss) zero s sound h = let same : t ≡ s = cc in subst (λ (x : Block). IsSoundEnd n x.events x.ending) same sound.0
sound-at n (t ∷ ss) (suc b) s sound h = sound-at n ss b s sound.1 h

pub reached-within : (g : Graph) → IsSoundGraph g.blocks g.entry → {b : ℕ} → Reaches g b → b < length g.blocks
reached-within g sound Begins = sound.1
reached-within g sound (Onward {b} {c} r s) = end-within (length g.blocks) s.events s.ending c (sound-at (length g.blocks) g.blocks b (record { events = s.events; ending = s.ending }) sound.0 s.has) s.goes
