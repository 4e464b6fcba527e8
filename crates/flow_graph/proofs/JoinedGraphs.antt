-- Blocks that take over one after the other keep what a graph has.
use Rattle.std.proofs.Common.{◌≡◌, ◌≢◌, ◌↔◌, ℕ, zero, suc, ◌<◌, ◌⊎◌, inl, inr, List, [], ◌∷◌, ◌++◌, length, Some, refl, sym, ap, ◌∙◌, subst}
use Rattle.std.specs.Prelude.{slice_get, slice_set}
use Rattle.path_theory.specs.Marks.{EventMark, CallMark}
use Rattle.flow_graph.specs.CPaths.Events.{Event, Item}
use Rattle.flow_graph.specs.CPaths.Exits.{NoExits}
use Rattle.flow_graph.specs.CPaths.Graphs.{Block, Ending, ToAny, Calls, Stops, GraphTrace}
use Rattle.flow_graph.specs.CPaths.Fragments.{Has}
use Rattle.flow_graph.specs.CPaths.Occurrences.{InEvents, InEnding, InGraph}
use Rattle.flow_graph.specs.CPaths.SoundGraphs.{IsSoundEnd, AreSound, IsSoundGraph}
use Rattle.flow_graph.proofs.CPaths.JoinedBlocks.{same_traces}
use Rattle.flow_graph.specs.Joins.{IsJoined}

pub joined_same : (g : List Block) → IsJoined g g
joined_same g = record { same_length = refl; traces = λ entry l. (λ t. t, λ t. t); sound = λ entry s. s; text = λ i h. h }

pub joined_then : (x y z : List Block) → IsJoined x y → IsJoined y z → IsJoined x z
joined_then x y z h k = record {
  same_length = k.same_length ∙ h.same_length;
  traces = λ entry l. (λ t. (k.traces entry l).0 ((h.traces entry l).0 t), λ t. (h.traces entry l).1 ((k.traces entry l).1 t));
  sound = λ entry s. k.sound entry (h.sound entry s);
  text = λ i m. h.text i (k.text i m);
}

set_length : (g : List Block) (b : ℕ) (s : Block) → length (slice_set g b s) ≡ length g
set_length [] b s = refl
set_length (x ∷ g) zero s = refl
set_length (x ∷ g) (suc b) s = ap suc (set_length g b s)

pub sound_at : (n : ℕ) (g : List Block) (b : ℕ) (s : Block) → slice_get g b ≡ Some s → AreSound n g → IsSoundEnd n s.events s.ending
sound_at n [] b s e h = cc
sound_at n (x ∷ g) zero s e h = let q : x ≡ s = cc in subst (λ (s : Block). IsSoundEnd n s.events s.ending) q h.0
sound_at n (x ∷ g) (suc b) s e h = sound_at n g b s e h.1

sound_set : (n : ℕ) (g : List Block) (b : ℕ) (s : Block) → IsSoundEnd n s.events s.ending → AreSound n g → AreSound n (slice_set g b s)
sound_set n [] b s k h = h
sound_set n (x ∷ g) zero s k h = (k, h.1)
sound_set n (x ∷ g) (suc b) s k h = (h.0, sound_set n g b s k h.1)

no_exits : (es fs : List Event) → NoExits es → NoExits fs → NoExits (es ++ fs)
no_exits [] fs h k = k
no_exits (e ∷ es) fs h k = (h.0, no_exits es fs h.1 k)

-- behind events without an exit
sound_behind : (n : ℕ) (es fs : List Event) (e : Ending) → e ≢ Stops → NoExits es → IsSoundEnd n fs e → IsSoundEnd n (es ++ fs) e
sound_behind n es fs (ToAny bs) a h k = (no_exits es fs h k.0, k.1)
sound_behind n es fs (Calls site b) a h k = (no_exits es fs h k.0, k.1)
sound_behind n es fs Stops a h k = absurd (a refl)

either_events : (i : Item) (es fs : List Event) → InEvents i (es ++ fs) → InEvents i es ⊎ InEvents i fs
either_events i [] fs h = inr h
either_events i (e ∷ es) fs (inl h) = inl (inl h)
either_events i (e ∷ es) fs (inr h) = elim (either_events i es fs h) [ inl k ↦ inl (inr k) | inr k ↦ inr k ]

pub text_at : (g : List Block) (b : ℕ) (s : Block) (i : Item) → slice_get g b ≡ Some s → InEvents i s.events ⊎ InEnding i s.ending → InGraph i g
text_at [] b s i e h = cc
text_at (x ∷ g) zero s i e h = let q : s ≡ x = cc in inl (subst (λ (s : Block). InEvents i s.events ⊎ InEnding i s.ending) q h)
text_at (x ∷ g) (suc b) s i e h = inr (text_at g b s i e h)

text_set : (g : List Block) (b : ℕ) (s : Block) (i : Item) → InGraph i (slice_set g b s) → InGraph i g ⊎ (InEvents i s.events ⊎ InEnding i s.ending)
text_set [] b s i h = inl h
text_set (x ∷ g) zero s i (inl h) = inr h
text_set (x ∷ g) zero s i (inr h) = inl (inr h)
text_set (x ∷ g) (suc b) s i (inl h) = inl (inl h)
text_set (x ∷ g) (suc b) s i (inr h) = elim (text_set g b s i h) [ inl k ↦ inl (inr k) | inr k ↦ inr k ]

-- a block that leads to one other, which doesn't stop, takes over its events and its end
pub joined_one : (g : List Block) (b c : ℕ) (es fs : List Event) (e : Ending) → Has g b es (ToAny (c ∷ [])) → Has g c fs e → e ≢ Stops
    → IsJoined g (slice_set g b (record { events = es ++ fs; ending = e }))
joined_one g b c es fs e at_b at_c goes_on = record {
  same_length = set_length g b joined;
  traces = λ entry l. same_traces g b c es fs e at_b at_c entry l;
  sound = λ entry s.
      let k = sound_set (length g) g b joined (sound_behind (length g) es fs e goes_on (sound_at (length g) g b _ at_b s.0).0 (sound_at (length g) g c _ at_c s.0)) s.0 in
      subst (λ n. AreSound n (slice_set g b joined) × (entry < n)) (sym (set_length g b joined)) (k, s.1);
  text = λ i h. elim (text_set g b joined i h) [
    | inl k ↦ k
    | inr k ↦ elim k [
      | inl m ↦ elim (either_events i es fs m) [ inl p ↦ text_at g b _ i at_b (inl p) | inr p ↦ text_at g c _ i at_c (inl p) ]
      | inr m ↦ text_at g c _ i at_c (inr m)
    ]
  ];
}
  where
    joined : Block
    joined = record { events = es ++ fs; ending = e }
