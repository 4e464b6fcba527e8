-- A block takes over another one's events and end.
use Rattle.std.proofs.Common.{◌≡◌, ◌≢◌, ℕ, ◌<◌, List, ◌∷◌, [], ◌++◌, length, map, get_or, Option, Some, sym, ap, ◌∙◌, subst}
use Rattle.std.specs.Prelude.{slice_get, slice_set}
use Rattle.std.proofs.lemmas.List.{map-set, length-map}
use Rattle.flow_graph.specs.CPaths.Events.{Event}
use Rattle.flow_graph.specs.CPaths.Graphs as graphs
use Rattle.flow_graph.specs.declared.graph.Block.{Block}
use Rattle.flow_graph.specs.Values.{event_of, ending_of, block_of, blocks_of}
use Rattle.flow_graph.specs.Joins.{IsJoined, IsNext}
use Rattle.flow_graph.proofs.BlockLists.{block_read}
use Rattle.flow_graph.proofs.JoinedGraphs.{joined_one, joined_then}

same_some : (x y : graphs.Block) → Some x ≡ Some y → x ≡ y
same_some x y e = cc

abbrev some_block : List Event → graphs.Ending → Option graphs.Block
some_block es e = Some (record { events = es; ending = e })

block_is : (es fs : List Event) (a b : graphs.Ending) → es ≡ fs → a ≡ b → ◌≡◌ {A = graphs.Block} (record { events = es; ending = a }) (record { events = fs; ending = b })
block_is es fs a b e h = cc

pub took_over : (bs cs : List Block) (number next : ℕ) (old other again new : Block) → number < length bs → next < length bs → old ≡ get_or bs number old → other ≡ get_or bs next other → again ≡ get_or bs next again
    → IsNext (blocks_of bs) number next → map event_of new.events.items ≡ map event_of old.events.items ++ map event_of other.events.items → ending_of new.end ≡ ending_of again.end → cs ≡ slice_set bs number new
    → IsJoined (blocks_of bs) (blocks_of cs)
took_over bs cs number next old other again new h k e f a n appended ends is =
    let first : block_of old ≡ record { events = n.events; ending = graphs.ToAny (next ∷ []) } = same_some _ _ (sym (block_read bs number old h e) ∙ n.leads) in
    let second : block_of other ≡ record { events = n.others; ending = n.ending } = same_some _ _ (sym (block_read bs next other k f) ∙ n.there) in
    let events : map event_of new.events.items ≡ n.events ++ n.others
    = appended ∙ ap (λ (b : graphs.Block). b.events ++ map event_of other.events.items) first ∙ ap (λ (b : graphs.Block). n.events ++ b.events) second in
    let ending : ending_of new.end ≡ n.ending = ends ∙ ap (λ (b : graphs.Block). b.ending) (same_some _ _ (sym (block_read bs next again k a) ∙ n.there)) in
    let made : block_of new ≡ record { events = n.events ++ n.others; ending = n.ending } = block_is _ _ _ _ events ending in
    let all : blocks_of cs ≡ slice_set (blocks_of bs) number (record { events = n.events ++ n.others; ending = n.ending })
    = ap blocks_of is ∙ map-set block_of bs number new ∙ ap (slice_set (blocks_of bs) number) made in
    subst (λ g. IsJoined (blocks_of bs) g) (sym all) (joined_one (blocks_of bs) number next n.events n.others n.ending n.leads n.there n.goes_on)

pub next_is : (bs : List Block) (number next : ℕ) (x y : Block) → number < length bs → next < length bs → x ≡ get_or bs number x → y ≡ get_or bs next y → ending_of x.end ≡ graphs.ToAny (next ∷ []) → ending_of y.end ≢ graphs.Stops
    → IsNext (blocks_of bs) number next
next_is bs number next x y h k e f leads goes_on = record {
  events = map event_of x.events.items;
  others = map event_of y.events.items;
  ending = ending_of y.end;
  leads = block_read bs number x h e ∙ ap (λ (n : graphs.Ending). some_block (map event_of x.events.items) n) leads;
  there = block_read bs next y k f;
  goes_on = goes_on;
}

pub same_count : (xs ys : List Block) → IsJoined (blocks_of xs) (blocks_of ys) → length ys ≡ length xs
same_count xs ys h = sym (length-map ys block_of) ∙ h.same_length ∙ length-map xs block_of

pub chain_joined : (xs ys zs : List Block) (n : ℕ) → n ≡ length ys → IsJoined (blocks_of xs) (blocks_of ys) → IsJoined (blocks_of ys) (blocks_of zs) → (n ≡ length zs) × IsJoined (blocks_of xs) (blocks_of zs)
chain_joined xs ys zs n e h k = (e ∙ sym (same_count ys zs k), joined_then (blocks_of xs) (blocks_of ys) (blocks_of zs) h k)
