use Rattle.std.proofs.Common.{◌≡◌, ◌++◌, map, get_or, refl, ap, ◌∙◌}
use Rattle.std.proofs.lemmas.List.{map-append}
use Rattle.flow_graph.specs.Values.{event_of, ending_of}
use Rattle.flow_graph.proofs.TakenOver.{took_over}
use Rattle.flow_graph.proofs.joining.take_over.Goals as goal

pub returns : goal.returns
returns c =
    let old = c.index_mut-block.result.now in
    let other = c.index.result.now in
    let events = c.extend_from_slice.new.self in
    let appended : events.items ≡ old.events.items ++ other.events.items = cc (c.in_ok-extend_from_slice.ensures.items, c.in_ok-events.ensures.items) in
    let ends : ending_of c.in_ok-end.end ≡ ending_of c.index-2.result.now.end = c.in_ok-end.ensures in
    took_over c.args.blocks.now.items _ c.args.number c.args.next old other c.index-2.result.now (record { events = events; end = c.in_ok-end.end }) c.requires.number_in c.requires.next_in c.index_mut-block.ensures.value c.index.ensures c.index-2.ensures c.requires.next
    (ap (map event_of) appended ∙ map-append event_of old.events.items other.events.items) ends refl
