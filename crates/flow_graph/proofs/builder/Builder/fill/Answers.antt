use Rattle.std.proofs.Common.{◌≡◌, ℕ, List, [], ◌∷◌, map, ap, ◌∙◌}
use Rattle.std.specs.Prelude.{slice_set}
use Rattle.std.proofs.lemmas.List.{map-set}
use Rattle.flow_graph.specs.CPaths.Events.{Event}
use Rattle.flow_graph.specs.CPaths.Graphs.{ToAny}
use Rattle.flow_graph.specs.CPaths.Building.{Draft, Settled}
use Rattle.flow_graph.specs.Values.{event_of, draft_of, drafts_of}
use Rattle.flow_graph.proofs.builder.Builder.fill.Goals as goal

leads_there : (es : List Event) (targets : List ℕ) (first : ℕ) → es ≡ [] → targets ≡ first ∷ []
    → ◌≡◌ {A = Draft} (record { events = es; ending = Settled (ToAny targets) }) (record { events = []; ending = Settled (ToAny (first ∷ [])) })
leads_there es targets first e h = cc

pub returns : goal.returns
returns c =
    map-set draft_of c.args.self.now.drafts.items c.args.head _
    ∙ ap (λ (d : Draft). slice_set (drafts_of c.args.self.now.drafts.items) c.args.head d)
    (leads_there (map event_of c.new-events.result.items) c.in_ok-targets.targets.items c.args.first (ap (map event_of) c.new-events.ensures.items) c.in_ok-targets.ensures.items)
