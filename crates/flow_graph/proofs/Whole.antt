-- The blocks of a body are those that the plain builder makes of its function.
use Rattle.std.proofs.Common.{◌≡◌, ◌↔◌, ◌⊎◌, ℕ, List, [], ◌∷◌, ◌++◌, map, refl, sym, ap, ◌∙◌, subst}
use Rattle.c_tree.specs.declared.place.Place.{Place}
use Rattle.c_tree.specs.Node.{Node}
use Rattle.flow_graph.specs.CPaths.Events.{Item, Exited}
use Rattle.flow_graph.specs.CPaths.Facts.{Facts}
use Rattle.flow_graph.specs.CPaths.Graphs.{Block, ToAny, Stops, GraphTrace}
use Rattle.flow_graph.specs.CPaths.Traces.{Definition, Trace}
use Rattle.flow_graph.specs.CPaths.Occurrences.{InGraph}
use Rattle.flow_graph.specs.CPaths.SoundGraphs.{IsSoundGraph}
use Rattle.flow_graph.specs.CPaths.TreeFlow.{flow_of}
use Rattle.flow_graph.specs.CPaths.Building.{Draft as Sketched, Made, Placed, Settled, Graph, push, flow_blocks, settled, graph_of}
use Rattle.flow_graph.proofs.CPaths.BuiltGraphs.{built_traces}
use Rattle.flow_graph.proofs.CPaths.SoundDrafts.{built_graph_sound}
use Rattle.flow_graph.proofs.CPaths.BuiltTexts.{built_graph_text}
use Rattle.flow_graph.specs.declared.draft.Draft.{Draft}
use Rattle.flow_graph.specs.declared.statements.BodyBuilder.{BodyBuilder}
use Rattle.flow_graph.specs.Values.{drafts_of, made}
use Rattle.flow_graph.specs.Statements.{IsPlaced}
use Rattle.flow_graph.specs.Bodies.{HasTraces, StandsInText}
use Rattle.flow_graph.specs.Joins.{IsJoined, Replaces}

abbrev pub graph_is : List Block → ℕ → Graph
graph_is bs entry = record { blocks = bs; entry = entry }

-- the first block leads nowhere
pub dead_is : (m : Made) (ds : List Sketched) (xs : List ℕ) → ds ≡ [] → xs ≡ [] → m ≡ push ds [] (Settled (ToAny xs)) → m ≡ push [] [] (Settled (ToAny []))
dead_is m ds xs e h k = k ∙ ap (λ (ds : List Sketched). push ds [] (Settled (ToAny xs))) e ∙ ap (λ (xs : List ℕ). push [] [] (Settled (ToAny xs))) h

pub is_graph_of : (F : Facts) (f close : Place) (body : Node) (first last : BodyBuilder) (drafts : List Draft) (dead exit entry : ℕ) (cases : List ℕ) (bs : List Block)
    → made drafts dead ≡ push [] [] (Settled (ToAny []))
    → made first.blocks.drafts.items exit ≡ push (drafts_of drafts) (Exited f close ∷ []) (Settled Stops)
    → first.labels ≡ []
    → IsPlaced first last [] cases entry (flow_blocks (flow_of F f body) exit dead dead (drafts_of first.blocks.drafts.items))
    → bs ≡ map (settled last.labels) (drafts_of last.blocks.drafts.items)
    → graph_is bs entry ≡ graph_of F (record { place = f; body = body; close = close })
is_graph_of F f close body first last drafts dead exit entry cases bs at_dead at_exit none placed settles =
    let s = flow_of F f body in
    let D = push [] [] (Settled (ToAny [])) in
    let X = push D.drafts (Exited f close ∷ []) (Settled Stops) in
    let there = drafts_of first.blocks.drafts.items in
    let p = flow_blocks s exit dead dead there in
    let m = flow_blocks s X.block D.block D.block X.drafts in
    let dead_is : dead ≡ D.block = ap (λ (x : Made). x.block) at_dead in
    let first_is : drafts_of drafts ≡ D.drafts = ap (λ (x : Made). x.drafts) at_dead in
    let both : made first.blocks.drafts.items exit ≡ X = at_exit ∙ ap (λ ds. push ds (Exited f close ∷ []) (Settled Stops)) first_is in
    let exit_is : exit ≡ X.block = ap (λ (x : Made). x.block) both in
    let there_is : there ≡ X.drafts = ap (λ (x : Made). x.drafts) both in
    let same : p ≡ m = ap (λ n. flow_blocks s n dead dead there) exit_is ∙ ap (λ n. flow_blocks s X.block n n there) dead_is ∙ ap (λ ds. flow_blocks s X.block D.block D.block ds) there_is in
    let labels : last.labels ≡ m.labels = placed.labels ∙ ap (λ ls. ls ++ p.labels) none ∙ ap (λ (x : Placed). x.labels) same in
    let drafts_are : drafts_of last.blocks.drafts.items ≡ m.drafts = placed.drafts ∙ ap (λ (x : Placed). x.drafts) same in
    let blocks : bs ≡ map (settled m.labels) m.drafts = settles ∙ ap (λ ls. map (settled ls) (drafts_of last.blocks.drafts.items)) labels ∙ ap (λ ds. map (settled m.labels) ds) drafts_are in
    let entry_is : entry ≡ m.block = placed.block ∙ ap (λ (x : Placed). x.block) same in
    ap (λ xs. graph_is xs entry) blocks ∙ ap (λ e. graph_is (map (settled m.labels) m.drafts) e) entry_is

-- what stands in place of joined blocks stands in place of those before
pub joined_replaced : (bs cs : List Block) (entry : ℕ) (g : Graph) → IsJoined bs cs → Replaces (graph_is cs entry) g → Replaces (graph_is bs entry) g
joined_replaced bs cs entry g joined r = record {
  traces = λ l. (λ t. (r.traces l).0 ((joined.traces entry l).0 t), λ t. (joined.traces entry l).1 ((r.traces l).1 t));
  sound = λ s. r.sound (joined.sound entry s);
  text = λ i h. joined.text i (r.text i h);
}

-- what stands in place of that
pub replaced_then : (x y z : Graph) → Replaces x y → Replaces y z → Replaces x z
replaced_then x y z h k = record {
  traces = λ l. (λ t. (k.traces l).0 ((h.traces l).0 t), λ t. (h.traces l).1 ((k.traces l).1 t));
  sound = λ s. k.sound (h.sound s);
  text = λ i m. h.text i (k.text i m);
}

-- what is promised of a graph that stands in place of the one that was built
module _ (F : Facts) (d : Definition) (g : Graph) (bs : List Block) (entry : ℕ) (built : graph_is bs entry ≡ graph_of F d) (kept : Replaces (graph_is bs entry) g) where
  plain_traces : (l : List Item) → Trace F d l ↔ GraphTrace bs entry l
  plain_traces l = subst (λ (x : Graph). Trace F d l ↔ GraphTrace x.blocks x.entry l) (sym built) (built_traces F d l)

  pub has_traces : HasTraces g F d
  has_traces = λ l. (λ t. (kept.traces l).0 ((plain_traces l).0 t), λ t. (plain_traces l).1 ((kept.traces l).1 t))

  pub is_sound : IsSoundGraph g.blocks g.entry
  is_sound = kept.sound (subst (λ (x : Graph). IsSoundGraph x.blocks x.entry) (sym built) (built_graph_sound F d))

  pub stands_in_text : StandsInText g F d
  stands_in_text = λ i h. built_graph_text F d i (subst (λ (x : Graph). InGraph i x.blocks) built (kept.text i h))
