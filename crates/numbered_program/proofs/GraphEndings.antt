-- HOW A BLOCK OF A PROGRAM ENDS, by the ending of its graph's: where it leads, which call is followed there, and whether it ends the frame.
use Rattle.std.proofs.Common.{◌≡◌, ◌∙◌, refl, sym, ap, subst, ℕ, List, None, Some}
use Rattle.block_flows.specs.Masks.{between, graphs_under}
use Rattle.c_objects.specs.Objects.{Object}
use Rattle.c_tree.specs.Node.{Node}
use Rattle.flow_graph.specs.CPaths.BlockGraphs.{LeadsTo}
use Rattle.flow_graph.specs.CPaths.Building.{Graph}
use Rattle.flow_graph.specs.CPaths.Events.{Event}
use Rattle.flow_graph.specs.CPaths.Fragments.{Has}
use Rattle.flow_graph.specs.CPaths.Graphs.{Block, Calls, Ending, Stops}
use Rattle.masked_paths.specs.Masked.{SiteIn}
use Rattle.path_edges.proofs.MaskedCalls.{call-of, masked-call}
use Rattle.path_model.specs.CheckerGraphs.Graphs.{graph_at}
use Rattle.path_model.specs.CheckerModel.Happenings.{Function, Site}
use Rattle.path_model.specs.CheckerModel.Reports.{Checker}
use Rattle.path_model.specs.CheckerPrograms.Roots.{followed_into}
use Rattle.path_model.specs.CheckerPrograms.Texts.{site}
use Rattle.typed_unit.specs.Texts.{Text}

one_block : (a b : Block) → Some a ≡ Some b → a ≡ b
one_block a b e = cc

-- the function into which a call is followed, if there is one
abbrev pub Into : Checker → List Text → Function → Node → Function → Type 0
Into c ts f call h = followed_into c.machine (site c.depth ts f call) ≡ Some h

abbrev pub IsPassed : Checker → List Text → Function → Node → Type 0
IsPassed c ts f call = followed_into c.machine (site c.depth ts f call) ≡ None

module _ (c : Checker) (ts : List Text) (gs : List Graph) (lists : List (List Object)) (f : Function) (b : ℕ) (es : List Event) (end : Ending) (has : Has (graph_at ts gs f).blocks b es end) where
  one_ending : (fs : List Event) (other : Ending) → Has (graph_at ts gs f).blocks b fs other → other ≡ end
  one_ending fs other h = ap (λ (s : Block). s.ending) (one_block (record { events = fs; ending = other }) (record { events = es; ending = end }) (sym h ∙ has))

  pub leads_so : (x : ℕ) → (graphs_under c ts gs lists).Next f b x → LeadsTo (IsPassed c ts f) end x
  leads_so x w = subst (λ (z : Ending). LeadsTo (IsPassed c ts f) z x) (one_ending w.0 w.1 w.2) w.3

  pub so_leads : (x : ℕ) → LeadsTo (IsPassed c ts f) end x → (graphs_under c ts gs lists).Next f b x
  so_leads x l = (es, end, has, l)

  pub record MakesCall (z : SiteIn Function Site) (h : Function) (x : ℕ) : Type 0 where
    pub call : Node
    pub ends : end ≡ Calls call x
    pub is : z ≡ between f (site c.depth ts f call) h
    pub into : Into c ts f call h

  pub calls_so : (z : SiteIn Function Site) (h : Function) (x : ℕ) → (graphs_under c ts gs lists).Call f b z h x → MakesCall z h x
  calls_so z h x w =
      let of = call-of c ts gs lists f b z h x w in
      let k = of.call in
      let same : of.site ≡ site c.depth ts f k.1 = k.3 in
      record {
        call = k.1;
        ends = sym (one_ending k.0 (Calls k.1 x) k.2);
        is = of.is ∙ ap (λ (s : Site). between f s h) same;
        into = ap (followed_into c.machine) (sym same) ∙ k.4;
      }

  pub so_calls : (call : Node) (x : ℕ) (h : Function) → end ≡ Calls call x → Into c ts f call h → (graphs_under c ts gs lists).Call f b (between f (site c.depth ts f call) h) h x
  so_calls call x h e into =
      masked-call c ts gs lists f b (site c.depth ts f call) h x (es, call, subst (λ (z : Ending). Has (graph_at ts gs f).blocks b es z) e has, refl, into)

  pub stops_so : (graphs_under c ts gs lists).Ends f b → end ≡ Stops
  stops_so w = sym (one_ending w.0 Stops w.1)

  pub so_stops : end ≡ Stops → (graphs_under c ts gs lists).Ends f b
  so_stops e = (es, subst (λ (z : Ending). Has (graph_at ts gs f).blocks b es z) e has)
