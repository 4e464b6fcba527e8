-- Calls at the ends of blocks, and the tuples that stand before them.
use Rattle.std.proofs.Common.{◌≡◌, ℕ, List, Option, None, Some, sym, ap, subst, ◌∙◌}
use Rattle.std.specs.Option.{option_map}
use Rattle.c_objects.specs.Objects.{Object}
use Rattle.flow_graph.specs.CPaths.Building.{Graph}
use Rattle.flow_graph.specs.CPaths.Events.{Event}
use Rattle.flow_graph.specs.CPaths.Fragments.{Has}
use Rattle.flow_graph.specs.CPaths.Graphs.{Block, Ending, Calls}
use Rattle.c_tree.specs.Node.{Node}
use Rattle.type_rules.specs.Options.{if_there, ◌>?◌}
use Rattle.path_model.specs.CheckerGraphs.Graphs.{flow_graphs, function_at, graph_at}
use Rattle.path_model.specs.CheckerModel.Choices.{State}
use Rattle.path_model.specs.CheckerModel.Happenings.{Function, Site}
use Rattle.path_model.specs.CheckerModel.Reports.{Checker}
use Rattle.block_flows.specs.Masks.{model_under, origins_under, objects_under, graphs_under}
use Rattle.path_model.specs.CheckerPrograms.Roots.{followed_into}
use Rattle.path_model.specs.CheckerPrograms.Texts.{site}
use Rattle.typed_unit.specs.Texts.{Text}
use Rattle.path_edges.specs.EdgeSteps.Steps.{StandsBehind}
use Rattle.path_edges.proofs.EdgeSteps.Views.{tuple_with, tuple-there}
use Rattle.path_edges.specs.declared.edges.Edge.{Edge}
use Rattle.path_edges.specs.Edges.{edge_in, tuple_in, no_site, site_at}
use Rattle.path_model.specs.CheckerGraphs.Ends.{call_in, call_at}
use Rattle.state_tuples.specs.declared.tuple.Tuple.{Tuple}
use Rattle.path_theory.specs.TabulationRules.Rules as rules

pub one-function : (f g : Function) → Some f ≡ Some g → f ≡ g
one-function f g e = cc

pub nowhere : (f : Function) → None ≡ Some f → ⊥
nowhere f e = cc

some-ending : (x y : Ending) → Some x ≡ Some y → x ≡ y
some-ending x y e = cc

one-ending : (a b : Node) (m n : ℕ) → Calls a m ≡ Calls b n → (a ≡ b) × (m ≡ n)
one-ending a b m n e = let call : a ≡ b = cc in let next : m ≡ n = cc in (call, next)

-- blocks that are the same end in the same call
pub same-ending : (bs : List Block) (i : ℕ) (es fs : List Event) (a b : Node) (m n : ℕ) → Has bs i es (Calls a m) → Has bs i fs (Calls b n) → (a ≡ b) × (m ≡ n)
same-ending bs i es fs a b m n x y = one-ending a b m n (some-ending (Calls a m) (Calls b n) (sym (ap (option_map (λ (k : Block). k.ending)) x) ∙ ap (option_map (λ (k : Block). k.ending)) y))

-- two calls are one
pub record AreSame (s r : Site) (h g : Function) (m n : ℕ) : Type 0 where
  pub site : s ≡ r
  pub callee : h ≡ g
  pub behind : m ≡ n

module _ (c : Checker) (ts : List Text) (gs : List Graph) where
  abbrev pub CallAt : Function → ℕ → Site → Function → ℕ → Type 0
  CallAt f b s h next = (flow_graphs c ts gs).Call f b s h next

  -- a block ends in one call
  pub one-call : (f : Function) (b : ℕ) (s r : Site) (h g : Function) (m n : ℕ) → CallAt f b s h m → CallAt f b r g n → AreSame s r h g m n
  one-call f b s r h g m n x y =
      let ends = same-ending (graph_at ts gs f).blocks b x.0 y.0 x.1 y.1 m n x.2 y.2 in
      let same : s ≡ r = x.3 ∙ ap (site c.depth ts f) ends.0 ∙ sym y.3 in
      record { site = same; callee = one-function h g (sym x.4 ∙ ap (followed_into c.machine) same ∙ y.4); behind = ends.1 }

  -- the site at a block, by the call in which it ends
  pub site-by-call : (n b : ℕ) (f : Function) (o : Option Node) → function_at ts n ≡ Some f → call_at (graph_at ts gs f) b ≡ o
      → site_at c.depth ts gs n b ≡ if_there o no_site (site c.depth ts f)
  site-by-call n b f o named call =
      ap (λ z. if_there z no_site (λ f. if_there (call_at (graph_at ts gs f) b) no_site (site c.depth ts f))) named
      ∙ ap (λ z. if_there z no_site (site c.depth ts f)) call

  pub site-of-call : (n b : ℕ) (f h : Function) (s : Site) (next : ℕ) → function_at ts n ≡ Some f → CallAt f b s h next → site_at c.depth ts gs n b ≡ s
  site-of-call n b f h s next named x = site-by-call n b f (Some x.1) named (ap (λ o. o >? λ k. call_in k.ending) x.2) ∙ sym x.3

module _ (c : Checker) (ts : List Text) (gs : List Graph) (lists : List (List Object)) where
  -- a tuple of the theory at the end of a block has a value there
  abbrev pub StandsFor : Edge → rules.Tuple ℕ Object State → Function → Type 0
  StandsFor e t f = rules.Behind (model_under c ts lists) (origins_under c ts lists) (objects_under c ts lists) (graphs_under c ts gs lists) (function_at ts) (edge_in e) t f

  pub stands : (e : Edge) (t : rules.Tuple ℕ Object State) (f : Function) → StandsFor e t f → StandsBehind c ts gs lists e (tuple_with t.global t.fact)
  stands e t f h = record { fn = f; behind = subst (λ z. StandsFor e z f) (sym (tuple-there t)) h }

  -- in the one function that is there
  pub stands-in : (e : Edge) (u : Tuple) (f : Function) → function_at ts e.context.function ≡ Some f → StandsBehind c ts gs lists e u → StandsFor e (tuple_in u) f
  stands-in e u f named s = subst (λ (z : Function). StandsFor e (tuple_in u) z) (one-function s.fn f (sym s.behind.named ∙ named)) s.behind
