-- Calls of a program that follows some objects alone are its calls, with both functions.
use Rattle.std.proofs.Common.{◌≡◌, ℕ, List, Option, None, Some, refl, sym, ap, ◌∙◌}
use Rattle.c_objects.specs.Objects.{Object}
use Rattle.flow_graph.specs.CPaths.Building.{Graph}
use Rattle.masked_paths.specs.Masked as masks
use Rattle.path_model.specs.CheckerGraphs.Graphs.{flow_graphs, function_at}
use Rattle.path_model.specs.CheckerModel.Happenings.{Function, Site}
use Rattle.path_model.specs.CheckerModel.Reports.{Checker}
use Rattle.path_model.specs.CheckerPrograms.Roots.{followed_into}
use Rattle.type_rules.specs.Options.{if_there}
use Rattle.typed_unit.specs.Texts.{Text}
use Rattle.path_edges.specs.Edges.{caller_at, callee_at, call_site_at, no_function, site_at}
use Rattle.block_flows.specs.Masks.{between, graphs_under}

module _ (c : Checker) (ts : List Text) (gs : List Graph) (lists : List (List Object)) where
  abbrev pub MaskedCall : Function → ℕ → masks.SiteIn Function Site → Function → ℕ → Type 0
  MaskedCall f b z h next = (graphs_under c ts gs lists).Call f b z h next

  -- a call of the program, of which it is one
  pub record IsCallOf (f : Function) (b : ℕ) (z : masks.SiteIn Function Site) (h : Function) (next : ℕ) : Type 0 where
    pub site : Site
    pub is : z ≡ between f site h
    pub call : (flow_graphs c ts gs).Call f b site h next

  pub call-of : (f : Function) (b : ℕ) (z : masks.SiteIn Function Site) (h : Function) (next : ℕ) → MaskedCall f b z h next → IsCallOf f b z h next
  call-of f b _ h next (masks.CallAt {s = s} x) = record { site = s; is = refl; call = x }

  pub masked-call : (f : Function) (b : ℕ) (s : Site) (h : Function) (next : ℕ) → (flow_graphs c ts gs).Call f b s h next → MaskedCall f b (between f s h) h next
  masked-call f b s h next x = masks.CallAt x

-- the site at a block, by its functions and what it passes
module _ (c : Checker) (ts : List Text) (gs : List Graph) (n b : ℕ) where
  pub caller-is : (f : Function) → function_at ts n ≡ Some f → caller_at ts n ≡ f
  caller-is f e = ap (λ o. if_there o no_function (λ g. g)) e

  pub callee-is : (h : Function) → followed_into c.machine (site_at c.depth ts gs n b) ≡ Some h → callee_at c ts gs n b ≡ h
  callee-is h e = ap (λ o. if_there o (caller_at ts n) (λ g. g)) e

  -- where it is followed into none, it is its own
  pub own-callee : (f : Function) → function_at ts n ≡ Some f → followed_into c.machine (site_at c.depth ts gs n b) ≡ None → callee_at c ts gs n b ≡ f
  own-callee f e none = ap (λ o. if_there o (caller_at ts n) (λ g. g)) none ∙ caller-is f e

  pub site-between : (f h : Function) (s : Site) → function_at ts n ≡ Some f → site_at c.depth ts gs n b ≡ s → followed_into c.machine s ≡ Some h
      → call_site_at c ts gs n b ≡ between f s h
  site-between f h s e is into =
      let callee = callee-is h (ap (followed_into c.machine) is ∙ into) in
      λ i. record { caller = caller-is f e i; site = is i; callee = callee i }
