-- The same of a list of an engine's own values, of whose rules it may know only that they hold somehow.
use Rattle.std.proofs.Common.{ℕ, Option, List, Contains, ◌↔◌}
use Rattle.std.proofs.Math.Logic.{∥∥₁_map}
use Rattle.path_theory.specs.Model.{Model}
use Rattle.path_theory.specs.Paths.{Reported}
use Rattle.path_theory.specs.Origins.{Origins, IsLocal}
use Rattle.path_theory.specs.FlowGraphs.{FlowGraphs, supergraph}
use Rattle.least_set.specs.Logs.{SomeGives}
use Rattle.least_set.specs.TwoPremises.{Follows, Least}
use Rattle.path_theory.specs.TabulationRules.Rules.{EdgeIn, ContextIn, WaiterIn, ShowsReport}
use Rattle.path_theory.specs.TabulationRules.LeastSets.{HasNumbers}
use Rattle.path_theory.specs.TabulationRules.OwnValues.{AreComplete, AreSound}
use Rattle.path_theory.proofs.TabulationRules.OwnValues.{own_reported}
use Rattle.path_theory.proofs.TabulationRules.Squashed.{MayFollow, MayBeLeast, somehow_reported}
use Rattle.masked_paths.specs.Masked.{Mask, kept, masked, masked_origins, masked_graphs}
use Rattle.masked_paths.specs.Enough.{IsEnough}
use Rattle.masked_paths.proofs.MaskedLaws.{masked_local, graphs_closed}
use Rattle.masked_paths.proofs.MaskedEngine.{masked_graph_reports}
use Rattle.masked_paths.proofs.MaskedTabulation.MaskedReports.{masked_numbers}

module _ (M : Model) (L : Origins M) (I : IsLocal M L) (a : Mask M) (G : FlowGraphs M) (function : ℕ → Option M.Fn) (H : HasNumbers M G function)
    (enough : IsEnough M (supergraph M G) L (kept M a)) where
  module _ {E K W : Type 0} (edge : E → EdgeIn (masked M L a) (masked_origins M L a) (kept M a) (masked_graphs M L a G) function)
      (context : K → ContextIn (masked M L a) (masked_origins M L a) (kept M a) (masked_graphs M L a G) function)
      (waiter : W → WaiterIn (masked M L a) (masked_origins M L a) (kept M a) (masked_graphs M L a G) function)
      (first : E → Type 0) (next : E → E → Type 0) (wait : E → K → W → Type 0) (stop : E → K → Type 0) (wake : W → E → E → Type 0)
      (C : AreComplete (masked M L a) (masked_origins M L a) (kept M a) (masked_graphs M L a G) function edge context waiter first next wait stop wake)
      (S : AreSound (masked M L a) (masked_origins M L a) (kept M a) (masked_graphs M L a G) function edge context waiter first next wait stop wake)
      (log : List E) where
    -- a least list of own values shows exactly the reports of all paths without the mask
    pub masked_own_reported : ((c : E) → Follows first next wait stop wake log c → Contains log c)
        → ((c : E) → Contains log c → Least first next wait stop wake c)
        → (r : M.Report) → SomeGives (λ c. ShowsReport (masked M L a) (masked_origins M L a) (kept M a) (masked_graphs M L a G) function (edge c)) log r ↔ Reported M (supergraph M G) r
    masked_own_reported closed only r =
        let x = own_reported (masked M L a) (masked_origins M L a) (kept M a) (masked_graphs M L a G) function edge context waiter first next wait stop wake C log closed S only (masked_numbers M L a G function H) (masked_local M L a) (graphs_closed M L a G) r in
        let y = masked_graph_reports M L I a G enough r in ((λ w. y.0 (x.0 w)), (λ w. x.1 (y.1 w)))

    -- and somehow, where its rules hold somehow
    pub masked_somehow_reported : ((c : E) → MayFollow first next wait stop wake log c → Contains log c)
        → ((c : E) → Contains log c → MayBeLeast first next wait stop wake c)
        → ∥ ((r : M.Report) → SomeGives (λ c. ShowsReport (masked M L a) (masked_origins M L a) (kept M a) (masked_graphs M L a G) function (edge c)) log r ↔ Reported M (supergraph M G) r) ∥₁
    masked_somehow_reported closed only =
        ∥∥₁_map (somehow_reported (masked M L a) (masked_origins M L a) (kept M a) (masked_graphs M L a G) function edge context waiter first next wait stop wake C S log closed only (masked_numbers M L a G function H) (masked_local M L a) (graphs_closed M L a G))
        (λ x r. let y = masked_graph_reports M L I a G enough r in ((λ w. y.0 ((x r).0 w)), (λ w. (x r).1 (y.1 w))))
