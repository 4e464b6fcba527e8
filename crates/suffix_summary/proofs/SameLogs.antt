-- A least log of entries under one of such masks is one under the other, with the same reports.
use Rattle.std.proofs.Common.{Bool, IsTrue, refl}
use Rattle.path_theory.specs.Model.{Model}
use Rattle.path_theory.specs.Origins.{Origins}
use Rattle.path_theory.specs.Facts.{Objects}
use Rattle.path_theory.specs.FlowGraphs.{FlowGraphs}
use Rattle.path_theory.specs.Merged.{Kinds, Shown}
use Rattle.path_theory.specs.Entries.{Entry, among, IsLeastLog}
use Rattle.masked_paths.specs.Masked.{masked, masked_origins, masked_graphs}
use Rattle.suffix_summary.proofs.SameFlows.{a, b, SameOrigins, turned, Followed}
use Rattle.suffix_summary.proofs.SameSteps.{kinds_on, back_from, base_on, step_on, least_on, kind_shows}

module _ (M : Model) (L O : Origins M) (follows : M.Fn → M.Obj → Bool) (l n : Bool) (S : SameOrigins M L O follows l n) (G : FlowGraphs M) where
  abbrev N : Model
  N = masked M L (a M L O follows l n)

  abbrev P : Model
  P = masked M O (b M L O follows l n)

  abbrev NO : Origins N
  NO = masked_origins M L (a M L O follows l n)

  abbrev PO : Origins P
  PO = masked_origins M O (b M L O follows l n)

  abbrev NG : FlowGraphs N
  NG = masked_graphs M L (a M L O follows l n) G

  abbrev PG : FlowGraphs P
  PG = masked_graphs M O (b M L O follows l n) G

  abbrev A : Objects M
  A f o = IsTrue (follows f o)

  module _ (C : Kinds N NG) (X : Entry N NG → Type 0) (log : IsLeastLog N NO A NG C X) where
    abbrev D : Kinds P PG
    D = kinds_on M L O follows l n S G C

    abbrev Y : Entry P PG → Type 0
    Y = back_from M L O follows l n S G X

    abbrev T : SameOrigins M O L follows n l
    T = turned M L O follows l n S

    is_followed : (e : Entry N NG) → X e → Followed M L O follows l n S e.fn e.fact
    is_followed e x = (least_on M L O follows l n S G C D (λ f g t. refl) (log.only e x)).1

    pub least_log : IsLeastLog P PO A PG D Y
    least_log = record {
      base = λ e x. log.base _ (base_on M O L follows n l T G D C (λ f g t. refl) x).0;
      closed = λ e d c x y s. log.closed _ _ _ x y (step_on M O L follows n l T G D C (λ f g t. refl) (is_followed _ x) s).0;
      only = λ e x. (least_on M L O follows l n S G C D (λ f g t. refl) (log.only _ x)).0;
    }

    pub shown_on : (r : M.Report) → Shown N NO A NG C (among N NG X) r → Shown P PO A PG D (among P PG Y) r
    shown_on r w = record {
      fn = w.fn;
      global₀ = w.global₀;
      fact₀ = w.fact₀;
      block = w.block;
      global = w.global;
      fact = w.fact;
      entry = w.entry;
      shows = kind_shows M L O follows l n S G C D (λ f g t. refl) r w.fn w.global₀ w.fact₀ w.block w.global w.fact (is_followed _ w.entry) w.shows;
    }

    pub shown_back : (r : M.Report) → Shown P PO A PG D (among P PG Y) r → Shown N NO A NG C (among N NG X) r
    shown_back r w = record {
      fn = w.fn;
      global₀ = w.global₀;
      fact₀ = w.fact₀;
      block = w.block;
      global = w.global;
      fact = w.fact;
      entry = w.entry;
      shows = kind_shows M O L follows n l T G D C (λ f g t. refl) r w.fn w.global₀ w.fact₀ w.block w.global w.fact (is_followed _ w.entry) w.shows;
    }
