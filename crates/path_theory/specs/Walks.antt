-- The traces of a function: what a walk from its entry meets, going over each call whether or not its callee ends.
-- Two supergraphs with the same traces are one program cut in two ways, as continuations and a flow graph built from
-- them.
use Rattle.path_theory.specs.Model.{Model}
use Rattle.path_theory.specs.Supergraph.{Supergraph}
use Rattle.path_theory.specs.Trails.{Trail, Start, More}

-- what a trace is made of: an event, or a call that is followed
pub data Label (Event Site Fn : Type 0) : Type 0 where
  AtEvent : Event → Label Event Site Fn
  AtCall : Site → Fn → Label Event Site Fn

module _ (M : Model) where
  abbrev pub Labels : Type 0
  Labels = Trail (Label M.Event M.Site M.Fn)

  module _ (K : Supergraph M) where
    pub data Walk : M.Fn → Labels → K.Place → Type 0 where
      WalkStart : {f : M.Fn} → Walk f Start (K.entry f)
      WalkSkip : {f : M.Fn} {l : Labels} {p q : K.Place} → Walk f l p → K.Skips f p q → Walk f l q
      WalkGo : {f : M.Fn} {l : Labels} {p q : K.Place} → Walk f l p → (e : M.Event) → K.Goes f p e q
          → Walk f (More l (AtEvent e)) q
      WalkCall : {f : M.Fn} {l : Labels} {p q : K.Place} → Walk f l p → (s : M.Site) → (h : M.Fn) → K.Calls f p s h q
          → Walk f (More l (AtCall s h)) q

    abbrev pub Trace : M.Fn → Labels → Type 0
    Trace f l = (p : K.Place) × Walk f l p

    -- a trace at whose end the frame may end
    abbrev pub WholeTrace : M.Fn → Labels → Type 0
    WholeTrace f l = (p : K.Place) × Walk f l p × K.Ends f p

-- the second supergraph has the roots and the traces of the first
pub record HasTraces (M : Model) (K₁ K₂ : Supergraph M) : Type 0 where
  pub roots : (f : M.Fn) → K₁.IsRoot f → K₂.IsRoot f
  pub traces : (f : M.Fn) (l : Labels M) → Trace M K₁ f l → Trace M K₂ f l
  pub whole : (f : M.Fn) (l : Labels M) → WholeTrace M K₁ f l → WholeTrace M K₂ f l
