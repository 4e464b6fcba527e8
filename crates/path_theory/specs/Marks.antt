-- The bodies of functions with a mark at each call, whichever calls a checker follows, and the supergraph of a checker
-- that follows some.
-- Bodies with the same marked traces are the same program for every checker.
use Rattle.std.specs.Prelude.{◌≡◌, Option, Some, None}
use Rattle.path_theory.specs.Model.{Model}
use Rattle.path_theory.specs.Supergraph.{Supergraph}
use Rattle.path_theory.specs.Trails.{Trail, Start, More}
use Rattle.path_theory.specs.Walks.{AtEvent, AtCall, Labels}

pub data Mark (E S : Type 0) : Type 0 where
  EventMark : E → Mark E S
  CallMark : S → Mark E S

pub record Bodies (M : Model) : Type 1 where
  pub Place : Type 0
  pub entry : M.Fn → Place
  pub Skips : M.Fn → Place → Place → Type 0
  pub Goes : M.Fn → Place → M.Event → Place → Type 0
  pub Marks : M.Fn → Place → M.Site → Place → Type 0
  pub Ends : M.Fn → Place → Type 0

module _ (M : Model) where
  abbrev pub Marked : Type 0
  Marked = Trail (Mark M.Event M.Site)

  pub data MarkedWalk (B : Bodies M) : M.Fn → Marked → B.Place → Type 0 where
    MarkedStart : {f : M.Fn} → MarkedWalk B f Start (B.entry f)
    MarkedSkip : {f : M.Fn} {l : Marked} {p q : B.Place} → MarkedWalk B f l p → B.Skips f p q → MarkedWalk B f l q
    MarkedGo : {f : M.Fn} {l : Marked} {p q : B.Place} → MarkedWalk B f l p → (e : M.Event) → B.Goes f p e q
        → MarkedWalk B f (More l (EventMark e)) q
    MarkedCall : {f : M.Fn} {l : Marked} {p q : B.Place} → MarkedWalk B f l p → (s : M.Site) → B.Marks f p s q
        → MarkedWalk B f (More l (CallMark s)) q

  -- the second bodies have the traces of the first
  pub record HasMarked (B₁ B₂ : Bodies M) : Type 0 where
    pub traces : (f : M.Fn) (l : Marked) (p : B₁.Place) → MarkedWalk B₁ f l p → (q : B₂.Place) × MarkedWalk B₂ f l q
    pub whole : (f : M.Fn) (l : Marked) (p : B₁.Place) → MarkedWalk B₁ f l p → B₁.Ends f p
        → (q : B₂.Place) × MarkedWalk B₂ f l q × B₂.Ends f q

  module _ (IsRoot : M.Fn → Type 0) (followed : M.Fn → M.Site → Option M.Fn) where
    pub data Passes (B : Bodies M) (f : M.Fn) : B.Place → B.Place → Type 0 where
      PassesSkip : {p q : B.Place} → B.Skips f p q → Passes B f p q
      PassesCall : {p q : B.Place} (s : M.Site) → B.Marks f p s q → followed f s ≡ None → Passes B f p q

    -- the program under a checker that follows these calls
    abbrev pub under : Bodies M → Supergraph M
    under B = record {
      IsRoot = IsRoot;
      Place = B.Place;
      entry = B.entry;
      Skips = Passes B;
      Goes = B.Goes;
      Calls = λ f p s h q. B.Marks f p s q × (followed f s ≡ Some h);
      Ends = B.Ends;
    }

    abbrev pub with_mark : Option M.Fn → M.Site → Labels M → Labels M
    with_mark None s l = l
    with_mark (Some h) s l = More l (AtCall s h)

    -- the marks that are followed
    abbrev pub erase : M.Fn → Marked → Labels M
    erase f Start = Start
    erase f (More l (EventMark e)) = More (erase f l) (AtEvent e)
    erase f (More l (CallMark s)) = with_mark (followed f s) s (erase f l)
