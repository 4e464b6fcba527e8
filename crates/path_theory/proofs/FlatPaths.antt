-- A flat list of actions is a path just where a path by frames has these actions, and it has the state and the reports of that path. Every prefix of
-- it is a path. So what is proved of paths by their frames holds of the lists.
use Rattle.std.proofs.Common.{◌≡◌, ◌↔◌, Bool, List, [], ◌∷◌, inl, inr, refl, sym, ◌∙◌, ap, subst}
use Rattle.path_theory.specs.Model.{Model}
use Rattle.path_theory.specs.Supergraph.{Supergraph}
use Rattle.path_theory.specs.Trails.{Trail, Start, More}
use Rattle.path_theory.specs.Callers.{Callers, NoCaller, Waiting}
use Rattle.path_theory.specs.Paths.{Path, Begin, Skip, Go, Call, Return, Maps, Now, after, Reported, ReportOf, ReportOfGlobal}
use Rattle.path_theory.specs.Actions.{Action, Did, Called, Returned, Actions, Frame, State, go, call, back_to, fold, TakenAt}
use Rattle.path_theory.specs.FlatPaths.{LeadsTo, Begins, Skips, Does, Calls, Returns, IsPath, InErrors}
use Rattle.path_theory.proofs.SmallFacts.{start_more, more_init}

more_did : {E S F : Type 0} {l m : Trail (Action E S F)} {a b : E} → More l (Did a) ≡ More m (Did b) → a ≡ b
more_did d = cc

called_did : {E S F B : Type 0} {l m : Trail (Action E S F)} {a : E} {s : S} {f : F}
    → More l (Called s f) ≡ More m (Did a) → B
called_did d = cc

returned_did : {E S F B : Type 0} {l m : Trail (Action E S F)} {a : E} {s : S} → More l (Returned s) ≡ More m (Did a)
    → B
returned_did d = cc

module _ (M : Model) (K : Supergraph M) where
  -- what a path by frames has done, and where it began
  abbrev root_of : {f : M.Fn} {k : Bool} {p : K.Place} {b : Callers M K} → Path M K f k p b → M.Fn
  root_of (Begin {f = f} r) = f
  root_of (Skip P t) = root_of P
  root_of (Go P e t) = root_of P
  root_of (Call P s h t) = root_of P
  root_of (Return s P t) = root_of P

  abbrev actions_of : {f : M.Fn} {k : Bool} {p : K.Place} {b : Callers M K} → Path M K f k p b → Actions M
  actions_of (Begin r) = Start
  actions_of (Skip P t) = actions_of P
  actions_of (Go P e t) = More (actions_of P) (Did e)
  actions_of (Call P s h t) = More (actions_of P) (Called s h)
  actions_of (Return s P t) = More (actions_of P) (Returned s)

  -- it leads where its list leads
  leads : {f : M.Fn} {k : Bool} {p : K.Place} {b : Callers M K} (P : Path M K f k p b) → LeadsTo M K (root_of P) (actions_of P) f k p b
  leads (Begin r) = Begins r
  leads (Skip P t) = Skips (leads P) t
  leads (Go P e t) = Does (leads P) e t
  leads (Call P s h t) = Calls (leads P) s h t
  leads (Return s P t) = Returns s (leads P) t

  -- a path by frames of a list
  record ByFrames (root : M.Fn) (l : Actions M) (f : M.Fn) (k : Bool) (p : K.Place) (b : Callers M K) : Type 0 where
    path : Path M K f k p b
    root_is : root_of path ≡ root
    actions_are : actions_of path ≡ l

  by_frames : {root : M.Fn} {l : Actions M} {f : M.Fn} {k : Bool} {p : K.Place} {b : Callers M K} → LeadsTo M K root l f k p b → ByFrames root l f k p b
  by_frames (Begins r) = record { path = Begin r; root_is = refl; actions_are = refl }
  by_frames (Skips L t) = let v = by_frames L in record { path = Skip v.path t; root_is = v.root_is; actions_are = v.actions_are }
  by_frames (Does L e t) = let v = by_frames L in record { path = Go v.path e t; root_is = v.root_is; actions_are = ap (λ m. More m (Did e)) v.actions_are }
  by_frames (Calls L s h t) = let v = by_frames L in record { path = Call v.path s h t; root_is = v.root_is; actions_are = ap (λ m. More m (Called s h)) v.actions_are }
  by_frames (Returns s L t) = let v = by_frames L in record { path = Return s v.path t; root_is = v.root_is; actions_are = ap (λ m. More m (Returned s)) v.actions_are }

  abbrev pub frames : (b : Callers M K) → Maps M K b → List (Frame M)
  frames NoCaller m = []
  frames (Waiting f k s q b) m = record { fn = f; is_root = k; map = m.0 } ∷ frames b m.1

  abbrev pub state_of : {b : Callers M K} (f : M.Fn) (k : Bool) → Now M K b → State M
  state_of {b = b} f k n = record { global = n.global; top = record { fn = f; is_root = k; map = n.here }; below = frames b n.below }

  -- the state after a path is that of its list
  pub folded : {f : M.Fn} {k : Bool} {p : K.Place} {b : Callers M K} (P : Path M K f k p b)
      → fold M (root_of P) (actions_of P) ≡ state_of f k (after M K P)
  folded (Begin r) = refl
  folded (Skip P t) = folded P
  folded (Go P e t) = ap (go M e) (folded P)
  folded (Call P s h t) = ap (call M s h) (folded P)
  folded (Return s P t) = ap (λ n. back_to M s n.global n.top n.below) (folded P)

  -- Every prefix of a path is a path.
  until : {root : M.Fn} {l : Actions M} {f : M.Fn} {k : Bool} {p : K.Place} {b : Callers M K} → LeadsTo M K root l f k p b → (m : Actions M) → l ≡ m → IsPath M K root m
  until {root = root} {f = f} {k = k} {p = p} {b = b} L m e = record { fn = f; kind = k; place = p; below = b; leads = subst (λ (n : Actions M). LeadsTo M K root n f k p b) e L }

  prefix_of : {root : M.Fn} {m : Actions M} {f : M.Fn} {k : Bool} {p : K.Place} {b : Callers M K} (L : LeadsTo M K root m f k p b) {l : Actions M}
      {a : Action M.Event M.Site M.Fn}
      → m ≡ More l a → IsPath M K root l
  prefix_of (Begins r) d = start_more d
  prefix_of (Skips L t) d = prefix_of L d
  prefix_of (Does L e t) {l = l} d = until L l (more_init d)
  prefix_of (Calls L s h t) {l = l} d = until L l (more_init d)
  prefix_of (Returns s L t) {l = l} d = until L l (more_init d)

  pub prefix : (f : M.Fn) (l : Actions M) (a : Action M.Event M.Site M.Fn) → IsPath M K f (More l a) → IsPath M K f l
  prefix f l a w = prefix_of w.leads refl

  -- a path whose last action is an event
  pub record LastEvent (root : M.Fn) (l : Actions M) (e : M.Event) : Type 0 where
    pub fn : M.Fn
    pub kind : Bool
    pub place : K.Place
    pub to : K.Place
    pub below : Callers M K
    pub path : Path M K fn kind place below
    pub goes : K.Goes fn place e to
    pub root_is : root_of path ≡ root
    pub actions_are : actions_of path ≡ l

  last_of : {f : M.Fn} {k : Bool} {p : K.Place} {b : Callers M K} (P : Path M K f k p b) {l : Actions M} {e : M.Event}
      → actions_of P ≡ More l (Did e) → LastEvent (root_of P) l e
  last_of (Begin r) d = start_more d
  last_of (Skip P t) d = last_of P d
  last_of (Go {f = f} {p = p} {q = q} P i t) d = record { fn = f; kind = _; place = p; to = q; below = _; path = P; goes = subst (λ y. K.Goes f p y q) (more_did d) t; root_is = refl; actions_are = more_init d }
  last_of (Call P s h t) d = called_did d
  last_of (Return s P t) d = returned_did d

  pub last_event : (root : M.Fn) (l : Actions M) (e : M.Event) → IsPath M K root (More l (Did e)) → LastEvent root l e
  last_event root l e w =
      let v = by_frames w.leads in
      subst (λ f. LastEvent f l e) v.root_is (last_of v.path v.actions_are)

  -- the reports that paths take at their last events are those of paths by frames
  in_list : (r : M.Report) → Reported M K r → InErrors M K r
  in_list r (ReportOf {f = f} {k = k} P e t o i) = record {
    root = root_of P;
    actions = actions_of P;
    event = e;
    path = record { fn = _; kind = _; place = _; below = _; leads = Does (leads P) e t };
    taken = inl (o, subst (λ (n : State M). M.Fires e n.top.fn n.top.is_root n.global o (M.moved e n.top.map o) r) (sym (folded P)) i);
  }
  in_list r (ReportOfGlobal {f = f} {k = k} P e t i) = record {
    root = root_of P;
    actions = actions_of P;
    event = e;
    path = record { fn = _; kind = _; place = _; below = _; leads = Does (leads P) e t };
    taken = inr (subst (λ (n : State M). M.FiresGlobal e n.top.fn n.top.is_root n.global r) (sym (folded P)) i);
  }

  of_list : (r : M.Report) → InErrors M K r → Reported M K r
  of_list r w =
      let v = last_event w.root w.actions w.event w.path in
      let same : fold M w.root w.actions ≡ state_of v.fn v.kind (after M K v.path) =
      ap (λ g. fold M g w.actions) (sym v.root_is) ∙ ap (fold M (root_of v.path)) (sym v.actions_are) ∙ folded v.path in
      elim w.taken [
        | inl i ↦ ReportOf v.path w.event v.goes i.0 (subst (λ (n : State M). M.Fires w.event n.top.fn n.top.is_root n.global i.0 (M.moved w.event n.top.map i.0) r) same i.1)
        | inr i ↦ ReportOfGlobal v.path w.event v.goes (subst (λ (n : State M). M.FiresGlobal w.event n.top.fn n.top.is_root n.global r) same i)
      ]

  pub in_errors : (r : M.Report) → InErrors M K r ↔ Reported M K r
  in_errors r = (of_list r, in_list r)
