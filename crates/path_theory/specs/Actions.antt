-- What happens on a path as one flat list: events, calls and returns, with no place of a program in it.
-- The state after a list is computed from the list alone, by a fold over whole maps.
use Rattle.std.specs.Prelude.{Bool, true, false, None, List, [], ◌∷◌, ◌⊎◌}
use Rattle.path_theory.specs.Model.{Map, Model, stepped}
use Rattle.path_theory.specs.Trails.{Trail, Start, More}

pub data Action (E S F : Type 0) : Type 0 where
  Did : E → Action E S F
  Called : S → F → Action E S F
  Returned : S → Action E S F

module _ (M : Model) where
  abbrev pub Actions : Type 0
  Actions = Trail (Action M.Event M.Site M.Fn)

  pub record Frame : Type 0 where
    pub fn : M.Fn
    pub is_root : Bool
    pub map : Map M

  -- the global state, the last frame, and those below it
  pub record State : Type 0 where
    pub global : M.Global
    pub top : Frame
    pub below : List Frame

  abbrev pub go : M.Event → State → State
  go e s = record {
    global = M.next_global e s.top.fn s.top.is_root s.global;
    top = record { fn = s.top.fn; is_root = s.top.is_root; map = stepped M e s.top.fn s.top.is_root s.global s.top.map };
    below = s.below;
  }

  abbrev pub call : M.Site → M.Fn → State → State
  call s h n = record { global = n.global; top = record { fn = h; is_root = false; map = M.entered s n.top.map }; below = n.top ∷ n.below }

  abbrev pub back_to : M.Site → M.Global → Frame → List Frame → State
  back_to s g top [] = record { global = g; top = top; below = [] }
  back_to s g top (c ∷ cs) = record { global = g; top = record { fn = c.fn; is_root = c.is_root; map = M.returned s top.map c.map }; below = cs }

  -- the state after a list of actions that begins in this root
  abbrev pub fold : M.Fn → Actions → State
  fold f Start = record { global = M.start; top = record { fn = f; is_root = true; map = λ o. None }; below = [] }
  fold f (More l (Did e)) = go e (fold f l)
  fold f (More l (Called s h)) = call s h (fold f l)
  fold f (More l (Returned s)) = let n = fold f l in back_to s n.global n.top n.below

  -- an event takes the report, in the state before it
  abbrev pub TakenAt : M.Event → State → M.Report → Type 0
  TakenAt e s r = ((o : M.Obj) × M.Fires e s.top.fn s.top.is_root s.global o (M.moved e s.top.map o) r) ⊎ M.FiresGlobal e s.top.fn s.top.is_root s.global r
