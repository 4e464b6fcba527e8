-- Objects that may be left out: those that no rule binds, and that take their states only from such objects.
-- What is followed has to be closed under this, over all traces of the functions. That it is the least such set is
-- owed by those who compute it, and not here.
use Rattle.std.specs.Prelude.{◌≡◌, Bool, Some, None}
use Rattle.path_theory.specs.Model.{Model}
use Rattle.path_theory.specs.Supergraph.{Supergraph}
use Rattle.path_theory.specs.Walks.{Labels, Walk}
use Rattle.path_theory.specs.Origins.{Origins}
use Rattle.path_theory.specs.Facts.{Objects}

module _ (M : Model) (K : Supergraph M) where
  -- an event of some trace of the function
  pub record EventOf (f : M.Fn) (e : M.Event) : Type 0 where
    pub labels : Labels M
    pub from : K.Place
    pub to : K.Place
    pub walk : Walk M K f labels from
    pub goes : K.Goes f from e to

  -- a followed call of some trace of the function
  pub record CallOf (f : M.Fn) (s : M.Site) (h : M.Fn) : Type 0 where
    pub labels : Labels M
    pub from : K.Place
    pub to : K.Place
    pub walk : Walk M K f labels from
    pub calls : K.Calls f from s h to

-- With an object there is each that takes its state from it, or from which it takes its state; and each that becomes
-- known by a choice while it is unknown, or gives a report then. A set may have more: an object that takes a rule without
-- a report and stays unknown needs not be there. Whoever states entries exactly has to say which set is meant, since each
-- object more has its entries.
pub record IsClosed (M : Model) (K : Supergraph M) (L : Origins M) (A : Objects M) : Type 0 where
  pub source : {f : M.Fn} {e : M.Event} (o b : M.Obj) → EventOf M K f e → L.source e o ≡ Some b → A f o → A f b
  pub source_on : {f : M.Fn} {e : M.Event} (o b : M.Obj) → EventOf M K f e → L.source e o ≡ Some b → A f b → A f o
  pub into : {f h : M.Fn} {s : M.Site} (c o : M.Obj) → CallOf M K f s h → L.into s c ≡ Some o → A h c → A f o
  pub into_on : {f h : M.Fn} {s : M.Site} (c o : M.Obj) → CallOf M K f s h → L.into s c ≡ Some o → A f o → A h c
  pub out : {f h : M.Fn} {s : M.Site} (o c : M.Obj) → CallOf M K f s h → L.out s o ≡ Some c → A f o → A h c
  pub out_on : {f h : M.Fn} {s : M.Site} (o c : M.Obj) → CallOf M K f s h → L.out s o ≡ Some c → A h c → A f o
  pub binds : {f : M.Fn} {e : M.Event} (k : Bool) (g : M.Global) (o : M.Obj) (x : M.State) → EventOf M K f e
      → M.choose e f k g o None ≡ Some x → A f o
  pub fires : {f : M.Fn} {e : M.Event} (k : Bool) (g : M.Global) (o : M.Obj) (r : M.Report) → EventOf M K f e
      → M.Fires e f k g o None r → A f o
