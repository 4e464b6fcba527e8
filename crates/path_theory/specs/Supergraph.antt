-- What one program does under a checker: its roots, and an interprocedural flow graph, which the literature calls a
-- supergraph.
-- Its places need be neither finite nor blocks: the semantics of a program has continuations there, and a flow graph
-- the points of its blocks.
use Rattle.path_theory.specs.Model.{Model}

pub record Supergraph (M : Model) : Type 1 where
  pub IsRoot : M.Fn → Type 0
  pub Place : Type 0
  pub entry : M.Fn → Place
  -- an edge on which nothing happens, as a jump or the mark of a call that isn't followed
  pub Skips : M.Fn → Place → Place → Type 0
  -- an edge on which an event happens
  pub Goes : M.Fn → Place → M.Event → Place → Type 0
  -- a call that is followed, at this site into that function, and the place behind it
  pub Calls : M.Fn → Place → M.Site → M.Fn → Place → Type 0
  -- the frame may end here, behind its exit, which is an event like others
  pub Ends : M.Fn → Place → Type 0
