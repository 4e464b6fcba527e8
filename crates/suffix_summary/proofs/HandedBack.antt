-- Origins by which calls hand back the states of some objects alone. The laws of exits hold of such origins where an exit moves only what
-- is none of these, as one past the checker's depth, of which nothing is ever known.
use Rattle.std.specs.Prelude.{Bool}
use Rattle.path_theory.specs.Model.{Model}
use Rattle.path_theory.specs.Origins.{Origins}
use Rattle.masked_paths.specs.StrictFlows.Among.{if_followed}

abbrev pub handing : (M : Model) → (M.Obj → Bool) → Origins M → Origins M
handing M hands L = record { source = L.source; into = L.into; out = λ s o. if_followed hands (L.out s o) }
