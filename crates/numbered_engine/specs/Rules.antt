-- THE RULES OF TABULATION over numbers, as relations.
use Rattle.std.specs.Prelude.{◌≡◌, List, Some, Contains}
use Rattle.least_set.specs.TwoPremises.{Follows, Least}
use Rattle.numbered_engine.specs.Following.{led}
use Rattle.numbered_engine.specs.Waiting.{ended, on, waiting, woken}
use Rattle.numbered_engine.specs.declared.edges.NumberedContext.{NumberedContext}
use Rattle.numbered_engine.specs.declared.edges.NumberedEdge.{NumberedEdge}
use Rattle.numbered_engine.specs.declared.edges.NumberedWaiter.{NumberedWaiter}
use Rattle.numbered_engine.specs.declared.program.ProgramRows.{ProgramRows}

abbrev pub Begins : ProgramRows → NumberedEdge → Type 0
Begins p e = Contains p.begun.items e

abbrev pub LeadsTo : ProgramRows → NumberedEdge → NumberedEdge → Type 0
LeadsTo p a e = Contains (led p a) e

abbrev pub WaitsAt : ProgramRows → NumberedEdge → NumberedContext → NumberedWaiter → Type 0
WaitsAt p a k w = Contains (waiting p a) (on k w)

abbrev pub IsEndOf : ProgramRows → NumberedEdge → NumberedContext → Type 0
IsEndOf p e k = ended p e ≡ Some k

abbrev pub IsWoken : ProgramRows → NumberedWaiter → NumberedEdge → NumberedEdge → Type 0
IsWoken p w b e = Contains (woken p w b) e

-- WHAT FOLLOWS from the edges of a list, and what is derived
abbrev pub FollowsFrom : ProgramRows → List NumberedEdge → NumberedEdge → Type 0
FollowsFrom p = Follows (Begins p) (LeadsTo p) (WaitsAt p) (IsEndOf p) (IsWoken p)

abbrev pub IsDerived : ProgramRows → NumberedEdge → Type 0
IsDerived p = Least (Begins p) (LeadsTo p) (WaitsAt p) (IsEndOf p) (IsWoken p)
