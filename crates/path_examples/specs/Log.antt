-- The least log of entries of the instance, and its reports; and a path of it as a flat list, from whose end a report
-- is computed.
use Rattle.path_examples.specs.declared.checker.Variable.TheVariants.{WalkFormal, WalkLocal}
use Rattle.path_examples.specs.declared.checker.Event.TheVariants.{Lock, Unlock, Copy, Disable, Leave}
use Rattle.path_examples.specs.declared.checker.Report.{Report}
use Rattle.path_examples.specs.declared.program.Function.TheVariants.{Walk}
use Rattle.path_examples.specs.declared.program.CallSite.TheVariants.{WalkAgain}
use Rattle.path_theory.specs.Trails.{Start, More}
use Rattle.path_theory.specs.Actions.{Did, Called, Returned, Actions}
use Rattle.path_theory.specs.FlatPaths.{InErrors}
use Rattle.path_theory.specs.Merged.{Kinds, Shown}
use Rattle.path_theory.specs.Entries.{among, Least}
use Rattle.path_examples.specs.Checker.{locks, lock_origins}
use Rattle.path_examples.specs.Program.{graphs, program, followed}

abbrev pub IsReported : Report → Type 0
IsReported r = InErrors locks program r

-- the least log shows the report, with these kinds of frame
abbrev pub IsShown : Kinds locks graphs → Report → Type 0
IsShown kinds r = Shown locks lock_origins followed graphs kinds (among locks graphs (Least locks lock_origins followed graphs kinds)) r

-- into the second frame of walk
abbrev pub into_second : Actions locks
into_second = More (More (More Start (Did (Lock WalkFormal))) (Did Copy)) (Called WalkAgain Walk)

-- through the second frame on the other branch
abbrev pub in_second : Actions locks
in_second = More (More (More (More into_second (Did (Lock WalkFormal))) (Did Copy)) (Did Disable)) (Did (Unlock WalkLocal))

-- and back from it
abbrev pub back_from_second : Actions locks
back_from_second = More (More in_second (Did Leave)) (Returned WalkAgain)
