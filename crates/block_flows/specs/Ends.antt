-- What a tuple becomes over the events of a block.
use Rattle.std.specs.Prelude.{Bool, List}
use Rattle.c_objects.specs.Objects.{Object}
use Rattle.path_model.specs.CheckerModel.Checkers.{model}
use Rattle.path_model.specs.CheckerModel.Happenings.{Function, Happening}
use Rattle.path_model.specs.CheckerModel.Reports.{Checker}
use Rattle.path_theory.specs.BlockEdges.{Crosses}
use Rattle.state_tuples.specs.declared.tuple.Tuple.{Tuple}
use Rattle.block_flows.specs.TupleFlows.Facts.{fact_in, listed, origins_in}

-- A TUPLE AT THE END of events, of one at their head that crosses them
abbrev pub IsEnd : Checker → List Happening → Function → Bool → List Object → Tuple → Tuple → Type 0
IsEnd c hs f is_root followed t u = Crosses (model c) (origins_in c followed followed) (listed c followed) f is_root hs t.global (fact_in t) u.global (fact_in u)
