-- What the types of the program stand for.
use Rattle.path_model.specs.CheckerModel.Moves as moves
use Rattle.synonyms_kills.specs.declared.moves.Move.{Move}

abbrev pub move_in : Move → moves.Move
move_in m = record { to = m.to; from = m.from }
